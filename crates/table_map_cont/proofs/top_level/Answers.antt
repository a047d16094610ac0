-- `top_level`: the flag is one bit.
use Rattle.std.specs.Prelude.{ℕ, Bool, ◌≡◌, true, false, eqb}
use Rattle.std.proofs.Common.{sym, ap, ◌∙◌}
use Rattle.paging.specs.Choice.{pick}
use Rattle.common.specs.Flags.{HUGE_PAGE, has}
use Rattle.x86_64.proofs.Words.{one_bit}
use Rattle.table_map_cont.proofs.top_level.Goals as goal

pub returns-then-contains : goal.returns-then-contains
returns-then-contains c =
    let f : ℕ = c.args.flags.0 in
    let q : eqb (has HUGE_PAGE f) 1 ≡ true = sym (one_bit f 6) ∙ sym c.contains.ensures ∙ c.if-contains.true in
    sym (ap (λ (t : Bool). pick t 2 0) q)

pub returns-else-contains : goal.returns-else-contains
returns-else-contains c =
    let f : ℕ = c.args.flags.0 in
    let q : eqb (has HUGE_PAGE f) 1 ≡ false = sym (one_bit f 6) ∙ sym c.contains.ensures ∙ c.if-contains.false in
    sym (ap (λ (t : Bool). pick t 2 0) q)
