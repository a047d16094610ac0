-- `cut_one`: the answer of `unmap_cont`, added up.
use Rattle.std.specs.Prelude.{ℕ, Result}
use Prim.Native.Nat.{◌+◌}
use mathlib.Core.Path.{◌≡◌, ◌∙◌, sym, ap}
use native.Mathlib.Omega.{arith}
use Rattle.table_cuts.specs.Cuts.{taken}
use Rattle.table_cuts.proofs.One.{answer_is, answer_good}
use Rattle.table_cuts.proofs.cut_one.Goals as goal
use Rattle.refusal.specs.declared.Refusal.{Refusal}

pub returns-in-Ok : goal.returns-in-Ok
returns-in-Ok c =
    let n = ap (λ (x : Result ℕ Refusal). c.args.used + taken x) (sym c.in-Ok.is) in record { value = answer_is _ _ _ _ c.requires.good _ c.requires.fits _ _ c.unmap_cont.ensures n; stays_good = answer_good _ _ _ _ c.requires.good _ c.requires.fits _ _ c.unmap_cont.ensures n }

pub returns-in-Err : goal.returns-in-Err
returns-in-Err c =
    let z : c.args.used ≡ c.args.used + 0 = omega arith in
    let n = z ∙ ap (λ (x : Result ℕ Refusal). c.args.used + taken x) (sym c.in-Err.is) in record { value = answer_is _ _ _ _ c.requires.good _ c.requires.fits _ _ c.unmap_cont.ensures n; stays_good = answer_good _ _ _ _ c.requires.good _ c.requires.fits _ _ c.unmap_cont.ensures n }
