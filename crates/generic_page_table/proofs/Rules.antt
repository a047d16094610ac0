-- The tests of a range, by what the code compares and by what they show.
use Prim.Native.Nat.{ℕ, ◌+◌, ◌%◌, ◌^◌, ◌≤◌, ◌<◌}
use mathlib.Core.Path.{◌≡◌, refl, sym, ◌∙◌}
use mathlib.Core.Bool.{Bool, true, false}
use mathlib.Core.Logic.{inl, inr, ⊎_elim}
use native.Mathlib.Omega.{arith}
use lib.Dec.{leb}
use borrow.Author.Tests.{eqb-true, leb-true, lt-ltb, le-ltb, le-leb}
use Rattle.paging.specs.Level.{Within}
use Rattle.paging.proofs.Cases.{below?, both, no_truth}
use Rattle.common.specs.Page.{aligned}
use Rattle.common.specs.declared.vm.PageSize.TheVariants.{Size4K}
use Rattle.table_map_cont.specs.MapCont.{Range}
use Rattle.page_table.specs.Calls.{in_rule}
use Rattle.page_table.proofs.Laws.{Ruled, lower, upper, ruled, in_rule_lem}
use Rattle.generic_page_table.specs.Rules.{rule_end, range_in_rule, page_aligned, physical_fits}

module _ (v n : ℕ) where
  pub range_lower : v < 2 ^ 47 → range_in_rule v n ≡ leb (v + n) (2 ^ 47)
  range_lower h = rw (lt-ltb v (2 ^ 47) h)

  pub range_upper : 0xffff800000000000 ≤ v → v < 0xffffffffc0000000 → range_in_rule v n ≡ leb (v + n) 0xffffffffc0000000
  range_upper h g = rw (le-ltb v (2 ^ 47) (omega arith), le-ltb v 0xffff800000000000 h, lt-ltb v 0xffffffffc0000000 g)

  pub range_out : in_rule v ≡ false → range_in_rule v n ≡ false
  range_out e = rw e

  -- a range that passes: its start is in the rule, and its end by the end of the same part
  data RuledRange : Type 0 where
    lower_range : v < 2 ^ 47 → v + n ≤ 2 ^ 47 → RuledRange
    upper_range : 0xffff800000000000 ≤ v → v < 0xffffffffc0000000 → v + n ≤ 0xffffffffc0000000 → RuledRange

  ruled_range : range_in_rule v n ≡ true → RuledRange
  ruled_range e = go (ruled v (both (in_rule v) (leb (v + n) (rule_end v)) e).0)
    where
      go : Ruled v → RuledRange
      go (lower h) = lower_range h (leb-true (v + n) (2 ^ 47) (sym (range_lower h) ∙ e))
      go (upper h g) = upper_range h g (leb-true (v + n) 0xffffffffc0000000 (sym (range_upper h g) ∙ e))

  pub halves : range_in_rule v n ≡ true → Within 4 v (v + n)
  halves e = go (ruled_range e)
    where
      go : RuledRange → Within 4 v (v + n)
      go (lower_range h g) = (omega arith, inl g)
      go (upper_range h k g) = (omega arith, inr (omega arith, omega arith))

  pub whole : range_in_rule v n ≡ true → (x : ℕ) → v ≤ x → x < v + n → in_rule x ≡ true
  whole e x a b = go (ruled_range e)
    where
      go : RuledRange → in_rule x ≡ true
      go (lower_range h g) = in_rule_lem x (lower (omega arith))
      go (upper_range h k g) = in_rule_lem x (upper (omega arith) (omega arith))

  -- the byte past the end of either part is not in the rule
  pub only : 0 < n → ((x : ℕ) → v ≤ x → x < v + n → in_rule x ≡ true) → range_in_rule v n ≡ true
  only p all = go (ruled v (all v (omega arith) (omega arith)))
    where
      go : Ruled v → range_in_rule v n ≡ true
      go (lower h) = range_lower h ∙ ⊎_elim (λ (g : 2 ^ 47 < v + n). no_truth (all (2 ^ 47) (omega arith) g)) (λ g. le-leb (v + n) (2 ^ 47) g) (below? (2 ^ 47) (v + n))
      go (upper h k) =
          range_upper h k
          ∙ ⊎_elim (λ (g : 0xffffffffc0000000 < v + n). no_truth (all 0xffffffffc0000000 (omega arith) g)) (λ g. le-leb (v + n) 0xffffffffc0000000 g) (below? 0xffffffffc0000000 (v + n))

-- an empty range
pub start : (v : ℕ) → range_in_rule v 0 ≡ in_rule v
start v = go (in_rule v) refl
  where
    go : (t : Bool) → in_rule v ≡ t → range_in_rule v 0 ≡ in_rule v
    go false e = range_out v 0 e ∙ sym e
    go true e = part (ruled v e) ∙ sym e
      where
        part : Ruled v → range_in_rule v 0 ≡ true
        part (lower h) = range_lower v 0 h ∙ le-leb (v + 0) (2 ^ 47) (omega arith)
        part (upper h k) = range_upper v 0 h k ∙ le-leb (v + 0) 0xffffffffc0000000 (omega arith)

-- the tests together
pub pages : (v n : ℕ) → page_aligned v n ≡ true → (v % 4096 ≡ 0) × (n % 4096 ≡ 0)
pages v n a =
    let q = both (aligned Size4K v) (aligned Size4K n) a in
    (eqb-true (v % 4096) 0 q.0, eqb-true (n % 4096) 0 q.1)

pub range : (v n pa : ℕ) → range_in_rule v n ≡ true → page_aligned v n ≡ true → physical_fits pa n ≡ true → Range v n pa
range v n pa r a p =
    let q = pages v n a in
    record { within = halves v n r; start = q.0; size = q.1; physical = leb-true (pa + n) (2 ^ 52) p }
