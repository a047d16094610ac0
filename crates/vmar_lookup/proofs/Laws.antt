-- What lookups mean.
use Prim.Native.Nat.{ℕ, ◌<◌}
use mathlib.Core.Path.{◌≡◌, refl, sym, ◌∙◌, ap, subst}
use mathlib.Core.Bool.{true, false}
use mathlib.Core.List.{List}
use mathlib.Core.Logic.{⊎_elim}
use native.Mathlib.Omega.{arith}
use Rattle.std.specs.Prelude.{Result, Ok, Err}
use Rattle.scan.proofs.Scans.{tell}
use Rattle.common.specs.declared.defs.MMUFlags.{MMUFlags}
use Rattle.refusal.specs.declared.Refusal.{Refusal}
use Rattle.refusal.specs.declared.Refusal.TheVariants.{NotMapped, NothingThere}
use Rattle.space.specs.Range.{contains}
use Rattle.space.specs.Space.{region_at, is_region}
use Rattle.space.specs.Passes.{Passes, LiveIn}
use Rattle.space.specs.declared.Space.{Space}
use Rattle.vmar_lookup.specs.Lookup.{follow, look, page_flags, table_flags}
use Rattle.vmar_lookup.specs.Laws.{FlagsAnswers, outside, held, bare, OneAnswer, LookupsAll}
use Rattle.vmar_lookup.proofs.Lookups as ends
use Rattle.vmar_lookup.proofs.Depth as depths
use Rattle.vmar_lookup.proofs.Finds as finding

module _ (s : Space) (flags : List ℕ) (p : Passes s flags) (x r : ℕ) (l : r < 32) (a : is_region s r ≡ true) where
  live : LiveIn s r
  live = record { slot = l; live = a; flags = flags; passes = p }

  -- what is answered of what a lookup ends at
  module _ (value : ℕ → Result MMUFlags Refusal) (at : Result ℕ Refusal → Result MMUFlags Refusal) (is : (m : ℕ) → value m ≡ at (Ok m)) (no' : (why : Refusal) → Err why ≡ at (Err why)) where
    only : (z : Result MMUFlags Refusal) → FlagsAnswers s x r value z → z ≡ at (look s x 32 r)
    only z (outside c) = no' NotMapped ∙ ap at (sym (ends.some_depth s x 32 r (λ q. omega arith) ∙ ap (follow (look s x 31)) (sym (ends.outside s x r c))))
    only z (held c m h) = is m ∙ ap at (sym (finding.finds s flags p x r m l a c h))
    only z (bare c n) = no' NothingThere ∙ ap at (sym (ends.bare s x n 32 r live c))

    one : (y : Result ℕ Refusal) → look s x 32 r ≡ y → contains (region_at s r).addr (region_at s r).size x ≡ true → (z : Result MMUFlags Refusal) × FlagsAnswers s x r value z
    one (Ok m) e c = (value m, held c m (ends.found_holds s x 32 r m live e))
    one (Err why) e c = (
      Err NothingThere,
      bare c (λ m h. let q = sym (finding.finds s flags p x r m l a c h) ∙ e in let z : ◌≡◌ {A = ℕ} 0 1 = cc in omega arith),
    )

    some_answer : (z : Result MMUFlags Refusal) × FlagsAnswers s x r value z
    some_answer =
        ⊎_elim
        (λ (c : contains (region_at s r).addr (region_at s r).size x ≡ true). one (look s x 32 r) refl c)
        (λ (c : contains (region_at s r).addr (region_at s r).size x ≡ false). (Err NotMapped, outside c))
        (tell (contains (region_at s r).addr (region_at s r).size x))

    one_answer : OneAnswer s x r value (at (look s x 32 r))
    one_answer = record { answers = subst (FlagsAnswers s x r value) (only some_answer.0 some_answer.1) some_answer.1; only = only }

pub lookups : LookupsAll
lookups = record {
  holds = λ s flags p. record {
    finds = λ x. finding.finds s flags p x;
    found_holds = λ x r m l a. ends.found_holds s x 32 r m (live s flags p x r l a);
    found_inside = λ x r m l a e. let end = ends.ended s x 32 r m (live s flags p x r l a) e in (end.from, end.to);
    depth = λ x. depths.depth s flags p x;
    mapping = λ x r l a. one_answer s flags p x r l a _ (page_flags s flags x) (λ m. refl) (λ why. refl);
    vaddr = λ x r l a q b. one_answer s flags p x r l a _ (table_flags q b x) (λ m. refl) (λ why. refl);
  };
}
