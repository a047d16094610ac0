-- Document 01's numbers: A by computing, B from the two walks of a range's ends.
use Prim.Native.Nat.{ℕ, suc, ◌+◌, ◌-◌, ◌/◌, ◌%◌, ◌^◌, ◌<◌, ◌≤◌}
use mathlib.Core.Path.{◌≡◌, refl, ap, ◌∙◌}
use mathlib.Core.Logic.{inl}
use native.Mathlib.Omega.{arith}
use lib.Dec.{lit<}
use Rattle.paging.specs.Level.{span}
use Rattle.paging.specs.Table.{Formed}
use Rattle.paging.specs.Need.{splits, left, need, over}
use Rattle.paging.specs.Cut.{frames, Cuts}
use Rattle.paging.proofs.Counts.{splits_aligned, left_most, aligned_under}
use Rattle.paging.proofs.Sums.{over_most}
use Rattle.paging.proofs.Downs.{over_near}
use Rattle.paging.proofs.Cuts.{cuts}
use Rattle.x86_64.specs.Entry.{x86}
use Rattle.x86_64.proofs.Format.{lawful}
use Rattle.numbers.specs.Numbers.{RowsA, RowsB, Numbers}

rows_a_lem : RowsA
rows_a_lem = record { a1 = refl; a2 = refl; a3 = refl; a4 = refl; a5 = refl; a6 = refl }

module _ (W : ℕ → ℕ → ℕ) (In : ℕ → Type 0) (root : ℕ) (T : Formed x86 W In root) where
  C : Cuts x86 root
  unfolding x86
  C = cuts.holds x86 root lawful (omega arith) (lit< tt)

  -- by the levels of the leaves over the ends, which are addresses of the lower half
  by : (a e la le : ℕ) → a < e → e ≤ 2 ^ 47 → over x86 W root a ≡ la → over x86 W root e ≡ le → frames x86 W root a e ≡ need a la e le
  unfolding x86
  by a e la le h l p q = C.found W a e h (omega arith, inl l) ∙ ap (λ (n : ℕ). need a n e (over x86 W root e)) p ∙ ap (need a la e) q

  -- an address in the leaf over another
  near : (v x m : ℕ) → over x86 W root v ≡ suc m → x / span (suc m) ≡ v / span (suc m) → over x86 W root x ≡ suc m
  near v x m e d = over_near x86 W In root T v x m e d

  -- at a multiple of 1 GiB no leaf is cut
  none_at : (a e : ℕ) → e % span 2 ≡ 0 → splits e (left a e (over x86 W root e)) ≡ 0
  unfolding x86
  none_at a e z =
      let l : ℕ = left a e (over x86 W root e) in
      let h : l ≤ 2 = omega (arith, left_most a e (over x86 W root e), over_most x86 lawful (omega arith) W root e) in
      let q : l + (2 - l) ≡ 2 = omega arith in
      splits_aligned l e (aligned_under l (2 - l) e (rw q z))

  rows_b_lem : RowsB W root
  unfolding splits left
  rows_b_lem = record {
    b1 = λ p. by 0x40001000 0x40002000 1 1 (lit< tt) (lit< tt) (near 0x40000000 0x40001000 0 p refl) (near 0x40000000 0x40002000 0 p refl);
    b2 = λ p. by 0x40001000 0x40002000 2 2 (lit< tt) (lit< tt) (near 0x40000000 0x40001000 1 p refl) (near 0x40000000 0x40002000 1 p refl);
    b3 = λ p. by 0x40200000 0x40400000 2 2 (lit< tt) (lit< tt) (near 0x40000000 0x40200000 1 p refl) (near 0x40000000 0x40400000 1 p refl);
    b4 = λ p. by 0x40001000 0x40201000 2 2 (lit< tt) (lit< tt) (near 0x40000000 0x40001000 1 p refl) (near 0x40000000 0x40201000 1 p refl);
    b5 = λ p q. by 0x40001000 0x80001000 2 2 (lit< tt) (lit< tt) (near 0x40000000 0x40001000 1 p refl) (near 0x80000000 0x80001000 1 q refl);
    b6_all = λ p.
        by 0x40000000 0x80000000 2 (over x86 W root 0x80000000) (lit< tt) (lit< tt) p refl
        ∙ ap (λ (n : ℕ). splits 0x40000000 2 + n) (none_at 0x40000000 0x80000000 refl);
    b6_none = λ a. omega (arith, (C.cut_none In W 0 a T).taken);
  }

pub numbers : Numbers
numbers = record { rows_a = rows_a_lem; rows_b = rows_b_lem }
