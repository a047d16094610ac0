-- The words that `update` and `map` write are leaves of their level.
use Rattle.std.specs.Prelude.{None, Option, Some}
use Prim.Native.Nat.{ℕ, ◌+◌, ◌-◌, ◌*◌, ◌/◌, ◌%◌, ◌^◌, ◌≤◌, ◌<◌}
use mathlib.Core.Path.{◌≡◌, refl, sym, ap, ◌∙◌, subst}
use mathlib.Core.Bool.{Bool, true, false}
use native.Mathlib.Omega.{arith}
use native.Mathlib.Nat.{div-add-mod', mul-mod_left}
use lib.Dec.{lit<}
use borrow.Author.Tests.{eqb-true, ltb-false}
use Rattle.paging.specs.Format.{leaf, LeafReads, Entry, page}
use Rattle.paging.proofs.Cases.{no_truth}
use Rattle.paging.proofs.Levels.{page_of}
use Rattle.paging.proofs.Formats.{IsLeaf, Is, is}
use Rattle.common.specs.Page.{level_of, size_of, aligned, is_huge}
use Rattle.common.specs.declared.vm.PageSize.{PageSize}
use Rattle.common.proofs.Pages.{size_span, size_pos, size_le, level_le}
use Rattle.x86_64.specs.Entry.{addr_of, flags_of, marks_of, leaf_by, granted, x86}
use Rattle.x86_64.proofs.Words.{marks_lt}
use Rattle.x86_64.proofs.Format.{lawful}
use Rattle.x86_64.proofs.ReadBack.{huge_level}
use Rattle.table.specs.Table.{misplaced, new_addr, new_word}
use Rattle.table_map.specs.Map.{leaf_for}
use Rattle.common.specs.declared.defs.MMUFlags.{MMUFlags}

-- a word that is a leaf of level l
pub record LeafAt (l w : ℕ) : Type 0 where
  pub fits : Entry x86 l w
  pub kind : x86.kind l w ≡ leaf

-- an address that a leaf of the size can have
pub record InPlace (s : PageSize) (p : ℕ) : Type 0 where
  pub aligned : p % size_of s ≡ 0
  pub below : p < 2 ^ 52

-- a leaf of the size reads back as what was written
pub leaf_reads : (s : PageSize) (p f a : ℕ) → InPlace s p → a < 4 → LeafReads x86 (level_of s) (leaf_by (is_huge s) p f a) p (granted f) a
unfolding x86
leaf_reads s p f a i b = rw (← huge_level s) (lawful.reads (level_of s) p f a (level_le s) (rw (size_span s) at i.aligned, i.below) b)

pub leaf_of : (s : PageSize) (p f a : ℕ) → InPlace s p → a < 4 → LeafAt (level_of s) (leaf_by (is_huge s) p f a)
unfolding x86
leaf_of s p f a i b = record {
  fits = page p f a (level_le s) (rw (size_span s) at i.aligned, i.below) b (ap (λ (h : Bool). leaf_by h p f a) (sym (huge_level s)));
  kind = (leaf_reads s p f a i b).kind;
}

-- an address in place is written whole
whole : (s : PageSize) (p : ℕ) → InPlace s p → addr_of p ≡ p
whole s p i = omega (arith, page_of (level_of s) p (rw (size_span s) at i.aligned), i.below)

module _ (s : PageSize) (w : ℕ) (L : LeafAt (level_of s) w) where
  read : IsLeaf x86 lawful (level_of s) w
  read = subst (Is x86 lawful (level_of s) w) L.kind (is x86 lawful (level_of s) w L.fits)

  stands : InPlace s (addr_of w)
  unfolding x86
  stands = record { aligned = rw (size_span s) read.aligned.0; below = read.aligned.1 }

  -- the word by its parts, with another address
  moved : (p : ℕ) → w - addr_of w + p ≡ leaf_by (is_huge s) p (flags_of w) (marks_of w)
  unfolding x86
  moved p = swap (addr_of w) p w (is_huge s) (flags_of w) (marks_of w) (sym read.same ∙ ap (λ (h : Bool). leaf_by h (addr_of w) (flags_of w) (marks_of w)) (huge_level s))
    where
      swap : (x y n : ℕ) (h : Bool) (f a : ℕ) → n ≡ leaf_by h x f a → n - x + y ≡ leaf_by h y f a
      swap x y n h f a e = parts x y n (leaf_by h 0 f a) (e ∙ split x) ∙ sym (split y)
        where
          split : (z : ℕ) → leaf_by h z f a ≡ z + leaf_by h 0 f a
          split z = omega arith

          parts : (x y n r : ℕ) → n ≡ x + r → n - x + y ≡ y + r
          parts x y n r q = omega arith

in_place : (s : PageSize) (p : ℕ) → misplaced (Some p) s ≡ false → InPlace s p
in_place s p = go (aligned s p) refl
  where
    go : (t : Bool) → aligned s p ≡ t → misplaced (Some p) s ≡ false → InPlace s p
    go false e h = let z : true ≡ false = rw e at h in no_truth (sym z)
    go true e h =
        let l : p ≤ 2 ^ 52 - size_of s = ltb-false (2 ^ 52 - size_of s) p (rw e at h) in
        record { aligned = eqb-true (p % size_of s) 0 e; below = omega (arith, l, size_pos s, size_le s) }

-- `update` writes a leaf of the same size over one
pub new_leaf : (s : PageSize) (w : ℕ) → LeafAt (level_of s) w → (n : Option ℕ) (f : Option MMUFlags) → misplaced n s ≡ false → LeafAt (level_of s) (new_word w s n f)
new_leaf s w L n f m = rights f (move n m)
  where
    move : (n : Option ℕ) → misplaced n s ≡ false → LeafAt (level_of s) (new_addr w n)
    move None m = L
    move (Some p) m =
        let i = in_place s p m in
        subst (LeafAt (level_of s)) (sym (moved s w L (addr_of p)))
        (leaf_of s (addr_of p) (flags_of w) (marks_of w) (rw (whole s p i) i) (marks_lt w))

    rights : (f : Option MMUFlags) → LeafAt (level_of s) (new_addr w n) → LeafAt (level_of s) (new_word w s n f)
    rights None K = K
    rights (Some g) K = leaf_of s (addr_of (new_addr w n)) g.0 0 (stands s (new_addr w n) K) (lit< tt)

-- `map` writes a leaf of its size
map_place : (s : PageSize) (pa : ℕ) → pa + size_of s ≤ 2 ^ 52 → InPlace s (pa - pa % size_of s)
map_place s pa h = record {
  aligned =
      let e : pa - pa % size_of s ≡ pa / size_of s * size_of s = omega (arith, div-add-mod' pa (size_of s)) in
      ap (λ (x : ℕ). x % size_of s) e ∙ mul-mod_left (pa / size_of s) (size_of s);
  below = omega (arith, size_pos s);
}

pub map_leaf : (s : PageSize) (pa f : ℕ) → pa + size_of s ≤ 2 ^ 52 → LeafAt (level_of s) (leaf_for s pa f)
map_leaf s pa f h = let i = map_place s pa h in leaf_of s (addr_of (pa - pa % size_of s)) f 0 (rw (whole s (pa - pa % size_of s) i) i) (lit< tt)

pub map_reads : (s : PageSize) (pa f : ℕ) → pa + size_of s ≤ 2 ^ 52 → LeafReads x86 (level_of s) (leaf_for s pa f) (pa - pa % size_of s) (granted f) 0
map_reads s pa f h = let i = map_place s pa h in rw (whole s (pa - pa % size_of s) i) (leaf_reads s (pa - pa % size_of s) f 0 i (lit< tt))
