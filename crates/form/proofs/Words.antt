-- The kind of an entry by the tests that the code makes of its word.
use Rattle.std.proofs.Common.{ℕ, ◌<◌, ◌≡◌, subst, Bool, true, false, ◌&&◌, arith, ltb, leb, eq-eqb, ne_eqb, eqb-true}
use Rattle.paging.specs.Choice.{pick}
use Rattle.paging.specs.Format.{nothing, leaf, table, Entry}
use Rattle.paging.proofs.Formats.{Is, is}
use Rattle.x86_64.specs.Entry.{bit, frame_of, is_leaf, x86}
use Rattle.x86_64.proofs.Format.{lawful}

pub table_inj : {m n : ℕ} → table m ≡ table n → m ≡ n
table_inj e = cc

pub zero_plain : (l w m : ℕ) → w ≡ 0 → x86.kind l w ≡ table m → ⊥
unfolding x86
zero_plain l w m u k = let t : nothing ≡ table m = rw (eq-eqb w 0 u) at k in cc

pub leaf_pos : (w : ℕ) → is_leaf w ≡ true → 0 < w
leaf_pos w b = omega (arith, eqb-true (bit 9 w) 1 b)

pub leaf_plain : (l w m : ℕ) → 0 < w → is_leaf w ≡ true → x86.kind l w ≡ table m → ⊥
unfolding x86
leaf_plain l w m u b k = go (leb l 2) (rw (ne_eqb w 0 (λ z. omega arith), b) at k)
  where
    go : (c : Bool) → pick c leaf nothing ≡ table m → ⊥
    go true e = cc
    go false e = cc

-- an entry that is neither 0 nor a leaf is a table
pub table_of : (l w : ℕ) → 0 < w → is_leaf w ≡ false → Entry x86 l w → x86.kind l w ≡ table (frame_of w)
unfolding x86
table_of l w u b x = go (ltb 0 l && leb l 3) by_tests
  where
    by_tests : x86.kind l w ≡ pick (ltb 0 l && leb l 3) (table (frame_of w)) nothing
    by_tests = rw (ne_eqb w 0 (λ z. omega arith), b)

    go : (c : Bool) → x86.kind l w ≡ pick c (table (frame_of w)) nothing → x86.kind l w ≡ table (frame_of w)
    go true e = e
    go false e =
        let z : w ≡ 0 = subst (Is x86 lawful l w) e (is x86 lawful l w x) in
        absurd (omega arith)
