-- A table that needs four frames: two leaves of 1 GiB side by side, as in row B5 of document 01.
use Prim.Native.Nat.{ℕ, suc, ◌+◌, ◌-◌, ◌*◌, ◌<◌}
use mathlib.Core.Path.{◌≡◌, refl, sym, ap, ◌∙◌}
use mathlib.Core.Bool.{true}
use mathlib.Core.Logic.{inl, ⊎_elim}
use mathlib.Core.List.{List}
use native.Mathlib.Omega.{arith}
use lib.Dec.{eqb, lit<}
use lib.ListN.{length, get_or, set, replicate, length-set, length-replicate, get_or-replicate}
use lib.Seq.{get_or-set_same, get_or-set_other}
use borrow.Author.Tests.{eq-eqb, ne_eqb}
use Rattle.paging.specs.Choice.{pick}
use Rattle.paging.specs.Format.{nothing, leaf, table, Entry, blank, pointer, page}
use Rattle.paging.specs.Table.{shows, walk}
use Rattle.paging.specs.Need.{splits, left, over}
use Rattle.paging.proofs.Cases.{same?, below?}
use Rattle.paging.proofs.Walks.{table_inj, leaf_bar, nothing_bar}
use Rattle.paging.proofs.Cuts.{cuts}
use Rattle.x86_64.specs.Entry.{table_word, leaf_by, x86}
use Rattle.x86_64.proofs.Format.{lawful}
use Rattle.pool.specs.Pool.{mem_of, Taken}
use Rattle.form.specs.Form.{WellFormed, Good}
use Rattle.table_unmap_cont.specs.Demand.{frames_for, NeedsFour}

abbrev T : ℕ
T = table_word 257 0

-- the leaf of 1 GiB at an address, readable
abbrev L : ℕ → ℕ
L a = leaf_by true a 4 0

-- six frames at 0x100000, of which two are in use: the root, and the table under its first entry
abbrev p : List ℕ
p = set (set (set (replicate 3072 0) 0 T) 513 (L 0x40000000)) 514 (L 0x80000000)

set_any : (l : List ℕ) (i x j : ℕ) → i < length l → get_or (set l i x) j 0 ≡ pick (eqb j i) x (get_or l j 0)
set_any l i x j h = ⊎_elim
    (λ (e : j ≡ i). ap (λ (n : ℕ). get_or (set l i x) n 0) e ∙ get_or-set_same l i x 0 h ∙ sym (rw (eq-eqb j i e)))
    (λ n. get_or-set_other l i j x 0 n ∙ sym (rw (ne_eqb j i n)))
    (same? j i)

zeros : length {A = ℕ} (replicate 3072 0) ≡ 3072
zeros = length-replicate {A = ℕ} 3072 0

long : length p ≡ 3072
long = length-set (set (set (replicate 3072 0) 0 T) 513 (L 0x40000000)) 514 (L 0x80000000) ∙ length-set (set (replicate 3072 0) 0 T) 513 (L 0x40000000) ∙ length-set (replicate 3072 0) 0 T ∙ zeros

-- its words
words : (j : ℕ) → j < 3072 → get_or p j 0 ≡ pick (eqb j 514) (L 0x80000000) (pick (eqb j 513) (L 0x40000000) (pick (eqb j 0) T 0))
words j h =
    let l₁ : length (set (replicate 3072 0) 0 T) ≡ 3072 = length-set (replicate 3072 0) 0 T ∙ zeros in
    let l₂ : length (set (set (replicate 3072 0) 0 T) 513 (L 0x40000000)) ≡ 3072 = length-set (set (replicate 3072 0) 0 T) 513 (L 0x40000000) ∙ l₁ in
    set_any (set (set (replicate 3072 0) 0 T) 513 (L 0x40000000)) 514 (L 0x80000000) j (omega (arith, l₂))
    ∙ ap (pick (eqb j 514) (L 0x80000000)) (set_any (set (replicate 3072 0) 0 T) 513 (L 0x40000000) j (omega (arith, l₁))
    ∙ ap (pick (eqb j 513) (L 0x40000000)) (set_any (replicate 3072 0) 0 T j (omega (arith, zeros)) ∙ ap (pick (eqb j 0) T) (get_or-replicate 3072 j 0 0 h)))

-- by frame and place: the table, the leaves, and nothing else
data At (n k w : ℕ) : Type 0 where
  root : n ≡ 256 → k ≡ 0 → w ≡ T → At n k w
  first : n ≡ 257 → k ≡ 1 → w ≡ L 0x40000000 → At n k w
  second : n ≡ 257 → k ≡ 2 → w ≡ L 0x80000000 → At n k w
  empty : w ≡ 0 → At n k w

at : (n k : ℕ) → Taken 256 2 n → k < 512 → At n k (mem_of p 256 n k)
at n k t h = ⊎_elim third (λ a. ⊎_elim second' (λ c. ⊎_elim first' (λ d. empty (is ∙ rw (ne_eqb j 514 a, ne_eqb j 513 c, ne_eqb j 0 d))) (same? j 0)) (same? j 513)) (same? j 514)
  where
    j : ℕ
    j = (n - 256) * 512 + k

    in_pool : (n - 256) * 512 + k < 3072
    in_pool = omega (arith, t.1)

    is : get_or p j 0 ≡ pick (eqb j 514) (L 0x80000000) (pick (eqb j 513) (L 0x40000000) (pick (eqb j 0) T 0))
    is = words j in_pool

    third : j ≡ 514 → At n k (mem_of p 256 n k)
    third e = second (omega (arith, e, t.0, t.1)) (omega (arith, e, t.0, t.1)) (is ∙ rw (eq-eqb j 514 e))

    second' : j ≡ 513 → At n k (mem_of p 256 n k)
    second' e = first (omega (arith, e, t.0, t.1)) (omega (arith, e, t.0, t.1)) (is ∙ rw e)

    first' : j ≡ 0 → At n k (mem_of p 256 n k)
    first' e = root (omega (arith, e, t.0, t.1)) (omega (arith, e, t.0, t.1)) (is ∙ rw e)

lev : ℕ → ℕ
lev n = pick (eqb n 256) 3 2

entry : (n k : ℕ) → At n k (mem_of p 256 n k) → Entry x86 (lev n) (mem_of p 256 n k)
unfolding lev x86
entry n k (root a c e) = rw a (pointer 257 0 (lit< tt) (lit< tt) (lit< tt) (lit< tt) (rw a at e))
entry n k (first a c e) = rw a (page 0x40000000 4 0 (lit< tt) (refl, lit< tt) (lit< tt) (rw a at e))
entry n k (second a c e) = rw a (page 0x80000000 4 0 (lit< tt) (refl, lit< tt) (lit< tt) (rw a at e))
entry n k (empty e) = blank e

-- the words on the way of an address, and what they are
root_word : mem_of p 256 256 0 ≡ T
root_word = words 0 (lit< tt)

first_word : mem_of p 256 257 1 ≡ L 0x40000000
first_word = words 513 (lit< tt)

second_word : mem_of p 256 257 2 ≡ L 0x80000000
second_word = words 514 (lit< tt)

down : (n k m : ℕ) → At n k (mem_of p 256 n k) → x86.kind (lev n) (mem_of p 256 n k) ≡ table m
    → Taken 256 2 m × (m ≡ 256 → ⊥) × (lev n ≡ suc (lev m)) × (256 ≡ n) × (0 ≡ k)
unfolding lev x86
down n k m (root a c e) t =
    let z : table 257 ≡ table m = rw (e, a) at t in
    let q : m ≡ 257 = sym (table_inj z) in
    ((omega arith, omega arith), (λ r. omega arith), rw (a, q) refl, sym a, sym c)
down n k m (first a c e) t = let z : leaf ≡ table m = rw (e, a) at t in absurd (leaf_bar refl m z)
down n k m (second a c e) t = let z : leaf ≡ table m = rw (e, a) at t in absurd (leaf_bar refl m z)
down n k m (empty e) t = let z : nothing ≡ table m = rw e at t in absurd (nothing_bar refl m z)

formed : WellFormed p 256 2
unfolding lev x86
formed = record {
  lev = lev;
  par_n = λ n. 256;
  par_k = λ n. 0;
  root_in = (omega arith, omega arith);
  root_lev = refl;
  entries = λ n k t h. entry n k (at n k t h);
  down = λ n k m t h e. down n k m (at n k t h) e;
  up = λ m t ne.
      let q : m ≡ 257 = ⊎_elim (λ h. absurd (ne (omega (arith, t.0)))) (λ h. omega (arith, t.1)) (below? m 257) in
      ((omega arith, omega arith), lit< tt, rw q (ap (x86.kind 3) root_word));
}

good : Good p 0x100000 2
good = record {
  sized = rw long (record { whole = refl; few = lit< tt; page = refl; below = lit< tt; root = lit< tt; there = lit< tt });
  formed = formed;
}

over_first : over x86 (mem_of p 256) 256 0x40001000 ≡ 2
unfolding shows walk x86
over_first = refl

over_second : over x86 (mem_of p 256) 256 0x80001000 ≡ 2
unfolding shows walk x86
over_second = refl

pub needs_four : NeedsFour
unfolding x86 splits left
needs_four = record {
  p = p;
  base = 0x100000;
  used = 2;
  a = 0x40001000;
  e = 0x80001000;
  good = good;
  range = (omega arith, inl (omega arith));
  pages = (refl, refl);
  four = four;
}
  where
    four : frames_for p 0x100000 0x40001000 0x80001000 ≡ 4
    four =
        (cuts.holds x86 256 lawful (omega arith) (lit< tt)).found (mem_of p 256) 0x40001000 0x80001000 (lit< tt) (omega arith, inl (omega arith))
        ∙ rw (over_first, over_second) refl
