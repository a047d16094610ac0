-- The laws of spans and indexes, over the level.
use Prim.Native.Nat.{ℕ, zero, suc, ◌+◌, ◌-◌, ◌*◌, ◌/◌, ◌%◌, ◌^◌, ◌≤◌, ◌<◌}
use mathlib.Core.Path.{◌≡◌, sym, ap, ◌∙◌}
use mathlib.Core.Logic.{inl, inr, ⊎_elim}
use native.Mathlib.Omega.{arith}
use native.Mathlib.Nat.{
  div-div-eq-div-mul,
  div-add-mod',
  div-eq_of_lt,
  div-eq_of_lt-le,
  mod-lt,
  mod-eq_of_lt,
  mul-add-mod_self_right,
  mul-le-mul_right,
  lt_of_mul-lt-mul_right,
  add-mul,
  suc-mul,
  mul_assoc,
}
use lib.Pow.{pow-add, pow_pos, mod-pow-add}
use lib.Dec.{lit<}
use Rattle.paging.specs.Level.{span, index, joined, half, Canonical, Indexes}
use Rattle.paging.proofs.Cases.{below?}

-- an entry spans 512 of the level below
pub span_suc : (l : ℕ) → span (suc l) ≡ 512 * span l
span_suc l = ap (λ (n : ℕ). 2 ^ n) e ∙ pow-add 2 9 (12 + 9 * l)
  where
    e : 12 + 9 * suc l ≡ 9 + (12 + 9 * l)
    e = omega arith

pub span_pos : (l : ℕ) → 0 < span l
span_pos l = pow_pos (12 + 9 * l)

pub index_lt : (l v : ℕ) → index l v < 512
index_lt l v = mod-lt (v / span l) (lit< tt)

-- one level more: the offset in the larger span is the index and the offset in the smaller
pub offset_suc : (l v : ℕ) → v % span (suc l) ≡ index l v * span l + v % span l
offset_suc l v = ap (λ (n : ℕ). v % 2 ^ n) e ∙ mod-pow-add v 9 (12 + 9 * l)
  where
    e : 12 + 9 * suc l ≡ 9 + (12 + 9 * l)
    e = omega arith

-- the entry of level l over v, by the entry above it and the index
pub above : (l v : ℕ) → v / span l ≡ v / span (suc l) * 512 + index l v
above l v =
    sym (div-add-mod' (v / span l) 512)
    ∙ ap (λ (n : ℕ). n * 512 + index l v) (div-div-eq-div-mul v (span l) 512 ∙ ap (λ (n : ℕ). v / n) (e ∙ sym (span_suc l)))
  where
    e : span l * 512 ≡ 512 * span l
    e = omega arith

-- the names of a level, as sums count them and as definitions recurse
span_zero : (t : ℕ) → span (t + 0) ≡ span t
span_zero t = ap span z
  where
    z : t + 0 ≡ t
    z = omega arith

span_next : (t k : ℕ) → span (t + suc k) ≡ span (suc (t + k))
span_next t k = ap span s
  where
    s : t + suc k ≡ suc (t + k)
    s = omega arith

rejoin : (t k v : ℕ) → joined t k v + v % span t ≡ v % span (t + k)
rejoin t zero v = omega (arith, ap (λ (n : ℕ). v % n) (span_zero t))
rejoin t (suc k) v = omega (arith, rejoin t k v, offset_suc (t + k) v, ap (λ (n : ℕ). v % n) (span_next t k))

-- same entry above and same indexes down to t: same entry of level t
descend : (t k v v' : ℕ) → v / span (t + k) ≡ v' / span (t + k) → ((l : ℕ) → t ≤ l → l < t + k → index l v ≡ index l v') → v / span t ≡ v' / span t
descend t zero v v' e same = rw (span_zero t) at e
descend t (suc k) v v' e same = descend t k v v' here (λ l a b. same l a (omega arith))
  where
    up : v / span (suc (t + k)) ≡ v' / span (suc (t + k))
    up = rw (span_next t k) at e

    i : index (t + k) v ≡ index (t + k) v'
    i = same (t + k) (omega arith) (omega arith)

    here : v / span (t + k) ≡ v' / span (t + k)
    here = omega (arith, above (t + k) v, above (t + k) v', up, i)

-- The two halves of the addresses of m + 1 levels: in the lower the highest index is below 256 and nothing stands above it,
-- in the upper it is at least 256 and what stands above it is all ones.
module _ (m : ℕ) (h : m ≤ 4) where
  abbrev pub K : ℕ
  K = 2 ^ (52 - 9 * suc m)

  pub half_is : half (suc m) ≡ 256 * span m
  half_is = ap (λ (k : ℕ). 2 ^ k) e ∙ pow-add 2 8 (12 + 9 * m)
    where
      e : 11 + 9 * suc m ≡ 8 + (12 + 9 * m)
      e = omega arith

  all_is : 2 ^ 64 ≡ K * span (suc m)
  all_is = ap (λ (k : ℕ). 2 ^ k) e ∙ pow-add 2 (52 - 9 * suc m) (12 + 9 * suc m)
    where
      e : 64 ≡ (52 - 9 * suc m) + (12 + 9 * suc m)
      e = omega arith

  -- the entries of level m that the 64 bits hold
  pub all_blocks : 2 ^ 64 / span m ≡ K * 512
  all_blocks = div-eq_of_lt-le (span m) (omega (arith, e)) (omega (arith, e, add-mul (K * 512) 1 (span m), span_pos m))
    where
      e : K * 512 * span m ≡ 2 ^ 64
      e = mul_assoc K 512 (span m) ∙ ap (λ (n : ℕ). K * n) (sym (span_suc m)) ∙ sym all_is

  one_less : (K - 1) * span (suc m) + span (suc m) ≡ 2 ^ 64
  one_less = sym (suc-mul (K - 1) (span (suc m))) ∙ ap (λ (k : ℕ). k * span (suc m)) e ∙ sym all_is
    where
      e : suc (K - 1) ≡ K
      e = omega (arith, pow_pos (52 - 9 * suc m))

  pub data Side (v : ℕ) : Type 0 where
    lower : v / span (suc m) ≡ 0 → index m v < 256 → Side v
    upper : v / span (suc m) ≡ K - 1 → 256 ≤ index m v → Side v

  pub side : (v : ℕ) → Canonical (suc m) v → Side v
  side v (inl a) = lower (div-eq_of_lt in_span) (lt_of_mul-lt-mul_right (span m) i)
    where
      in_span : v < span (suc m)
      in_span = omega (arith, half_is, span_suc m)

      i : index m v * span m < 256 * span m
      i = omega (arith, offset_suc m v, mod-eq_of_lt in_span, half_is)
  side v (inr b) = upper (div-eq_of_lt-le (span (suc m)) low high) (⊎_elim (λ r. absurd (not_below r)) (λ r. r) (below? (index m v) 256))
    where
      low : (K - 1) * span (suc m) ≤ v
      low = omega (arith, one_less, half_is, span_suc m)

      high : v < (K - 1 + 1) * span (suc m)
      high = omega (arith, add-mul (K - 1) 1 (span (suc m)), one_less)

      -- what is left of v above all ones
      rest : v % span (suc m) ≡ v - (K - 1) * span (suc m)
      rest =
          let r : v ≡ (K - 1) * span (suc m) + (v - (K - 1) * span (suc m)) = omega (arith, low) in
          let s : v - (K - 1) * span (suc m) < span (suc m) = omega (arith, one_less, low) in
          ap (λ (n : ℕ). n % span (suc m)) r ∙ mul-add-mod_self_right (K - 1) (span (suc m)) (v - (K - 1) * span (suc m)) ∙ mod-eq_of_lt s

      not_below : index m v < 256 → ⊥
      not_below r =
          let q : (index m v + 1) * span m ≤ 256 * span m = mul-le-mul_right (span m) (omega arith) in
          omega (arith, rest, one_less, half_is, span_suc m, offset_suc m v, mod-lt v (span_pos m), add-mul (index m v) 1 (span m))

  same_half : (v v' : ℕ) → Side v → Side v' → index m v ≡ index m v' → v / span (suc m) ≡ v' / span (suc m)
  same_half v v' (lower a i) (lower b j) e = a ∙ sym b
  same_half v v' (lower a i) (upper b j) e = absurd (omega arith)
  same_half v v' (upper a i) (lower b j) e = absurd (omega arith)
  same_half v v' (upper a i) (upper b j) e = a ∙ sym b

tell : (t k v v' : ℕ) → t + suc k ≤ 5 → Canonical (t + suc k) v → Canonical (t + suc k) v'
    → ((l : ℕ) → t ≤ l → l ≤ t + k → index l v ≡ index l v') → v / span t ≡ v' / span t
tell t k v v' h c c' same = descend t (suc k) v v' (rw s top) (λ l a b. same l a (omega arith))
  where
    s : t + suc k ≡ suc (t + k)
    s = omega arith

    n : t + k ≤ 4
    n = omega arith

    top : v / span (suc (t + k)) ≡ v' / span (suc (t + k))
    top = same_half (t + k) n v v' (side (t + k) n v (rw s at c)) (side (t + k) n v' (rw s at c')) (same (t + k) (omega arith) (omega arith))

pub indexes : Indexes
indexes = record { rejoin = rejoin; tell = tell }

-- an address that is aligned to any level is that of a frame
pub page_of : (l p : ℕ) → p % span l ≡ 0 → p ≡ p / 4096 * 4096
page_of l p e = omega (arith, div-add-mod' p 4096, low l e)
  where
    low : (k : ℕ) → p % span k ≡ 0 → p % 4096 ≡ 0
    low zero q = q
    low (suc k) q = low k (omega (arith, offset_suc k p))
