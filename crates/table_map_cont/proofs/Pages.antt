-- Addresses and pages: what stands in a page, where two addresses part, and how a range goes on after its first page. Over the level.
use Prim.Native.Nat.{ℕ, zero, suc, ◌+◌, ◌-◌, ◌*◌, ◌/◌, ◌%◌, ◌^◌, ◌≤◌, ◌<◌}
use mathlib.Core.Path.{◌≡◌, sym, ap, ◌∙◌}
use mathlib.Core.Logic.{◌⊎◌, inl, inr, ⊎_elim}
use native.Mathlib.Omega.{arith}
use native.Mathlib.Nat.{div-add-mod', div-eq_of_lt-le, mod-lt, mod_self, add-mul}
use Rattle.paging.specs.Level.{span, half, Canonical, Within}
use Rattle.paging.proofs.Cases.{same?, below?}
use Rattle.paging.proofs.Levels.{span_pos, page_of}
use Rattle.paging.proofs.Changes.{near_above}
use Rattle.table_map_cont.specs.MapCont.{Range}
use Rattle.table_map_cont.specs.Count.{begins}
use Rattle.table_map_cont.proofs.Heights.{Fits, begins_low, begins_aligned, begins_above}

-- a page is one or more of 4 KiB
pub span_page : (t : ℕ) → (4096 ≤ span t) × (span t % 4096 ≡ 0)
span_page t =
    let e : span t ≡ span t / 4096 * 4096 = page_of t (span t) (mod_self (span t)) in
    (omega (arith, span_pos t), omega arith)

-- blocks of m bytes
module _ (m : ℕ) (pos : 0 < m) where
  -- an address between two of one block is of that block
  pub between : (a v c : ℕ) → a ≤ v → v ≤ c → c / m ≡ a / m → c / m ≡ v / m
  between a v c h g e =
      let low : c / m * m ≤ v = omega (arith, div-add-mod' a m, ap (λ (q : ℕ). q * m) e) in
      let high : v < (c / m + 1) * m = omega (arith, div-add-mod' c m, mod-lt c pos, add-mul (c / m) 1 m) in
      sym (div-eq_of_lt-le m low high)

  -- the byte before an address that begins no block is of the same
  pub byte_before : (v : ℕ) → (v % m ≡ 0 → ⊥) → v / m ≡ (v - 1) / m
  byte_before v ne =
      let r : 0 < v % m = ⊎_elim (λ h. h) (λ h. absurd (ne (omega arith))) (below? 0 (v % m)) in
      let low : v / m * m ≤ v - 1 = omega (arith, div-add-mod' v m) in
      let high : v - 1 < (v / m + 1) * m = omega (arith, div-add-mod' v m, mod-lt v pos, add-mul (v / m) 1 m) in
      sym (div-eq_of_lt-le m low high)

  -- v begins one
  module _ (v : ℕ) (e : v % m ≡ 0) where
    pub in_block : (x : ℕ) → v ≤ x → x < v + m → (x / m ≡ v / m) × (x % m ≡ x - v)
    in_block x h g =
        let low : v / m * m ≤ x = omega (arith, div-add-mod' v m) in
        let high : x < (v / m + 1) * m = omega (arith, div-add-mod' v m, add-mul (v / m) 1 m) in
        let q : x / m ≡ v / m = div-eq_of_lt-le m low high in
        (q, omega (arith, div-add-mod' x m, div-add-mod' v m, ap (λ (k : ℕ). k * m) q))

    pub off_block : (x : ℕ) → (x < v) ⊎ (v + m ≤ x) → x / m ≡ v / m → ⊥
    off_block x (inl h) q = omega (arith, div-add-mod' x m, div-add-mod' v m, ap (λ (k : ℕ). k * m) q)
    off_block x (inr h) q = omega (arith, div-add-mod' x m, div-add-mod' v m, mod-lt x pos, ap (λ (k : ℕ). k * m) q)

-- in one entry of level l, in one of each level above
pub above : (l m x v : ℕ) → l ≤ m → x / span l ≡ v / span l → x / span m ≡ v / span m
above l m x v h e = let q : l + (m - l) ≡ m = omega arith in rw q at (near_above l (m - l) x v e)

-- two addresses part at level d: in one entry of the level above, in different ones at d
pub record Part (v x d : ℕ) : Type 0 where
  pub low : d ≤ 3
  pub apart : x / span d ≡ v / span d → ⊥
  pub joined : x / span (suc d) ≡ v / span (suc d)

-- two of one half in different entries of level 3 - k part somewhere from there on
parts : (k v x : ℕ) → k ≤ 3 → x / span 4 ≡ v / span 4 → (x / span (3 - k) ≡ v / span (3 - k) → ⊥) → (d : ℕ) × Part v x d
parts zero v x h top ne = (3, record { low = omega arith; apart = ne; joined = top })
parts (suc k) v x h top ne = ⊎_elim
    (λ (q : x / span (3 - k) ≡ v / span (3 - k)).
    let z : 3 - k ≡ suc (3 - suc k) = omega arith in
    (3 - suc k, record { low = omega arith; apart = ne; joined = rw z at q }))
    (λ n. parts k v x (omega arith) top n)
    (same? (x / span (3 - k)) (v / span (3 - k)))

pub part_of_lem : (v x : ℕ) → x / span 4 ≡ v / span 4 → (x / span 0 ≡ v / span 0 → ⊥) → (d : ℕ) × Part v x d
part_of_lem v x top ne = parts 3 v x (omega arith) top ne

-- where x parts from a page's last byte it parts from its first, and not below the page's level
pub part_page : (t v x d : ℕ) → v % span t ≡ 0 → v + span t ≤ x → Part (v + span t - 1) x d → Part v x d × (t ≤ d)
part_page t v x d e g P = ⊎_elim (λ (h : d < t). absurd (low h)) (λ (h : t ≤ d). (record { low = P.low; apart = λ q. P.apart (q ∙ sym (above t d (v + span t - 1) v h last)); joined = P.joined ∙ above t (suc d) (v + span t - 1) v (omega arith) last }, h)) (below? d t)
  where
    last : (v + span t - 1) / span t ≡ v / span t
    last = (in_block (span t) (span_pos t) v e (v + span t - 1) (omega (arith, span_pos t)) (omega (arith, span_pos t))).0

    low : d < t → ⊥
    low h = off_block (span t) (span_pos t) v e x (inr g) (above (suc d) t x (v + span t - 1) h P.joined ∙ last)

-- of two addresses up to x the nearer one parts from it no higher
pub part_near : (y v x d d' : ℕ) → y ≤ v → v ≤ x → Part v x d → Part y x d' → d ≤ d'
part_near y v x d d' h g P Q = ⊎_elim
    (λ (a : d' < d). absurd (P.apart (between (span d) (span_pos d) y v x h g (above (suc d') d x y a Q.joined))))
    (λ (a : d ≤ d'). a)
    (below? d' d)

-- an address parts from the byte before it at the level at which it begins an entry
pub part_begins : (v : ℕ) → 0 < v → v % 4096 ≡ 0 → v / span 4 ≡ (v - 1) / span 4 → Part (v - 1) v (begins v)
part_begins v h e top = record {
  low = begins_low v;
  apart = λ q. off_block (span (begins v)) (span_pos (begins v)) v (begins_aligned v e) (v - 1) (inl (omega arith)) (sym q);
  joined = ⊎_elim
      (λ (q : begins v ≡ 3). rw q top)
      (λ ne. byte_before (span (suc (begins v))) (span_pos (suc (begins v))) v (begins_above v (suc (begins v)) (omega (arith, lower ne)) (omega arith)))
      (same? (begins v) 3);
}
  where
    lower : (begins v ≡ 3 → ⊥) → begins v < 3
    lower ne = ⊎_elim (λ r. r) (λ r. absurd (ne (omega (arith, begins_low v)))) (below? (begins v) 3)

-- and so not below a level at which it is aligned
pub part_aligned : (t v d : ℕ) → v % span t ≡ 0 → 0 < v → Part (v - 1) v d → t ≤ d
part_aligned t v d e h P = ⊎_elim
    (λ (a : d < t). absurd (off_block (span t) (span_pos t) v e (v - 1) (inl (omega arith)) (sym (above (suc d) t v (v - 1) a P.joined))))
    (λ (a : t ≤ d). a)
    (below? d t)

-- the addresses of a range are of one half
pub canonical : (a e x : ℕ) → Within 4 a e → a ≤ x → x < e → Canonical 4 x
canonical a e x (h, inl y) g k = inl (omega arith)
canonical a e x (h, inr y) g k = inr (omega (arith, y.0), omega (arith, y.1))

pub one_half : (a e x y : ℕ) → Within 4 a e → a ≤ x → x ≤ e → a ≤ y → y ≤ e → x / span 4 ≡ y / span 4
one_half a e x y (h, inl z) g k i j = omega arith
one_half a e x y (h, inr z) g k i j = omega (arith, z.0, z.1)

-- what is left of a range after a page
pub range_on : (top v pa n t : ℕ) → Range v n pa → Fits top v pa n t → Range (v + span t) (n - span t) (pa + span t)
range_on top v pa n t R F =
    let s = span_page t in
    record {
      within = (omega arith, sides R.within.1);
      start = omega (arith, R.start);
      size = omega (arith, R.size, F.room);
      physical = omega (arith, R.physical, F.room);
    }
  where
    sides : (v + n ≤ half 4) ⊎ ((2 ^ 64 - half 4 ≤ v) × (v + n < 2 ^ 64))
        → (v + span t + (n - span t) ≤ half 4) ⊎ ((2 ^ 64 - half 4 ≤ v + span t) × (v + span t + (n - span t) < 2 ^ 64))
    sides (inl h) = inl (omega (arith, F.room))
    sides (inr h) = inr (omega (arith, h.0), omega (arith, h.1, F.room))

pub range_below : (v n pa : ℕ) → Range v n pa → v + n < 2 ^ 64
range_below v n pa R = ⊎_elim (λ h. omega arith) (λ h. h.1) R.within.1
