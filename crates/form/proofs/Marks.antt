-- What one word does, by the tests that the code makes of it.
use Rattle.std.proofs.Common.{ℕ, ◌+◌, ◌-◌, ◌*◌, ◌/◌, ◌%◌, ◌≤◌, ◌<◌, ◌≡◌, sym, ap, ◌∙◌, subst, inl, inr, List, true, false, arith, get_or, set}
use Rattle.paging.specs.Format.{table, Entry, blank}
use Rattle.x86_64.specs.Entry.{frame_of, addr_of, is_leaf, x86}
use Rattle.form.specs.Sure.{Plain, Sure}
use Rattle.form.specs.Sweep.{Step, plain, ranks, outside, again}
use Rattle.form.proofs.Words.{zero_plain, leaf_pos, leaf_plain, table_of}

-- the number of a frame by its distance from the base
module _ (m base : ℕ) (page : base % 4096 ≡ 0) (above : base < m * 4096) where
  distance : m ≡ base / 4096 + (m * 4096 - base) / 4096
  distance = omega arith

  distance_pos : 0 < (m * 4096 - base) / 4096
  distance_pos = omega arith

module _ {at : List ℕ} {b used r w : ℕ} where
  pub by_zero : w ≡ 0 → Step b used r w at at true
  by_zero e = plain (blank e) (λ m. zero_plain (r - 1) w m e)

  pub by_leaf_lem : 0 < w → Entry x86 (r - 1) w → is_leaf w ≡ true → Step b used r w at at true
  by_leaf_lem i x l = plain x (λ m. leaf_plain (r - 1) w m i l)

  -- what is told at once
  pub by_plain : {mask tag : ℕ} → Sure (r - 1) mask tag → Plain mask tag w → Step b used r w at at true
  by_plain s (inl e) = by_zero e
  by_plain s (inr t) = let q = s.leaves w t in by_leaf_lem (leaf_pos w q.1) q.0 q.1

-- a table entry to the frame at address a
pub record Table (base r w a : ℕ) : Type 0 where
  pub positive : 0 < w
  pub entry : Entry x86 (r - 1) w
  pub no_leaf : is_leaf w ≡ false
  pub addr : a ≡ addr_of w
  pub page : base % 4096 ≡ 0

module _ {base r w a : ℕ} (t : Table base r w a) where
  kind : x86.kind (r - 1) w ≡ table (frame_of w)
  kind = table_of (r - 1) w t.positive t.no_leaf t.entry

  -- the root, or below the pool
  pub by_low : {at : List ℕ} {used : ℕ} → a ≤ base → Step (base / 4096) used r w at at false
  by_low h = outside (frame_of w) kind (inl (low (frame_of w) t.addr))
    where
      low : (m : ℕ) → a ≡ m * 4096 → m ≤ base / 4096
      low m q = omega arith

  module _ (h : base < a) where
    away : (frame_of w ≡ base / 4096 + (a - base) / 4096) × (0 < (a - base) / 4096)
    away =
        let q : base < frame_of w * 4096 = subst (λ (y : ℕ). base < y) t.addr h in
        subst (λ (y : ℕ). (frame_of w ≡ base / 4096 + (y - base) / 4096) × (0 < (y - base) / 4096)) (sym t.addr)
        (distance (frame_of w) base t.page q, distance_pos (frame_of w) base t.page q)

    to : x86.kind (r - 1) w ≡ table (base / 4096 + (a - base) / 4096)
    to = kind ∙ ap table away.0

    pub by_high : {at : List ℕ} {used : ℕ} → used ≤ (a - base) / 4096 → Step (base / 4096) used r w at at false
    by_high q = outside (base / 4096 + (a - base) / 4096) to (inr (omega arith))

    pub by_again : {at : List ℕ} {used : ℕ} → (a - base) / 4096 < used → (get_or at ((a - base) / 4096) 0 ≡ 0 → ⊥)
        → Step (base / 4096) used r w at at false
    by_again q nz = again ((a - base) / 4096) to away.1 q nz

    pub by_rank : {at : List ℕ} {used : ℕ} → (a - base) / 4096 < used → get_or at ((a - base) / 4096) 0 ≡ 0
        → Step (base / 4096) used r w at (set at ((a - base) / 4096) (r - 1)) true
    by_rank q z = ranks ((a - base) / 4096) t.entry to away.1 q z
