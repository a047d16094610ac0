-- How the form is tested, each taken frame having one turn. A frame that an entry reached has a rank, one more than its level, and
-- one that none has reached yet has rank 0. The root has rank 4. The frames of rank 4 are read first, then those of 3, 2 and 1: a table
-- entry gives the frame that it reaches the next lower rank, so each frame is ranked before its turn comes.
--
--     rank        4         3         2         1         0
--     level       3         2         1         0      not reached
--     read     first ------------------------> last      never
--
-- In this order: which words have been read, what is known of them, the answer of a part of the sweep, what one word does, and the end.
use Rattle.std.specs.Prelude.{ℕ, suc, ◌+◌, ◌-◌, ◌*◌, ◌≤◌, ◌<◌, ◌≡◌, ◌⊎◌, Bool, true, false, List, length, get_or, set}
use Rattle.paging.specs.Format.{table, Entry}
use Rattle.x86_64.specs.Entry.{x86}
use Rattle.pool.specs.Pool.{word}
use Rattle.form.specs.Form.{WellFormed}

-- Place j of frame g has been read when the turn of rank r has come to word n of the pool: its frame ranks higher, or ranks r and the
-- word stands before n.
pub record Read (at : List ℕ) (r n g j : ℕ) : Type 0 where
  pub high : r ≤ get_or at g 0
  pub before : get_or at g 0 ≡ r → g * 512 + j < n

-- The frame m that the table entry at place j of frame g reaches: taken, not the root, one rank lower, and reached from there.
pub record Child (par_n par_k : ℕ → ℕ) (b used : ℕ) (at : List ℕ) (g j m : ℕ) : Type 0 where
  pub h : ℕ
  pub is : m ≡ b + h
  pub positive : 0 < h
  pub taken : h < used
  pub lower : get_or at g 0 ≡ suc (get_or at h 0)
  pub ranked : 0 < get_or at h 0
  pub frame : par_n h ≡ g
  pub place : par_k h ≡ j

-- What is known when the turn of rank r has come to word n. Each reached frame but the root was reached from place par_k of frame par_n.
pub record Sweep (p : List ℕ) (b used : ℕ) (at : List ℕ) (r n : ℕ) : Type 0 where
  pub par_n : ℕ → ℕ
  pub par_k : ℕ → ℕ
  pub long : length at ≡ 1024
  pub root : get_or at 0 0 ≡ 4
  -- what was read are entries of their levels, and each table among them reached its frame
  pub entries : (g j : ℕ) → g < used → j < 512 → Read at r n g j → Entry x86 (get_or at g 0 - 1) (word p g j)
  pub down : (g j m : ℕ) → g < used → j < 512 → Read at r n g j → x86.kind (get_or at g 0 - 1) (word p g j) ≡ table m
      → Child par_n par_k b used at g j m
  -- what was reached was reached from a word that was read
  pub up : (h : ℕ) → h < used → 0 < h → 0 < get_or at h 0
      → (par_n h < used) × (par_k h < 512) × Read at r n (par_n h) (par_k h)
      × (x86.kind (get_or at (par_n h) 0 - 1) (word p (par_n h) (par_k h)) ≡ table (b + h))
  -- no other ranks would do: a well-formed pool has these levels
  pub forced : (F : WellFormed p b used) (h : ℕ) → h < used → 0 < get_or at h 0 → get_or at h 0 ≡ suc (F.lev (b + h))

-- where it may go on, what is known there; else the pool is not well formed
pub data Swept (p : List ℕ) (b used : ℕ) (at : List ℕ) (r n : ℕ) : Bool → Type 0 where
  goes : Sweep p b used at r n → Swept p b used at r n true
  stops : (WellFormed p b used → ⊥) → Swept p b used at r n false

-- What one word of a frame of rank r does to the ranks, and whether it may stand there.
pub data Step (b used r w : ℕ) (at : List ℕ) : List ℕ → Bool → Type 0 where
  plain : Entry x86 (r - 1) w → ((m : ℕ) → x86.kind (r - 1) w ≡ table m → ⊥) → Step b used r w at at true
  ranks : (h : ℕ) → Entry x86 (r - 1) w → x86.kind (r - 1) w ≡ table (b + h) → 0 < h → h < used → get_or at h 0 ≡ 0
      → Step b used r w at (set at h (r - 1)) true
  foreign : (Entry x86 (r - 1) w → ⊥) → Step b used r w at at false
  outside : (m : ℕ) → x86.kind (r - 1) w ≡ table m → (m ≤ b) ⊎ (b + used ≤ m) → Step b used r w at at false
  again : (h : ℕ) → x86.kind (r - 1) w ≡ table (b + h) → 0 < h → h < used → (get_or at h 0 ≡ 0 → ⊥) → Step b used r w at at false

-- at the end no taken frame is left at rank 0
abbrev pub AllReached : List ℕ → ℕ → Type 0
AllReached at used = (g : ℕ) → g < used → 0 < get_or at g 0
