-- The search over one list of parts, children or mappings: `takes_child` and `takes_mapping` of any part.
use Rattle.std.specs.Prelude.{ℕ, ◌+◌, ◌^◌, ◌<◌, ◌≤◌, ◌≡◌, Bool, List, length, get_or, ltb, Option, Some, None}
use Rattle.paging.specs.Choice.{pick}
use Rattle.scan.specs.Scan.{first}
use Rattle.space.specs.Space.{region_at}
use Rattle.space.specs.declared.Space.{Space}
use Rattle.vmar_offset.specs.Offset.{candidate, takes}

-- the part at place k of the list
abbrev pub part : {P : Type 0} → List P → List ℕ → P → ℕ → P
part parts list d k = get_or parts (get_or list k 0) d

-- each listed part has a slot, ends below 2^64 and, in region r, begins at its base or later
pub record EndsIn {P : Type 0} (owner addr size : P → ℕ) (parts : List P) (list : List ℕ) (r base : ℕ) : Type 0 where
  pub slot : (k : ℕ) → k < length list → get_or list k 0 < length parts
  pub end : (k : ℕ) (d : P) → k < length list → addr (part parts list d k) + size (part parts list d k) < 2 ^ 64
  pub after : (k : ℕ) (d : P) → k < length list → owner (part parts list d k) ≡ r → base ≤ addr (part parts list d k)

-- its end, and whether the search takes it
abbrev pub end_at : {P : Type 0} → (P → ℕ) → (P → ℕ) → List P → List ℕ → P → ℕ → ℕ → ℕ
end_at addr size parts list d base k = candidate base (addr (part parts list d k)) (size (part parts list d k))

abbrev pub takes_at : {P : Type 0} → (P → ℕ) → (P → ℕ) → (P → ℕ) → List P → List ℕ → P → Space → ℕ → ℕ → ℕ → ℕ → Bool
takes_at owner addr size parts list d s r len align k = takes s r len align (owner (part parts list d k)) (end_at addr size parts list d (region_at s r).addr k)

-- the end at place k, where there is one
abbrev pub end_there : {P : Type 0} → (P → ℕ) → (P → ℕ) → List P → List ℕ → P → ℕ → ℕ → Option ℕ
end_there addr size parts list d base k = pick (ltb k (length list)) (Some (end_at addr size parts list d base k)) None

-- the first end that it takes
abbrev pub first_end : {P : Type 0} → (P → ℕ) → (P → ℕ) → (P → ℕ) → List P → List ℕ → P → Space → ℕ → ℕ → ℕ → Option ℕ
first_end owner addr size parts list d s r len align =
    end_there addr size parts list d (region_at s r).addr (first (takes_at owner addr size parts list d s r len align) 0 (length list))
