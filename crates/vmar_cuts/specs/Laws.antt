-- What the cuts of a region call are, in a space that passes its check, and what they do to the table. Document 01, 'Regions': "four free frames for each non-empty mapping it will
-- cut or drop, those in destroyed children included; otherwise 8"; README, demand 3: "Every address outside keeps its frame and rights; no address inside has a frame any more",
-- where inside is what a mapping held.
--
-- In this order: what a cut is a cut of, both ways, for unmap and for destroy; what is left of the table; the theorem.
use Rattle.std.specs.Prelude.{Err}
use Rattle.std.specs.Prelude.{ℕ, ◌+◌, ◌-◌, ◌*◌, ◌/◌, ◌≤◌, ◌<◌, ◌≡◌, true, List, [], ◌∷◌, ◌⊎◌}
use Rattle.paging.specs.Level.{Canonical}
use Rattle.form.specs.Form.{Good}
use Rattle.refusal.specs.declared.Refusal.TheVariants.{NotMapped}
use Rattle.table.specs.Table.{queried}
use Rattle.table_split.specs.Split.{Tables}
use Rattle.table_unmap_cont.specs.Demand.{free, answered}
use Rattle.space.specs.Space.{region_at, mapping_at, is_region, is_mapping}
use Rattle.space.specs.Passes.{Passes}
use Rattle.space.specs.declared.Space.{Space}
use Rattle.vmar_offset.specs.Offset.{mapping_meets}
use Rattle.vmar_doom.specs.Doomed.{Doomed}
use Rattle.table_cuts.specs.Cuts.{Cut, Among, cut_all, non_empty}
use Rattle.table_cuts.specs.Laws.{AllFit, AllCut}
use Rattle.vmar_cuts.specs.Cuts.{END, whole, part, unmap_cuts, destroy_cuts, PageRange}

-- c is the part in [b, e) of a live mapping of region r that meets it
pub record OwnPart (s : Space) (r b e : ℕ) (c : Cut) : Type 0 where
  pub slot : ℕ
  pub below : slot < 64
  pub live : is_mapping s slot ≡ true
  pub own : (mapping_at s slot).region ≡ r
  pub meets : mapping_meets (mapping_at s slot) r b (e - b) ≡ true
  pub is : c ≡ part (mapping_at s slot) b e

-- c is the whole of a live mapping whose region is one of these
pub record WholeOf (s : Space) (Of : ℕ → Type 0) (c : Cut) : Type 0 where
  pub slot : ℕ
  pub below : slot < 64
  pub live : is_mapping s slot ≡ true
  pub of : Of (mapping_at s slot).region
  pub is : c ≡ whole (mapping_at s slot)

-- [a, a + n) and [b, b + m) share no address
abbrev pub Off : ℕ → ℕ → ℕ → ℕ → Type 0
Off a n b m = (a + n ≤ b) ⊎ (b + m ≤ a)

-- no cut shares an address with a later one: each mapping is cut, and counted, once
pub data Distinct : List Cut → Type 0 where
  none : Distinct []
  next : {c : Cut} {cs : List Cut} → ((d : Cut) → Among d cs → Off c.addr c.len d.addr d.len) → Distinct cs → Distinct (c ∷ cs)

-- the regions that go with r, and r itself
abbrev pub Destroyed : Space → ℕ → ℕ → Type 0
Destroyed s r i = (i ≡ r) ⊎ Doomed s r 0 END i

-- the cuts of unmap and overwrite: "those in destroyed children included"
pub record UnmapCuts (s : Space) (r b e : ℕ) : Type 0 where
  -- each is a range that `unmap_cont` takes
  pub fits : AllFit (unmap_cuts s r b e)
  -- each cuts a mapping of r to its part in the range, or drops a mapping of a region that goes
  pub from : (c : Cut) → Among c (unmap_cuts s r b e) → OwnPart s r b e c ⊎ WholeOf s (Doomed s r b e) c
  -- and all such mappings are cut or dropped; an empty one need not be
  pub own : (i : ℕ) → i < 64 → is_mapping s i ≡ true → mapping_meets (mapping_at s i) r b (e - b) ≡ true → Among (part (mapping_at s i) b e) (unmap_cuts s r b e)
  pub doomed : (i : ℕ) → i < 64 → is_mapping s i ≡ true → 0 < (mapping_at s i).size → Doomed s r b e (mapping_at s i).region
      → Among (whole (mapping_at s i)) (unmap_cuts s r b e)
  -- each once
  pub once : Distinct (unmap_cuts s r b e)

-- the cuts of destroy and clear
pub record DestroyCuts (s : Space) (r : ℕ) : Type 0 where
  pub fits : AllFit (destroy_cuts s r)
  -- each drops a mapping of r or of a region that goes with it
  pub from : (c : Cut) → Among c (destroy_cuts s r) → WholeOf s (Destroyed s r) c
  -- and all such mappings are dropped; an empty one need not be
  pub to : (i : ℕ) → i < 64 → is_mapping s i ≡ true → 0 < (mapping_at s i).size → Destroyed s r (mapping_at s i).region → Among (whole (mapping_at s i)) (destroy_cuts s r)
  pub once : Distinct (destroy_cuts s r)
  -- every child goes, wherever it lies
  pub all : (i : ℕ) → i < 32 → is_region s i ≡ true → (region_at s i).parent ≡ r → Doomed s r 0 END i

-- v lies in the mapping in slot i
abbrev pub Lies : Space → ℕ → ℕ → Type 0
Lies s i v = (i < 64) × (is_mapping s i ≡ true) × ((mapping_at s i).addr ≤ v) × (v < (mapping_at s i).addr + (mapping_at s i).size)

-- t is what unmap and overwrite leave of the pool p
pub record UnmapLeaves (s : Space) (r b e : ℕ) (p : List ℕ) (base used : ℕ) (t : Tables) : Type 0 where
  pub all : AllCut p base used (unmap_cuts s r b e) t
  -- no page that was cut or dropped has a frame any more
  pub cut : (i v : ℕ) → Lies s i v → (mapping_at s i).region ≡ r → b ≤ v → v < e → queried t.pool (base / 4096) v ≡ Err NotMapped
  pub dropped : (i v : ℕ) → Lies s i v → Doomed s r b e (mapping_at s i).region → queried t.pool (base / 4096) v ≡ Err NotMapped
  -- every other address keeps its frame and rights
  pub kept : (v : ℕ) → Canonical 4 v → ((i : ℕ) → Lies s i v → (mapping_at s i).region ≡ r → b ≤ v → v < e → ⊥)
      → ((i : ℕ) → Lies s i v → Doomed s r b e (mapping_at s i).region → ⊥)
      → answered (queried t.pool (base / 4096) v) ≡ answered (queried p (base / 4096) v)

-- t is what destroy and clear leave
pub record DestroyLeaves (s : Space) (r : ℕ) (p : List ℕ) (base used : ℕ) (t : Tables) : Type 0 where
  pub all : AllCut p base used (destroy_cuts s r) t
  pub dropped : (i v : ℕ) → Lies s i v → Destroyed s r (mapping_at s i).region → queried t.pool (base / 4096) v ≡ Err NotMapped
  pub kept : (v : ℕ) → Canonical 4 v → ((i : ℕ) → Lies s i v → Destroyed s r (mapping_at s i).region → ⊥)
      → answered (queried t.pool (base / 4096) v) ≡ answered (queried p (base / 4096) v)

pub record RegionCutsHold : Type 0 where
  pub unmap : (s : Space) (flags : List ℕ) (r b e : ℕ) → Passes s flags → PageRange b e → UnmapCuts s r b e
  pub destroy : (s : Space) (flags : List ℕ) (r : ℕ) → Passes s flags → DestroyCuts s r
  -- with four free frames for each cut that is not empty, no cut is refused half-way, and:
  pub unmap_leaves : (s : Space) (flags : List ℕ) (r b e : ℕ) (p : List ℕ) (base used : ℕ) → Passes s flags → PageRange b e → Good p base used
      → 4 * non_empty (unmap_cuts s r b e) ≤ free p used → UnmapLeaves s r b e p base used (cut_all (base / 4096) (unmap_cuts s r b e) (record { pool = p; used = used }))
  pub destroy_leaves : (s : Space) (flags : List ℕ) (r : ℕ) (p : List ℕ) (base used : ℕ) → Passes s flags → Good p base used
      → 4 * non_empty (destroy_cuts s r) ≤ free p used → DestroyLeaves s r p base used (cut_all (base / 4096) (destroy_cuts s r) (record { pool = p; used = used }))
