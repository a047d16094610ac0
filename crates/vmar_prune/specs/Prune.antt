-- A space after [b, e) was cut out of region r: the doomed regions are gone and with them their mappings; the mappings of r keep what lies outside, empty ones are
-- dropped; lists keep their order. The second part of a middle cut takes the lowest slot that was free before the call and the end of the list; "any accepted unmap drops all
-- empty mappings of its region"; "Slots of destroyed regions and dropped mappings are used again"; "free slots blank".
use Rattle.std.specs.Prelude.{ℕ, zero, suc, ◌+◌, Bool, false, not, List, eqb, ltb, get_or, set, replicate}
use Rattle.paging.specs.Choice.{pick}
use Rattle.scan.specs.Scan.{first}
use Rattle.space.specs.Space.{blank_region, blank_mapping, mapping_at, with_mapping}
use Rattle.space.specs.declared.Region.{Region}
use Rattle.space.specs.declared.Mapping.{Mapping}
use Rattle.space.specs.declared.Space.{Space}
use Rattle.vmar_offset.specs.Offset.{free_mapping}
use Rattle.vmar_prune.specs.Piece.{after, right, piece, is_split, retained, handed}

-- what slot i holds afterwards; `marks` tells the doomed regions
abbrev pub kept_region : List Bool → ℕ → Region → Region
kept_region marks i g = pick (get_or marks i false) blank_region g

unfoldable pub kept_mapping : List Bool → ℕ → ℕ → ℕ → Mapping → Mapping
kept_mapping marks r b e m = pick (get_or marks m.region false) blank_mapping (pick (eqb m.region r) (piece m b e) m)

-- the first n slots changed so
unfoldable pub regions_to : List Bool → List Region → ℕ → List Region
regions_to marks l zero = l
regions_to marks l (suc i) = set (regions_to marks l i) i (kept_region marks i (get_or l i blank_region))

unfoldable pub mappings_to : List Bool → ℕ → ℕ → ℕ → List Mapping → ℕ → List Mapping
mappings_to marks r b e l zero = l
mappings_to marks r b e l (suc i) = set (mappings_to marks r b e l i) i (kept_mapping marks r b e (get_or l i blank_mapping))

-- a list of slots and how many of its places count
pub record Packed : Type 0 where
  pub list : List ℕ
  pub count : ℕ

-- the slots of the first n places that are kept, in their order
unfoldable pub packed : (ℕ → Bool) → List ℕ → List ℕ → ℕ → Packed
packed keeps blank list zero = record { list = blank; count = 0 }
packed keeps blank list (suc k) =
    let q = packed keeps blank list k in
    let x = get_or list k 0 in
    pick (keeps x) (record { list = set q.list q.count x; count = q.count + 1 }) q

abbrev pub kept_slots : List Bool → ℕ → Bool
kept_slots marks i = not (get_or marks i false)

abbrev pub live_slots : List Mapping → ℕ → Bool
live_slots l i = (get_or l i blank_mapping).live

-- the space without what goes; a split's second part is not there yet
unfoldable pub pruned : Space → List Bool → ℕ → ℕ → ℕ → Space
pruned s marks r b e =
    let maps = mappings_to marks r b e s.mappings 64 in
    let regs = packed (kept_slots marks) (replicate 32 0) s.reglist s.regcount in
    let list = packed (live_slots maps) (replicate 64 0) s.maplist s.mapcount in
    record {
      regions = regions_to marks s.regions 32;
      mappings = maps;
      reglist = regs.list;
      regcount = regs.count;
      maplist = list.list;
      mapcount = list.count;
      nextid = s.nextid;
    }

-- the slot of the mapping that is split, 64 where none is; "no two of a region overlap", so that there is one at most
unfoldable pub splits : Mapping → ℕ → ℕ → ℕ → Bool
splits m r b e = pick m.live (pick (eqb m.region r) (is_split m b e) false) false

abbrev pub split_at : Space → ℕ → ℕ → ℕ → ℕ → Bool
split_at s r b e i = splits (mapping_at s i) r b e

abbrev pub split_slot : Space → ℕ → ℕ → ℕ → ℕ
split_slot s r b e = first (split_at s r b e) 0 64

-- the second part, in the slot that was free before the call
abbrev pub second_part : Space → ℕ → ℕ → Mapping
second_part s e i = right (mapping_at s i) (after (mapping_at s i) e)

-- the whole space
unfoldable pub cut_space : Space → List Bool → ℕ → ℕ → ℕ → Space
cut_space s marks r b e =
    pick (ltb (split_slot s r b e) 64) (with_mapping (pruned s marks r b e) (free_mapping s) (second_part s e (split_slot s r b e))) (pruned s marks r b e)

-- the flags of the first n slots as their mappings keep them
unfoldable pub retained_to : List Mapping → List Mapping → List ℕ → ℕ → List ℕ
retained_to old new f zero = f
retained_to old new f (suc i) = retained (get_or old i blank_mapping) (get_or new i blank_mapping) (retained_to old new f i) i

-- the second part's flags are handed over before its first part is trimmed
unfoldable pub handed_over : Space → List ℕ → ℕ → ℕ → ℕ → List ℕ
handed_over s f r b e =
    let i = split_slot s r b e in
    pick (ltb i 64) (handed (mapping_at s i) (after (mapping_at s i) e) f i (free_mapping s)) f

abbrev pub cut_flags : Space → List ℕ → List Bool → ℕ → ℕ → ℕ → List ℕ
cut_flags s f marks r b e = retained_to s.mappings (mappings_to marks r b e s.mappings 64) (handed_over s f r b e) 64
