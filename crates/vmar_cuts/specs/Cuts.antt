-- Which ranges of the table a region call cuts, in the Rust's order. `unmap_inner` cuts the region's own mappings in the order of their list, then destroys the children within the
-- range; `destroy_internal` and `clear` destroy all children first, then drop the own mappings. Document 01, 'Regions': "Ranges are half-open for overlap", "Lists keep the Rust's
-- order"; "four free frames for each non-empty mapping it will cut or drop, those in destroyed children included".
--
--     unmap [b, e) of r                                              destroy r
--     parts of r's mappings | child 1 within [b, e) | child 2 ..     child 1 | child 2 .. | r's mappings, whole
--                             each as on the right
use Rattle.std.specs.Prelude.{ℕ, zero, suc, ◌+◌, ◌-◌, ◌%◌, ◌≤◌, min, max, ◌≡◌, List, [], ◌∷◌, ◌++◌}
use Rattle.paging.specs.Choice.{pick}
use Rattle.space.specs.Space.{region_at, mapping_at, region_place, mapping_place}
use Rattle.space.specs.declared.Mapping.{Mapping}
use Rattle.space.specs.declared.Space.{Space}
use Rattle.vmar_offset.specs.Offset.{mapping_meets}
use Rattle.vmar_doom.specs.Doomed.{is_child_in}
use Rattle.table_cuts.specs.Cuts.{Cut}

-- the end of every address: a multiple of 4096 that no region and no mapping reaches past
abbrev pub END : ℕ
END = 0xfffffffffffff000

-- what f gives at the n places from k on, one after another
unfoldable pub collect : (ℕ → List Cut) → ℕ → ℕ → List Cut
collect f k zero = []
collect f k (suc n) = f k ++ collect f (k + 1) n

-- the whole mapping, and its part in [b, e)
abbrev pub whole : Mapping → Cut
whole m = record { addr = m.addr; len = m.size }

unfoldable pub part : Mapping → ℕ → ℕ → Cut
part m b e = record { addr = max m.addr b; len = min (m.addr + m.size) e - max m.addr b }

-- the part of a mapping of r that meets the range; an empty one strictly inside gives an empty cut, which changes nothing
unfoldable pub part_of : Mapping → ℕ → ℕ → ℕ → List Cut
part_of m r b e = pick (mapping_meets m r b (e - b)) (part m b e ∷ []) []

-- the mapping at place k of the list, and all
abbrev pub part_at : Space → ℕ → ℕ → ℕ → ℕ → List Cut
part_at s r b e k = part_of (mapping_at s (mapping_place s k)) r b e

abbrev pub parts : Space → ℕ → ℕ → ℕ → List Cut
parts s r b e = collect (part_at s r b e) 0 s.mapcount

-- the region at place k, if it is a child of r within the range: what is below it, and then its mappings
unfoldable pub child_at : Space → (ℕ → List Cut) → ℕ → ℕ → ℕ → ℕ → List Cut
child_at s deeper r b e k = let i = region_place s k in pick (is_child_in (region_at s i) r b e) (deeper i ++ parts s i 0 END) []

-- the children of r within the range, with so much depth left
unfoldable pub children : Space → ℕ → ℕ → ℕ → ℕ → List Cut
children s zero r b e = []
children s (suc d) r b e = collect (child_at s (λ i. children s d i 0 END) r b e) 0 s.regcount

-- the order of unmap and overwrite
abbrev pub unmap_cuts : Space → ℕ → ℕ → ℕ → List Cut
unmap_cuts s r b e = parts s r b e ++ children s 32 r b e

-- the order of destroy and clear
abbrev pub destroy_cuts : Space → ℕ → List Cut
destroy_cuts s r = children s 32 r 0 END ++ parts s r 0 END

-- a range that a call cuts: whole pages
pub record PageRange (b e : ℕ) : Type 0 where
  pub order : b ≤ e
  pub begin : b % 4096 ≡ 0
  pub end : e % 4096 ≡ 0
