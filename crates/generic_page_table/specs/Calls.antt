-- The range calls, whole: every refusal in document 01's order ("13, .. unknown flag bits (1), 15, then the added argument tests for table calls (1), then
-- the Rust's own order"), then the call on a well-formed table; last, the promises, where 13 goes by whether the pool is Good.
use Rattle.std.specs.Prelude.{ℕ, ◌/◌, List, [], ◌∷◌, Err, Ok, Result}
use Rattle.paging.specs.Choice.{pick, Answered}
use Rattle.common.specs.Flags.{known_page}
use Rattle.form.specs.Form.{Good}
use Rattle.refusal.specs.declared.Refusal.{Refusal}
use Rattle.refusal.specs.declared.Refusal.TheVariants.{InvalidArgs, BadAddress}
use Rattle.refusal.specs.Reply.{Reply, success, refusal, Told, refused}
use Rattle.table_map.specs.Map.{Mapping}
use Rattle.table_map_cont.specs.MapCont.{map_cont}
use Rattle.table_unmap_cont.specs.UnmapCont.{unmap_cont, ContUnmapping}
use Rattle.page_table.specs.Calls.{map_refused}
use Rattle.page_table.specs.Replies.{map_told}
use Rattle.generic_page_table.specs.Rules.{range_in_rule, page_aligned, physical_fits}

abbrev pub map_cont_call : List ℕ → ℕ → ℕ → ℕ → ℕ → ℕ → ℕ → Mapping
map_cont_call p base used v n pa f =
    pick (known_page f)
    (pick (range_in_rule v n)
    (pick (page_aligned v n) (pick (physical_fits pa n) (map_cont p (base / 4096) used v n pa f) (map_refused p InvalidArgs)) (map_refused p InvalidArgs))
    (map_refused p BadAddress))
    (map_refused p InvalidArgs)

-- a refused call changes no word
abbrev pub unmap_cont_refused : List ℕ → Refusal → ContUnmapping
unmap_cont_refused p r = record { result = Err r; pool = p }

abbrev pub unmap_cont_call : List ℕ → ℕ → ℕ → ℕ → ℕ → ContUnmapping
unmap_cont_call p base used v n =
    pick (range_in_rule v n)
    (pick (page_aligned v n) (unmap_cont p (base / 4096) used v n) (unmap_cont_refused p InvalidArgs))
    (unmap_cont_refused p BadAddress)

-- document 01's number and value: the frames taken
abbrev pub unmap_cont_reply : Result ℕ Refusal → Reply
unmap_cont_reply (Ok n) = success (n ∷ [])
unmap_cont_reply (Err r) = refusal r

-- that reply, and the pool afterwards
abbrev pub unmap_cont_told : ContUnmapping → Told (List ℕ)
unmap_cont_told o = record { reply = unmap_cont_reply o.result; after = o.pool }

-- The promises: an outcome fits where the pool is good and it tells what the call does, or the pool is not and it tells 13. `map_cont` tells what a single map does
-- (page_table/specs/Replies, `map_told`).
module _ (p : List ℕ) (base used : ℕ) where
  abbrev pub MapContFits : ℕ → ℕ → ℕ → ℕ → Mapping → Type 0
  MapContFits v n pa f o = Answered (Good p base used) (refused 13 (p, used)) (map_told used (map_cont_call p base used v n pa f)) (map_told used o)

  abbrev pub UnmapContFits : ℕ → ℕ → ContUnmapping → Type 0
  UnmapContFits v n o = Answered (Good p base used) (refused 13 p) (unmap_cont_told (unmap_cont_call p base used v n)) (unmap_cont_told o)
