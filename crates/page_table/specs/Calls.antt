-- The four table calls, whole: every refusal in document 01's order ("13, .. unknown flag bits (1), 15, then the added argument tests for table
-- calls (1), then the Rust's own order"), then the call on a well-formed table; last, the promises, where 13 goes by whether the pool is Good.
use Rattle.std.specs.Prelude.{ℕ, ◌-◌, ◌/◌, ◌^◌, Bool, true, false, List, leb, ltb, Err, None, Option, Result, Some}
use Rattle.paging.specs.Choice.{pick, Answered}
use Rattle.common.specs.Flags.{known_page}
use Rattle.common.specs.Page.{size_of, aligned}
use Rattle.common.specs.declared.vm.PageSize.{PageSize}
use Rattle.form.specs.Form.{Good}
use Rattle.refusal.specs.declared.Refusal.{Refusal}
use Rattle.refusal.specs.declared.Refusal.TheVariants.{InvalidArgs, BadAddress}
use Rattle.refusal.specs.Reply.{refusing, refused}
use Rattle.table.specs.Table.{queried, unmapped, Unmapping, updated, Updating}
use Rattle.table_map.specs.Map.{mapped, Mapping}
use Rattle.page_table.specs.Replies.{query_reply, unmap_told, update_told, map_told}
use Rattle.common.specs.declared.defs.MMUFlags.{MMUFlags}

-- "a single address, the leaf at it .. lies in [0, 2^47) or in [0xffff800000000000, 0xffffffffc0000000)"
abbrev pub in_rule : ℕ → Bool
in_rule v = pick (ltb v (2 ^ 47)) true (pick (ltb v 0xffff800000000000) false (ltb v 0xffffffffc0000000))

-- "A physical address plus its size above 2^52 is 1. So is a single map whose address is no multiple of its page size."
abbrev pub placed : ℕ → ℕ → PageSize → Bool
placed v pa s = pick (aligned s v) (leb pa (2 ^ 52 - size_of s)) false

-- flags that are given are known
abbrev pub known_new : Option MMUFlags → Bool
known_new (Some f) = known_page f.0
known_new None = true

abbrev pub query_refused : Refusal → Result (ℕ × MMUFlags × PageSize) Refusal
query_refused r = Err r

abbrev pub query_call : List ℕ → ℕ → ℕ → Result (ℕ × MMUFlags × PageSize) Refusal
query_call p base v = pick (in_rule v) (queried p (base / 4096) v) (query_refused BadAddress)

-- a refused call changes no word
abbrev pub unmap_refused : List ℕ → Refusal → Unmapping
unmap_refused p r = record { result = Err r; pool = p }

abbrev pub unmap_call : List ℕ → ℕ → ℕ → Unmapping
unmap_call p base v = pick (in_rule v) (unmapped p (base / 4096) v) (unmap_refused p BadAddress)

abbrev pub update_refused : List ℕ → Refusal → Updating
update_refused p r = record { result = Err r; pool = p }

abbrev pub update_call : List ℕ → ℕ → ℕ → Option ℕ → Option MMUFlags → Updating
update_call p base v n f = pick (known_new f) (pick (in_rule v) (updated p (base / 4096) v n f) (update_refused p BadAddress)) (update_refused p InvalidArgs)

abbrev pub map_refused : List ℕ → Refusal → Mapping
map_refused p r = record { result = Err r; pool = p }

abbrev pub map_call : List ℕ → ℕ → ℕ → ℕ → ℕ → PageSize → ℕ → Mapping
map_call p base used v pa s f =
    pick (known_page f)
    (pick (in_rule v) (pick (placed v pa s) (mapped p (base / 4096) used v pa s f) (map_refused p InvalidArgs)) (map_refused p BadAddress))
    (map_refused p InvalidArgs)

-- The promises: an outcome fits where the pool is good and it tells what the call does, or the pool is not and it tells 13. Where `query` is concerned that is
-- its reply alone, since the pool is lent to be read.
module _ (p : List ℕ) (base used : ℕ) where
  abbrev pub QueryFits : ℕ → Result (ℕ × MMUFlags × PageSize) Refusal → Type 0
  QueryFits v o = Answered (Good p base used) (refusing 13) (query_reply (query_call p base v)) (query_reply o)

  abbrev pub UnmapFits : ℕ → Unmapping → Type 0
  UnmapFits v o = Answered (Good p base used) (refused 13 p) (unmap_told (unmap_call p base v)) (unmap_told o)

  abbrev pub UpdateFits : ℕ → Option ℕ → Option MMUFlags → Updating → Type 0
  UpdateFits v n f o = Answered (Good p base used) (refused 13 p) (update_told (update_call p base v n f)) (update_told o)

  abbrev pub MapFits : ℕ → ℕ → PageSize → ℕ → Mapping → Type 0
  MapFits v pa s f o = Answered (Good p base used) (refused 13 (p, used)) (map_told used (map_call p base used v pa s f)) (map_told used o)
