-- Document 01: "Where an answer is an enum, a definition gives this paper's number and values for each of its cases." Beside each stands what the call tells: that
-- reply, and all that the call may change, as it is afterwards. The promises (Calls) are in these terms.
use Rattle.std.specs.Prelude.{ℕ, List, [], ◌∷◌, Err, Ok, Result}
use Rattle.common.specs.Page.{size_of}
use Rattle.refusal.specs.Reply.{Reply, success, refusal, Told}
use Rattle.table.specs.Table.{Unmapping, Updating}
use Rattle.table_map.specs.Map.{Mapping}
use Rattle.refusal.specs.declared.Refusal.{Refusal}
use Rattle.common.specs.declared.vm.PageSize.{PageSize}
use Rattle.common.specs.declared.defs.MMUFlags.{MMUFlags}

-- address with offset, flags, size
abbrev pub query_reply : Result (ℕ × MMUFlags × PageSize) Refusal → Reply
query_reply (Ok (a, f, s)) = success (a ∷ f.0 ∷ size_of s ∷ [])
query_reply (Err r) = refusal r

-- the leaf's own address and its size
abbrev pub unmap_reply : Result (ℕ × PageSize) Refusal → Reply
unmap_reply (Ok (a, s)) = success (a ∷ size_of s ∷ [])
unmap_reply (Err r) = refusal r

abbrev pub unmap_told : Unmapping → Told (List ℕ)
unmap_told o = record { reply = unmap_reply o.result; after = o.pool }

-- the leaf's size
abbrev pub update_reply : Result PageSize Refusal → Reply
update_reply (Ok s) = success (size_of s ∷ [])
update_reply (Err r) = refusal r

abbrev pub update_told : Updating → Told (List ℕ)
update_told o = record { reply = update_reply o.result; after = o.pool }

-- a map's value is 0; the frames in use stand beside it
abbrev pub map_reply : Result ℕ Refusal → Reply
map_reply (Ok used') = success (0 ∷ [])
map_reply (Err r) = refusal r

-- the frames in use afterwards: as before where the map is refused
abbrev pub used_after : ℕ → Result ℕ Refusal → ℕ
used_after used (Ok used') = used'
used_after used (Err r) = used

-- a map may change the pool and the frames in use
abbrev pub map_told : ℕ → Mapping → Told (List ℕ × ℕ)
map_told used o = record { reply = map_reply o.result; after = (o.pool, used_after used o.result) }
