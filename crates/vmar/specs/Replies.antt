-- Document 01: "Where an answer is an enum, a definition gives this paper's number and values for each of its cases." The promises (Calls) are in these terms.
use Rattle.std.specs.Prelude.{ℕ, Result, Ok, Err}
use Rattle.refusal.specs.declared.Refusal.{Refusal}
use Rattle.common.specs.declared.defs.MMUFlags.{MMUFlags}
use Rattle.std.specs.Prelude.{[], ◌∷◌}
use Rattle.refusal.specs.Reply.{Reply, success, refusal}

-- the new region's id
abbrev pub allocate_reply : Result ℕ Refusal → Reply
allocate_reply (Ok id) = success (id ∷ [])
allocate_reply (Err r) = refusal r

-- the mapping's address
abbrev pub map_reply : Result ℕ Refusal → Reply
map_reply (Ok addr) = success (addr ∷ [])
map_reply (Err r) = refusal r

-- the page's flags
abbrev pub flags_reply : Result MMUFlags Refusal → Reply
flags_reply (Ok f) = success (f.0 ∷ [])
flags_reply (Err r) = refusal r

-- a call that has no value gives 0: a check of a range
abbrev pub user_range_reply : Result (Unit {0}) Refusal → Reply
user_range_reply (Ok _) = success (0 ∷ [])
user_range_reply (Err r) = refusal r

-- unmap, destroy and clear; the frames in use stand beside the reply
abbrev pub cut_reply : Result (Unit {0}) Refusal → Reply
cut_reply (Ok _) = success (0 ∷ [])
cut_reply (Err r) = refusal r

-- and protect
abbrev pub protect_reply : Result (Unit {0}) Refusal → Reply
protect_reply (Ok _) = success (0 ∷ [])
protect_reply (Err r) = refusal r
