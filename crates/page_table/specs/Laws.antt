-- What is proved of the table calls as a whole.
use Rattle.std.specs.Prelude.{ℕ, ◌<◌, ◌/◌, ◌≡◌, true, List, Err, Ok, Option, Result}
use Rattle.paging.specs.Level.{Canonical}
use Rattle.paging.specs.Table.{view}
use Rattle.common.specs.Page.{level_of, size_of}
use Rattle.common.specs.declared.vm.PageSize.{PageSize}
use Rattle.refusal.specs.Reply.{refusal}
use Rattle.refusal.specs.declared.Refusal.{Refusal}
use Rattle.table.specs.Table.{Unmapping, new_word, Updating}
use Rattle.table_map.specs.Map.{leaf_for, Mapping}
use Rattle.table_laws.specs.Effects.{shows_in, Rewrites, Adds}
use Rattle.page_table.specs.Calls.{in_rule, QueryFits, UnmapFits, UpdateFits, MapFits}
use Rattle.common.specs.declared.defs.MMUFlags.{MMUFlags}

pub record Laws (p : List ℕ) (base used v : ℕ) : Type 0 where
  -- no second outcome fits
  pub query_once : (a b : Result (ℕ × MMUFlags × PageSize) Refusal) → QueryFits p base used v a → QueryFits p base used v b → a ≡ b
  pub unmap_once : (a b : Unmapping) → UnmapFits p base used v a → UnmapFits p base used v b → a ≡ b
  pub update_once : (n : Option ℕ) (f : Option MMUFlags) (a b : Updating) → UpdateFits p base used v n f a → UpdateFits p base used v n f b → a ≡ b
  pub map_once : (pa : ℕ) (s : PageSize) (f : ℕ) (a b : Mapping) → MapFits p base used v pa s f a → MapFits p base used v pa s f b → a ≡ b
  -- a refusal is no success
  pub refusals : (r : Refusal) → 0 < (refusal r).number
  -- an outcome that refuses leaves every word of the pool, whatever the pool is
  pub unmap_keeps : (r : Refusal) (o : Unmapping) → UnmapFits p base used v o → o.result ≡ Err r → o.pool ≡ p
  pub update_keeps : (n : Option ℕ) (f : Option MMUFlags) (r : Refusal) (o : Updating) → UpdateFits p base used v n f o → o.result ≡ Err r → o.pool ≡ p
  pub map_keeps : (pa : ℕ) (s : PageSize) (f : ℕ) (r : Refusal) (o : Mapping) → MapFits p base used v pa s f o → o.result ≡ Err r → o.pool ≡ p
  -- an accepted outcome leaves a good pool and changes its own leaf, or its own page, alone
  pub unmap_means : (a : ℕ) (s : PageSize) (o : Unmapping) → UnmapFits p base used v o → o.result ≡ Ok (a, s) → Rewrites p o.pool base used v (level_of s) 0
  pub update_means : (n : Option ℕ) (f : Option MMUFlags) (s : PageSize) (o : Updating) → UpdateFits p base used v n f o → o.result ≡ Ok s
      → (w : ℕ) × (shows_in p base v ≡ view (level_of s) w) × Rewrites p o.pool base used v (level_of s) (new_word w s n f)
  pub map_means : (pa : ℕ) (s : PageSize) (f used' : ℕ) (o : Mapping) → MapFits p base used v pa s f o → o.result ≡ Ok used'
      → Adds p o.pool base used' v (level_of s) (leaf_for s pa f)
  -- the addresses that calls take are of the two halves, and with an address the whole leaf at it is taken, whatever its size
  pub halves : in_rule v ≡ true → Canonical 4 v
  pub leaves : (s : PageSize) (x : ℕ) → in_rule v ≡ true → x / size_of s ≡ v / size_of s → in_rule x ≡ true
