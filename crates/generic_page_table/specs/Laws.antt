-- What is proved of the range calls as a whole.
use Rattle.std.specs.Prelude.{ℕ, ◌+◌, ◌≤◌, ◌<◌, ◌≡◌, true, List, Err, Ok}
use Rattle.paging.specs.Level.{Within}
use Rattle.form.specs.Form.{Good}
use Rattle.refusal.specs.declared.Refusal.{Refusal}
use Rattle.refusal.specs.declared.Refusal.TheVariants.{NoFrames}
use Rattle.table_map.specs.Map.{Mapping}
use Rattle.table_map_cont.specs.Laws.{MapsRange}
use Rattle.table_unmap_cont.specs.UnmapCont.{ContUnmapping}
use Rattle.table_unmap_cont.specs.Demand.{frames_for, free, CutOut}
use Rattle.page_table.specs.Calls.{in_rule}
use Rattle.generic_page_table.specs.Rules.{range_in_rule, page_aligned}
use Rattle.generic_page_table.specs.Calls.{MapContFits, unmap_cont_refused, UnmapContFits}

pub record Laws (p : List ℕ) (base used v n : ℕ) : Type 0 where
  -- no second outcome fits
  pub map_cont_once : (pa f : ℕ) (a b : Mapping) → MapContFits p base used v n pa f a → MapContFits p base used v n pa f b → a ≡ b
  -- an outcome that refuses leaves every word of the pool, whatever the pool is
  pub map_cont_keeps : (pa f : ℕ) (r : Refusal) (o : Mapping) → MapContFits p base used v n pa f o → o.result ≡ Err r → o.pool ≡ p
  -- an accepted outcome leaves a good pool and maps its own range alone
  pub map_cont_means : (pa f used' : ℕ) (o : Mapping) → MapContFits p base used v n pa f o → o.result ≡ Ok used' → MapsRange p o.pool base used used' v n pa f
  -- the same of unmap_cont
  pub unmap_cont_once : (a b : ContUnmapping) → UnmapContFits p base used v n a → UnmapContFits p base used v n b → a ≡ b
  pub unmap_cont_keeps : (r : Refusal) (o : ContUnmapping) → UnmapContFits p base used v n o → o.result ≡ Err r → o.pool ≡ p
  -- an accepted outcome has cut the range out, and its answer is what the partly cut leaves require
  pub unmap_cont_means : (t : ℕ) (o : ContUnmapping) → UnmapContFits p base used v n o → o.result ≡ Ok t
      → (t ≡ frames_for p base v (v + n)) × CutOut p o.pool base used (used + t) v (v + n)
  -- on a good pool and a range that is taken, 8 is answered exactly where fewer frames are free than that, and no other refusal
  pub unmap_cont_short : (o : ContUnmapping) → UnmapContFits p base used v n o → Good p base used → range_in_rule v n ≡ true → page_aligned v n ≡ true
      → free p used < frames_for p base v (v + n) → o ≡ unmap_cont_refused p NoFrames
  pub unmap_cont_done : (o : ContUnmapping) → UnmapContFits p base used v n o → Good p base used → range_in_rule v n ≡ true → page_aligned v n ≡ true
      → frames_for p base v (v + n) ≤ free p used → o.result ≡ Ok (frames_for p base v (v + n))
  -- the ranges that calls take lie in one half; each of their addresses is one that calls take, and no other range has only such addresses
  pub halves : range_in_rule v n ≡ true → Within 4 v (v + n)
  pub start : range_in_rule v 0 ≡ in_rule v
  pub whole : range_in_rule v n ≡ true → (x : ℕ) → v ≤ x → x < v + n → in_rule x ≡ true
  pub only : 0 < n → ((x : ℕ) → v ≤ x → x < v + n → in_rule x ≡ true) → range_in_rule v n ≡ true
