-- What a sequence of cuts does to a well-formed table. Document 01, 'Regions': "An unmap, overwrite, clear or destroy requires four free frames for each
-- non-empty mapping it will cut or drop": so many always suffice, and no accepted call runs short half-way. README, demand 3: "Every address outside keeps its
-- frame and rights; no address inside has a frame any more".
use Rattle.std.specs.Prelude.{ℕ, ◌+◌, ◌*◌, ◌/◌, ◌≤◌, ◌<◌, ◌≡◌, List, [], ◌∷◌, ◌⊎◌, length, Err, Ok}
use Rattle.paging.specs.Level.{Canonical}
use Rattle.form.specs.Form.{Good}
use Rattle.refusal.specs.declared.Refusal.TheVariants.{NotMapped}
use Rattle.table.specs.Table.{queried}
use Rattle.table_split.specs.Split.{Tables}
use Rattle.table_unmap_cont.specs.UnmapCont.{unmap_cont}
use Rattle.table_unmap_cont.specs.Demand.{free, answered}
use Rattle.table_cuts.specs.Cuts.{Cut, Fits, Among, cut_one, cut_all, non_empty}

abbrev pub AllFit : List Cut → Type 0
AllFit cs = (c : Cut) → Among c cs → Fits c

-- none of the cuts is refused
pub data Carried (b : ℕ) : List Cut → Tables → Type 0 where
  none : {t : Tables} → Carried b [] t
  next : {c : Cut} {cs : List Cut} {t : Tables} (n : ℕ)
      → (unmap_cont t.pool b t.used c.addr c.len).result ≡ Ok n → Carried b cs (cut_one b c t) → Carried b (c ∷ cs) t

-- t is what is left of the pool p
pub record AllCut (p : List ℕ) (base used : ℕ) (cs : List Cut) (t : Tables) : Type 0 where
  -- it is still a table that every call works on, and as long as it was
  pub good : Good t.pool base t.used
  pub long : length t.pool ≡ length p
  -- at most four frames are taken for each cut that is not empty
  pub least : used ≤ t.used
  pub most : t.used ≤ used + 4 * non_empty cs
  -- "Every address outside keeps its frame and rights"
  pub outside : (v : ℕ) → Canonical 4 v → ((c : Cut) → Among c cs → (v < c.addr) ⊎ (c.addr + c.len ≤ v))
      → answered (queried t.pool (base / 4096) v) ≡ answered (queried p (base / 4096) v)
  -- "no address inside has a frame any more"
  pub inside : (v : ℕ) (c : Cut) → Among c cs → c.addr ≤ v → v < c.addr + c.len → queried t.pool (base / 4096) v ≡ Err NotMapped
  -- no cut is refused half-way
  pub carried : Carried (base / 4096) cs (record { pool = p; used = used })

pub record CutsHold : Type 0 where
  -- with four free frames for each cut that is not empty
  pub holds : (p : List ℕ) (base used : ℕ) (cs : List Cut) → Good p base used → AllFit cs → 4 * non_empty cs ≤ free p used
      → AllCut p base used cs (cut_all (base / 4096) cs (record { pool = p; used = used }))
  -- however many are free, what is left is a table that every call works on
  pub good_always : (p : List ℕ) (base used : ℕ) (cs : List Cut) → Good p base used → AllFit cs
      → Good (cut_all (base / 4096) cs (record { pool = p; used = used })).pool base (cut_all (base / 4096) cs (record { pool = p; used = used })).used
