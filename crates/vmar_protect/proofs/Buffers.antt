-- What a protect keeps of the two buffers: the pool stays good, and neither changes its length.
use Rattle.std.specs.Prelude.{None, Option, Result, Some, Ok, Err}
use Rattle.common.specs.declared.defs.MMUFlags.{MMUFlags}
use Rattle.common.specs.declared.vm.PageSize.{PageSize}
use Rattle.refusal.specs.declared.Refusal.{Refusal}
use Prim.Native.Nat.{ℕ, zero, suc, ◌+◌, ◌*◌, ◌/◌}
use mathlib.Core.Path.{◌≡◌, refl, sym, ◌∙◌, ap, subst}
use mathlib.Core.Bool.{Bool, true, false}
use mathlib.Core.List.{List}
use mathlib.Core.Logic.{⊎_elim}
use native.Mathlib.Numerals.{add-one}
use lib.ListN.{length, set, length-set}
use Rattle.scan.proofs.Scans.{tell}
use Rattle.form.specs.Form.{Good}
use Rattle.pool.specs.Pool.{word}
use Rattle.walk.specs.Walk.{found}
use Rattle.walk.specs.declared.Walk.{Walk}
use Rattle.walk.specs.declared.Walk.TheVariants.{Leaf, Open}
use Rattle.table.specs.Table.{misplaced, new_word, Updating, updated}
use Rattle.table.proofs.Laws.{refused_address, rewritten}
use Rattle.table_laws.proofs.Effects.{effects}
use Rattle.space.specs.Space.{mapping_at, mapping_place}
use Rattle.space.specs.Passes.{page_at}
use Rattle.space.specs.declared.Mapping.{Mapping}
use Rattle.space.specs.declared.Space.{Space}
use Rattle.vmar_protect.specs.Protect.{with_rights, Lent, lent, page_done, pages_done, touching, changed, mapping_done, mappings_done}

-- an `update` leaves a good pool good
pub update_good : (p : List ℕ) (base used v : ℕ) (n : Option ℕ) (f : Option MMUFlags) → Good p base used → Good (updated p (base / 4096) v n f).pool base used
update_good p base used v n f G = by (updated p (base / 4096) v n f).result refl
  where
    by : (r : Result PageSize Refusal) → (updated p (base / 4096) v n f).result ≡ r → Good (updated p (base / 4096) v n f).pool base used
    by (Ok z) e = ((effects p base used v G).updates n f z e).2.good
    by (Err why) e = subst (λ (x : List ℕ). Good x base used) (sym ((effects p base used v G).update_keeps n f why e)) G

-- and as long as it was
pub update_length : (p : List ℕ) (b v : ℕ) (n : Option ℕ) (f : Option MMUFlags) → length (updated p b v n f).pool ≡ length p
update_length p b v n f = go (found p b v) refl
  where
    go : (w : Walk) → found p b v ≡ w → length (updated p b v n f).pool ≡ length p
    go (Open o) q = rw q
    go (Leaf e) q = tested (misplaced n e.size) refl
      where
        tested : (t : Bool) → misplaced n e.size ≡ t → length (updated p b v n f).pool ≡ length p
        tested true m = ap (λ (u : Updating). length u.pool) (refused_address p b v e q n f m)
        tested false m =
            ap (λ (u : Updating). length u.pool) (rewritten p b v e q n f m)
            ∙ length-set p (e.frame * 512 + e.place) (new_word (word p e.frame e.place) e.size n f)

module _ (base used : ℕ) where
  -- both lengths are as before, and a good pool stays good
  pub record Kept (t u : Lent) : Type 0 where
    pub flags : length u.flags ≡ length t.flags
    pub pool : length u.pool ≡ length t.pool
    pub good : Good t.pool base used → Good u.pool base used

  none : (t : Lent) → Kept t t
  none t = record { flags = refl; pool = refl; good = λ g. g }

  then : {t u v : Lent} → Kept t u → Kept u v → Kept t v
  then a b = record { flags = b.flags ∙ a.flags; pool = b.pool ∙ a.pool; good = λ g. b.good (a.good g) }

  pub page_kept : (t : Lent) (m : Mapping) (j access i : ℕ) → Kept t (page_done t (base / 4096) m j access i)
  unfolding page_done
  page_kept t m j access i =
      record {
        flags = length-set t.flags (j * 512 + i) (with_rights (page_at t.flags j i) access);
        pool = update_length t.pool (base / 4096) (m.addr + i * 4096) None (Some (record { 0 = with_rights (page_at t.flags j i) access }));
        good = update_good t.pool base used (m.addr + i * 4096) None (Some (record { 0 = with_rights (page_at t.flags j i) access }));
      }

  pub pages_kept : (t : Lent) (m : Mapping) (j access first n : ℕ) → Kept t (pages_done t (base / 4096) m j access first n)
  unfolding pages_done
  pages_kept t m j access first zero = none t
  pages_kept t m j access first (suc n) = then (pages_kept t m j access first n) (page_kept _ m j access (first + n))

  pub mapping_kept : (t : Lent) (s : Space) (r begin end access k : ℕ) → Kept t (mapping_done t (base / 4096) s r begin end access k)
  unfolding mapping_done
  mapping_kept t s r begin end access k =
      ⊎_elim
      (λ (e : touching (mapping_at s (mapping_place s k)) r begin end ≡ true). rw e (pages_kept t _ _ access _ _))
      (λ (e : touching (mapping_at s (mapping_place s k)) r begin end ≡ false). rw e (none t))
      (tell (touching (mapping_at s (mapping_place s k)) r begin end))

  pub mappings_kept : (t : Lent) (s : Space) (r begin end access n : ℕ) → Kept t (mappings_done t (base / 4096) s r begin end access n)
  unfolding mappings_done
  mappings_kept t s r begin end access zero = none t
  mappings_kept t s r begin end access (suc k) = then (mappings_kept t s r begin end access k) (mapping_kept _ s r begin end access k)

-- what the code has written is the page done
pub page_is : (f p q : List ℕ) (b : ℕ) (m : Mapping) (j access i new : ℕ) (x : Result PageSize Refusal) → new ≡ with_rights (page_at f j i) access
    → record { result = x; pool = q } ≡ updated p b (m.addr + i * 4096) None (Some (record { 0 = new })) → lent (set f (j * 512 + i) new) q ≡ page_done (lent f p) b m j access i
unfolding page_done
page_is f p q b m j access i new x e u =
    ap (λ (w : Updating). lent (set f (j * 512 + i) new) w.pool) u
    ∙ ap (λ (n : ℕ). lent (set f (j * 512 + i) n) (updated p b (m.addr + i * 4096) None (Some (record { 0 = n }))).pool) e

-- what a step keeps, by its equation
pub kept_by : (base used : ℕ) (t u v : Lent) → u ≡ v → Kept base used t v → Kept base used t u
kept_by base used t u v e k = subst (Kept base used t) (sym e) k

-- one more page, one more mapping
pub pages_more : (t : Lent) (b : ℕ) (m : Mapping) (j access first n : ℕ)
    → page_done (pages_done t b m j access first n) b m j access (first + n) ≡ pages_done t b m j access first (n + 1)
unfolding pages_done
pages_more t b m j access first n = rw (add-one n)

pub pages_none : (t : Lent) (b : ℕ) (m : Mapping) (j access first : ℕ) → t ≡ pages_done t b m j access first 0
unfolding pages_done
pages_none t b m j access first = refl

pub mappings_more : (t : Lent) (b : ℕ) (s : Space) (r begin end access k : ℕ)
    → mapping_done (mappings_done t b s r begin end access k) b s r begin end access k ≡ mappings_done t b s r begin end access (k + 1)
unfolding mappings_done
mappings_more t b s r begin end access k = rw (add-one k)

pub mappings_none : (t : Lent) (b : ℕ) (s : Space) (r begin end access : ℕ) → t ≡ mappings_done t b s r begin end access 0
unfolding mappings_done
mappings_none t b s r begin end access = refl

-- the place of a mapping that touches, and of one that does not
pub touched : (t : Lent) (b : ℕ) (s : Space) (r begin end access k : ℕ) → touching (mapping_at s (mapping_place s k)) r begin end ≡ true
    → pages_done t b (mapping_at s (mapping_place s k)) (mapping_place s k) access (changed (mapping_at s (mapping_place s k)) begin end).first (changed (mapping_at s (mapping_place s k)) begin end).count
    ≡ mapping_done t b s r begin end access k
unfolding mapping_done
touched t b s r begin end access k e = rw e

pub untouched : (t : Lent) (b : ℕ) (s : Space) (r begin end access k : ℕ) → touching (mapping_at s (mapping_place s k)) r begin end ≡ false → t ≡ mapping_done t b s r begin end access k
unfolding mapping_done
untouched t b s r begin end access k e = rw e
