-- What is proved of the table calls as a whole.
use Rattle.std.specs.Prelude.{Err, Ok, Option}
use Prim.Native.Nat.{ℕ, ◌+◌, ◌-◌, ◌/◌, ◌^◌, ◌≤◌, ◌<◌}
use mathlib.Core.Path.{◌≡◌, refl, sym, ap, ◌∙◌, subst}
use mathlib.Core.Bool.{Bool, true, false}
use mathlib.Core.Logic.{inl, inr}
use mathlib.Core.List.{List}
use native.Mathlib.Omega.{arith}
use lib.Dec.{leb, ltb}
use borrow.Author.Tests.{leb-true, ltb-true, ltb-false, lt-ltb, le-ltb}
use Rattle.paging.specs.Choice.{pick, refused, taken}
use Rattle.paging.specs.Level.{Canonical}
use Rattle.paging.proofs.Cases.{only, no_truth}
use Rattle.common.specs.Flags.{known_page}
use Rattle.common.specs.Page.{level_of, size_of, aligned}
use Rattle.common.proofs.Pages.{size_le}
use Rattle.paging.specs.Table.{view}
use Rattle.common.specs.declared.vm.PageSize.{PageSize}
use Rattle.common.specs.declared.vm.PageSize.TheVariants.{Size4K, Size2M, Size1G}
use Rattle.refusal.specs.declared.Refusal.{Refusal}
use Rattle.refusal.specs.declared.Refusal.TheVariants.{InvalidArgs, BadTable, BadAddress}
use Rattle.refusal.proofs.Replies.{positive}
use Rattle.table.specs.Table.{unmapped, Unmapping, new_word, updated, Updating}
use Rattle.table_map.specs.Map.{leaf_for, mapped, Mapping}
use Rattle.table_laws.proofs.Effects.{unmap_refused_lem, update_refused_lem, map_refused_lem, effects}
use Rattle.table_laws.specs.Effects.{shows_in, Rewrites, Adds}
use Rattle.page_table.specs.Calls.{in_rule, placed, known_new, unmap_call, unmap_refused, update_call, update_refused, map_call, map_refused}
use Rattle.page_table.specs.Laws.{Laws}
use Rattle.page_table.proofs.Replies.{query_once, unmap_once, update_once, map_once, UnmapIs, unmap_is, UpdateIs, update_is, MapIs, map_is}
use Rattle.common.specs.declared.defs.MMUFlags.{MMUFlags}

-- the two ranges of the rule
pub data Ruled (v : ℕ) : Type 0 where
  lower : v < 2 ^ 47 → Ruled v
  upper : 0xffff800000000000 ≤ v → v < 0xffffffffc0000000 → Ruled v

pub ruled : (v : ℕ) → in_rule v ≡ true → Ruled v
ruled v = go (ltb v (2 ^ 47)) (ltb v 0xffff800000000000) refl refl
  where
    go : (a b : Bool) → ltb v (2 ^ 47) ≡ a → ltb v 0xffff800000000000 ≡ b → pick a true (pick b false (ltb v 0xffffffffc0000000)) ≡ true → Ruled v
    go true b e f h = lower (ltb-true v (2 ^ 47) e)
    go false true e f h = no_truth h
    go false false e f h = upper (ltb-false v 0xffff800000000000 f) (ltb-true v 0xffffffffc0000000 h)

pub in_rule_lem : (v : ℕ) → Ruled v → in_rule v ≡ true
in_rule_lem v (lower h) = rw (lt-ltb v (2 ^ 47) h)
in_rule_lem v (upper h k) = rw (le-ltb v (2 ^ 47) (omega arith), le-ltb v 0xffff800000000000 h, lt-ltb v 0xffffffffc0000000 k)

halves : (v : ℕ) → Ruled v → Canonical 4 v
halves v (lower h) = inl h
halves v (upper h k) = inr (omega arith, omega arith)

-- both ranges begin and end at multiples of every size
leaves : (s : PageSize) (x v : ℕ) → Ruled v → x / size_of s ≡ v / size_of s → Ruled x
leaves Size4K x v (lower h) e = lower (omega arith)
leaves Size4K x v (upper h k) e = upper (omega arith) (omega arith)
leaves Size2M x v (lower h) e = lower (omega arith)
leaves Size2M x v (upper h k) e = upper (omega arith) (omega arith)
leaves Size1G x v (lower h) e = lower (omega arith)
leaves Size1G x v (upper h k) e = upper (omega arith) (omega arith)

module _ (p : List ℕ) (base used v : ℕ) where
  unmap_call_lem : (r : Refusal) → (unmap_call p base v).result ≡ Err r → (unmap_call p base v).pool ≡ p
  unmap_call_lem r = go (in_rule v)
    where
      go : (t : Bool) → (pick t (unmapped p (base / 4096) v) (unmap_refused p BadAddress)).result ≡ Err r → (pick t (unmapped p (base / 4096) v) (unmap_refused p BadAddress)).pool ≡ p
      go true h = unmap_refused_lem p (base / 4096) v r h
      go false h = refl

  update_call_lem : (n : Option ℕ) (f : Option MMUFlags) (r : Refusal) → (update_call p base v n f).result ≡ Err r → (update_call p base v n f).pool ≡ p
  update_call_lem n f r = go (known_new f) (in_rule v)
    where
      go : (k t : Bool) → (pick k (pick t (updated p (base / 4096) v n f) (update_refused p BadAddress)) (update_refused p InvalidArgs)).result ≡ Err r
          → (pick k (pick t (updated p (base / 4096) v n f) (update_refused p BadAddress)) (update_refused p InvalidArgs)).pool ≡ p
      go true true h = update_refused_lem p (base / 4096) v n f r h
      go true false h = refl
      go false t h = refl

  map_call_lem : (pa : ℕ) (s : PageSize) (f : ℕ) (r : Refusal) → (map_call p base used v pa s f).result ≡ Err r → (map_call p base used v pa s f).pool ≡ p
  map_call_lem pa s f r = go (known_page f) (in_rule v) (placed v pa s)
    where
      go : (k t x : Bool) → (pick k (pick t (pick x (mapped p (base / 4096) used v pa s f) (map_refused p InvalidArgs)) (map_refused p BadAddress)) (map_refused p InvalidArgs)).result ≡ Err r
          → (pick k (pick t (pick x (mapped p (base / 4096) used v pa s f) (map_refused p InvalidArgs)) (map_refused p BadAddress)) (map_refused p InvalidArgs)).pool ≡ p
      go true true true h = map_refused_lem p (base / 4096) v used s pa f r h
      go true true false h = refl
      go true false x h = refl
      go false t x h = refl

  unmap_keeps : (r : Refusal) (o : Unmapping) → UnmapIs p base used v o → o.result ≡ Err r → o.pool ≡ p
  unmap_keeps r o (refused n e) h = ap (λ (u : Unmapping). u.pool) e
  unmap_keeps r o (taken g e) h = ap (λ (u : Unmapping). u.pool) e ∙ unmap_call_lem r (sym (ap (λ (u : Unmapping). u.result) e) ∙ h)

  update_keeps : (n : Option ℕ) (f : Option MMUFlags) (r : Refusal) (o : Updating) → UpdateIs p base used v n f o → o.result ≡ Err r → o.pool ≡ p
  update_keeps n f r o (refused m e) h = ap (λ (u : Updating). u.pool) e
  update_keeps n f r o (taken g e) h = ap (λ (u : Updating). u.pool) e ∙ update_call_lem n f r (sym (ap (λ (u : Updating). u.result) e) ∙ h)

  map_keeps : (pa : ℕ) (s : PageSize) (f : ℕ) (r : Refusal) (o : Mapping) → MapIs p base used v pa s f o → o.result ≡ Err r → o.pool ≡ p
  map_keeps pa s f r o (refused m e) h = ap (λ (u : Mapping). u.pool) e
  map_keeps pa s f r o (taken g e) h = ap (λ (u : Mapping). u.pool) e ∙ map_call_lem pa s f r (sym (ap (λ (u : Mapping). u.result) e) ∙ h)

  -- an accepted outcome is the core's, with the arguments that the tests let pass
  unmap_means : (a : ℕ) (s : PageSize) (o : Unmapping) → UnmapIs p base used v o → o.result ≡ Ok (a, s) → Rewrites p o.pool base used v (level_of s) 0
  unmap_means a s o (refused n e) h =
      let none : Err BadTable ≡ Ok (a, s) = sym (ap (λ (u : Unmapping). u.result) e) ∙ h in
      let z : ◌≡◌ {A = ℕ} 0 1 = cc in
      absurd (omega arith)
  unmap_means a s o (taken g e) h = subst (λ (x : List ℕ). Rewrites p x base used v (level_of s) 0) (sym (ap (λ (u : Unmapping). u.pool) e)) (go (in_rule v) (sym (ap (λ (u : Unmapping). u.result) e) ∙ h))
    where
      go : (t : Bool) → (pick t (unmapped p (base / 4096) v) (unmap_refused p BadAddress)).result ≡ Ok (a, s)
          → Rewrites p (pick t (unmapped p (base / 4096) v) (unmap_refused p BadAddress)).pool base used v (level_of s) 0
      go true k = ((effects p base used v g).unmaps a s k).3
      go false k = let z : ◌≡◌ {A = ℕ} 0 1 = cc in absurd (omega arith)

  UpdateMeans : Option ℕ → Option MMUFlags → PageSize → List ℕ → Type 0
  UpdateMeans n f s q = (w : ℕ) × (shows_in p base v ≡ view (level_of s) w) × Rewrites p q base used v (level_of s) (new_word w s n f)

  update_means : (n : Option ℕ) (f : Option MMUFlags) (s : PageSize) (o : Updating) → UpdateIs p base used v n f o → o.result ≡ Ok s → UpdateMeans n f s o.pool
  unfolding UpdateMeans
  update_means n f s o (refused m e) h =
      let none : Err BadTable ≡ Ok s = sym (ap (λ (u : Updating). u.result) e) ∙ h in
      let z : ◌≡◌ {A = ℕ} 0 1 = cc in
      absurd (omega arith)
  update_means n f s o (taken g e) h = subst (UpdateMeans n f s) (sym (ap (λ (u : Updating). u.pool) e)) (go (known_new f) (in_rule v) (sym (ap (λ (u : Updating). u.result) e) ∙ h))
    where
      go : (k t : Bool) → (pick k (pick t (updated p (base / 4096) v n f) (update_refused p BadAddress)) (update_refused p InvalidArgs)).result ≡ Ok s
          → UpdateMeans n f s (pick k (pick t (updated p (base / 4096) v n f) (update_refused p BadAddress)) (update_refused p InvalidArgs)).pool
      go true true y = (effects p base used v g).updates n f s y
      go true false y = let z : ◌≡◌ {A = ℕ} 0 1 = cc in absurd (omega arith)
      go false t y = let z : ◌≡◌ {A = ℕ} 0 1 = cc in absurd (omega arith)

  fits_below : (pa : ℕ) (s : PageSize) → placed v pa s ≡ true → pa + size_of s ≤ 2 ^ 52
  fits_below pa s = go (aligned s v)
    where
      go : (t : Bool) → pick t (leb pa (2 ^ 52 - size_of s)) false ≡ true → pa + size_of s ≤ 2 ^ 52
      go true e = omega (arith, leb-true pa (2 ^ 52 - size_of s) e, size_le s)
      go false e = no_truth e

  map_means : (pa : ℕ) (s : PageSize) (f used' : ℕ) (o : Mapping) → MapIs p base used v pa s f o → o.result ≡ Ok used' → Adds p o.pool base used' v (level_of s) (leaf_for s pa f)
  map_means pa s f used' o (refused m e) h =
      let none : Err BadTable ≡ Ok used' = sym (ap (λ (u : Mapping). u.result) e) ∙ h in
      let z : ◌≡◌ {A = ℕ} 0 1 = cc in
      absurd (omega arith)
  map_means pa s f used' o (taken g e) h =
      subst (λ (x : List ℕ). Adds p x base used' v (level_of s) (leaf_for s pa f)) (sym (ap (λ (u : Mapping). u.pool) e))
      (go (known_page f) (in_rule v) (placed v pa s) refl (sym (ap (λ (u : Mapping). u.result) e) ∙ h))
    where
      go : (k t x : Bool) → placed v pa s ≡ x
          → (pick k (pick t (pick x (mapped p (base / 4096) used v pa s f) (map_refused p InvalidArgs)) (map_refused p BadAddress)) (map_refused p InvalidArgs)).result ≡ Ok used'
          → Adds p (pick k (pick t (pick x (mapped p (base / 4096) used v pa s f) (map_refused p InvalidArgs)) (map_refused p BadAddress)) (map_refused p InvalidArgs)).pool base used' v (level_of s) (leaf_for s pa f)
      go true true true q y = (effects p base used v g).maps s pa f used' (fits_below pa s q) y
      go true true false q y = let z : ◌≡◌ {A = ℕ} 0 1 = cc in absurd (omega arith)
      go true false x q y = let z : ◌≡◌ {A = ℕ} 0 1 = cc in absurd (omega arith)
      go false t x q y = let z : ◌≡◌ {A = ℕ} 0 1 = cc in absurd (omega arith)

  pub laws : Laws p base used v
  unfolding UpdateMeans
  laws = record {
    query_once = λ a b x y. query_once a b (only x y);
    unmap_once = λ a b x y. unmap_once a b (only x y);
    update_once = λ n f a b x y. update_once a b (only x y);
    map_once = λ pa s f a b x y. map_once used a b (only x y);
    refusals = positive;
    unmap_keeps = λ r o x. unmap_keeps r o (unmap_is p base used v o x);
    update_keeps = λ n f r o x. update_keeps n f r o (update_is p base used v n f o x);
    map_keeps = λ pa s f r o x. map_keeps pa s f r o (map_is p base used v pa s f o x);
    unmap_means = λ a s o x. unmap_means a s o (unmap_is p base used v o x);
    update_means = λ n f s o x. update_means n f s o (update_is p base used v n f o x);
    map_means = λ pa s f used' o x. map_means pa s f used' o (map_is p base used v pa s f o x);
    halves = λ h. halves v (ruled v h);
    leaves = λ s x h e. in_rule_lem x (leaves s x v (ruled v h) e);
  }
