-- What is proved of the range calls as a whole.
use Rattle.std.specs.Prelude.{Err, Ok, Result}
use Prim.Native.Nat.{ℕ, ◌+◌, ◌/◌, ◌≤◌, ◌<◌}
use mathlib.Core.Path.{◌≡◌, refl, sym, ap, ◌∙◌, subst}
use mathlib.Core.Bool.{Bool, true, false}
use mathlib.Core.Logic.{⊎_elim}
use mathlib.Core.List.{List}
use native.Mathlib.Omega.{arith}
use Rattle.paging.specs.Choice.{pick, refused, taken}
use Rattle.paging.proofs.Cases as cases
use Rattle.paging.proofs.Cases.{below?}
use Rattle.common.specs.Flags.{known_page}
use Rattle.form.specs.Form.{Good}
use Rattle.refusal.specs.declared.Refusal.{Refusal}
use Rattle.refusal.specs.declared.Refusal.TheVariants.{InvalidArgs, BadAddress, NoFrames}
use Rattle.table_map.specs.Map.{Mapping}
use Rattle.table_map_cont.specs.MapCont.{map_cont}
use Rattle.table_map_cont.specs.Laws.{MapsRange}
use Rattle.table_map_cont.proofs.Steps.{not_both}
use Rattle.table_map_cont.proofs.Ranges.{ranges, cont_keeps}
use Rattle.table_unmap_cont.specs.UnmapCont.{unmap_cont, ContUnmapping}
use Rattle.table_unmap_cont.specs.Demand.{frames_for, free, CutOut, Demand}
use Rattle.table_unmap_cont.proofs.Calls as cont
use Rattle.table_unmap_cont.proofs.Demand.{demands}
use Rattle.page_table.specs.Calls.{map_refused}
use Rattle.page_table.proofs.Replies.{map_once}
use Rattle.generic_page_table.specs.Rules.{range_in_rule, page_aligned, physical_fits}
use Rattle.generic_page_table.specs.Calls.{map_cont_call, unmap_cont_refused, unmap_cont_call}
use Rattle.generic_page_table.specs.Laws.{Laws}
use Rattle.generic_page_table.proofs.Rules.{halves, start, whole, only, pages, range}
use Rattle.generic_page_table.proofs.Calls.{cut_core}
use Rattle.generic_page_table.proofs.Replies.{unmap_cont_once, MapContIs, map_cont_is, UnmapContIs, unmap_cont_is}

-- a refusal is no success, and a success tells the frames taken
no_cut : {r : Refusal} {t : ℕ} → Err r ≡ Ok t → ⊥
no_cut e = let z : ◌≡◌ {A = ℕ} 0 1 = cc in omega arith

same_taken : {t u : ℕ} → ◌≡◌ {A = Result ℕ Refusal} (Ok t) (Ok u) → t ≡ u
same_taken e = cc

module _ (p : List ℕ) (base used v n : ℕ) where
  -- the call, by the answers of its tests
  abbrev tested : ℕ → ℕ → Bool → Bool → Bool → Bool → Mapping
  tested pa f k r a e = pick k (pick r (pick a (pick e (map_cont p (base / 4096) used v n pa f) (map_refused p InvalidArgs)) (map_refused p InvalidArgs)) (map_refused p BadAddress)) (map_refused p InvalidArgs)

  call_keeps : (pa f : ℕ) (x : Refusal) → (map_cont_call p base used v n pa f).result ≡ Err x → (map_cont_call p base used v n pa f).pool ≡ p
  call_keeps pa f x = go (known_page f) (range_in_rule v n) (page_aligned v n) (physical_fits pa n)
    where
      go : (k r a e : Bool) → (tested pa f k r a e).result ≡ Err x → (tested pa f k r a e).pool ≡ p
      go true true true true h = cont_keeps p (base / 4096) used v n pa f x h
      go true true true false h = refl
      go true true false e h = refl
      go true false a e h = refl
      go false r a e h = refl

  map_cont_keeps : (pa f : ℕ) (r : Refusal) (o : Mapping) → MapContIs p base used v n pa f o → o.result ≡ Err r → o.pool ≡ p
  map_cont_keeps pa f r o (refused m e) h = ap (λ (u : Mapping). u.pool) e
  map_cont_keeps pa f r o (taken g e) h = ap (λ (u : Mapping). u.pool) e ∙ call_keeps pa f r (sym (ap (λ (u : Mapping). u.result) e) ∙ h)

  -- an accepted outcome is the core's, with the arguments that the tests let pass
  call_means : (pa f used' : ℕ) → Good p base used → (map_cont_call p base used v n pa f).result ≡ Ok used' → MapsRange p (map_cont_call p base used v n pa f).pool base used used' v n pa f
  call_means pa f used' G = go (known_page f) (range_in_rule v n) (page_aligned v n) (physical_fits pa n) refl refl refl
    where
      go : (k r a e : Bool) → range_in_rule v n ≡ r → page_aligned v n ≡ a → physical_fits pa n ≡ e → (tested pa f k r a e).result ≡ Ok used'
          → MapsRange p (tested pa f k r a e).pool base used used' v n pa f
      go true true true true x y z h = (ranges p base used v n pa f G (range v n pa x y z)).maps used' h
      go true true true false x y z h = not_both h
      go true true false e x y z h = not_both h
      go true false a e x y z h = not_both h
      go false r a e x y z h = not_both h

  map_cont_means : (pa f used' : ℕ) (o : Mapping) → MapContIs p base used v n pa f o → o.result ≡ Ok used' → MapsRange p o.pool base used used' v n pa f
  map_cont_means pa f used' o (refused m e) h = not_both (sym (ap (λ (u : Mapping). u.result) e) ∙ h)
  map_cont_means pa f used' o (taken g e) h =
      subst (λ (q : List ℕ). MapsRange p q base used used' v n pa f) (sym (ap (λ (u : Mapping). u.pool) e)) (call_means pa f used' g (sym (ap (λ (u : Mapping). u.result) e) ∙ h))

  -- unmap_cont, by the answers of its tests
  abbrev cut_tested : Bool → Bool → ContUnmapping
  cut_tested r a = pick r (pick a (unmap_cont p (base / 4096) used v n) (unmap_cont_refused p InvalidArgs)) (unmap_cont_refused p BadAddress)

  unmap_cont_keeps : (r : Refusal) (o : ContUnmapping) → UnmapContIs p base used v n o → o.result ≡ Err r → o.pool ≡ p
  unmap_cont_keeps r o (refused m e) h = ap (λ (u : ContUnmapping). u.pool) e
  unmap_cont_keeps r o (taken g e) h = ap (λ (u : ContUnmapping). u.pool) e ∙ go (range_in_rule v n) (page_aligned v n) (sym (ap (λ (u : ContUnmapping). u.result) e) ∙ h)
    where
      go : (x a : Bool) → (cut_tested x a).result ≡ Err r → (cut_tested x a).pool ≡ p
      go true true q = cont.keeps p (base / 4096) used v n r q
      go true false q = refl
      go false a q = refl

  module _ (o : ContUnmapping) (is : UnmapContIs p base used v n o) (G : Good p base used) (r : range_in_rule v n ≡ true) (a : page_aligned v n ≡ true) where
    outcome : o ≡ unmap_cont p (base / 4096) used v n
    outcome = cases.only is (taken G (cut_core p base used v n r a))

    D : Demand p base used v n
    D = let q = pages v n a in demands.holds p base used v n G q.0 q.1 (halves v n r)

    unmap_cont_short : free p used < frames_for p base v (v + n) → o ≡ unmap_cont_refused p NoFrames
    unmap_cont_short l = outcome ∙ D.refused l

    unmap_cont_done : frames_for p base v (v + n) ≤ free p used → o.result ≡ Ok (frames_for p base v (v + n))
    unmap_cont_done l = ap (λ (u : ContUnmapping). u.result) outcome ∙ (D.carried l).0

    cut_means : (t : ℕ) → o.result ≡ Ok t → (t ≡ frames_for p base v (v + n)) × CutOut p o.pool base used (used + t) v (v + n)
    cut_means t h = ⊎_elim
        (λ (l : free p used < frames_for p base v (v + n)). absurd (no_cut (sym (ap (λ (u : ContUnmapping). u.result) (unmap_cont_short l)) ∙ h)))
        (λ l.
        let q : t ≡ frames_for p base v (v + n) = same_taken (sym h ∙ unmap_cont_done l) in
        (q, subst (λ (w : List ℕ). CutOut p w base used (used + t) v (v + n)) (sym (ap (λ (u : ContUnmapping). u.pool) outcome)) (rw q (D.carried l).1)))
        (below? (free p used) (frames_for p base v (v + n)))

  unmap_cont_means : (t : ℕ) (o : ContUnmapping) → UnmapContIs p base used v n o → o.result ≡ Ok t
      → (t ≡ frames_for p base v (v + n)) × CutOut p o.pool base used (used + t) v (v + n)
  unmap_cont_means t o (refused m e) h = absurd (no_cut (sym (ap (λ (u : ContUnmapping). u.result) e) ∙ h))
  unmap_cont_means t o (taken G e) h = go (range_in_rule v n) (page_aligned v n) refl refl
    where
      result : (unmap_cont_call p base used v n).result ≡ Ok t
      result = sym (ap (λ (u : ContUnmapping). u.result) e) ∙ h

      go : (x y : Bool) → range_in_rule v n ≡ x → page_aligned v n ≡ y → (t ≡ frames_for p base v (v + n)) × CutOut p o.pool base used (used + t) v (v + n)
      go true true r a = cut_means o (taken G e) G r a t h
      go true false r a = absurd (no_cut (rw (r, a) at result))
      go false y r a = absurd (no_cut (rw r at result))

  pub laws : Laws p base used v n
  laws = record {
    map_cont_once = λ pa f a b x y. map_once used a b (cases.only x y);
    map_cont_keeps = λ pa f r o x. map_cont_keeps pa f r o (map_cont_is p base used v n pa f o x);
    map_cont_means = λ pa f used' o x. map_cont_means pa f used' o (map_cont_is p base used v n pa f o x);
    unmap_cont_once = λ a b x y. unmap_cont_once a b (cases.only x y);
    unmap_cont_keeps = λ r o x. unmap_cont_keeps r o (unmap_cont_is p base used v n o x);
    unmap_cont_means = λ t o x. unmap_cont_means t o (unmap_cont_is p base used v n o x);
    unmap_cont_short = λ o x. unmap_cont_short o (unmap_cont_is p base used v n o x);
    unmap_cont_done = λ o x. unmap_cont_done o (unmap_cont_is p base used v n o x);
    halves = halves v n;
    start = start v;
    whole = whole v n;
    only = only v n;
  }
