-- What `protect` means.
use Rattle.std.specs.Prelude.{Result}
use Rattle.std.specs.Prelude.{Err, Ok}
use Prim.Native.Nat.{ℕ, ◌+◌, ◌/◌, ◌%◌, ◌≤◌, ◌<◌}
use mathlib.Core.Path.{◌≡◌, refl, sym, ◌∙◌, ap, subst}
use mathlib.Core.Bool.{true, false}
use mathlib.Core.List.{List}
use mathlib.Core.Logic.{⊎_elim}
use native.Mathlib.Omega.{arith}
use Rattle.paging.specs.Level.{span, Canonical}
use Rattle.paging.specs.Format.{Kind, nothing, leaf, table, by_kind}
use Rattle.paging.specs.Table.{view, Translation, to, nowhere, translated, translates}
use Rattle.scan.proofs.Scans.{tell}
use Rattle.common.specs.declared.defs.MMUFlags.{MMUFlags}
use Rattle.common.specs.declared.vm.PageSize.{PageSize}
use Rattle.x86_64.specs.Entry.{granted, x86}
use Rattle.form.specs.Form.{Good}
use Rattle.refusal.specs.declared.Refusal.{Refusal}
use Rattle.refusal.specs.declared.Refusal.TheVariants.{NotMapped}
use Rattle.walk.specs.Walk.{size_at, found}
use Rattle.walk.specs.declared.Walk.{Walk}
use Rattle.walk.specs.declared.Walk.TheVariants.{Leaf, Open}
use Rattle.walk.proofs.Found.{over}
use Rattle.pool.specs.Pool.{word}
use Rattle.space.specs.Space.{mapping_at, is_mapping, mapping_place}
use Rattle.space.specs.Passes.{page_at, others, Pages, Passes}
use Rattle.space.specs.declared.Mapping.{Mapping}
use Rattle.space.specs.declared.Space.{Space}
use Rattle.table.specs.Table.{queried}
use Rattle.table.proofs.Laws.{shown}
use Rattle.table_laws.specs.Effects.{shows_in, translates_in}
use Rattle.table_laws.proofs.Effects.{effects, shown_at}
use Rattle.vmar_offset.specs.Offset.{slot_of}
use Rattle.vmar_protect.specs.Protect.{with_rights, Lent, lent, mappings_done, ProtectDone, refused}
use Rattle.vmar_protect_laws.specs.Laws.{page_addr, InRange, SameFrame, none, frame, Over, LastOver, call, Protects, ProtectLaws}
use Rattle.vmar_protect_laws.specs.Answers.{WholePages, ProtectAnswers}
use Rattle.vmar_protect_laws.proofs.Righted as new
use Rattle.vmar_protect.proofs.Buffers.{mappings_kept}
use Rattle.vmar_protect_laws.proofs.Pages.{places_stay, places_change, in_range?}
use Rattle.vmar_protect_laws.proofs.Answers as answer
use Rattle.vmar_protect_laws.proofs.Tables.{Like, same, leaves, level_back, Given, Alike, near_shows}
use Rattle.vmar_protect_laws.proofs.Leaves.{Page, Any, places_alike, Under, places_last, last_over}

-- what an address translates to, by the leaf that it shows
leaf_to : (p : List ℕ) (base x l w : ℕ) → shows_in p base x ≡ view l w → x86.kind l w ≡ leaf → translates_in p base x ≡ to (x86.addr w + x % span l) (x86.flags w)
unfolding translates
leaf_to p base x l w e k = ap (translated x86 x) e ∙ ap (λ (z : Kind). by_kind z nowhere (to (x86.addr w + x % span l) (x86.flags w)) (λ m. nowhere)) k

-- what is translated shows a leaf
to_leaf : (p : List ℕ) (base x l w a h : ℕ) → shows_in p base x ≡ view l w → translates_in p base x ≡ to a h → x86.kind l w ≡ leaf
unfolding translates
to_leaf p base x l w a h e t = go (x86.kind l w) refl
  where
    go : (k : Kind) → x86.kind l w ≡ k → x86.kind l w ≡ leaf
    go leaf q = q
    go nothing q =
        let y : nowhere ≡ to a h = sym (ap (translated x86 x) e ∙ ap (λ (z : Kind). by_kind z nowhere (to (x86.addr w + x % span l) (x86.flags w)) (λ m. nowhere)) q) ∙ t in
        let z : ◌≡◌ {A = ℕ} 0 1 = cc in
        absurd (omega arith)
    go (table m) q =
        let y : nowhere ≡ to a h = sym (ap (translated x86 x) e ∙ ap (λ (z : Kind). by_kind z nowhere (to (x86.addr w + x % span l) (x86.flags w)) (λ m. nowhere)) q) ∙ t in
        let z : ◌≡◌ {A = ℕ} 0 1 = cc in
        absurd (omega arith)

-- what shows the same translates to the same
same_to : (p q : List ℕ) (base x : ℕ) → shows_in q base x ≡ shows_in p base x → translates_in q base x ≡ translates_in p base x
unfolding translates
same_to p q base x e = ap (translated x86 x) e

-- a query and what it tells of
pub data Told (p : List ℕ) (base x : ℕ) : Type 0 where
  found_at : (a : ℕ) (f : MMUFlags) (z : PageSize) (l w : ℕ) → queried p (base / 4096) x ≡ Ok (a, f, z) → translates_in p base x ≡ to a f.0 → shows_in p base x ≡ view l w
      → z ≡ size_at l → Told p base x
  not_there : queried p (base / 4096) x ≡ Err NotMapped → translates_in p base x ≡ nowhere → Told p base x

-- each query is one of the two
told : (p : List ℕ) (base used : ℕ) → Good p base used → (x : ℕ) → Told p base x
told p base used G x = go (found p (base / 4096) x) refl
  where
    go : (w : Walk) → found p (base / 4096) x ≡ w → Told p base x
    go (Leaf e) q =
        let h = shown p (base / 4096) x e q in
        let o = over p (base / 4096) used G.formed x e q in
        found_at _ _ _ o.l (word p e.frame e.place) h ((effects p base used x G).queries _ _ _ h) (shown_at p base used x G o.l e.frame e.place o.placed) o.size
    go (Open o) q = let h : queried p (base / 4096) x ≡ Err NotMapped = rw q in not_there h ((effects p base used x G).queries_not h)

-- translations of one frame, or both none
data Framed (t u : Translation) : Type 0 where
  equal : u ≡ t → Framed t u
  moved : (a f g : ℕ) → t ≡ to a f → u ≡ to a g → Framed t u

-- from what is shown
framed : (Q : ℕ → Type 0) (p q : List ℕ) (base x : ℕ) → Like Q (shows_in p base x) (shows_in q base x) → Framed (translates_in p base x) (translates_in q base x)
framed Q p q base x (same e) = equal (same_to p q base x e)
framed Q p q base x (leaves l w w' a b c d i j) =
    moved (x86.addr w + x % span l) (x86.flags w) (x86.flags w') (leaf_to p base x l w a c) (leaf_to q base x l w' b d ∙ ap (λ (n : ℕ). to (n + x % span l) (x86.flags w')) i)

-- no translation is both
clash_to : {A : Type 0} (a f : ℕ) → to a f ≡ nowhere → A
clash_to a f e = let z : ◌≡◌ {A = ℕ} 0 1 = cc in absurd (omega arith)

-- the entry that ends the walk of x is of one level in both
abbrev OneLevel : List ℕ → List ℕ → ℕ → ℕ → Type 0
OneLevel p q base x = (l w m v : ℕ) → shows_in p base x ≡ view l w → shows_in q base x ≡ view m v → l ≡ m

one_level : (Q : ℕ → Type 0) (p q : List ℕ) (base x : ℕ) → Like Q (shows_in p base x) (shows_in q base x) → OneLevel p q base x
one_level Q p q base x like l w m v a b = let k = level_back Q _ _ m v like b in let e : view l w ≡ view m k.0 = sym a ∙ k.1 in cc

-- from translations to queries
one_frame : (p q : List ℕ) (base x : ℕ) → Told p base x → Told q base x → Framed (translates_in p base x) (translates_in q base x) → OneLevel p q base x
    → SameFrame (queried p (base / 4096) x) (queried q (base / 4096) x)
one_frame p q base x (not_there a b) (not_there c d) r o = rw (a, c) (none NotMapped)
one_frame p q base x (not_there a b) (found_at n f z l w c d y k) (equal e) o = clash_to n f.0 (sym d ∙ e ∙ b)
one_frame p q base x (not_there a b) (found_at n f z l w c d y k) (moved m g h i j) o = clash_to m g (sym i ∙ b)
one_frame p q base x (found_at n f z l w c d y k) (not_there a b) (equal e) o = clash_to n f.0 (sym d ∙ sym e ∙ b)
one_frame p q base x (found_at n f z l w c d y k) (not_there a b) (moved m g h i j) o = clash_to m h (sym j ∙ b)
one_frame p q base x (found_at n f z l w c d y k) (found_at n' f' z' l' w' c' d' y' k') (equal e) o =
    let u : to n f.0 ≡ to n' f'.0 = sym d ∙ sym e ∙ d' in
    let v : n ≡ n' = cc in
    rw (c, c', v, k ∙ ap size_at (o l w l' w' y y') ∙ sym k') (frame n' f f' z')
one_frame p q base x (found_at n f z l w c d y k) (found_at n' f' z' l' w' c' d' y' k') (moved m g h i j) o =
    let u : to n f.0 ≡ to m g = sym d ∙ i in
    let u' : to n' f'.0 ≡ to m h = sym d' ∙ j in
    let v : n ≡ n' = cc in
    rw (c, c', v, k ∙ ap size_at (o l w l' w' y y') ∙ sym k') (frame n' f f' z')

unchanged : (p : List ℕ) (base used : ℕ) → Good p base used → (x : ℕ) → SameFrame (queried p (base / 4096) x) (queried p (base / 4096) x)
unchanged p base used G x = let t = told p base used G x in one_frame p p base x t t (equal refl) (λ l w m v a b. let e : view l w ≡ view m v = sym a ∙ b in cc)

-- what an address translates to, where the leaf that it shows has such flags
given_to : (Q R : ℕ → Type 0) (p q : List ℕ) (base x a h : ℕ) → Like R (shows_in p base x) (shows_in q base x) → Given Q (shows_in q base x) → translates_in p base x ≡ to a h
    → (n : ℕ) × (translates_in q base x ≡ to a n) × Q n
given_to Q R p q base x a h (same e) G t =
    let z : translates_in q base x ≡ to a h = same_to p q base x e ∙ t in
    let y : to (x86.addr G.w + x % span G.l) (x86.flags G.w) ≡ to a h = sym (leaf_to q base x G.l G.w G.is G.kind) ∙ z in
    let u : x86.flags G.w ≡ h = cc in
    (h, z, subst Q u G.flags)
given_to Q R p q base x a h (leaves l m m' b c d e i j) G t =
    let v : to (x86.addr m + x % span l) (x86.flags m) ≡ to a h = sym (leaf_to p base x l m b d) ∙ t in
    let u : x86.addr m + x % span l ≡ a = cc in
    let y : view l m' ≡ view G.l G.w = sym c ∙ G.is in
    let k : G.w ≡ m' = cc in (
      x86.flags m',
      leaf_to q base x l m' c e ∙ ap (λ (n : ℕ). to (n + x % span l) (x86.flags m')) i ∙ ap (λ (n : ℕ). to n (x86.flags m')) u,
      subst (λ (n : ℕ). Q (x86.flags n)) k G.flags,
    )

-- no answer is both
refused_not : {why : Refusal} → ◌≡◌ {A = Result (Unit {0}) Refusal} (Err why) (Ok tt) → ⊥
refused_not e = let z : ◌≡◌ {A = ℕ} 0 1 = cc in omega arith

module _ (s : Space) (f p : List ℕ) (base used id begin len access : ℕ) (g : Passes s f) (G : Good p base used) where
  answers : ProtectAnswers s id begin len access (call s f p base id begin len access).result
  answers = answer.answers s f g (lent f p) (base / 4096) id begin len access

  only : (x : Result (Unit {0}) Refusal) → ProtectAnswers s id begin len access x → x ≡ (call s f p base id begin len access).result
  only = answer.only s f g (lent f p) (base / 4096) id begin len access

  -- a refused call
  by_refusal : (why : Refusal) → call s f p base id begin len access ≡ refused (lent f p) why → Protects s f p base used id begin len access
  by_refusal why e =
      let e0 : (call s f p base id begin len access).result ≡ Err why = ap (λ (x : ProtectDone). x.result) e in
      let e1 : (call s f p base id begin len access).flags ≡ f = ap (λ (x : ProtectDone). x.flags) e in
      let e2 : (call s f p base id begin len access).pool ≡ p = ap (λ (x : ProtectDone). x.pool) e in
      record {
        refused = λ w h. (e1, e2);
        passes = subst (Passes s) (sym e1) g;
        good = subst (λ (x : List ℕ). Good x base used) (sym e2) G;
        answers = answers;
        only = only;
        asked = λ h. (answer.accepted answers h).0;
        allowed = λ h. (answer.accepted answers h).1;
        changes = λ h. absurd (refused_not (sym e0 ∙ h));
        keeps = λ i j l h off. ap (λ (x : List ℕ). page_at x i j) e1;
        frames = λ x cx. subst (λ (q : List ℕ). SameFrame (queried p (base / 4096) x) (queried q (base / 4096) x)) (sym e2) (unchanged p base used G x);
        elsewhere = λ x cx off. ap (λ (q : List ℕ). translates_in q base x) e2;
        given = λ h. absurd (refused_not (sym e0 ∙ h));
      }

  -- an accepted one
  module _ (A : WholePages begin len) (is : call s f p base id begin len access ≡ answer.Left s f g (lent f p) (base / 4096) id begin len access (Ok tt)) where
    abbrev r : ℕ
    r = slot_of s id

    abbrev now : Lent
    now = mappings_done (lent f p) (base / 4096) s (slot_of s id) begin (begin + len) access s.mapcount

    run : begin ≤ begin + len
    run = omega arith

    high_end : (begin + len) % 4096 ≡ 0
    high_end = let a = A.0 in let b = A.1 in omega arith

    changes : (i j : ℕ) → InRange s (slot_of s id) begin (begin + len) i j → page_at now.flags i j ≡ with_rights (page_at f i j) access
    changes i j w =
        let q = g.mappings.whole i w.slot w.live in
        subst (λ (x : ℕ). page_at now.flags x j ≡ with_rights (page_at f x j) access) q.2
        (places_change s f g base (slot_of s id) begin (begin + len) access run A.0 high_end (lent f p) s.mapcount q.0 j (omega arith) q.1 g.lent
        (subst (λ (x : ℕ). InRange s (slot_of s id) begin (begin + len) x j) (sym q.2) w))

    keeps : (i j : ℕ) → i < 64 → j < 512 → (InRange s (slot_of s id) begin (begin + len) i j → ⊥) → page_at now.flags i j ≡ page_at f i j
    keeps i j l h off = places_stay s f g base (slot_of s id) begin (begin + len) access run A.0 high_end (lent f p) s.mapcount i j (omega arith) h (λ k u e w. off w)

    -- the flags of each mapping's pages are in order still
    pages : (i : ℕ) → i < 64 → Pages now.flags i ((mapping_at s i).size / 4096)
    pages i l =
        let o = g.pages i l in
        record {
          known = λ j h. ⊎_elim
              (λ (w : InRange s (slot_of s id) begin (begin + len) i j). rw (changes i j w) (new.righted (page_at f i j) access (o.known j h)).known)
              (λ (w : InRange s (slot_of s id) begin (begin + len) i j → ⊥). rw (keeps i j l (small j h) w) (o.known j h))
              (in_range? s (slot_of s id) begin (begin + len) i j l);
          alike = λ j h. stays j h ∙ o.alike j h ∙ sym (stays 0 (omega arith));
          past = λ j h k. keeps i j l k (λ w. let x = w.page in omega arith) ∙ o.past j h k;
        }
      where
        small : (j : ℕ) → j < (mapping_at s i).size / 4096 → j < 512
        small j h = ⊎_elim
            (λ (a : is_mapping s i ≡ true). let z = (g.paged i l a).few in omega arith)
            (λ (a : is_mapping s i ≡ false). absurd (let z : (mapping_at s i).size ≡ 0 = ap (λ (m : Mapping). m.size) (g.blank.mapping i l a) in omega arith))
            (tell (is_mapping s i))

        stays : (j : ℕ) → j < (mapping_at s i).size / 4096 → others (page_at now.flags i j) ≡ others (page_at f i j)
        stays j h = ⊎_elim
            (λ (w : InRange s (slot_of s id) begin (begin + len) i j). ap others (changes i j w) ∙ new.others_stay (page_at f i j) access ((g.pages i l).known j h))
            (λ (w : InRange s (slot_of s id) begin (begin + len) i j → ⊥). ap others (keeps i j l (small j h) w))
            (in_range? s (slot_of s id) begin (begin + len) i j l)

    passes : Passes s now.flags
    passes = record {
      lent = (mappings_kept base used (lent f p) s (slot_of s id) begin (begin + len) access s.mapcount).flags ∙ g.lent;
      regions = g.regions;
      mappings = g.mappings;
      tree = g.tree;
      inner = g.inner;
      apart = g.apart;
      paged = g.paged;
      pages = pages;
      known = g.known;
      ids = g.ids;
      blank = g.blank;
    }

    good : Good now.pool base used
    good = (mappings_kept base used (lent f p) s (slot_of s id) begin (begin + len) access s.mapcount).good G

    in_table : Alike Any base (Page s (slot_of s id) begin (begin + len)) p now.pool
    in_table = places_alike s f g base used (slot_of s id) begin (begin + len) access run A.0 high_end (lent f p) G s.mapcount (omega arith)

    frames : (x : ℕ) → Canonical 4 x → SameFrame (queried p (base / 4096) x) (queried now.pool (base / 4096) x)
    frames x cx = one_frame p now.pool base x (told p base used G x) (told now.pool base used good x) (framed Any p now.pool base x (in_table.like x cx)) (one_level Any p now.pool base x (in_table.like x cx))

    elsewhere : (x : ℕ) → Canonical 4 x → ((i j : ℕ) → InRange s (slot_of s id) begin (begin + len) i j → Over p base (page_addr s i j) x → ⊥) → translates_in now.pool base x ≡ translates_in p base x
    elsewhere x cx off = same_to p now.pool base x (in_table.far x cx (λ v c u. off c.0 c.1 c.2 (subst (λ (y : ℕ). Over p base y x) (sym c.3) u)))

    -- the leaf of x is over the page
    under : (k j x a h : ℕ) → InRange s (slot_of s id) begin (begin + len) (mapping_place s k) j → Canonical 4 x → Over p base (page_addr s (mapping_place s k) j) x → translates_in p base x ≡ to a h
        → Under s f g base used (slot_of s id) begin (begin + len) access run A.0 high_end p k j x
    under k j x a h w cx o t = record {
      page = w;
      canonical = cx;
      l = o.0;
      w = o.1;
      shows = o.2;
      leaf = to_leaf p base x o.0 o.1 a h (near_shows p base used G (page_addr s (mapping_place s k) j) o.0 o.1 x o.2 o.3) t;
      near = o.3;
    }

    last_given : (x a h k j : ℕ) → Canonical 4 x → LastOver s p base (slot_of s id) begin (begin + len) x k j → translates_in p base x ≡ to a h
        → translates_in now.pool base x ≡ to a (granted (with_rights (page_at f (mapping_place s k) j) access))
    last_given x a h k j cx L t =
        let w = given_to _ Any p now.pool base x a h (in_table.like x cx)
        (places_last s f g base used (slot_of s id) begin (begin + len) access run A.0 high_end p G s.mapcount k (omega arith) L.place j x (under k j x a h L.page cx L.over t) L.last) t in
        w.1 ∙ ap (to a) w.2

    given : (i j : ℕ) → InRange s (slot_of s id) begin (begin + len) i j → (x a h : ℕ) → Canonical 4 x → Over p base (page_addr s i j) x → translates_in p base x ≡ to a h
        → (k : ℕ) × (m : ℕ) × LastOver s p base (slot_of s id) begin (begin + len) x k m
        × (translates_in now.pool base x ≡ to a (granted (with_rights (page_at f (mapping_place s k) m) access)))
    given i j w x a h cx o t =
        let q = g.mappings.whole i w.slot w.live in
        let L = last_over s f g p base (slot_of s id) begin (begin + len) x q.0 j (
          q.1,
          subst (λ (y : ℕ). InRange s (slot_of s id) begin (begin + len) y j) (sym q.2) w,
          subst (λ (y : ℕ). Over p base (page_addr s y j) x) (sym q.2) o,
        ) in
        (L.0, L.1, L.2, last_given x a h L.0 L.1 cx L.2 t)

    by_acceptance : Protects s f p base used id begin len access
    by_acceptance =
        let e1 : (call s f p base id begin len access).flags ≡ now.flags = ap (λ (x : ProtectDone). x.flags) is in
        let e2 : (call s f p base id begin len access).pool ≡ now.pool = ap (λ (x : ProtectDone). x.pool) is in
        record {
          refused = λ why h. absurd (refused_not (sym h ∙ ap (λ (x : ProtectDone). x.result) is));
          passes = subst (Passes s) (sym e1) passes;
          good = subst (λ (x : List ℕ). Good x base used) (sym e2) good;
          answers = answers;
          only = only;
          asked = λ h. (answer.accepted answers h).0;
          allowed = λ h. (answer.accepted answers h).1;
          changes = λ h i j w. ap (λ (x : List ℕ). page_at x i j) e1 ∙ changes i j w;
          keeps = λ i j l h off. ap (λ (x : List ℕ). page_at x i j) e1 ∙ keeps i j l h off;
          frames = λ x cx. subst (λ (q : List ℕ). SameFrame (queried p (base / 4096) x) (queried q (base / 4096) x)) (sym e2) (frames x cx);
          elsewhere = λ x cx off. ap (λ (q : List ℕ). translates_in q base x) e2 ∙ elsewhere x cx off;
          given = λ r i j w x a h cx o t. let q = given i j w x a h cx o t in (q.0, q.1, q.2, ap (λ (y : List ℕ). translates_in y base x) e2 ∙ q.3);
        }

-- the laws of a call
pub protects : (s : Space) (f p : List ℕ) (base used id begin len access : ℕ) → Passes s f → Good p base used → Protects s f p base used id begin len access
protects s f p base used id begin len access g G = by some.0 some.1
  where
    some : answer.Fit s f g (lent f p) (base / 4096) id begin len access
    some = answer.some_answer s f g (lent f p) (base / 4096) id begin len access

    by : (x : Result (Unit {0}) Refusal) → ProtectAnswers s id begin len access x → Protects s f p base used id begin len access
    by (Err why) k = by_refusal s f p base used id begin len access g G why (sym (answer.leaves s f g (lent f p) (base / 4096) id begin len access (Err why) k))
    by (Ok _) k =
        by_acceptance s f p base used id begin len access g G (answer.accepted k refl).0.pages (sym (answer.leaves s f g (lent f p) (base / 4096) id begin len access (Ok tt) k))

pub protect_laws : ProtectLaws
protect_laws = record { protects = protects; righted = new.righted }
