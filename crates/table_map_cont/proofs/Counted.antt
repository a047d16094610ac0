-- The count is right: on the table as it stands it answers what mapping the pages one after the other answers.
use Rattle.std.specs.Prelude.{Err, Ok}
use Prim.Native.Nat.{ℕ, zero, suc, ◌+◌, ◌-◌, ◌*◌, ◌/◌, ◌%◌, ◌^◌, ◌≤◌, ◌<◌, min}
use mathlib.Core.Path.{◌≡◌, refl, sym, ap, ◌∙◌, subst}
use mathlib.Core.Logic.{⊎_elim}
use mathlib.Core.List.{List}
use native.Mathlib.Omega.{arith}
use lib.ListN.{length, length-set}
use Rattle.paging.specs.Level.{span, Within}
use Rattle.paging.specs.Format.{nothing, leaf}
use Rattle.paging.specs.Table.{View, view}
use Rattle.paging.proofs.Cases.{same?, below?}
use Rattle.paging.proofs.Levels.{span_pos}
use Rattle.common.specs.Page.{level_of, size_of}
use Rattle.x86_64.specs.Entry.{x86}
use Rattle.x86_64.proofs.Format.{lawful}
use Rattle.pool.specs.Pool.{word}
use Rattle.form.specs.Form.{Good}
use Rattle.refusal.specs.declared.Refusal.{Refusal}
use Rattle.refusal.specs.declared.Refusal.TheVariants.{AlreadyMapped, NoFrames}
use Rattle.walk.specs.Walk.{size_at, found}
use Rattle.walk.specs.declared.Walk.{Walk}
use Rattle.walk.specs.declared.Walk.TheVariants.{Leaf, Open}
use Rattle.walk.specs.declared.LeafEntry.{LeafEntry}
use Rattle.walk.specs.declared.OpenEntry.{OpenEntry}
use Rattle.walk.proofs.Found.{over, unused}
use Rattle.table_map.specs.Map.{grown, under, filled, leaf_for, mapped, Mapping}
use Rattle.table_map.proofs.Fills.{grown_length, table_there, short, done}
use Rattle.table_laws.specs.Effects.{shows_in}
use Rattle.walk.proofs.Sizes.{size_level, size_bytes}
use Rattle.table_laws.proofs.Effects.{shown_at, effects}
use Rattle.table_map_cont.specs.MapCont.{Range, page_level, pages}
use Rattle.table_map_cont.specs.Count.{begins, count_page, counted}
use Rattle.table_map_cont.proofs.Heights.{Fits, page_fits}
use Rattle.table_map_cont.proofs.Pages.{span_page, Part, part_of_lem, part_page, part_near, part_begins, part_aligned, canonical, one_half, range_on}
use Rattle.table_map_cont.proofs.Lowered.{lowered, lowered_used, lowered_twice, lowered_top, lowers}
use Rattle.table_map_cont.proofs.Steps.{page_taken, page_over, page_short, page_done_lem, counted_end, counted_fail, counted_next, pages_end, pages_fail, pages_next}

-- what a walk's answer says of what the table shows: a word that is not 0, or an unused entry of its level
abbrev Seen : Walk → View → Type 0
Seen (Leaf e) o = (l : ℕ) × (w : ℕ) × (o ≡ view l w) × (w ≡ 0 → ⊥)
Seen (Open e) o = o ≡ view e.level 0

no_leaf_zero : (l w : ℕ) → x86.kind l w ≡ leaf → w ≡ 0 → ⊥
no_leaf_zero l w k e =
    let z : nothing ≡ leaf = sym (lawful.blank l) ∙ ap (x86.kind l) (sym e) ∙ k in
    let y : ◌≡◌ {A = ℕ} 0 1 = cc in
    omega arith

seen : (p : List ℕ) (base used v : ℕ) → Good p base used → Seen (found p (base / 4096) v) (shows_in p base v)
seen p base used v G = go (found p (base / 4096) v) refl
  where
    go : (r : Walk) → found p (base / 4096) v ≡ r → Seen r (shows_in p base v)
    go (Leaf e) q =
        let o = over p (base / 4096) used G.formed v e q in
        let w : ℕ = word p e.frame e.place in
        (o.l, w, shown_at p base used v G o.l e.frame e.place o.placed, no_leaf_zero o.l w o.kind)
    go (Open o) q =
        let u = unused p (base / 4096) used G.formed v o q in
        shown_at p base used v G o.level o.frame o.place u.placed ∙ ap (view o.level) u.blank

-- p' shows of v what p does, but an unused entry no higher than c: so do the walks
module _ (p p' : List ℕ) (base used used' v c : ℕ) (G : Good p base used) (G' : Good p' base used') (S : shows_in p' base v ≡ lowered c (shows_in p base v)) where
  abbrev b : ℕ
  b = base / 4096

  still_taken : (e : LeafEntry) → found p b v ≡ Leaf e → (e' : LeafEntry) × (found p' b v ≡ Leaf e')
  still_taken e q = go (found p' b v) refl (subst (λ (r : Walk). Seen r (shows_in p base v)) q (seen p base used v G))
    where
      go : (r : Walk) → found p' b v ≡ r → (l : ℕ) × (w : ℕ) × (shows_in p base v ≡ view l w) × (w ≡ 0 → ⊥) → (e' : LeafEntry) × (found p' b v ≡ Leaf e')
      go (Leaf e') r s = (e', r)
      go (Open o') r s =
          let z : view o'.level 0 ≡ view s.0 s.1 = sym (subst (λ (r : Walk). Seen r (shows_in p' base v)) r (seen p' base used' v G')) ∙ S ∙ ap (lowered c) s.2 ∙ lowered_used c s.0 s.1 s.3 in
          let y : s.1 ≡ 0 = cc in
          absurd (s.3 y)

  still_open : (o : OpenEntry) → found p b v ≡ Open o → (o' : OpenEntry) × (found p' b v ≡ Open o') × (o'.level ≡ min o.level c)
  still_open o q = go (found p' b v) refl
    where
      now_shows : shows_in p' base v ≡ view (min o.level c) 0
      now_shows = S ∙ ap (lowered c) (subst (λ (r : Walk). Seen r (shows_in p base v)) q (seen p base used v G))

      go : (r : Walk) → found p' b v ≡ r → (o' : OpenEntry) × (found p' b v ≡ Open o') × (o'.level ≡ min o.level c)
      go (Leaf e') r =
          let s : (l : ℕ) × (w : ℕ) × (shows_in p' base v ≡ view l w) × (w ≡ 0 → ⊥) = subst (λ (r : Walk). Seen r (shows_in p' base v)) r (seen p' base used' v G') in
          let z : view s.0 s.1 ≡ view (min o.level c) 0 = sym s.2 ∙ now_shows in
          let y : s.1 ≡ 0 = cc in
          absurd (s.3 y)
      go (Open o') r =
          let z : view o'.level 0 ≡ view (min o.level c) 0 = sym (subst (λ (r : Walk). Seen r (shows_in p' base v)) r (seen p' base used' v G')) ∙ now_shows in
          let y : o'.level ≡ min o.level c = cc in
          (o', r, y)

pub filled_long : (n : ℕ) (p : List ℕ) (b u v : ℕ) (o : OpenEntry) (w : ℕ) → (u + n) * 512 ≤ length p → length (filled n p b u v o w) ≡ length p
unfolding filled
filled_long zero p b u v o w h = length-set p (o.frame * 512 + o.place) w
filled_long (suc n) p b u v o w h =
    let g : length (grown p b u o) ≡ length p = grown_length p b u o (omega arith) in
    filled_long n (grown p b u o) b (u + 1) v (under u v o) w (omega arith) ∙ g

-- The pages from v0 up to v are mapped: p has become p'. The whole range ends at e.
module _ (p : List ℕ) (base used : ℕ) (G : Good p base used) (v0 e : ℕ) (W : Within 4 v0 e) where
  -- the level at which x parts from the pages so far; where there are none, the highest
  data Parted (v x d : ℕ) : Type 0 where
    none : v ≡ v0 → d ≡ 3 → Parted v x d
    after : v0 < v → Part (v - 1) x d → Parted v x d

  record State (p' : List ℕ) (used' v : ℕ) : Type 0 where
    good : Good p' base used'
    long : length p' ≡ length p
    from : v0 ≤ v
    upto : v ≤ e
    page : v % 4096 ≡ 0
    -- what the rest of the range sees
    sees : (x d : ℕ) → v ≤ x → x < e → Parted v x d → shows_in p' base x ≡ lowered d (shows_in p base x)

  start : v0 % 4096 ≡ 0 → State p used v0
  start z = record { good = G; long = refl; from = omega arith; upto = W.0; page = z; sees = sees }
    where
      sees : (x d : ℕ) → v0 ≤ x → x < e → Parted v0 x d → shows_in p base x ≡ lowered d (shows_in p base x)
      sees x d h g (none a q) = rw q (lowered_top p (base / 4096) used G.formed x)
      sees x d h g (after a q) = absurd (omega arith)

  -- at the address of the next page
  here : (v : ℕ) → v0 < v → v < e → v % 4096 ≡ 0 → Parted v v (begins v)
  here v h g z = after h (part_begins v (omega arith) z (one_half v0 e v (v - 1) W (omega arith) (omega arith) (omega arith) (omega arith)))

  -- x parts from the pages so far no lower than from v
  parted_above : (v x d : ℕ) → v0 ≤ v → v ≤ x → x < e → v % 4096 ≡ 0 → Part v x d → (d' : ℕ) × Parted v x d' × (d ≤ d')
  parted_above v x d f h g z P = ⊎_elim
      (λ (q : v ≡ v0). (3, none q refl, P.low))
      (λ ne.
      let l : v0 < v = ⊎_elim (λ r. r) (λ r. absurd (ne (omega arith))) (below? v0 v) in
      let Q = part_of_lem (v - 1) x (one_half v0 e x (v - 1) W (omega arith) (omega arith) (omega arith) (omega arith)) (λ q. omega arith) in
      (Q.0, after l Q.1, part_near (v - 1) v x d Q.0 (omega arith) h P Q.1))
      (same? v v0)

  -- the next page is of level t
  module _ (top pa f n t : ℕ) (two : top ≤ 2) (p' : List ℕ) (used' v : ℕ) (S : State p' used' v) (F : Fits top v pa n t) (end : v + n ≡ e) (fit : pa + n ≤ 2 ^ 52) where
    level : level_of (size_at t) ≡ t
    level = size_level t (omega (arith, F.low))

    bytes : size_of (size_at t) ≡ span t
    bytes = size_bytes t (omega (arith, F.low))

    module _ (o : OpenEntry) (q : found p' (base / 4096) v ≡ Open o) (above : t ≤ o.level) (room : o.level - t ≤ length p' / 512 - used') where
      is_done : mapped p' (base / 4096) used' v pa (size_at t) f ≡ record {
        result = Ok (used' + (o.level - t));
        pool = filled (o.level - t) p' (base / 4096) used' v o (leaf_for (size_at t) pa f);
      }
      is_done =
          done p' (base / 4096) used' v (size_at t) pa f o q (omega (arith, level)) (omega (arith, level))
          ∙ ap (λ (l : ℕ). record { result = Ok (used' + (o.level - l)); pool = filled (o.level - l) p' (base / 4096) used' v o (leaf_for (size_at t) pa f) }) level

      next_state : State (mapped p' (base / 4096) used' v pa (size_at t) f).pool (used' + (o.level - t)) (v + span t)
      next_state =
          let g = S.good.sized in
          let s = span_page t in
          record {
            good = ((effects p' base used' v S.good).maps (size_at t) pa f (used' + (o.level - t)) (omega (arith, bytes, F.room)) (ap (λ (m : Mapping). m.result) is_done)).good;
            long = ap (λ (m : Mapping). length m.pool) is_done ∙ filled_long (o.level - t) p' (base / 4096) used' v o (leaf_for (size_at t) pa f) (omega (arith, g.there)) ∙ S.long;
            from = omega (arith, S.from);
            upto = omega (arith, F.room);
            page = omega (arith, S.page);
            sees = sees;
          }
        where
          sees : (x d : ℕ) → v + span t ≤ x → x < e → Parted (v + span t) x d → shows_in (mapped p' (base / 4096) used' v pa (size_at t) f).pool base x ≡ lowered d (shows_in p base x)
          sees x d h k (none z y) = absurd (omega (arith, S.from, span_pos t))
          sees x d h k (after z P) =
              let g = S.good.sized in
              let a = part_page t v x d F.virt h P in
              let c = parted_above v x d S.from (omega arith) k S.page a.0 in
              ap (λ (m : Mapping). shows_in m.pool base x) is_done
              ∙ lowers (base / 4096) v t (leaf_for (size_at t) pa f) (canonical v0 e v W S.from (omega arith)) x (canonical v0 e x W (omega (arith, S.from)) k) d a.0 a.1
              (o.level - t) p' used' S.good.formed o (unused p' (base / 4096) used' S.good.formed v o q)
              (omega arith) (omega (arith, g.there)) (omega (arith, g.there, g.below, g.page))
              ∙ ap (lowered d) (S.sees x c.0 (omega arith) k c.1)
              ∙ lowered_twice d c.0 (shows_in p base x) c.2

    -- what the page answers, mapped after those before it and counted on the table as it stands
    data Answers (c : ℕ) : Type 0 where
      fails : (r : Refusal) → (mapped p' (base / 4096) used' v pa (size_at t) f).result ≡ Err r → count_page p (base / 4096) used' c v t ≡ Err r → Answers c
      goes : (u : ℕ) → (mapped p' (base / 4096) used' v pa (size_at t) f).result ≡ Ok u → count_page p (base / 4096) used' c v t ≡ Ok u
          → State (mapped p' (base / 4096) used' v pa (size_at t) f).pool u (v + span t) → Answers c

    answers : (c : ℕ) → 0 < n → t ≤ c → Parted v v c → Answers c
    answers c hn tc C = go (found p (base / 4096) v) refl
      where
        now_sees : shows_in p' base v ≡ lowered c (shows_in p base v)
        now_sees = S.sees v c (omega arith) (omega arith) C

        frames : length p' / 512 - used' ≡ length p / 512 - used'
        frames = ap (λ (l : ℕ). l / 512 - used') S.long

        go : (r : Walk) → found p (base / 4096) v ≡ r → Answers c
        go (Leaf l) q =
            let s = still_taken p p' base used used' v c G S.good now_sees l q in
            let z : found p' (base / 4096) v ≡ Leaf s.0 = s.1 in
            fails AlreadyMapped (rw z) (page_taken p (base / 4096) used' c v t l q)
        go (Open o) q = ⊎_elim in_the_way (λ h. ⊎_elim (too_few h) (enough h) (below? (length p / 512 - used') (min o.level c - t))) (below? o.level t)
          where
            s : (o' : OpenEntry) × (found p' (base / 4096) v ≡ Open o') × (o'.level ≡ min o.level c)
            s = still_open p p' base used used' v c G S.good now_sees o q

            in_the_way : o.level < t → Answers c
            in_the_way h = fails AlreadyMapped (ap (λ (m : Mapping). m.result) (table_there p' (base / 4096) used' v (size_at t) pa f s.0 s.1 (omega (arith, s.2, level)))) (page_over p (base / 4096) used' c v t o q h)

            too_few : t ≤ o.level → length p / 512 - used' < min o.level c - t → Answers c
            too_few h g = fails NoFrames
                (ap (λ (m : Mapping). m.result) (short p' (base / 4096) used' v (size_at t) pa f s.0 s.1 (omega (arith, s.2, level)) (omega (arith, s.2, level, frames))))
                (page_short p (base / 4096) used' c v t o q h g)

            enough : t ≤ o.level → min o.level c - t ≤ length p / 512 - used' → Answers c
            enough h g =
                let u : used' + (s.0.level - t) ≡ used' + (min o.level c - t) = ap (λ (l : ℕ). used' + (l - t)) s.2 in
                let a : t ≤ s.0.level = omega (arith, s.2) in
                let r : s.0.level - t ≤ length p' / 512 - used' = omega (arith, s.2, frames) in
                goes (used' + (s.0.level - t)) (ap (λ (m : Mapping). m.result) (is_done s.0 s.1 a r)) (page_done_lem p (base / 4096) used' c v t o q h g ∙ ap Ok (sym u)) (next_state s.0 s.1 a r)

  -- the count answers what the pages do
  module _ (top f : ℕ) (two : top ≤ 2) where
    abbrev Right : ℕ → List ℕ → ℕ → ℕ → ℕ → ℕ → ℕ → Type 0
    Right k p' used' c v pa n = (pages k p' (base / 4096) used' v pa n top f).result ≡ counted k p (base / 4096) used' c v pa n top

    not_above : (t v c : ℕ) → t ≤ 2 → v % span t ≡ 0 → Parted v v c → t ≤ c
    not_above t v c h z (none a q) = omega arith
    not_above t v c h z (after a P) = part_aligned t v c z (omega arith) P

    one : (k : ℕ) (p' : List ℕ) (used' c v pa n t : ℕ) → t ≡ page_level top v pa n → State p' used' v → v + n ≡ e → Range v n pa → 0 < n → Parted v v c
        → ((p'' : List ℕ) (used'' c'' v'' pa'' n'' : ℕ) → State p'' used'' v'' → v'' + n'' ≡ e → Range v'' n'' pa'' → (0 < n'' → Parted v'' v'' c'') → Right k p'' used'' c'' v'' pa'' n'')
        → Right (suc k) p' used' c v pa n
    one k p' used' c v pa n t et S end R hn C ih = go (answers top pa f n t two p' used' v S F end R.physical c hn (not_above t v c (omega (arith, F.low)) F.virt C) C)
      where
        some : n ≡ 0 → ⊥
        some z = omega arith

        F : Fits top v pa n t
        F = rw et (page_fits top v pa n R.start (omega (arith, R.size)))

        go : Answers top pa f n t two p' used' v S F end R.physical c → Right (suc k) p' used' c v pa n
        go (fails r m q) =
            ap (λ (x : Mapping). x.result) (pages_fail p' (base / 4096) used' v pa n top f k t some et r m) ∙ m
            ∙ sym (counted_fail p (base / 4096) used' c v pa n top k t some et r q)
        go (goes u m q S') =
            let s = span_page t in
            ap (λ (x : Mapping). x.result) (pages_next p' (base / 4096) used' v pa n top f k t some et u m)
            ∙ ih (mapped p' (base / 4096) used' v pa (size_at t) f).pool u (begins (v + span t)) (v + span t) (pa + span t) (n - span t) S' (omega (arith, F.room)) (range_on top v pa n t R F)
            (λ h. here (v + span t) (omega (arith, S.from)) (omega (arith, F.room)) (omega (arith, R.start)))
            ∙ sym (counted_next p (base / 4096) used' c v pa n top k t some et u q)

    right : (k : ℕ) (p' : List ℕ) (used' c v pa n : ℕ) → State p' used' v → v + n ≡ e → Range v n pa → (0 < n → Parted v v c) → Right k p' used' c v pa n
    unfolding pages counted
    right zero p' used' c v pa n S end R C = refl
    right (suc k) p' used' c v pa n S end R C = ⊎_elim
        (λ (h : 0 < n). one k p' used' c v pa n (page_level top v pa n) refl S end R h (C h) (right k))
        (λ h.
        let z : n ≡ 0 = omega arith in
        ap (λ (x : Mapping). x.result) (pages_end p' (base / 4096) used' v pa n top f (suc k) z) ∙ sym (counted_end p (base / 4096) used' c v pa n top (suc k) z))
        (below? 0 n)

pub by_count : (k : ℕ) (p : List ℕ) (base used v n pa top f : ℕ) → Good p base used → Range v n pa → top ≤ 2
    → (pages k p (base / 4096) used v pa n top f).result ≡ counted k p (base / 4096) used 3 v pa n top
by_count k p base used v n pa top f G R two = right p base used G v (v + n) R.within top f two k p used 3 v pa n (start p base used G v (v + n) R.within R.start) refl R (λ h. none refl refl)
