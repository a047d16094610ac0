-- What the four calls mean for every address.
use Rattle.std.specs.Prelude.{Err, Ok, Option, Result}
use Prim.Native.Nat.{ℕ, ◌+◌, ◌-◌, ◌/◌, ◌%◌, ◌^◌, ◌≤◌, ◌<◌}
use mathlib.Core.Path.{◌≡◌, refl, sym, ap, ◌∙◌, subst}
use mathlib.Core.Bool.{Bool, true, false}
use mathlib.Core.Logic.{inl, inr, ⊎_elim}
use mathlib.Core.List.{List}
use native.Mathlib.Omega.{arith}
use lib.ListN.{length}
use Rattle.paging.specs.Level.{span, index}
use Rattle.paging.specs.Format.{Kind, by_kind, blank}
use Rattle.paging.specs.Table.{view, Translation, to, nowhere, translated, translates}
use Rattle.paging.proofs.Cases.{below?}
use Rattle.paging.proofs.Walks.{nothing_bar, leaf_bar}
use Rattle.common.specs.Page.{level_of, size_of}
use Rattle.common.specs.declared.defs.MMUFlags.{MMUFlags}
use Rattle.common.specs.declared.vm.PageSize.{PageSize}
use Rattle.x86_64.specs.Entry.{addr_of, flags_of, x86}
use Rattle.x86_64.proofs.Format.{lawful}
use Rattle.pool.specs.Pool.{word, put_word, mem_of}
use Rattle.pool.proofs.Memory.{mem_at}
use Rattle.form.specs.Form.{Good}
use Rattle.refusal.specs.declared.Refusal.{Refusal}
use Rattle.refusal.specs.declared.Refusal.TheVariants.{InvalidArgs, NotMapped, AlreadyMapped, NoFrames}
use Rattle.walk.specs.Walk.{found}
use Rattle.walk.specs.declared.Walk.{Walk}
use Rattle.walk.specs.declared.Walk.TheVariants.{Leaf, Open}
use Rattle.walk.specs.declared.LeafEntry.{LeafEntry}
use Rattle.walk.specs.declared.OpenEntry.{OpenEntry}
use Rattle.walk.proofs.Found.{Placed, over, unused}
use Rattle.table.specs.Table.{queried, unmapped, Unmapping, misplaced, new_word, updated, Updating}
use Rattle.table.proofs.Laws.{shown, gone, refused_address, rewritten}
use Rattle.table_map.specs.Map.{filled, leaf_for, mapped, Mapping}
use Rattle.walk.proofs.Sizes.{size_level, size_bytes}
use Rattle.table_map.proofs.Fills.{table_there, short, done}
use Rattle.table_laws.specs.Effects.{shows_in, translates_in, Rewrites, Adds, MapAnswer, in_the_way, Effects, EffectsHold}
use Rattle.table_laws.specs.Effects as effect
use Rattle.table_laws.proofs.Writes.{rewrites}
use Rattle.table_laws.proofs.Grows.{nowhere_blank, fills}
use Rattle.table_laws.proofs.Leaves.{LeafAt, new_leaf, map_leaf}

module _ (p : List ℕ) (base used v : ℕ) (G : Good p base used) where
  abbrev b : ℕ
  b = base / 4096

  -- what an address shows is the word at its place
  pub shown_at : (l f k : ℕ) → Placed p b used G.formed v l f k → shows_in p base v ≡ view l (word p f k)
  shown_at l f k P =
      let w : mem_of p b P.E.n (index P.E.l v) ≡ word p f k =
      ap (λ (n : ℕ). mem_of p b n (index P.E.l v)) P.number ∙ mem_at p b f (index P.E.l v) ∙ ap (word p f) (ap (λ (m : ℕ). index m v) P.level ∙ sym P.at) in
      P.E.shown ∙ ap (view P.E.l) w ∙ ap (λ (m : ℕ). view m (word p f k)) P.level

  -- a leaf translates to its own frame and rights
  pub leaf_translates : (e : LeafEntry) → found p b v ≡ Leaf e → translates_in p base v ≡ to (addr_of (word p e.frame e.place) + v % size_of e.size) (flags_of (word p e.frame e.place))
  unfolding translates x86
  leaf_translates e q =
      let o = over p b used G.formed v e q in
      let w : ℕ = word p e.frame e.place in
      let n : size_of e.size ≡ span o.l = ap size_of o.size ∙ size_bytes o.l o.low in
      ap (translated x86 v) (shown_at o.l e.frame e.place o.placed)
      ∙ ap (λ (k : Kind). by_kind k nowhere (to (addr_of w + v % span o.l) (flags_of w)) (λ m. nowhere)) o.kind
      ∙ ap (λ (k : ℕ). to (addr_of w + v % k) (flags_of w)) (sym n)

  open_translates : (o : OpenEntry) → found p b v ≡ Open o → translates_in p base v ≡ nowhere
  unfolding translates
  open_translates o q =
      let u = unused p b used G.formed v o q in
      ap (translated x86 v) (shown_at o.level o.frame o.place u.placed ∙ ap (view o.level) u.blank) ∙ nowhere_blank v o.level

  pub queries : (a : ℕ) (f : MMUFlags) (s : PageSize) → queried p b v ≡ Ok (a, f, s) → translates_in p base v ≡ to a f.0
  queries a f s = go (found p b v) refl
    where
      go : (r : Walk) → found p b v ≡ r → queried p b v ≡ Ok (a, f, s) → translates_in p base v ≡ to a f.0
      go (Leaf e) q h =
          let w : ℕ = word p e.frame e.place in
          let same : Ok (addr_of w + v % size_of e.size, (record { 0 = flags_of w }), e.size) ≡ Ok (a, f, s) = sym (shown p b v e q) ∙ h in
          leaf_translates e q ∙ ap translation same
        where
          translation : Result (ℕ × MMUFlags × PageSize) Refusal → Translation
          translation (Ok (x, y, z)) = to x y.0
          translation (Err r) = nowhere
      go (Open o) q h =
          let none : Err NotMapped ≡ Ok (a, f, s) = rw q at h in
          let z : ◌≡◌ {A = ℕ} 0 1 = cc in
          absurd (omega arith)

  pub queries_not : queried p b v ≡ Err NotMapped → translates_in p base v ≡ nowhere
  queries_not = go (found p b v) refl
    where
      go : (r : Walk) → found p b v ≡ r → queried p b v ≡ Err NotMapped → translates_in p base v ≡ nowhere
      go (Leaf e) q h =
          let some : Ok ((addr_of (word p e.frame e.place) + v % size_of e.size), (record { 0 = flags_of (word p e.frame e.place) }), e.size) ≡ Err NotMapped = sym (shown p b v e q) ∙ h in
          let z : ◌≡◌ {A = ℕ} 0 1 = cc in
          absurd (omega arith)
      go (Open o) q h = open_translates o q

  unmaps : (a : ℕ) (s : PageSize) → (unmapped p b v).result ≡ Ok (a, s)
      → (w : ℕ) × (shows_in p base v ≡ view (level_of s) w) × (a ≡ addr_of w) × Rewrites p (unmapped p b v).pool base used v (level_of s) 0
  unmaps a s = go (found p b v) refl
    where
      go : (r : Walk) → found p b v ≡ r → (unmapped p b v).result ≡ Ok (a, s)
          → (w : ℕ) × (shows_in p base v ≡ view (level_of s) w) × (a ≡ addr_of w) × Rewrites p (unmapped p b v).pool base used v (level_of s) 0
      go (Open o) q h =
          let none : Err NotMapped ≡ Ok (a, s) = rw q at h in
          let z : ◌≡◌ {A = ℕ} 0 1 = cc in
          absurd (omega arith)
      go (Leaf e) q h =
          let o = over p b used G.formed v e q in
          let w : ℕ = word p e.frame e.place in
          let same : Ok (addr_of w, e.size) ≡ Ok (a, s) = sym (ap (λ (u : Unmapping). u.result) (gone p b v e q)) ∙ h in
          let pair : ◌≡◌ {A = ℕ × PageSize} (addr_of w, e.size) (a, s) = cc in
          let size : e.size ≡ s = ap (λ (x : ℕ × PageSize). x.1) pair in
          let addr : addr_of w ≡ a = ap (λ (x : ℕ × PageSize). x.0) pair in
          let l : o.l ≡ level_of s = sym (size_level o.l o.low) ∙ ap level_of (sym o.size ∙ size) in (
            w,
            shown_at o.l e.frame e.place o.placed ∙ ap (λ (m : ℕ). view m w) l,
            sym addr,
            subst (λ (x : List ℕ). Rewrites p x base used v (level_of s) 0) (sym (ap (λ (u : Unmapping). u.pool) (gone p b v e q)))
                (subst (λ (m : ℕ). Rewrites p (put_word p e.frame e.place 0) base used v m 0) l
                (rewrites p base used G v o.l e.frame e.place 0 o.placed (blank refl) (nothing_bar (lawful.blank o.l)))),
          )

  updates : (n : Option ℕ) (f : Option MMUFlags) (s : PageSize) → (updated p b v n f).result ≡ Ok s
      → (w : ℕ) × (shows_in p base v ≡ view (level_of s) w) × Rewrites p (updated p b v n f).pool base used v (level_of s) (new_word w s n f)
  updates n f s = go (found p b v) refl
    where
      Goal : Type 0
      Goal = (w : ℕ) × (shows_in p base v ≡ view (level_of s) w) × Rewrites p (updated p b v n f).pool base used v (level_of s) (new_word w s n f)

      go : (r : Walk) → found p b v ≡ r → (updated p b v n f).result ≡ Ok s → Goal
      go (Open o) q h =
          let none : Err NotMapped ≡ Ok s = rw q at h in
          let z : ◌≡◌ {A = ℕ} 0 1 = cc in
          absurd (omega arith)
      go (Leaf e) q h = tested (misplaced n e.size) refl
        where
          w : ℕ
          w = word p e.frame e.place

          tested : (t : Bool) → misplaced n e.size ≡ t → Goal
          tested true m =
              let none : Err InvalidArgs ≡ Ok s = sym (ap (λ (u : Updating). u.result) (refused_address p b v e q n f m)) ∙ h in
              let z : ◌≡◌ {A = ℕ} 0 1 = cc in
              absurd (omega arith)
          tested false m =
              let o = over p b used G.formed v e q in
              let r = rewritten p b v e q n f m in
              let same : Ok e.size ≡ Ok s = sym (ap (λ (u : Updating). u.result) r) ∙ h in
              let size : e.size ≡ s = cc in
              let l : o.l ≡ level_of s = sym (size_level o.l o.low) ∙ ap level_of (sym o.size ∙ size) in
              let L : LeafAt (level_of s) w = subst (λ (m : ℕ). LeafAt m w) l (record { fits = o.placed.fits; kind = o.kind }) in
              let N : LeafAt (level_of s) (new_word w s n f) = new_leaf s w L n f (rw size at m) in
              let P : Placed p b used G.formed v (level_of s) e.frame e.place = subst (λ (m : ℕ). Placed p b used G.formed v m e.frame e.place) l o.placed in
              let pool : (updated p b v n f).pool ≡ put_word p e.frame e.place (new_word w s n f) =
              ap (λ (u : Updating). u.pool) r ∙ ap (λ (z : PageSize). put_word p e.frame e.place (new_word w z n f)) size in (
                w,
                shown_at (level_of s) e.frame e.place P,
                subst (λ (x : List ℕ). Rewrites p x base used v (level_of s) (new_word w s n f)) (sym pool)
                    (rewrites p base used G v (level_of s) e.frame e.place (new_word w s n f) P N.fits (leaf_bar N.kind)),
              )

  maps : (s : PageSize) (pa f used' : ℕ) → pa + size_of s ≤ 2 ^ 52 → (mapped p b used v pa s f).result ≡ Ok used'
      → Adds p (mapped p b used v pa s f).pool base used' v (level_of s) (leaf_for s pa f)
  maps s pa f used' room = go (found p b v) refl
    where
      Goal : Type 0
      Goal = Adds p (mapped p b used v pa s f).pool base used' v (level_of s) (leaf_for s pa f)

      go : (r : Walk) → found p b v ≡ r → (mapped p b used v pa s f).result ≡ Ok used' → Goal
      go (Leaf e) q h =
          let none : Err AlreadyMapped ≡ Ok used' = rw q at h in
          let z : ◌≡◌ {A = ℕ} 0 1 = cc in
          absurd (omega arith)
      go (Open o) q h = ⊎_elim table_in_way (λ c. ⊎_elim (short_of c) (enough c) (below? (length p / 512 - used) (o.level - level_of s))) (below? o.level (level_of s))
        where
          table_in_way : o.level < level_of s → Goal
          table_in_way c =
              let none : Err AlreadyMapped ≡ Ok used' = sym (ap (λ (u : Mapping). u.result) (table_there p b used v s pa f o q c)) ∙ h in
              let z : ◌≡◌ {A = ℕ} 0 1 = cc in
              absurd (omega arith)

          short_of : level_of s ≤ o.level → length p / 512 - used < o.level - level_of s → Goal
          short_of c d =
              let none : Err NoFrames ≡ Ok used' = sym (ap (λ (u : Mapping). u.result) (short p b used v s pa f o q c d)) ∙ h in
              let z : ◌≡◌ {A = ℕ} 0 1 = cc in
              absurd (omega arith)

          enough : level_of s ≤ o.level → o.level - level_of s ≤ length p / 512 - used → Goal
          enough c d =
              let n : ℕ = o.level - level_of s in
              let r = done p b used v s pa f o q c d in
              let same : Ok (used + n) ≡ Ok used' = sym (ap (λ (u : Mapping). u.result) r) ∙ h in
              let e : used + n ≡ used' = cc in
              let L = map_leaf s pa f room in
              let g = G.sized in
              let F =
              fills b v (level_of s) (leaf_for s pa f) L.fits (leaf_bar L.kind) n p used G.formed o (unused p b used G.formed v o q)
              (omega arith) (omega (arith, g.there)) (omega (arith, g.there, g.below, g.page)) in
              subst (λ (x : List ℕ). Adds p x base used' v (level_of s) (leaf_for s pa f)) (sym (ap (λ (u : Mapping). u.pool) r))
              (subst (λ (k : ℕ). Adds p (filled n p b used v o (leaf_for s pa f)) base k v (level_of s) (leaf_for s pa f)) e
              (record {
                good = record {
                  sized = rw F.long (record {
                    whole = g.whole;
                    few = g.few;
                    page = g.page;
                    below = g.below;
                    root = omega (arith, g.root);
                    there = omega (arith, g.there);
                  });
                  formed = F.formed;
                };
                inside = F.inside;
                outside = F.outside;
              }))

module _ (p : List ℕ) (base used v : ℕ) (G : Good p base used) where
  map_answer : (s : PageSize) (pa f : ℕ) → MapAnswer p base used v (level_of s) (mapped p (base / 4096) used v pa s f).result
  map_answer s pa f = go (found p (base / 4096) v) refl
    where
      Goal : Type 0
      Goal = MapAnswer p base used v (level_of s) (mapped p (base / 4096) used v pa s f).result

      go : (r : Walk) → found p (base / 4096) v ≡ r → Goal
      go (Leaf e) q =
          let o = over p (base / 4096) used G.formed v e q in
          in_the_way o.l (word p e.frame e.place) (shown_at p base used v G o.l e.frame e.place o.placed) (inl o.kind) (rw q)
      go (Open o) q = ⊎_elim table_in_way (λ c. ⊎_elim (short_of c) (enough c) (below? (length p / 512 - used) (o.level - level_of s))) (below? o.level (level_of s))
        where
          blank_there : shows_in p base v ≡ view o.level 0
          blank_there =
              let u = unused p (base / 4096) used G.formed v o q in
              shown_at p base used v G o.level o.frame o.place u.placed ∙ ap (view o.level) u.blank

          table_in_way : o.level < level_of s → Goal
          table_in_way c = in_the_way o.level 0 blank_there (inr c) (ap (λ (u : Mapping). u.result) (table_there p (base / 4096) used v s pa f o q c))

          short_of : level_of s ≤ o.level → length p / 512 - used < o.level - level_of s → Goal
          short_of c d = effect.short o.level blank_there c d (ap (λ (u : Mapping). u.result) (short p (base / 4096) used v s pa f o q c d))

          enough : level_of s ≤ o.level → o.level - level_of s ≤ length p / 512 - used → Goal
          enough c d = effect.done o.level blank_there c d (ap (λ (u : Mapping). u.result) (done p (base / 4096) used v s pa f o q c d))

-- a refused call changes no word, whatever the pool is
module _ (p : List ℕ) (b v : ℕ) where
  pub unmap_refused_lem : (r : Refusal) → (unmapped p b v).result ≡ Err r → (unmapped p b v).pool ≡ p
  unmap_refused_lem r = go (found p b v) refl
    where
      go : (k : Walk) → found p b v ≡ k → (unmapped p b v).result ≡ Err r → (unmapped p b v).pool ≡ p
      go (Open o) q h = rw q
      go (Leaf e) q h =
          let some : Ok ((addr_of (word p e.frame e.place)), e.size) ≡ Err r = rw q at h in
          let z : ◌≡◌ {A = ℕ} 0 1 = cc in
          absurd (omega arith)

  pub update_refused_lem : (n : Option ℕ) (f : Option MMUFlags) (r : Refusal) → (updated p b v n f).result ≡ Err r → (updated p b v n f).pool ≡ p
  update_refused_lem n f r = go (found p b v) refl
    where
      go : (k : Walk) → found p b v ≡ k → (updated p b v n f).result ≡ Err r → (updated p b v n f).pool ≡ p
      go (Open o) q h = rw q
      go (Leaf e) q h = tested (misplaced n e.size) refl
        where
          tested : (t : Bool) → misplaced n e.size ≡ t → (updated p b v n f).pool ≡ p
          tested true m = rw (q, m)
          tested false m =
              let some : Ok e.size ≡ Err r = rw (q, m) at h in
              let z : ◌≡◌ {A = ℕ} 0 1 = cc in
              absurd (omega arith)

  pub map_refused_lem : (used : ℕ) (s : PageSize) (pa f : ℕ) (r : Refusal) → (mapped p b used v pa s f).result ≡ Err r → (mapped p b used v pa s f).pool ≡ p
  map_refused_lem used s pa f r = go (found p b v) refl
    where
      go : (k : Walk) → found p b v ≡ k → (mapped p b used v pa s f).result ≡ Err r → (mapped p b used v pa s f).pool ≡ p
      go (Leaf e) q h = rw q
      go (Open o) q h = ⊎_elim (λ c. ap (λ (u : Mapping). u.pool) (table_there p b used v s pa f o q c)) (λ c. ⊎_elim
          (λ d. ap (λ (u : Mapping). u.pool) (short p b used v s pa f o q c d))
          (λ d. absurd (succeeds c d))
          (below? (length p / 512 - used) (o.level - level_of s))) (below? o.level (level_of s))
        where
          succeeds : level_of s ≤ o.level → o.level - level_of s ≤ length p / 512 - used → ⊥
          succeeds c d =
              let some : Ok (used + (o.level - level_of s)) ≡ Err r = sym (ap (λ (u : Mapping). u.result) (done p b used v s pa f o q c d)) ∙ h in
              let z : ◌≡◌ {A = ℕ} 0 1 = cc in
              omega arith

pub effects : (p : List ℕ) (base used v : ℕ) → Good p base used → Effects p base used v
effects p base used v G = record {
  queries = queries p base used v G;
  queries_not = queries_not p base used v G;
  unmaps = unmaps p base used v G;
  updates = updates p base used v G;
  maps = maps p base used v G;
  map_answer = map_answer p base used v G;
  unmap_keeps = unmap_refused_lem p (base / 4096) v;
  update_keeps = update_refused_lem p (base / 4096) v;
  map_keeps = map_refused_lem p (base / 4096) v used;
}

pub effects_hold : EffectsHold
effects_hold = record { holds = effects }
