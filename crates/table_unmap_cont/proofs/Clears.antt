-- Every entry from one address to another, emptied: the loop's laws, and that it is the rewriting of the format (paging/specs/Steps).
use Prim.Native.Nat.{ℕ, zero, suc, ◌+◌, ◌-◌, ◌*◌, ◌/◌, ◌%◌, ◌≤◌, ◌<◌}
use mathlib.Core.Bool.{Bool, true, false}
use mathlib.Core.Path.{◌≡◌, refl, sym, ap, ◌∙◌, subst}
use mathlib.Core.List.{List}
use mathlib.Core.Logic.{⊎_elim}
use native.Mathlib.Omega.{arith}
use native.Mathlib.Nat.{div-add-mod', mod-lt}
use lib.Dec.{leb}
use lib.ListN.{length, length-set}
use borrow.Author.Tests.{le-leb, lt-leb}
use Rattle.paging.specs.Choice.{pick}
use Rattle.paging.specs.Level.{span, index}
use Rattle.paging.specs.Format.{blank}
use Rattle.paging.specs.Table.{hit, walk}
use Rattle.paging.specs.Steps as steps
use Rattle.paging.specs.Steps.{Rewritten}
use Rattle.paging.proofs.Cases.{below?}
use Rattle.paging.proofs.Levels.{span_pos, index_lt}
use Rattle.paging.proofs.Walks.{nothing_bar}
use Rattle.common.specs.Page.{size_of}
use Rattle.common.proofs.Pages.{size_pos}
use Rattle.x86_64.specs.Entry.{x86}
use Rattle.x86_64.proofs.Format.{lawful}
use Rattle.pool.specs.Pool.{word, put_word, mem_of, Taken}
use Rattle.pool.proofs.Memory.{mem_at, put_same, put_other}
use Rattle.form.specs.Form.{Good}
use Rattle.walk.specs.Walk.{found}
use Rattle.walk.specs.declared.Walk.{Walk}
use Rattle.walk.specs.declared.Walk.TheVariants.{Leaf, Open}
use Rattle.walk.specs.declared.LeafEntry.{LeafEntry}
use Rattle.walk.specs.declared.OpenEntry.{OpenEntry}
use Rattle.walk.proofs.Found.{Placed, over, unused}
use Rattle.table.specs.Table.{by_leaf}
use Rattle.table_laws.proofs.Writes.{rewrites}
use Rattle.walk.proofs.Sizes.{size_bytes}
use Rattle.table_unmap_cont.specs.UnmapCont.{span_of, emptied, after, cleared}

span_of_pos : (w : Walk) → 0 < span_of w
span_of_pos (Leaf e) = size_pos e.size
span_of_pos (Open o) = span_pos o.level

-- each step goes on
pub after_gt : (p : List ℕ) (b v : ℕ) → v < after p b v
after_gt p b v = omega (arith, mod-lt v (span_of_pos (found p b v)))

pub offset_lt : (p : List ℕ) (b v : ℕ) → (0 < span_of (found p b v)) × (v % span_of (found p b v) < span_of (found p b v))
offset_lt p b v = (span_of_pos (found p b v), mod-lt v (span_of_pos (found p b v)))

-- what is left to do: nothing, or one entry and the rest
pub cleared_end : (n : ℕ) (p : List ℕ) (b v e : ℕ) → e ≤ v → cleared n p b v e ≡ p
unfolding cleared
cleared_end zero p b v e h = refl
cleared_end (suc n) p b v e h = rw (le-leb e v h)

pub cleared_step : (n : ℕ) (p : List ℕ) (b v e : ℕ) → v < e → cleared (suc n) p b v e ≡ cleared n (emptied p b v) b (after p b v) e
unfolding cleared
cleared_step n p b v e h = rw (lt-leb e v h)

-- as many steps as there are bytes are always enough
pub stable : (n m : ℕ) (p : List ℕ) (b v e : ℕ) → e - v ≤ n → e - v ≤ m → cleared n p b v e ≡ cleared m p b v e
stable zero m p b v e h g = cleared_end zero p b v e (omega arith) ∙ sym (cleared_end m p b v e (omega arith))
stable (suc n) zero p b v e h g = cleared_end (suc n) p b v e (omega arith) ∙ sym (cleared_end zero p b v e (omega arith))
stable (suc n) (suc m) p b v e h g = ⊎_elim
    (λ l. cleared_step n p b v e l ∙ stable n m (emptied p b v) b (after p b v) e (omega (arith, after_gt p b v)) (omega (arith, after_gt p b v)) ∙ sym (cleared_step m p b v e l))
    (λ l. cleared_end (suc n) p b v e l ∙ sym (cleared_end (suc m) p b v e l))
    (below? v e)

pub cleared_more : (p : List ℕ) (b v e : ℕ) → v < e → cleared (e - v) p b v e ≡ cleared (e - after p b v) (emptied p b v) b (after p b v) e
cleared_more p b v e h =
    let q : e - v ≡ suc (e - v - 1) = omega arith in
    ap (λ (n : ℕ). cleared n p b v e) q ∙ cleared_step (e - v - 1) p b v e h
    ∙ stable (e - v - 1) (e - after p b v) (emptied p b v) b (after p b v) e (omega (arith, after_gt p b v)) (omega arith)

-- the last entry
pub cleared_last : (p : List ℕ) (b v e : ℕ) → v < e → e ≤ after p b v → cleared (e - v) p b v e ≡ emptied p b v
cleared_last p b v e h l = cleared_more p b v e h ∙ cleared_end (e - after p b v) (emptied p b v) b (after p b v) e l

-- one entry of p emptied gives p'; it spans s bytes
pub record Emptied (p p' : List ℕ) (s base used v : ℕ) : Type 0 where
  pub good : Good p' base used
  pub long : length p' ≡ length p
  pub l : ℕ
  pub n : ℕ
  pub at : walk x86 (mem_of p (base / 4096)) x86.top (base / 4096) v ≡ hit l n (index l v)
  pub gone : mem_of p' (base / 4096) n (index l v) ≡ 0
  pub other : (m i : ℕ) → Taken (base / 4096) used m → i < 512 → ((m ≡ n) × (i ≡ index l v) → ⊥) → mem_of p' (base / 4096) m i ≡ mem_of p (base / 4096) m i
  pub low : l ≤ 3
  pub in_use : Taken (base / 4096) used n
  pub spans : s ≡ span l

module _ (p : List ℕ) (base used : ℕ) (G : Good p base used) (v : ℕ) where
  abbrev b : ℕ
  b = base / 4096

  at_walk : (l f k : ℕ) → Placed p b used G.formed v l f k → walk x86 (mem_of p b) x86.top b v ≡ hit l (b + f) (index l v)
  at_walk l f k P = P.E.is ∙ ap (λ (n : ℕ). hit P.E.l n (index P.E.l v)) P.number ∙ ap (λ (m : ℕ). hit m (b + f) (index m v)) P.level

  of_leaf : (e : LeafEntry) → found p b v ≡ Leaf e → Emptied p (put_word p e.frame e.place 0) (size_of e.size) base used v
  of_leaf e q =
      let O = over p b used G.formed v e q in
      let P = O.placed in
      let small : e.place < 512 = rw P.at (index_lt O.l v) in
      let in_pool : e.frame * 512 + e.place < length p = omega (arith, small, P.taken, G.sized.there) in
      record {
        good = (rewrites p base used G v O.l e.frame e.place 0 P (blank refl) (nothing_bar (lawful.blank O.l))).good;
        long = length-set p (e.frame * 512 + e.place) 0;
        l = O.l;
        n = b + e.frame;
        at = at_walk O.l e.frame e.place P;
        gone = mem_at (put_word p e.frame e.place 0) b e.frame (index O.l v) ∙ ap (word (put_word p e.frame e.place 0) e.frame) (sym P.at)
            ∙ put_same p e.frame e.place 0 in_pool;
        other = λ m i t h ne. put_other p b e.frame e.place 0 m i t.0 h small (λ z. ne (z.0, z.1 ∙ P.at));
        low = omega (arith, O.low);
        in_use = (omega arith, omega (arith, P.taken));
        spans = ap size_of O.size ∙ size_bytes O.l O.low;
      }

  of_hole : (o : OpenEntry) → found p b v ≡ Open o → Emptied p p (span o.level) base used v
  of_hole o q =
      let U = unused p b used G.formed v o q in
      let P = U.placed in
      record {
        good = G;
        long = refl;
        l = o.level;
        n = b + o.frame;
        at = at_walk o.level o.frame o.place P;
        gone = mem_at p b o.frame (index o.level v) ∙ ap (word p o.frame) (sym P.at) ∙ U.blank;
        other = λ m i t h ne. refl;
        low = U.low;
        in_use = (omega arith, omega (arith, P.taken));
        spans = refl;
      }

  pub empty : Emptied p (emptied p b v) (span_of (found p b v)) base used v
  empty = go (found p b v) refl
    where
      go : (w : Walk) → found p b v ≡ w → Emptied p (emptied p b v) (span_of (found p b v)) base used v
      go (Leaf e) q = subst (λ (w : Walk). Emptied p (by_leaf w (λ x. put_word p x.frame x.place 0) p) (span_of w) base used v) (sym q) (of_leaf e q)
      go (Open o) q = subst (λ (w : Walk). Emptied p (by_leaf w (λ x. put_word p x.frame x.place 0) p) (span_of w) base used v) (sym q) (of_hole o q)

-- the begin of the next entry, as the code finds it
pub next_is : (s v : ℕ) → 0 < s → v + (s - v % s) ≡ v / s * s + s
next_is s v h = omega (arith, div-add-mod' v s, mod-lt v h)

module _ (base used e : ℕ) where
  -- from v on, p has become q
  abbrev pub Cleared : ℕ → List ℕ → List ℕ → Type 0
  Cleared v p q = Rewritten x86 (Taken (base / 4096)) (λ k. base / 4096 + k) (base / 4096) (λ l w. 0) e used v (mem_of p (base / 4096)) (mem_of q (base / 4096))

  done : (n : ℕ) (p : List ℕ) (v : ℕ) → e ≤ v → Cleared v p (cleared n p (base / 4096) v e)
  done n p v h = subst (Cleared v p) (sym (cleared_end n p (base / 4096) v e h)) (steps.ends v (mem_of p (base / 4096)) h)

  step : (n : ℕ) (p : List ℕ) (v : ℕ) → Good p base used → v < e
      → Cleared (after p (base / 4096) v) (emptied p (base / 4096) v) (cleared n (emptied p (base / 4096) v) (base / 4096) (after p (base / 4096) v) e)
      → Cleared v p (cleared (suc n) p (base / 4096) v e)
  step n p v G h rest =
      let E = empty p base used G v in
      let b = base / 4096 in
      let next : after p b v ≡ v / span E.l * span E.l + span E.l = ap (λ (s : ℕ). v + (s - v % s)) E.spans ∙ next_is (span E.l) v (span_pos E.l) in
      subst (Cleared v p) (sym (cleared_step n p b v e h))
      (steps.rewrites v (mem_of p b) (mem_of (emptied p b v) b) (mem_of (cleared n (emptied p b v) b (after p b v) e) b) E.l E.n h E.at E.gone E.other
      (subst (λ (u : ℕ). Cleared u (emptied p b v) (cleared n (emptied p b v) b (after p b v) e)) next rest))

  pub clears : (n : ℕ) (p : List ℕ) (v : ℕ) → Good p base used → e - v ≤ n → Cleared v p (cleared n p (base / 4096) v e)
  clears zero p v G h = done 0 p v (omega arith)
  clears (suc n) p v G h = ⊎_elim
      (λ l. step n p v G l (clears n (emptied p (base / 4096) v) (after p (base / 4096) v) (empty p base used G v).good (omega (arith, after_gt p (base / 4096) v))))
      (done (suc n) p v)
      (below? v e)

  -- the pool stays good, and as long as it was
  pub cleared_good : (n : ℕ) (p : List ℕ) (v : ℕ) → Good p base used → Good (cleared n p (base / 4096) v e) base used
  unfolding cleared
  cleared_good zero p v G = G
  cleared_good (suc n) p v G = go (leb e v) (cleared_good n (emptied p (base / 4096) v) (after p (base / 4096) v) (empty p base used G v).good)
    where
      go : (t : Bool) → Good (cleared n (emptied p (base / 4096) v) (base / 4096) (after p (base / 4096) v) e) base used
          → Good (pick t p (cleared n (emptied p (base / 4096) v) (base / 4096) (after p (base / 4096) v) e)) base used
      go true r = G
      go false r = r
