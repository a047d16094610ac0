-- What the walk's answer says of the table: a leaf with its entry, or an unused entry.
use Rattle.std.proofs.Common.{ℕ, ◌+◌, ◌-◌, ◌*◌, ◌/◌, ◌≤◌, ◌<◌, ◌≡◌, refl, sym, subst, Bool, true, false, List, arith, length, eqb-true}
use Rattle.paging.specs.Choice.{pick}
use Rattle.paging.specs.Level.{index}
use Rattle.paging.specs.Format.{leaf, Entry}
use Rattle.paging.specs.Table.{Hit}
use Rattle.paging.proofs.Levels.{index_lt}
use Rattle.paging.proofs.Changes.{End, end}
use Rattle.x86_64.specs.Entry.{frame_of, is_unused, is_leaf, x86}
use Rattle.x86_64.proofs.Format.{lawful, leaf_entry, table_entry}
use Rattle.pool.specs.Pool.{word, mem_of, Taken}
use Rattle.form.specs.Form.{WellFormed, Good}
use Rattle.walk.specs.Walk.{size_at, found_at, found}
use Rattle.walk.specs.declared.Walk.{Walk}
use Rattle.walk.specs.declared.Walk.TheVariants.{Leaf, Open}
use Rattle.walk.specs.declared.LeafEntry.{LeafEntry}
use Rattle.walk.specs.declared.OpenEntry.{OpenEntry}

module _ (p : List ℕ) (b used : ℕ) (T : WellFormed p b used) (v : ℕ) where
  -- the place of an entry of the walk's end
  pub record Placed (l frame place : ℕ) : Type 0 where
    pub E : End x86 (mem_of p b) (Taken b used) b T v
    pub level : E.l ≡ l
    pub number : E.n ≡ b + frame
    pub taken : frame < used
    pub at : place ≡ index l v
    pub fits : Entry x86 l (word p frame place)

  pub record Over (e : LeafEntry) : Type 0 where
    pub l : ℕ
    pub low : l ≤ 2
    pub size : e.size ≡ size_at l
    pub placed : Placed l e.frame e.place
    pub kind : x86.kind l (word p e.frame e.place) ≡ leaf

  pub record Unused (o : OpenEntry) : Type 0 where
    pub low : o.level ≤ 3
    pub placed : Placed o.level o.frame o.place
    pub blank : word p o.frame o.place ≡ 0

  abbrev Answer : Walk → Type 0
  Answer (Leaf e) = Over e
  Answer (Open o) = Unused o

  placed_end : (E : End x86 (mem_of p b) (Taken b used) b T v) → Placed E.l (E.n - b) (index E.l v)
  placed_end E =
      let a : b ≤ E.n = E.taken.0 in
      let c : E.n < b + used = E.taken.1 in
      record { E = E; level = refl; number = omega arith; taken = omega arith; at = refl; fits = E.fits }

  answer : Answer (found p b v)
  unfolding found x86
  answer = subst (λ (h : Hit). Answer (found_at p b h)) (sym E.is) (go (is_leaf w) refl)
    where
      E : End x86 (mem_of p b) (Taken b used) b T v
      E = end x86 (mem_of p b) (Taken b used) b T v

      w : ℕ
      w = word p (E.n - b) (index E.l v)

      leafy : is_leaf w ≡ true → Over (record { frame = E.n - b; place = index E.l v; size = size_at E.l })
      leafy e =
          let k = leaf_entry E.l w E.fits e in
          record { l = E.l; low = lawful.leaf_low E.l w k; size = refl; placed = placed_end E; kind = k }

      bare : is_leaf w ≡ false → Unused (record { level = E.l; frame = E.n - b; place = index E.l v })
      bare e = record { low = E.low; placed = placed_end E; blank = zero_word (is_unused w) refl }
        where
          zero_word : (t : Bool) → is_unused w ≡ t → w ≡ 0
          zero_word true u = eqb-true w 0 u
          zero_word false u = absurd (E.last (frame_of w) (table_entry E.l w E.fits u e))

      go : (t : Bool) → is_leaf w ≡ t
          → Answer (pick t (Leaf (record { frame = E.n - b; place = index E.l v; size = size_at E.l })) (Open (record { level = E.l; frame = E.n - b; place = index E.l v })))
      go true e = leafy e
      go false e = bare e

  pub over : (e : LeafEntry) → found p b v ≡ Leaf e → Over e
  over e q = subst Answer q answer

  pub unused : (o : OpenEntry) → found p b v ≡ Open o → Unused o
  unused o q = subst Answer q answer

-- an entry that the walk found stands in the pool
module _ (p : List ℕ) (base used v : ℕ) (G : Good p base used) where
  pub leaf_in : (e : LeafEntry) → found p (base / 4096) v ≡ Leaf e → (e.frame * 512 + 512 ≤ length p) × (e.place < 512)
  leaf_in e q =
      let o = over p (base / 4096) used G.formed v e q in
      (omega (arith, o.placed.taken, G.sized.there), rw o.placed.at (index_lt o.l v))

  pub open_in : (o : OpenEntry) → found p (base / 4096) v ≡ Open o → (o.frame * 512 + 512 ≤ length p) × (o.place < 512)
  open_in o q =
      let u = unused p (base / 4096) used G.formed v o q in
      (omega (arith, u.placed.taken, G.sized.there), rw u.placed.at (index_lt o.level v))
