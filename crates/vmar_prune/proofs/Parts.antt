-- Pieces, packed lists and copied flags, step by step, as the code makes them.
use Prim.Native.Nat.{ℕ, zero, suc, ◌+◌, ◌-◌, ◌*◌, ◌/◌, ◌≤◌, ◌<◌}
use mathlib.Core.Path.{◌≡◌, refl, sym, ◌∙◌, ap, subst}
use mathlib.Core.Bool.{Bool, true, false, not}
use mathlib.Core.List.{List}
use mathlib.Core.Logic.{◌⊎◌, inl, inr, ⊎_elim}
use native.Mathlib.Omega.{arith}
use native.Mathlib.Numerals.{add-one}
use lib.Dec.{ltb}
use lib.ListN.{length, get_or, set, replicate, length-set, get_or-eq_default}
use lib.Seq.{get_or-set_same, get_or-set_other}
use Rattle.std.proofs.Common.{drop}
use Rattle.std.proofs.Math.Seq.{paste}
use Rattle.std.proofs.lemmas.List.{set-get_or, get_or-drop, length-drop, get_or-replicate, length-replicate}
use Rattle.std.proofs.lemmas.List.Edits.{paste_none, paste_more}
use borrow.Author.Tests.{lt-ltb, le-ltb, eq-eqb, ne_eqb}
use Rattle.paging.specs.Choice.{pick}
use Rattle.paging.proofs.Cases.{below?, same?}
use Rattle.scan.proofs.Scans.{tell, first_passes}
use Rattle.space.specs.Space.{blank_region, blank_mapping, mapping_at, is_mapping, with_mapping}
use Rattle.space.specs.Passes.{Passes}
use Rattle.space.specs.declared.Region.{Region}
use Rattle.space.specs.declared.Mapping.{Mapping}
use Rattle.space.specs.declared.Space.{Space}
use Rattle.space.proofs.Facts.{mapping_room}
use Rattle.vmar_offset.specs.Offset.{is_free_mapping, free_mapping}
use Rattle.vmar_prune.specs.Piece.{before, after, right, piece, copied, retained}
use Rattle.vmar_prune.specs.Prune.{kept_mapping, regions_to, mappings_to, Packed, packed, kept_slots, live_slots, pruned, split_slot, cut_space, retained_to, handed_over}
use Rattle.vmar_prune.specs.Steps.{Short, Fitting, packed_of}

pub before_most : (m : Mapping) (b : ℕ) → before m b ≤ m.size
unfolding before
before_most m b = omega arith

pub after_most : (m : Mapping) (e : ℕ) → after m e ≤ m.size
unfolding after
after_most m e = omega arith

-- a mapping's slot of a space that passes its check: ends do not overflow, and the region is a slot
pub short_at : (s : Space) (f : List ℕ) → Passes s f → (i : ℕ) → i < 64 → Short (mapping_at s i) × ((mapping_at s i).region < 32) × ((mapping_at s i).size / 4096 ≤ 512)
short_at s f p i l = by (is_mapping s i) refl
  where
    Good : Mapping → Type 0
    Good m = Short m × (m.region < 32) × (m.size / 4096 ≤ 512)

    by : (t : Bool) → is_mapping s i ≡ t → Good (mapping_at s i)
    by true a = let z = p.paged i l a in ((z.end, z.vmo_end), (p.inner.region i l a).0, z.few)
    by false a = subst Good (sym (p.blank.mapping i l a)) ((omega arith, omega arith), omega arith, omega arith)

-- one slot more; a region that stays is written over by itself
pub regions_none : (marks : List Bool) (l : List Region) → l ≡ regions_to marks l 0
unfolding regions_to
regions_none marks l = refl

regions_rest : (marks : List Bool) (l : List Region) (n i : ℕ) → n ≤ i → get_or (regions_to marks l n) i blank_region ≡ get_or l i blank_region
unfolding regions_to
regions_rest marks l zero i h = refl
regions_rest marks l (suc n) i h = get_or-set_other (regions_to marks l n) n i _ blank_region (λ q. omega (arith, q)) ∙ regions_rest marks l n i (omega arith)

pub regions_gone : (marks : List Bool) (l : List Region) (i : ℕ) → get_or marks i false ≡ true → set (regions_to marks l i) i blank_region ≡ regions_to marks l (i + 1)
unfolding regions_to
regions_gone marks l i e = rw (add-one i, e)

pub regions_kept : (marks : List Bool) (l : List Region) (i : ℕ) → get_or marks i false ≡ false → regions_to marks l i ≡ regions_to marks l (i + 1)
unfolding regions_to
regions_kept marks l i e = sym (set-get_or (regions_to marks l i) i blank_region) ∙ rw (regions_rest marks l i i (omega arith), add-one i, e)

pub mappings_more : (marks : List Bool) (r b e : ℕ) (l : List Mapping) (i : ℕ)
    → set (mappings_to marks r b e l i) i (kept_mapping marks r b e (get_or l i blank_mapping)) ≡ mappings_to marks r b e l (i + 1)
unfolding mappings_to
mappings_more marks r b e l i = rw (add-one i)

pub mappings_none : (marks : List Bool) (r b e : ℕ) (l : List Mapping) → l ≡ mappings_to marks r b e l 0
unfolding mappings_to
mappings_none marks r b e l = refl

pub packed_none : (keeps : ℕ → Bool) (blank list : List ℕ) → packed_of blank 0 ≡ packed keeps blank list 0
unfolding packed
packed_none keeps blank list = refl

module _ (keeps : ℕ → Bool) (blank list : List ℕ) (k : ℕ) where
  pub packed_without : keeps (get_or list k 0) ≡ false → packed keeps blank list k ≡ packed keeps blank list (k + 1)
  unfolding packed
  packed_without e = rw (add-one k, e)

  pub packed_with : (l : List ℕ) (n : ℕ) → keeps (get_or list k 0) ≡ true → packed_of l n ≡ packed keeps blank list k
      → packed_of (set l n (get_or list k 0)) (n + 1) ≡ packed keeps blank list (k + 1)
  unfolding packed
  packed_with l n e q = ap (λ (p : Packed). packed_of (set p.list p.count (get_or list k 0)) (p.count + 1)) q ∙ rw (add-one k, e)

-- two tests that agree on the slots of the first n places, which two lists share
pub packed_same : (p q : ℕ → Bool) (blank l m : List ℕ) (n : ℕ) → ((k : ℕ) → k < n → get_or l k 0 ≡ get_or m k 0) → ((k : ℕ) → k < n → p (get_or m k 0) ≡ q (get_or m k 0))
    → packed p blank l n ≡ packed q blank m n
unfolding packed
packed_same p q blank l m zero same agree = refl
packed_same p q blank l m (suc n) same agree =
    rw (packed_same p q blank l m n (λ k h. same k (omega arith)) (λ k h. agree k (omega arith)), same n (omega arith), agree n (omega arith))

-- copying
pub copied_length : (f : List ℕ) (to from n j : ℕ) → length (copied f to from n j) ≡ length f
unfolding copied
copied_length f to from n zero = refl
copied_length f to from n (suc j) = length-set (copied f to from n j) (to + j) _ ∙ copied_length f to from n j

pub copied_else : (f : List ℕ) (to from n j x : ℕ) → (x < to) ⊎ (to + j ≤ x) → get_or (copied f to from n j) x 0 ≡ get_or f x 0
unfolding copied
copied_else f to from n zero x o = refl
copied_else f to from n (suc j) x o =
    get_or-set_other (copied f to from n j) (to + j) x _ 0 (λ q. ⊎_elim (λ (l : x < to). omega (arith, q)) (λ (l : to + suc j ≤ x). omega (arith, q)) o)
    ∙ copied_else f to from n j x (⊎_elim (λ (l : x < to). inl l) (λ (l : to + suc j ≤ x). inr (omega arith)) o)

-- the first n bytes are pasted, and then zeros
copied_first : (f : List ℕ) (to from n j : ℕ) → j ≤ n → to + j ≤ length f → from + j ≤ length f → copied f to from n j ≡ paste f to (drop from f) j
unfolding copied
copied_first f to from n zero h a b = paste_none f to (drop from f)
copied_first f to from n (suc j) h a b =
    let l = lt-ltb j n (omega arith) in
    let m : j + 1 ≡ suc j = omega arith in
    rw (copied_first f to from n j (omega arith) (omega arith) (omega arith), l, sym (get_or-drop from f j 0))
    (rw m at (paste_more f to (drop from f) j 0 (omega arith) (omega (arith, length-drop from f))))

copied_rest : (f : List ℕ) (to from n m k : ℕ) → k ≤ m → to + n + m ≤ length f → copied f to from n (n + k) ≡ paste (copied f to from n n) (to + n) (replicate m 0) k
unfolding copied
copied_rest f to from n m zero h a = let z : n + 0 ≡ n = omega arith in rw z (paste_none _ (to + n) (replicate m 0))
copied_rest f to from n m (suc k) h a =
    let z : n + suc k ≡ suc (n + k) = omega arith in
    let l = le-ltb (n + k) n (omega arith) in
    let q : to + (n + k) ≡ to + n + k = omega arith in
    let s : k + 1 ≡ suc k = omega arith in
    let g = get_or-replicate {A = ℕ} m k 0 0 (omega arith) in
    let zeros : List ℕ = replicate m 0 in
    let long : length zeros ≡ m = length-replicate {A = ℕ} m 0 in
    rw (z, copied_rest f to from n m k (omega arith) a, l, q)
    (rw (s, g) at (paste_more (copied f to from n n) (to + n) zeros k 0 (omega (arith, copied_length f to from n n)) (subst (λ (x : ℕ). k < x) (sym long) (omega arith))))

pub copied_pasted : (f : List ℕ) (to from n : ℕ) → n ≤ 512 → to + 512 ≤ length f → from + n ≤ length f
    → paste (paste f to (drop from f) n) (to + n) (replicate (512 - n) 0) (512 - n) ≡ copied f to from n 512
copied_pasted f to from n h a b =
    let z : n + (512 - n) ≡ 512 = omega arith in
    rw (sym (copied_first f to from n n (omega arith) (omega arith) b)) (sym (rw z at (copied_rest f to from n (512 - n) (512 - n) (omega arith) (omega arith))))

-- a slot's flags
pub retained_length : (m k : Mapping) (f : List ℕ) (i : ℕ) → length (retained m k f i) ≡ length f
unfolding retained
retained_length m k f i = ⊎_elim
    (λ (e : k.size ≡ m.size). rw (eq-eqb k.size m.size e))
    (λ (e : k.size ≡ m.size → ⊥). rw (ne_eqb k.size m.size e) (copied_length f (i * 512) (i * 512 + (k.addr - m.addr) / 4096) (k.size / 4096) 512))
    (same? k.size m.size)

pub retain_none : (old new : List Mapping) (f : List ℕ) → f ≡ retained_to old new f 0
unfolding retained_to
retain_none old new f = refl

pub retain_more : (old new : List Mapping) (f : List ℕ) (i : ℕ)
    → retained (get_or old i blank_mapping) (get_or new i blank_mapping) (retained_to old new f i) i ≡ retained_to old new f (i + 1)
unfolding retained_to
retain_more old new f i = rw (add-one i)

pub retain_length : (old new : List Mapping) (f : List ℕ) (n : ℕ) → length (retained_to old new f n) ≡ length f
unfolding retained_to
retain_length old new f zero = refl
retain_length old new f (suc i) = retained_length (get_or old i blank_mapping) (get_or new i blank_mapping) (retained_to old new f i) i ∙ retain_length old new f i

-- a slot of the mappings that are kept
pub mappings_length : (marks : List Bool) (r b e : ℕ) (l : List Mapping) (n : ℕ) → length (mappings_to marks r b e l n) ≡ length l
unfolding mappings_to
mappings_length marks r b e l zero = refl
mappings_length marks r b e l (suc n) = length-set (mappings_to marks r b e l n) n _ ∙ mappings_length marks r b e l n

slot_at : (marks : List Bool) (r b e : ℕ) (l : List Mapping) (n i : ℕ) → i < length l → i < n
    → get_or (mappings_to marks r b e l n) i blank_mapping ≡ kept_mapping marks r b e (get_or l i blank_mapping)
unfolding mappings_to
slot_at marks r b e l zero i h k = absurd (omega arith)
slot_at marks r b e l (suc n) i h k = ⊎_elim
    (λ (z : i < n). get_or-set_other (mappings_to marks r b e l n) n i _ blank_mapping (λ q. omega (arith, q)) ∙ slot_at marks r b e l n i h z)
    (λ (z : n ≤ i). let q : n ≡ i = omega arith in
    subst (λ (x : ℕ). get_or (set (mappings_to marks r b e l n) n (kept_mapping marks r b e (get_or l n blank_mapping))) x blank_mapping ≡ kept_mapping marks r b e (get_or l x blank_mapping)) q
    (get_or-set_same (mappings_to marks r b e l n) n (kept_mapping marks r b e (get_or l n blank_mapping)) blank_mapping (let y = mappings_length marks r b e l n in omega arith)))
    (below? i n)

-- of a free slot nothing is kept
pub kept_blank : (marks : List Bool) (r b e : ℕ) → kept_mapping marks r b e blank_mapping ≡ blank_mapping
unfolding kept_mapping piece
kept_blank marks r b e =
    let none : before blank_mapping b ≡ 0 = (let y = before_most blank_mapping b in omega arith) in
    let nil : after blank_mapping e ≡ 0 = (let y = after_most blank_mapping e in omega arith) in
    ⊎_elim
    (λ (d : get_or marks 0 false ≡ true). rw d)
    (λ (d : get_or marks 0 false ≡ false). ⊎_elim
    (λ (q : 0 ≡ r). rw (d, eq-eqb 0 r q, eq-eqb (before blank_mapping b) 0 none, eq-eqb (after blank_mapping e) 0 nil))
    (λ (q : 0 ≡ r → ⊥). rw (d, ne_eqb 0 r q))
    (same? 0 r))
    (tell (get_or marks 0 false))

pub mappings_at : (marks : List Bool) (r b e : ℕ) (l : List Mapping) (n i : ℕ) → i < n
    → get_or (mappings_to marks r b e l n) i blank_mapping ≡ kept_mapping marks r b e (get_or l i blank_mapping)
mappings_at marks r b e l n i k = ⊎_elim
    (λ (z : i < length l). slot_at marks r b e l n i z k)
    (λ (z : length l ≤ i).
    let y = mappings_length marks r b e l n in
    get_or-eq_default (mappings_to marks r b e l n) blank_mapping (omega arith)
    ∙ sym (ap (kept_mapping marks r b e) (get_or-eq_default l blank_mapping z) ∙ kept_blank marks r b e))
    (below? i (length l))

-- a piece's flags stand in the slot's 512 bytes
module _ (m : Mapping) (few : m.size / 4096 ≤ 512) where
  blank_fits : Fitting m blank_mapping
  blank_fits = omega arith

  piece_fits : (b e : ℕ) → Fitting m (piece m b e)
  unfolding piece
  piece_fits b e = ⊎_elim
      (λ (z : before m b ≡ 0). ⊎_elim
      (λ (y : after m e ≡ 0). rw (eq-eqb (before m b) 0 z, eq-eqb (after m e) 0 y) blank_fits)
      (λ (y : after m e ≡ 0 → ⊥). rw (eq-eqb (before m b) 0 z, ne_eqb (after m e) 0 y) (let l = after_most m e in omega arith))
      (same? (after m e) 0))
      (λ (z : before m b ≡ 0 → ⊥). rw (ne_eqb (before m b) 0 z) (let l = before_most m b in omega arith))
      (same? (before m b) 0)

  pub kept_fits : (marks : List Bool) (r b e : ℕ) → Fitting m (kept_mapping marks r b e m)
  unfolding kept_mapping
  kept_fits marks r b e = ⊎_elim
      (λ (d : get_or marks m.region false ≡ true). rw d blank_fits)
      (λ (d : get_or marks m.region false ≡ false). ⊎_elim
      (λ (q : m.region ≡ r). rw (d, eq-eqb m.region r q) (piece_fits b e))
      (λ (q : m.region ≡ r → ⊥). rw (d, ne_eqb m.region r q) (omega arith))
      (same? m.region r))
      (tell (get_or marks m.region false))

-- the parts of a space, put together
module _ (s : Space) (marks : List Bool) (r b e : ℕ) where
  pub pruned_made : (regions : List Region) (maps : List Mapping) (reglist maplist : List ℕ) (regcount mapcount : ℕ)
      → regions ≡ regions_to marks s.regions 32 → maps ≡ mappings_to marks r b e s.mappings 64
      → packed_of reglist regcount ≡ packed (kept_slots marks) (replicate 32 0) s.reglist s.regcount
      → packed_of maplist mapcount ≡ packed (live_slots maps) (replicate 64 0) s.maplist s.mapcount
      → ◌≡◌ {A = Space}
      (record { regions = regions; mappings = maps; reglist = reglist; regcount = regcount; maplist = maplist; mapcount = mapcount; nextid = s.nextid })
      (pruned s marks r b e)
  unfolding pruned
  pruned_made regions maps reglist maplist regcount mapcount e1 e2 e3 e4 =
      let e5 = e4 ∙ ap (λ (m : List Mapping). packed (live_slots m) (replicate 64 0) s.maplist s.mapcount) e2 in
      λ i. record {
        regions = e1 i;
        mappings = e2 i;
        reglist = (e3 i).list;
        regcount = (e3 i).count;
        maplist = (e5 i).list;
        mapcount = (e5 i).count;
        nextid = s.nextid;
      }

  module _ (i : ℕ) (q : i ≡ split_slot s r b e) where
    pub cut_whole : 64 ≤ i → pruned s marks r b e ≡ cut_space s marks r b e
    unfolding cut_space
    cut_whole l = rw (sym q, le-ltb i 64 l)

    pub cut_split : i < 64 → (n : ℕ) → n ≡ after (mapping_at s i) e → (slot : ℕ) → slot ≡ free_mapping s
        → with_mapping (pruned s marks r b e) slot (right (mapping_at s i) n) ≡ cut_space s marks r b e
    unfolding cut_space
    cut_split l n a slot f = rw (sym q, lt-ltb i 64 l, sym a, sym f)

-- the same of the flags
module _ (s : Space) (r b e : ℕ) where
  module _ (i : ℕ) (q : i ≡ split_slot s r b e) where
    pub hand_whole : (f : List ℕ) → 64 ≤ i → f ≡ handed_over s f r b e
    unfolding handed_over
    hand_whole f l = rw (sym q, le-ltb i 64 l)

    pub hand_split : (f : List ℕ) → i < 64 → (n : ℕ) → n ≡ after (mapping_at s i) e → (slot : ℕ) → slot ≡ free_mapping s
        → copied f (slot * 512) (i * 512 + ((mapping_at s i).size - n) / 4096) (n / 4096) 512 ≡ handed_over s f r b e
    unfolding handed_over
    hand_split f l n a slot z = rw (sym q, lt-ltb i 64 l, sym a, sym z)

  pub hand_length : (f : List ℕ) → length (handed_over s f r b e) ≡ length f
  unfolding handed_over
  hand_length f = ⊎_elim
      (λ (l : split_slot s r b e < 64). rw (lt-ltb _ 64 l) (copied_length f _ _ _ 512))
      (λ (l : 64 ≤ split_slot s r b e). rw (le-ltb _ 64 l))
      (below? (split_slot s r b e) 64)

-- where a slot is free before the call, the list has room for one more
pub list_room : (s : Space) (f : List ℕ) → Passes s f → (slot : ℕ) → slot ≡ free_mapping s → free_mapping s < 64 → (slot < 64) × (s.mapcount < 64)
list_room s f p slot e l = (
  omega (arith, e, l),
  mapping_room p (free_mapping s) l (not_false_of (is_mapping s (free_mapping s)) (first_passes (is_free_mapping s) 64 l)),
)
  where
    not_false_of : (t : Bool) → not t ≡ true → t ≡ false
    not_false_of true h = sym h
    not_false_of false h = refl
