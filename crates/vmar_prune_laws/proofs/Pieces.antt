-- What a slot keeps of its mapping: nothing, all of it, or a part.
use Prim.Native.Nat.{ℕ, ◌+◌, ◌-◌, ◌*◌, ◌/◌, ◌%◌, ◌≤◌, ◌<◌, min}
use mathlib.Core.Path.{◌≡◌, refl}
use mathlib.Core.Bool.{Bool, true, false, not}
use mathlib.Core.List.{List}
use mathlib.Core.Logic.{inl, inr, ⊎_elim}
use native.Mathlib.Omega.{arith}
use lib.Dec.{eqb}
use lib.ListN.{get_or}
use borrow.Author.Tests.{eqb-true, eqb-false, eq-eqb, ne_eqb}
use Rattle.paging.specs.Choice.{pick}
use Rattle.paging.proofs.Cases.{below?, no_truth}
use Rattle.scan.proofs.Scans.{tell}
use Rattle.space.specs.Range.{overlap, inside}
use Rattle.space.specs.Space.{blank_mapping}
use Rattle.space.specs.Passes.{Paged}
use Rattle.space.specs.declared.Mapping.{Mapping}
use Rattle.space.proofs.Ranges.{apart, apart_of, inner, inner_of}
use Rattle.vmar_prune.specs.Piece.{before, after, left, right, piece, is_split}
use Rattle.vmar_prune.specs.Prune.{kept_mapping, splits}
use Rattle.vmar_prune_laws.specs.Part.{PartOf}

-- the lesser of two numbers of whole pages
min_pages : (x y : ℕ) → x % 4096 ≡ 0 → y % 4096 ≡ 0 → min x y % 4096 ≡ 0
min_pages x y h k =
    ⊎_elim
    (λ (l : x < y). let z : min x y ≡ x = omega arith in rw z h)
    (λ (l : y ≤ x). let z : min x y ≡ y = omega arith in rw z k)
    (below? x y)

-- how much of a mapping lies before b, and from e on
module _ (m : Mapping) (b : ℕ) where
  pub before_most : (before m b ≤ m.size) × (before m b ≤ b - m.addr)
  unfolding before
  before_most = (omega arith, omega arith)

  pub before_least : (n : ℕ) → n ≤ m.size → n ≤ b - m.addr → n ≤ before m b
  unfolding before
  before_least n h k = omega arith

  pub before_pages : Paged m → b % 4096 ≡ 0 → before m b % 4096 ≡ 0
  unfolding before
  before_pages p h = let a = p.addr in min_pages m.size (b - m.addr) p.size (omega arith)

module _ (m : Mapping) (e : ℕ) where
  pub after_most : (after m e ≤ m.size) × (after m e ≤ m.addr + m.size - e)
  unfolding after
  after_most = (omega arith, omega arith)

  pub after_least : (n : ℕ) → n ≤ m.size → n ≤ m.addr + m.size - e → n ≤ after m e
  unfolding after
  after_least n h k = omega arith

  pub after_pages : Paged m → e % 4096 ≡ 0 → after m e % 4096 ≡ 0
  unfolding after
  after_pages p h = let a = p.addr in let z = p.size in min_pages m.size (m.addr + m.size - e) z (omega arith)

-- what is kept: nothing, the end, or the beginning
pub data Piece (m : Mapping) (b e : ℕ) : Mapping → Type 0 where
  none : before m b ≡ 0 → after m e ≡ 0 → Piece m b e blank_mapping
  ending : before m b ≡ 0 → 0 < after m e → Piece m b e (right m (after m e))
  beginning : 0 < before m b → Piece m b e (left m (before m b))

above : (n : ℕ) → eqb n 0 ≡ false → 0 < n
above n h = let z = eqb-false n 0 h in omega arith

pub piece_is : (m : Mapping) (b e : ℕ) → Piece m b e (piece m b e)
unfolding piece
piece_is m b e =
    ⊎_elim
    (λ (x : eqb (before m b) 0 ≡ true). ⊎_elim
    (λ (y : eqb (after m e) 0 ≡ true). rw (x, y) (none (eqb-true _ _ x) (eqb-true _ _ y)))
    (λ (y : eqb (after m e) 0 ≡ false). rw (x, y) (ending (eqb-true _ _ x) (above _ y)))
    (tell (eqb (after m e) 0)))
    (λ (x : eqb (before m b) 0 ≡ false). rw x (beginning (above _ x)))
    (tell (eqb (before m b) 0))

pub piece_left : (m : Mapping) (b e : ℕ) → 0 < before m b → piece m b e ≡ left m (before m b)
unfolding piece
piece_left m b e h = rw (ne_eqb (before m b) 0 (λ q. omega arith))

pub piece_right : (m : Mapping) (b e : ℕ) → before m b ≡ 0 → 0 < after m e → piece m b e ≡ right m (after m e)
unfolding piece
piece_right m b e h k = rw (eq-eqb (before m b) 0 h, ne_eqb (after m e) 0 (λ q. omega arith))

-- the mapping of a slot afterwards
pub data Outcome (marks : List Bool) (r b e : ℕ) (m : Mapping) : Mapping → Type 0 where
  -- its region goes
  dropped : get_or marks m.region false ≡ true → Outcome marks r b e m blank_mapping
  -- it is of another region
  other : get_or marks m.region false ≡ false → (m.region ≡ r → ⊥) → Outcome marks r b e m m
  -- it is of region r
  cut : (k : Mapping) → get_or marks m.region false ≡ false → m.region ≡ r → Piece m b e k → Outcome marks r b e m k

pub outcome : (marks : List Bool) (r b e : ℕ) (m : Mapping) → Outcome marks r b e m (kept_mapping marks r b e m)
unfolding kept_mapping
outcome marks r b e m =
    ⊎_elim
    (λ (x : get_or marks m.region false ≡ true). rw x (dropped x))
    (λ (x : get_or marks m.region false ≡ false). ⊎_elim
    (λ (y : eqb m.region r ≡ true). rw (x, y) (cut (piece m b e) x (eqb-true _ _ y) (piece_is m b e)))
    (λ (y : eqb m.region r ≡ false). rw (x, y) (other x (eqb-false _ _ y)))
    (tell (eqb m.region r)))
    (tell (get_or marks m.region false))

pub kept_of : (marks : List Bool) (r b e : ℕ) (m : Mapping) → get_or marks m.region false ≡ false → m.region ≡ r → kept_mapping marks r b e m ≡ piece m b e
unfolding kept_mapping
kept_of marks r b e m x y = rw (x, eq-eqb m.region r y)

pub kept_other : (marks : List Bool) (r b e : ℕ) (m : Mapping) → get_or marks m.region false ≡ false → (m.region ≡ r → ⊥) → kept_mapping marks r b e m ≡ m
unfolding kept_mapping
kept_other marks r b e m x y = rw (x, ne_eqb m.region r y)

-- which mapping is split
three : (a c x y : Bool) → pick a (pick c (pick x false (not y)) false) false ≡ true → (a ≡ true) × (c ≡ true) × (x ≡ false) × (y ≡ false)
three true true true y t = no_truth t
three true true false true t = no_truth t
three true true false false t = (refl, refl, refl, refl)
three true false x y t = no_truth t
three false c x y t = no_truth t

three_of : (a c x y : Bool) → a ≡ true → c ≡ true → x ≡ false → y ≡ false → pick a (pick c (pick x false (not y)) false) false ≡ true
three_of a c x y p q u v = rw (p, q, u, v)

pub split_is : (m : Mapping) (r b e : ℕ) → splits m r b e ≡ true → (m.live ≡ true) × (m.region ≡ r) × (0 < before m b) × (0 < after m e)
unfolding splits is_split
split_is m r b e t =
    let z = three m.live (eqb m.region r) (eqb (before m b) 0) (eqb (after m e) 0) t in
    (z.0, eqb-true _ _ z.1, above _ z.2, above _ z.3)

pub split_of : (m : Mapping) (r b e : ℕ) → m.live ≡ true → m.region ≡ r → 0 < before m b → 0 < after m e → splits m r b e ≡ true
unfolding splits is_split
split_of m r b e a c x y =
    three_of m.live (eqb m.region r) (eqb (before m b) 0) (eqb (after m e) 0) a (eq-eqb m.region r c) (ne_eqb (before m b) 0 (λ q. omega arith))
    (ne_eqb (after m e) 0 (λ q. omega arith))

-- the whole, its beginning and its end are parts of a mapping
pub whole_part : (m : Mapping) → m.live ≡ true → Paged m → PartOf m m 0
whole_part m a p = record {
  live = a;
  region = refl;
  addr = omega arith;
  size = p.size;
  end = omega arith;
  vmo = refl;
  offset = omega arith;
  permissions = refl;
}

pub left_part : (m : Mapping) (n : ℕ) → m.live ≡ true → n ≤ m.size → n % 4096 ≡ 0 → PartOf m (left m n) 0
left_part m n a l h = record {
  live = a;
  region = refl;
  addr = omega arith;
  size = h;
  end = omega arith;
  vmo = refl;
  offset = omega arith;
  permissions = refl;
}

pub right_part : (m : Mapping) (n : ℕ) → m.live ≡ true → Paged m → n ≤ m.size → n % 4096 ≡ 0 → PartOf m (right m n) ((m.size - n) / 4096)
right_part m n a p l h =
    let ps = p.size in
    let z : (m.size - n) / 4096 * 4096 ≡ m.size - n = omega arith in
    record {
      live = a;
      region = refl;
      addr = omega arith;
      size = h;
      end = omega arith;
      vmo = refl;
      offset = omega arith;
      permissions = refl;
    }

module _ (m k : Mapping) (d : ℕ) (p : PartOf m k d) where
  pub part_paged : Paged m → Paged k
  part_paged q =
      let pa = p.addr in
      let po = p.offset in
      let ps = p.size in
      let pe = p.end in
      let qa = q.addr in
      let qo = q.offset in
      let qe = q.end in
      let qv = q.vmo_end in
      let qf = q.few in
      record {
        addr = omega arith;
        size = ps;
        offset = omega arith;
        end = omega arith;
        vmo_end = omega arith;
        few = omega arith;
      }

  pub part_in : (m.addr ≤ k.addr) × (k.addr + k.size ≤ m.addr + m.size)
  part_in = let pa = p.addr in let pe = p.end in (omega arith, omega arith)

  pub part_inside : (a n : ℕ) → inside m.addr m.size a n ≡ true → inside k.addr k.size a n ≡ true
  part_inside a n h =
      let q = inner _ _ _ _ h in
      let q0 = q.0 in
      let q1 = q.1 in
      let z = part_in.0 in
      let w = part_in.1 in
      inner_of _ _ _ _ (omega arith) (omega arith)

  -- what does not overlap a mapping does not overlap its parts
  pub part_apart : (a n : ℕ) → overlap a n m.addr m.size ≡ false → overlap a n k.addr k.size ≡ false
  part_apart a n h =
      let z = part_in.0 in
      let w = part_in.1 in
      apart_of _ _ _ _
      (⊎_elim (λ (l : m.addr + m.size ≤ a). inl (omega arith)) (λ (l : a + n ≤ m.addr). inr (omega arith)) (apart _ _ _ _ h))

-- k is a part of m, whose region stands
pub record Stays (marks : List Bool) (m k : Mapping) (d : ℕ) : Type 0 where
  pub part : PartOf m k d
  pub stands : get_or marks m.region false ≡ false

-- what a live mapping's slot holds afterwards is a part of it, or nothing
module _ (marks : List Bool) (r b e : ℕ) (m : Mapping) (begin : b % 4096 ≡ 0) (end : e % 4096 ≡ 0) (a : m.live ≡ true) (paged : Paged m) where
  pub stays : (k : Mapping) → Outcome marks r b e m k → k.live ≡ true → (d : ℕ) × Stays marks m k d
  stays _ (dropped x) h = no_truth h
  stays _ (other x y) h = (0, record { part = whole_part m a paged; stands = x })
  stays _ (cut _ x y (none u v)) h = no_truth h
  stays _ (cut _ x y (ending u v)) h =
      ((m.size - after m e) / 4096, record { part = right_part m (after m e) a paged (after_most m e).0 (after_pages m e paged end); stands = x })
  stays _ (cut _ x y (beginning u)) h = (0, record { part = left_part m (before m b) a (before_most m b).0 (before_pages m b paged begin); stands = x })

-- a free slot stays free
pub dead_stays : (marks : List Bool) (r b e : ℕ) (k : Mapping) → Outcome marks r b e blank_mapping k → k ≡ blank_mapping
dead_stays marks r b e _ (dropped x) = refl
dead_stays marks r b e _ (other x y) = refl
dead_stays marks r b e _ (cut _ x y (none u v)) = refl
dead_stays marks r b e _ (cut _ x y (ending u v)) = absurd (let z = (after_most blank_mapping e).0 in omega arith)
dead_stays marks r b e _ (cut _ x y (beginning u)) = absurd (let z = (before_most blank_mapping b).0 in omega arith)
