-- One step of the walk in a well-formed pool: where it stands, how it goes on, and where it stops.
use Rattle.std.proofs.Common.{◌/◌, ℕ, suc, ◌+◌, ◌-◌, ◌≤◌, ◌<◌, ◌≡◌, sym, ap, ◌∙◌, subst, true, false, List, arith}
use Rattle.std.proofs.Math.Nat.{add-sub_cancel_left}
use Rattle.paging.specs.Level.{index}
use Rattle.paging.specs.Format.{table, Entry}
use Rattle.paging.specs.Table.{hit, walk}
use Rattle.paging.specs.Way.{some, way}
use Rattle.paging.proofs.Levels.{index_lt}
use Rattle.paging.proofs.Walks.{NoTable, leaf_bar, nothing_bar, way_in, ends_at, on}
use Rattle.x86_64.specs.Entry.{frame_of, addr_of, is_unused, is_leaf, x86}
use Rattle.x86_64.proofs.Format.{leaf_entry, unused_entry, table_entry}
use Rattle.pool.specs.Pool.{word, mem_of, Taken}
use Rattle.form.specs.Form.{WellFormed, Good}
use Rattle.common.specs.declared.vm.PageSize.{PageSize}
use Rattle.walk.specs.Walk.{size_at, found_at, found}
use Rattle.walk.specs.declared.Walk.TheVariants.{Leaf, Open}

-- the walk of v stands in frame f, a table of level l
pub record Stands (p : List ℕ) (b used v l f : ℕ) : Type 0 where
  pub low : l ≤ 3
  pub taken : f < used
  pub at : way x86 (mem_of p b) b v (3 - l) ≡ some (b + f)

pub stands_root : (p : List ℕ) (b used v : ℕ) → 0 < used → Stands p b used v 3 0
unfolding way
stands_root p b used v h = record { low = omega arith; taken = h; at = ap some (omega arith) }

module _ (p : List ℕ) (b used : ℕ) (T : WellFormed p b used) (v l f : ℕ) (S : Stands p b used v l f) where
  pub mem_word : (k : ℕ) → mem_of p b (b + f) k ≡ word p f k
  mem_word k = ap (λ (n : ℕ). word p n k) (add-sub_cancel_left b f)

  abbrev here : ℕ
  here = word p f (index l v)

  level : T.lev (b + f) ≡ l
  unfolding x86
  level = (way_in x86 (mem_of p b) (Taken b used) b T v (3 - l) (b + f) (omega arith) S.at).1 ∙ omega (arith, S.low)

  entry : Entry x86 l here
  entry =
      subst (Entry x86 l) (mem_word (index l v))
      (subst (λ (m : ℕ). Entry x86 m (mem_of p b (b + f) (index l v))) level
      (T.entries (b + f) (index l v) (omega arith, omega (arith, S.taken)) (index_lt l v)))

  stop : NoTable (x86.kind l here) → walk x86 (mem_of p b) 3 b v ≡ hit l (b + f) (index l v)
  unfolding x86
  stop bar = ends_at x86 (mem_of p b) b v l (b + f) S.low S.at (subst (λ (w : ℕ). NoTable (x86.kind l w)) (sym (mem_word (index l v))) bar)

  back : b + f - b ≡ f
  back = add-sub_cancel_left b f

  pub stop_leaf : is_leaf here ≡ true → found p b v ≡ Leaf (record { frame = f; place = index l v; size = size_at l })
  unfolding found
  stop_leaf e = ap (found_at p b) (stop (leaf_bar (leaf_entry l here entry e))) ∙ rw (back, e)

  pub stop_open : is_leaf here ≡ false → is_unused here ≡ true → found p b v ≡ Open (record { level = l; frame = f; place = index l v })
  unfolding found
  stop_open e u = ap (found_at p b) (stop (nothing_bar (unused_entry l here u))) ∙ rw (back, e)

  -- a table below: its frame, one level down
  pub record Next : Type 0 where
    pub m : ℕ
    pub g : ℕ
    pub lower : l ≡ suc m
    pub frame : frame_of here ≡ b + g
    pub stands : Stands p b used v m g

  pub next : is_leaf here ≡ false → is_unused here ≡ false → Next
  unfolding x86
  next e u =
      let t : x86.kind l here ≡ table (frame_of here) = table_entry l here entry u e in
      let tm : x86.kind l (mem_of p b (b + f) (index l v)) ≡ table (frame_of here) = ap (x86.kind l) (mem_word (index l v)) ∙ t in
      let d = T.down (b + f) (index l v) (frame_of here) (omega arith, omega (arith, S.taken)) (index_lt l v) (ap (λ (m : ℕ). x86.kind m (mem_of p b (b + f) (index l v))) level ∙ tm) in
      let i : b ≤ frame_of here = d.0.0 in
      let i2 : frame_of here < b + used = d.0.1 in
      let lo : l ≡ suc (T.lev (frame_of here)) = sym level ∙ d.2 in
      let fr : frame_of here ≡ b + (frame_of here - b) = omega arith in
      let s : 3 - (3 - l) ≡ l = omega (arith, S.low) in
      let tw : x86.kind (3 - (3 - l)) (mem_of p b (b + f) (index (3 - (3 - l)) v)) ≡ table (frame_of here) = rw s tm in
      let w : way x86 (mem_of p b) b v (3 - T.lev (frame_of here)) ≡ some (frame_of here) =
      ap (way x86 (mem_of p b) b v) (omega (arith, S.low)) ∙ on x86 (mem_of p b) b v (3 - l) (b + f) (frame_of here) S.at tw in
      record {
        m = T.lev (frame_of here);
        g = frame_of here - b;
        lower = lo;
        frame = fr;
        stands = record { low = omega (arith, S.low); taken = omega arith; at = w ∙ ap some fr };
      }

-- the same by what the code has read: the place, the word there, and what its tests say
module _ {p : List ℕ} {base used v l f place w : ℕ} (G : Good p base used) (S : Stands p (base / 4096) used v l f) (at : place ≡ index l v)
    (read : w ≡ word p f place) where
  is_here : word p f (index l v) ≡ w
  is_here = ap (word p f) (sym at) ∙ sym read

  pub leaf_found : {size : PageSize} → true ≡ is_leaf w → size ≡ size_at l
      → Leaf (record { frame = f; place = place; size = size }) ≡ found p (base / 4096) v
  leaf_found {size} e z =
      ap (λ (n : ℕ). Leaf (record { frame = f; place = n; size = size })) at
      ∙ ap (λ (s : PageSize). Leaf (record { frame = f; place = index l v; size = s })) z
      ∙ sym (stop_leaf p (base / 4096) used G.formed v l f S (ap is_leaf is_here ∙ sym e))

  pub open_found : false ≡ is_leaf w → true ≡ is_unused w → Open (record { level = l; frame = f; place = place }) ≡ found p (base / 4096) v
  open_found e u =
      ap (λ (n : ℕ). Open (record { level = l; frame = f; place = n })) at
      ∙ sym (stop_open p (base / 4096) used G.formed v l f S (ap is_leaf is_here ∙ sym e) (ap is_unused is_here ∙ sym u))

  -- a table entry with the address a
  pub record Below (a : ℕ) : Type 0 where
    pub lower : 0 < l
    pub above : base ≤ a
    pub stands : Stands p (base / 4096) used v (l - 1) ((a - base) / 4096)

  pub below : {a : ℕ} → false ≡ is_leaf w → false ≡ is_unused w → a ≡ addr_of w → Below a
  below {a} e u q =
      let n = next p (base / 4096) used G.formed v l f S (ap is_leaf is_here ∙ sym e) (ap is_unused is_here ∙ sym u) in
      let reached : frame_of w ≡ base / 4096 + n.g = ap frame_of (sym is_here) ∙ n.frame in
      let m : n.m ≡ l - 1 = omega (arith, n.lower) in
      let g : n.g ≡ (a - base) / 4096 = omega (arith, q, reached, G.sized.page) in
      record {
        lower = omega (arith, n.lower);
        above = omega (arith, q, reached, G.sized.page);
        stands = rw m at (rw g at n.stands);
      }
