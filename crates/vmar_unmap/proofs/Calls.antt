-- The calls by what their tests show.
use Prim.Native.Nat.{ℕ, ◌+◌, ◌*◌, ◌/◌, ◌%◌, ◌<◌}
use mathlib.Core.Path.{◌≡◌, sym, ◌∙◌, ap}
use mathlib.Core.Bool.{Bool, true, false, not}
use mathlib.Core.List.{List}
use mathlib.Core.Logic.{⊎_elim}
use native.Mathlib.Omega.{arith}
use lib.Dec.{eqb, leb, ltb}
use borrow.Author.Tests.{lt-ltb, eq-eqb, ne_eqb, eqb-true, ltb-true, ltb-false}
use Rattle.std.proofs.Common.{Option, Ok}
use Rattle.std.specs.Option.{is_some}
use Rattle.scan.specs.Scan.{below, some}
use Rattle.refusal.specs.declared.Refusal.TheVariants.{InvalidArgs, BadState, NoFrames, NoSlot, BadHandle, ChildDead}
use Rattle.paging.proofs.Cases.{same?, no_truth}
use Rattle.scan.proofs.Scans.{tell, first_passes, first_most}
use Rattle.vm.specs.Align.{multiple}
use Rattle.space.specs.Space.{mapping_at}
use Rattle.space.specs.declared.Mapping.{Mapping}
use Rattle.space.specs.declared.Space.{Space}
use Rattle.table_cuts.specs.Cuts.{Cut, cut_all, non_empty}
use Rattle.vmar_offset.specs.Offset.{slot_of, is_free_mapping, free_mapping}
use Rattle.vmar_doom.specs.Doomed.{marked}
use Rattle.vmar_cuts.specs.Cuts.{END, unmap_cuts, destroy_cuts}
use Rattle.vmar_prune.specs.Piece.{before, is_split}
use Rattle.vmar_prune.specs.Prune.{splits, split_at, split_slot, cut_space, cut_flags}
use Rattle.vmar_unmap.specs.Unmap.{State, state, tables_of, refused, free_frames, cut_state, partly_at, has_dead, lacks_slot, cut_range, in_region, unmapped, going_with, cleared, cleared_call}

-- a multiple of 4096 leaves nothing over
pub whole_pages : (x : ℕ) → multiple x 4096 ≡ true → x % 4096 ≡ 0
whole_pages x e = eqb-true (x % 4096) 0 e

-- whether a slot was found
found : (n i : ℕ) → is_some (below n i) ≡ ltb i n
found n i = ⊎_elim (λ (t : ltb i n ≡ true). rw t) (λ (t : ltb i n ≡ false). rw t) (tell (ltb i n))

-- a split and its slot
module _ (s : Space) (r b e : ℕ) (o : Option ℕ) (z : o ≡ below 64 (split_slot s r b e)) where
  pub no_split : is_some o ≡ false → false ≡ lacks_slot s r b e
  unfolding lacks_slot
  no_split n = let l = sym (found 64 (split_slot s r b e)) ∙ ap is_some (sym z) ∙ n in rw l

  pub a_split : is_some o ≡ true → (p : Option ℕ) → p ≡ below 64 (free_mapping s) → (t : Bool) → is_some p ≡ not t → t ≡ lacks_slot s r b e
  unfolding lacks_slot
  a_split n p y t m =
      let l = sym (found 64 (split_slot s r b e)) ∙ ap is_some (sym z) ∙ n in
      let k = sym (found 64 (free_mapping s)) ∙ ap is_some (sym y) ∙ m in
      rw l (by t k)
    where
      by : (t : Bool) → ltb (free_mapping s) 64 ≡ not t → t ≡ eqb (free_mapping s) 64
      by true q = let most = first_most (is_free_mapping s) 64 in let past = ltb-false (free_mapping s) 64 q in sym (eq-eqb (free_mapping s) 64 (omega arith))
      by false q = let l = ltb-true (free_mapping s) 64 q in sym (ne_eqb (free_mapping s) 64 (λ x. omega arith))

-- where slots are not short, a split has one
pub has_slot : (s : Space) (r b e : ℕ) → lacks_slot s r b e ≡ false → split_slot s r b e < 64 → free_mapping s < 64
unfolding lacks_slot
has_slot s r b e f l =
    let most = first_most (is_free_mapping s) 64 in
    ⊎_elim
    (λ (z : free_mapping s ≡ 64). no_truth (sym (rw (lt-ltb (split_slot s r b e) 64 l, eq-eqb (free_mapping s) 64 z) at f)))
    (λ (z : free_mapping s ≡ 64 → ⊥). omega arith)
    (same? (free_mapping s) 64)

-- nothing is kept before address 0, so that cutting all splits nothing
before_zero : (m : Mapping) → before m 0 ≡ 0
unfolding before
before_zero m = omega arith

all_whole : (m : Mapping) (r e : ℕ) → splits m r 0 e ≡ true → ⊥
unfolding splits is_split before
all_whole m r e t = ⊎_elim
    (λ (l : m.live ≡ true). ⊎_elim
    (λ (q : eqb m.region r ≡ true). no_truth (rw (l, q, eq-eqb (before m 0) 0 (before_zero m)) at t))
    (λ (q : eqb m.region r ≡ false). no_truth (rw (l, q) at t))
    (tell (eqb m.region r)))
    (λ (l : m.live ≡ false). no_truth (rw l at t))
    (tell m.live)

pub all_slot : (s : Space) (r e : ℕ) → split_slot s r 0 e < 64 → free_mapping s < 64
all_slot s r e l = absurd (all_whole (mapping_at s (split_slot s r 0 e)) r e (first_passes (split_at s r 0 e) 64 l))

module _ (base : ℕ) (st : State) (r b e : ℕ) (short : Bool) where
  pub range_partly : some (partly_at st.space r b e) 0 32 ≡ true → refused st InvalidArgs ≡ cut_range base st r b e short
  unfolding cut_range
  range_partly p = rw p

  module _ (p : some (partly_at st.space r b e) 0 32 ≡ false) where
    pub range_dead : has_dead st.space ≡ true → refused st ChildDead ≡ cut_range base st r b e short
    unfolding cut_range
    range_dead d = rw (p, d)

    module _ (d : has_dead st.space ≡ false) where
      pub range_short : short ≡ true → refused st NoSlot ≡ cut_range base st r b e short
      unfolding cut_range
      range_short z = rw (p, d, z)

      module _ (z : short ≡ false) where
        pub range_frames : leb (4 * non_empty (unmap_cuts st.space r b e)) (free_frames st) ≡ false → refused st NoFrames ≡ cut_range base st r b e short
        unfolding cut_range
        range_frames n = rw (p, d, z, n)

        pub range_cut : leb (4 * non_empty (unmap_cuts st.space r b e)) (free_frames st) ≡ true
            → record { result = Ok tt; state = cut_state base st (marked st.space r b e) (unmap_cuts st.space r b e) r b e } ≡ cut_range base st r b e short
        unfolding cut_range
        range_cut n = rw (p, d, z, n)

module _ (base : ℕ) (st : State) (id addr len : ℕ) where
  module _ (r : ℕ) (q : r ≡ slot_of st.space id) where
    pub in_dead : r ≡ 32 → refused st BadState ≡ in_region base st id addr len
    unfolding in_region
    in_dead z = rw (sym q, eq-eqb r 32 z)

    module _ (z : r ≡ 32 → ⊥) where
      pub in_over : leb (addr + len) 0xffff_ffff_ffff_ffff ≡ false → refused st InvalidArgs ≡ in_region base st id addr len
      unfolding in_region
      in_over l = rw (sym q, ne_eqb r 32 z, l)

      pub in_range : leb (addr + len) 0xffff_ffff_ffff_ffff ≡ true → (short : Bool) → short ≡ lacks_slot st.space r addr (addr + len)
          → cut_range base st r addr (addr + len) short ≡ in_region base st id addr len
      unfolding in_region
      in_range l short n = rw (sym q, ne_eqb r 32 z, l, n)

  pub unmap_unissued : ltb id st.space.nextid ≡ false → refused st BadHandle ≡ unmapped base st id addr len
  unfolding unmapped
  unmap_unissued i = rw i

  module _ (i : ltb id st.space.nextid ≡ true) where
    pub unmap_odd : multiple addr 4096 ≡ false → refused st InvalidArgs ≡ unmapped base st id addr len
    unfolding unmapped
    unmap_odd a = rw (i, a)

    module _ (a : multiple addr 4096 ≡ true) where
      pub unmap_odd_length : multiple len 4096 ≡ false → refused st InvalidArgs ≡ unmapped base st id addr len
      unfolding unmapped
      unmap_odd_length l = rw (i, a, l)

      module _ (l : multiple len 4096 ≡ true) where
        pub unmap_nothing : len ≡ 0 → refused st InvalidArgs ≡ unmapped base st id addr len
        unfolding unmapped
        unmap_nothing z = rw (i, a, l, eq-eqb len 0 z)

        pub unmap_some : (len ≡ 0 → ⊥) → in_region base st id addr len ≡ unmapped base st id addr len
        unfolding unmapped
        unmap_some z = rw (i, a, l, ne_eqb len 0 z)

module _ (base : ℕ) (st : State) (r : ℕ) (itself : Bool) where
  pub clear_dead : has_dead st.space ≡ true → refused st ChildDead ≡ cleared base st r itself
  unfolding cleared
  clear_dead d = rw d

  module _ (d : has_dead st.space ≡ false) where
    pub clear_frames : leb (4 * non_empty (destroy_cuts st.space r)) (free_frames st) ≡ false → refused st NoFrames ≡ cleared base st r itself
    unfolding cleared
    clear_frames n = rw (d, n)

    pub clear_cut : leb (4 * non_empty (destroy_cuts st.space r)) (free_frames st) ≡ true
        → record { result = Ok tt; state = cut_state base st (going_with st.space r itself) (destroy_cuts st.space r) r 0 END } ≡ cleared base st r itself
    unfolding cleared
    clear_cut n = rw (d, n)

module _ (base : ℕ) (st : State) (id : ℕ) (itself : Bool) where
  pub clear_unissued : ltb id st.space.nextid ≡ false → refused st BadHandle ≡ cleared_call base st id itself
  unfolding cleared_call
  clear_unissued i = rw i

  module _ (i : ltb id st.space.nextid ≡ true) (r : ℕ) (q : r ≡ slot_of st.space id) where
    pub clear_gone : r ≡ 32 → refused st BadState ≡ cleared_call base st id itself
    unfolding cleared_call
    clear_gone z = rw (i, sym q, eq-eqb r 32 z)

    pub clear_live : (r ≡ 32 → ⊥) → cleared base st r itself ≡ cleared_call base st id itself
    unfolding cleared_call
    clear_live z = rw (i, sym q, ne_eqb r 32 z)

-- a cut, put together
pub cut_made : (base : ℕ) (st : State) (marks marks' : List Bool) (cuts : List Cut) (r b e : ℕ) (s : Space) (f p : List ℕ) (u : ℕ)
    → record { pool = p; used = u } ≡ cut_all (base / 4096) cuts (tables_of st) → marks ≡ marks'
    → s ≡ cut_space st.space marks r b e → f ≡ cut_flags st.space st.flags marks r b e → state s f p u ≡ cut_state base st marks' cuts r b e
cut_made base st marks marks' cuts r b e s f p u e1 e2 e3 e4 =
    let e5 = e3 ∙ ap (λ (m : List Bool). cut_space st.space m r b e) e2 in
    let e6 = e4 ∙ ap (λ (m : List Bool). cut_flags st.space st.flags m r b e) e2 in
    λ i. record { space = e5 i; flags = e6 i; pool = (e1 i).pool; used = (e1 i).used }
