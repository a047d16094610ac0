-- Demand 3 of the README, from the cut of the format (paging/specs/Cut) and the steps that the code takes.
use Rattle.std.specs.Prelude.{Err, Ok, Result}
use Prim.Native.Nat.{ℕ, suc, ◌+◌, ◌-◌, ◌*◌, ◌/◌, ◌%◌, ◌<◌, ◌≤◌}
use mathlib.Core.Path.{◌≡◌, refl, sym, ap, ◌∙◌, subst}
use mathlib.Core.Bool.{Bool, true, false}
use mathlib.Core.Logic.{◌⊎◌, inl, inr, ⊎_elim}
use mathlib.Core.List.{List}
use native.Mathlib.Omega.{arith}
use lib.Dec.{eqb, lit<}
use lib.ListN.{length}
use borrow.Author.Tests.{eq-eqb, ne_eqb}
use Rattle.paging.specs.Choice.{pick}
use Rattle.paging.specs.Level.{span, Canonical, Within}
use Rattle.paging.specs.Format.{Kind, nothing, leaf, table, by_kind}
use Rattle.paging.specs.Table.{View, view, Translation, to, nowhere, translated, translates}
use Rattle.paging.specs.Need.{need, over}
use Rattle.paging.specs.Steps.{Ranged}
use Rattle.paging.specs.Cut.{partly, sum, required, Cutting, Cuts}
use Rattle.paging.proofs.Cases.{same?, below?}
use Rattle.paging.proofs.Counts.{sum_ext, sum_none}
use Rattle.paging.proofs.Cuts.{cuts}
use Rattle.common.specs.Flags.{READ, WRITE, EXECUTE, USER, has}
use Rattle.common.specs.Page.{level_of, size_of}
use Rattle.common.specs.declared.defs.MMUFlags.{MMUFlags}
use Rattle.common.specs.declared.vm.PageSize.{PageSize}
use Rattle.x86_64.specs.Entry.{addr_of, flags_of, x86}
use Rattle.x86_64.proofs.Format.{lawful}
use Rattle.intel.specs.Intel.{Rights, intel}
use Rattle.intel.specs.Agrees.{SameRights}
use Rattle.pool.specs.Pool.{word, mem_of, Taken}
use Rattle.form.specs.Form.{Good}
use Rattle.refusal.specs.declared.Refusal.{Refusal}
use Rattle.refusal.specs.declared.Refusal.TheVariants.{NotMapped}
use Rattle.walk.specs.Walk.{size_at, found}
use Rattle.walk.specs.declared.Walk.{Walk}
use Rattle.walk.specs.declared.Walk.TheVariants.{Leaf, Open}
use Rattle.walk.proofs.Found as walks
use Rattle.table.specs.Table.{queried}
use Rattle.table_laws.specs.Effects.{shows_in}
use Rattle.table_laws.specs.Processor.{InMemory, Processor}
use Rattle.table_laws.proofs.Processor.{processor}
use Rattle.table_split.specs.Split.{leaf_over, Tables}
use Rattle.walk.proofs.Sizes.{size_bytes}
use Rattle.table_split.proofs.Once.{placed_view, leaf_over_lem}
use Rattle.table_split.specs.Split.{needed, split_ends}
use Rattle.table_unmap_cont.specs.UnmapCont.{cut_from, ContUnmapping}
use Rattle.table_unmap_cont.specs.Demand.{frames_for, answered, Byte, byte, none, byte_of, CutOut, Demand, one, DemandHolds}
use Rattle.table_unmap_cont.proofs.Calls.{cont_empty, cont_short, cont_done}
use Rattle.table_unmap_cont.proofs.Clears.{Cleared, clears, cleared_good}
use Rattle.table_unmap_cont.proofs.Bound.{enough}
use Rattle.table_split.proofs.Ends.{t₁, D₁, D₂}
use Rattle.table_unmap_cont.proofs.Four.{needs_four}

-- what query answers of a page
abbrev Page : Type 0
Page = ℕ × MMUFlags × PageSize

abbrev page : ℕ → ℕ → ℕ → Page
page v l w = (addr_of w + v % span l, record { 0 = flags_of w }, size_at l)

-- query's answer, from what the table shows
abbrev as_query : ℕ → View → Result Page Refusal
as_query v (view l w) = by_kind (x86.kind l w) (Err NotMapped) (Ok (page v l w)) (λ m. Err NotMapped)

as_by : (v l w : ℕ) (k : Kind) → x86.kind l w ≡ k
    → as_query v (view l w) ≡ by_kind k (Err NotMapped) (Ok (page v l w)) (λ m. Err NotMapped)
as_by v l w k e = ap (λ (t : Kind). by_kind t (Err NotMapped) (Ok (page v l w)) (λ m. Err NotMapped)) e

module _ (p : List ℕ) (base used : ℕ) (G : Good p base used) (v : ℕ) where
  query_shown : queried p (base / 4096) v ≡ as_query v (shows_in p base v)
  query_shown = go (found p (base / 4096) v) refl
    where
      go : (x : Walk) → found p (base / 4096) v ≡ x → queried p (base / 4096) v ≡ as_query v (shows_in p base v)
      go (Leaf e) q =
          let O = walks.over p (base / 4096) used G.formed v e q in
          let w : ℕ = word p e.frame e.place in
          let s = placed_view p (base / 4096) used G.formed v O.l e.frame e.place O.placed in
          let r : queried p (base / 4096) v ≡ Ok (addr_of w + v % size_of e.size, (record { 0 = flags_of w }), e.size) = rw q in
          r
          ∙ ap (λ (z : PageSize). Ok (addr_of w + v % size_of z, (record { 0 = flags_of w }), z)) O.size
          ∙ ap (λ (n : ℕ). Ok (addr_of w + v % n, (record { 0 = flags_of w }), size_at O.l)) (size_bytes O.l O.low)
          ∙ sym (ap (as_query v) s ∙ as_by v O.l w leaf O.kind)
      go (Open o) q =
          let U = walks.unused p (base / 4096) used G.formed v o q in
          let s = placed_view p (base / 4096) used G.formed v o.level o.frame o.place U.placed ∙ ap (view o.level) U.blank in
          let r : queried p (base / 4096) v ≡ Err NotMapped = rw q in
          r ∙ sym (ap (as_query v) s ∙ as_by v o.level 0 nothing (lawful.blank o.level))

-- its frame and rights are the translation
answered_as : (v : ℕ) (s : View) → answered (as_query v s) ≡ translated x86 v s
unfolding x86
answered_as v (view l w) = go (x86.kind l w)
  where
    go : (k : Kind) → answered (by_kind k (Err NotMapped) (Ok (page v l w)) (λ m. Err NotMapped))
        ≡ by_kind k nowhere (to (addr_of w + v % span l) (flags_of w)) (λ m. nowhere)
    go nothing = refl
    go leaf = refl
    go (table m) = refl

nowhere_as : (v : ℕ) (s : View) → translated x86 v s ≡ nowhere → as_query v s ≡ Err NotMapped
unfolding x86
nowhere_as v (view l w) e = go (x86.kind l w) e
  where
    go : (k : Kind) → by_kind k nowhere (to (addr_of w + v % span l) (flags_of w)) (λ m. nowhere) ≡ nowhere
        → ◌≡◌ {A = Result Page Refusal} (by_kind k (Err NotMapped) (Ok (page v l w)) (λ m. Err NotMapped)) (Err NotMapped)
    go nothing q = refl
    go leaf q = let z : ◌≡◌ {A = ℕ} 0 1 = cc in absurd (omega arith)
    go (table m) q = refl

-- the processor's byte, from query's answer: it faults where READ is not given
abbrev rights_by : ℕ → Rights
rights_by f = record { write = has WRITE f; user = has USER f; fetch = has EXECUTE f }

abbrev byte_by : Translation → Byte
byte_by nowhere = none
byte_by (to a f) = pick (eqb (has READ f) 1) (byte a (rights_by f)) none

same_rights : (f : ℕ) (r : Rights) → SameRights f r → r ≡ rights_by f
same_rights f r S =
    ap (λ (n : ℕ). record { write = n; user = r.user; fetch = r.fetch }) (sym S.write)
    ∙ ap (λ (n : ℕ). record { write = has WRITE f; user = n; fetch = r.fetch }) (sym S.user)
    ∙ ap (λ (n : ℕ). record { write = has WRITE f; user = has USER f; fetch = n }) (sym S.fetch)

module _ (p : List ℕ) (base used : ℕ) (G : Good p base used) (mem : ℕ → ℕ) (M : InMemory p base used mem) (v : ℕ) where
  P : Processor p base mem
  P = processor p base used G mem M

  byte_is : byte_of (intel mem base v) ≡ byte_by (answered (queried p (base / 4096) v))
  byte_is = go (queried p (base / 4096) v) refl
    where
      go : (r : Result Page Refusal) → queried p (base / 4096) v ≡ r → byte_of (intel mem base v) ≡ byte_by (answered r)
      go (Ok (a, f, s)) q = ⊎_elim
          (λ (h : has READ f.0 ≡ 1).
          let d = P.reads v a f s q h in
          ap byte_of d.1 ∙ ap (byte a) (same_rights f.0 d.0 d.2) ∙ sym (rw (eq-eqb (has READ f.0) 1 h)))
          (λ n. ap byte_of (P.holds v a f s q (zero_bit n)) ∙ sym (rw (ne_eqb (has READ f.0) 1 n)))
          (same? (has READ f.0) 1)
        where
          zero_bit : (has READ f.0 ≡ 1 → ⊥) → has READ f.0 ≡ 0
          zero_bit n = ⊎_elim (λ h. omega arith) (λ h. absurd (n (omega arith))) (below? (has READ f.0) 1)
      go (Err r) q = ap byte_of (P.lacks v (q ∙ refused_is r q))
        where
          refused_is : (r : Refusal) → queried p (base / 4096) v ≡ Err r → ◌≡◌ {A = Result Page Refusal} (Err r) (Err NotMapped)
          refused_is r q = sym q ∙ by (found p (base / 4096) v) refl
            where
              by : (x : Walk) → found p (base / 4096) v ≡ x → queried p (base / 4096) v ≡ Err NotMapped
              by (Open o) e = rw e
              by (Leaf l) e =
                  let z : Ok ((addr_of (word p l.frame l.place) + v % size_of l.size), (record { 0 = flags_of (word p l.frame l.place) }), l.size) ≡ Err r = rw e at q in
                  let y : ◌≡◌ {A = ℕ} 0 1 = cc in
                  absurd (omega arith)

-- the format's cuts, on x86-64
x86_cuts : (root : ℕ) → Cuts x86 root
unfolding x86
x86_cuts root = cuts.holds x86 root lawful (omega arith) (lit< tt)

-- what is left of a pool, from what is left of its memory
module _ (p p' : List ℕ) (base used used' a e : ℕ) (G : Good p base used) (G' : Good p' base used')
    (C : Cutting x86 (mem_of p (base / 4096)) (mem_of p' (base / 4096)) (Taken (base / 4096) used') (base / 4096) a e used used') where
  inside : (v : ℕ) → a ≤ v → v < e → queried p' (base / 4096) v ≡ Err NotMapped
  unfolding translates
  inside v h l = query_shown p' base used' G' v ∙ nowhere_as v (shows_in p' base v) (C.inside v h l)

  outside : (v : ℕ) → Canonical 4 v → (v < a) ⊎ (e ≤ v) → answered (queried p' (base / 4096) v) ≡ answered (queried p (base / 4096) v)
  unfolding translates x86
  outside v c o =
      ap answered (query_shown p' base used' G' v) ∙ answered_as v (shows_in p' base v) ∙ C.outside v c o
      ∙ sym (ap answered (query_shown p base used G v) ∙ answered_as v (shows_in p base v))

  untouched : (v l w : ℕ) → Canonical 4 v → (v < a) ⊎ (e ≤ v) → shows_in p base v ≡ view l w → (w ≡ 0) ⊎ (partly l (v / span l) a e ≡ false)
      → (shows_in p' base v ≡ view l w) × (queried p' (base / 4096) v ≡ queried p (base / 4096) v)
  unfolding x86
  untouched v l w c o s q =
      let t = C.untouched v l w c o s (⊎_elim (λ z. inl (ap (x86.kind l) z ∙ lawful.blank l)) (λ n. inr n) q) in
      (t, query_shown p' base used' G' v ∙ ap (as_query v) (t ∙ sym s) ∙ sym (query_shown p base used G v))

  -- the level of the leaf over an address that query answers
  over_query : (q : List ℕ) (u : ℕ) (H : Good q base u) (v x : ℕ) (f : MMUFlags) (s : PageSize) → queried q (base / 4096) v ≡ Ok (x, f, s)
      → over x86 (mem_of q (base / 4096)) (base / 4096) v ≡ level_of s
  over_query q u H v x f s e = go (found q (base / 4096) v) refl
    where
      go : (w : Walk) → found q (base / 4096) v ≡ w → over x86 (mem_of q (base / 4096)) (base / 4096) v ≡ level_of s
      go (Open o) r =
          let none : Err NotMapped ≡ Ok (x, f, s) = rw r at e in
          let z : ◌≡◌ {A = ℕ} 0 1 = cc in
          absurd (omega arith)
      go (Leaf l) r =
          let same : Ok ((addr_of (word q l.frame l.place) + v % size_of l.size), (record { 0 = flags_of (word q l.frame l.place) }), l.size) ≡ Ok (x, f, s) = rw r at e in
          let pair : ◌≡◌ {A = Page} (addr_of (word q l.frame l.place) + v % size_of l.size, record { 0 = flags_of (word q l.frame l.place) }, l.size) (x, f, s) = cc in
          let es : l.size ≡ s = ap (λ (n : Page). n.2) pair in
          let lv : leaf_over q (base / 4096) v ≡ level_of l.size = rw r in
          sym (leaf_over_lem q (base / 4096) u H.formed v) ∙ lv ∙ ap level_of es

  largest : (v x x' : ℕ) (f f' : MMUFlags) (s s' : PageSize) → Canonical 4 v → (v < a) ⊎ (e ≤ v)
      → queried p (base / 4096) v ≡ Ok (x, f, s) → queried p' (base / 4096) v ≡ Ok (x', f', s') → level_of s' < level_of s
      → partly (suc (level_of s')) (v / span (suc (level_of s'))) a e ≡ true
  unfolding x86
  largest v x x' f f' s s' c o q q' h =
      let before = over_query p used G v x f s q in
      let after = over_query p' used' G' v x' f' s' q' in
      subst (λ (m : ℕ). partly (suc m) (v / span (suc m)) a e ≡ true) after (C.largest v c o (omega (arith, before, after)))

  cut_out : CutOut p p' base used used' a e
  cut_out = record {
    good = G';
    outside = outside;
    inside = inside;
    untouched = untouched;
    largest = largest;
    manual_outside = λ mem mem' M M' v c o. byte_is p' base used' G' mem' M' v ∙ ap byte_by (outside v c o) ∙ sym (byte_is p base used G mem M v);
    manual_inside = λ mem' M' v h l. (processor p' base used' G' mem' M').lacks v (inside v h l);
  }

module _ (p : List ℕ) (base used v n : ℕ) (G : Good p base used) (pv : v % 4096 ≡ 0) (pn : n % 4096 ≡ 0) (r : Within 4 v (v + n)) where
  abbrev b : ℕ
  b = base / 4096

  most : frames_for p base v (v + n) ≤ 4
  unfolding x86
  most = omega (arith, (x86_cuts b).most (mem_of p b) v (v + n) r)

  -- an empty range
  module _ (z : n ≡ 0) where
    same : v + n ≡ v
    same = omega arith

    nothing_cut : Cutting x86 (mem_of p b) (mem_of p b) (Taken b used) b v (v + n) used used
    nothing_cut = rw same ((x86_cuts b).cut_none (Taken b used) (mem_of p b) used v G.formed)

    no_frames : frames_for p base v (v + n) ≡ 0
    no_frames = omega (arith, nothing_cut.taken)

    empty : Demand p base used v n
    empty = record {
      most = most;
      refused = λ l. absurd (omega (arith, no_frames));
      carried = λ l.
          let d = cont_empty p b used v n z in (
            sym (ap (λ (o : ContUnmapping). o.result) d) ∙ ap Ok (sym no_frames),
            subst (λ (o : ContUnmapping). CutOut p o.pool base used (used + frames_for p base v (v + n)) v (v + n)) d
                (subst (λ (u : ℕ). CutOut p p base used u v (v + n)) (omega (arith, no_frames)) (cut_out p p base used used v (v + n) G G nothing_cut)),
          );
    }

  -- any other
  module _ (some : n ≡ 0 → ⊥) where
    more : v < v + n
    more = ⊎_elim (λ h. h) (λ h. absurd (some (omega arith))) (below? v (v + n))

    pe : (v + n) % 4096 ≡ 0
    pe = omega arith

    counted : frames_for p base v (v + n) ≡ needed p b v (v + n)
    unfolding x86
    counted =
        (x86_cuts b).found (mem_of p b) v (v + n) more r
        ∙ ap (λ (l : ℕ). need v l (v + n) (over x86 (mem_of p b) b (v + n))) (sym (leaf_over_lem p b used G.formed v))
        ∙ ap (need v (leaf_over p b v) (v + n)) (sym (leaf_over_lem p b used G.formed (v + n)))

    module _ (room : needed p b v (v + n) ≤ length p / 512 - used) where
      t : Tables
      t = split_ends p b used v (v + n)

      p' : List ℕ
      p' = cut_from (split_ends p b used v (v + n)) b v (v + n)

      good₂ : Good (split_ends p b used v (v + n)).pool base (split_ends p b used v (v + n)).used
      good₂ = (D₂ p base used G v (v + n) pv pe more r room).good

      between : Cleared base (split_ends p b used v (v + n)).used (v + n) v (split_ends p b used v (v + n)).pool p'
      unfolding p'
      between =
          subst (Cleared base (split_ends p b used v (v + n)).used (v + n) v (split_ends p b used v (v + n)).pool)
          (sym (enough base (split_ends p b used v (v + n)).used (v + n) (split_ends p b used v (v + n)).pool v good₂ r.1))
          (clears base (split_ends p b used v (v + n)).used (v + n) (v + n - v) (split_ends p b used v (v + n)).pool v good₂ (omega arith))

      ranged : Ranged x86 (Taken b) (λ k. b + k) b (λ l w. 0) v (v + n) (mem_of p b) used (mem_of p' b) t.used
      unfolding t p'
      ranged = record {
        W₁ = mem_of (t₁ p base used G v (v + n) pv pe more r room).pool b;
        k₁ = (t₁ p base used G v (v + n) pv pe more r room).used;
        W₂ = mem_of t.pool b;
        at_a = (D₁ p base used G v (v + n) pv pe more r room).steps;
        at_e = (D₂ p base used G v (v + n) pv pe more r room).steps;
        between = between;
      }

      cutting : Cutting x86 (mem_of p b) (mem_of p' b) (Taken b t.used) b v (v + n) used t.used
      unfolding x86
      cutting = (x86_cuts b).cut_out (Taken b) (λ k. b + k) (mem_of p b) used (mem_of p' b) t.used v (v + n) G.formed r pv pe more ranged

      good' : Good p' base t.used
      unfolding t p'
      good' = cleared_good base t.used (v + n) (t.used * 512) t.pool v good₂

      left : CutOut p p' base used (used + frames_for p base v (v + n)) v (v + n)
      left = subst (λ (u : ℕ). CutOut p p' base used u v (v + n)) cutting.taken (cut_out p p' base used t.used v (v + n) G good' cutting)

    full : Demand p base used v n
    unfolding p'
    full = record {
      most = most;
      refused = λ l. sym (cont_short p b used v n some (omega (arith, counted)));
      carried = λ l.
          let room : needed p b v (v + n) ≤ length p / 512 - used = omega (arith, counted) in
          let d = cont_done p b used v n some room in (
            sym (ap (λ (o : ContUnmapping). o.result) d) ∙ ap Ok (sym counted),
            subst (λ (o : ContUnmapping). CutOut p o.pool base used (used + frames_for p base v (v + n)) v (v + n)) d (left room),
          );
    }

  demand : Demand p base used v n
  demand = ⊎_elim empty full (same? n 0)

-- what a leaf requires, in the demand's words
two_mib : (q a e : ℕ) → required 1 q a e ≡ one (partly 1 q a e)
unfolding required
two_mib q a e = go (partly 1 q a e)
  where
    go : (t : Bool) → pick t (1 + sum 512 (λ i. 0)) 0 ≡ one t
    go true = omega (arith, sum_none 512 (λ i. 0) (λ i h. refl))
    go false = refl

one_gib : (q a e : ℕ) → required 2 q a e ≡ pick (partly 2 q a e) (1 + sum 512 (λ i. one (partly 1 (q * 512 + i) a e))) 0
unfolding required
one_gib q a e = ap (λ (n : ℕ). pick (partly 2 q a e) (1 + n) 0) (sum_ext 512 (λ i. required 1 (q * 512 + i) a e) (λ i. one (partly 1 (q * 512 + i) a e)) (λ i h. two_mib (q * 512 + i) a e))

four_kib : (q a e : ℕ) → required 0 q a e ≡ 0
unfolding required
four_kib q a e = refl

pub demands : DemandHolds
demands = record { holds = λ p base used v n G pv pn r. demand p base used v n G pv pn r; two_mib = two_mib; one_gib = one_gib; four_kib = four_kib; needs_four = needs_four }
