-- No entry is met twice: however long a range is, as many steps as the tables in use have entries are enough to empty it.
use Prim.Native.Nat.{ℕ, zero, suc, ◌+◌, ◌-◌, ◌*◌, ◌/◌, ◌%◌, ◌^◌, ◌≤◌, ◌<◌}
use mathlib.Core.Path.{◌≡◌, refl, sym, ap, ◌∙◌, subst}
use mathlib.Core.Logic.{◌⊎◌, inl, inr, ⊎_elim}
use mathlib.Core.List.{List}
use native.Mathlib.Omega.{arith}
use lib.Dec.{eqb}
use borrow.Author.Tests.{eq-eqb, ne_eqb}
use Rattle.paging.specs.Choice.{pick}
use Rattle.paging.specs.Level.{span, index, half, Canonical}
use Rattle.paging.specs.Table.{hit, walk}
use Rattle.paging.specs.Cut.{sum}
use Rattle.paging.proofs.Cases.{same?, below?}
use Rattle.paging.proofs.Levels.{span_pos, index_lt}
use Rattle.paging.proofs.Walks.{hit_level, hit_frame, NoTable, nothing_bar}
use Rattle.paging.proofs.Changes.{End, end}
use Rattle.paging.proofs.Between.{past, in_past}
use Rattle.paging.proofs.Visits.{walk_kept, same_entry}
use Rattle.paging.proofs.Counts.{sum_ext}
use Rattle.x86_64.specs.Entry.{x86}
use Rattle.x86_64.proofs.Format.{lawful}
use Rattle.pool.specs.Pool.{mem_of, Taken}
use Rattle.form.specs.Form.{Good}
use Rattle.walk.specs.Walk.{found}
use Rattle.table_unmap_cont.specs.UnmapCont.{span_of, emptied, after, cleared}
use Rattle.table_unmap_cont.proofs.Clears.{after_gt, cleared_end, cleared_step, cleared_more, next_is, Emptied, empty}

-- g, but 0 at j
abbrev without : ℕ → (ℕ → ℕ) → ℕ → ℕ
without j g i = pick (eqb i j) 0 (g i)

sum_without : (n j : ℕ) (g : ℕ → ℕ) → j < n → sum n (without j g) + g j ≡ sum n g
unfolding sum
sum_without zero j g h = absurd (omega arith)
sum_without (suc n) j g h = ⊎_elim last (before (sum_without n j g)) (same? j n)
  where
    last : j ≡ n → sum n (without j g) + without j g n + g j ≡ sum n g + g n
    last e =
        let z : without j g n ≡ 0 = rw (eq-eqb n j (sym e)) in
        let s : sum n (without j g) ≡ sum n g = sum_ext n (without j g) g (λ i l. rw (ne_eqb i j (λ q. omega arith))) in
        omega (arith, z, s, ap g e)

    before : (j < n → sum n (without j g) + g j ≡ sum n g) → (j ≡ n → ⊥) → sum n (without j g) + without j g n + g j ≡ sum n g + g n
    before ih ne =
        let l : j < n = ⊎_elim (λ x. x) (λ x. absurd (ne (omega arith))) (below? j n) in
        let z : without j g n ≡ g n = rw (ne_eqb n j (λ q. ne (sym q))) in
        omega (arith, ih l, z)

sum_ones : (n : ℕ) → sum n (λ i. 1) ≡ n
unfolding sum
sum_ones zero = refl
sum_ones (suc n) = omega (arith, sum_ones n)

module _ (base used e : ℕ) where
  abbrev b : ℕ
  b = base / 4096

  -- entry j of the tables in use was met, at an address whose entry ends by v
  record Seen (p : List ℕ) (v j : ℕ) : Type 0 where
    x : ℕ
    l : ℕ
    n : ℕ
    canonical : Canonical 4 x
    at : walk x86 (mem_of p b) x86.top b x ≡ hit l n (index l x)
    low : b ≤ n
    slot : (n - b) * 512 + index l x ≡ j
    ended : past l x ≤ v

  -- the addresses from v to e are of one half
  abbrev Half : ℕ → Type 0
  Half v = (e ≤ half 4) ⊎ ((2 ^ 64 - half 4 ≤ v) × (e < 2 ^ 64))

  canonical_at : (v : ℕ) → Half v → v < e → Canonical 4 v
  canonical_at v r h = ⊎_elim (λ a. inl (omega arith)) (λ c. inr (c.0, omega (arith, c.1))) r

  module _ (p : List ℕ) (G : Good p base used) (v : ℕ) (cv : Canonical 4 v) where
    M : Emptied p (emptied p b v) (span_of (found p b v)) base used v
    M = empty p base used G v

    here : ℕ
    here = (M.n - b) * 512 + index M.l v

    here_lt : here < used * 512
    unfolding here
    here_lt = omega (arith, index_lt M.l v, M.in_use.0, M.in_use.1)

    E : End x86 (mem_of p b) (Taken b used) b G.formed v
    E = end x86 (mem_of p b) (Taken b used) b G.formed v

    pl : E.l ≡ M.l
    pl = hit_level (sym E.is ∙ M.at)

    pn : E.n ≡ M.n
    pn = hit_frame (sym E.is ∙ M.at)

    -- it was not met before
    unseen : Seen p v here → ⊥
    unfolding here x86
    unseen S =
        let f = end x86 (mem_of p b) (Taken b used) b G.formed S.x in
        let fl : f.l ≡ S.l = hit_level (sym f.is ∙ S.at) in
        let fn : f.n ≡ S.n = hit_frame (sym f.is ∙ S.at) in
        let n : S.n ≡ M.n = omega (arith, S.slot, S.low, M.in_use.0, index_lt M.l v, index_lt S.l S.x) in
        let i : index S.l S.x ≡ index M.l v = omega (arith, S.slot, ap (λ (k : ℕ). (k - b) * 512) n) in
        let l : S.l ≡ M.l = sym fl ∙ sym f.lev ∙ ap G.formed.lev (fn ∙ n ∙ sym pn) ∙ E.lev ∙ pl in
        let at : walk x86 (mem_of p b) x86.top b S.x ≡ hit M.l M.n (index M.l S.x) = S.at ∙ ap (λ (k : ℕ). hit S.l k (index S.l S.x)) n ∙ ap (λ (m : ℕ). hit m M.n (index m S.x)) l in
        let q : v / span M.l ≡ S.x / span M.l =
        same_entry x86 (mem_of p b) (Taken b used) b G.formed (omega arith) v S.x M.l M.n cv S.canonical M.at at (sym i ∙ ap (λ (m : ℕ). index m S.x) l) in
        omega (arith, (in_past M.l S.x v q).1, ap (λ (m : ℕ). past m S.x) l, S.ended)

    -- emptying it moves the end of no walk
    kept : (x : ℕ) → walk x86 (mem_of (emptied p b v) b) x86.top b x ≡ walk x86 (mem_of p b) x86.top b x
    kept = walk_kept x86 (mem_of p b) (Taken b used) b G.formed (mem_of (emptied p b v) b) v E
        (λ m i t h ne. M.other m i t h (λ z. ne (z.0 ∙ sym pn, z.1 ∙ ap (λ (k : ℕ). index k v) (sym pl))))
        flat
      where
        word : mem_of (emptied p b v) b E.n (index E.l v) ≡ 0
        word = ap (λ (k : ℕ). mem_of (emptied p b v) b k (index E.l v)) pn ∙ ap (λ (k : ℕ). mem_of (emptied p b v) b M.n (index k v)) pl ∙ M.gone

        flat : NoTable (x86.kind E.l (mem_of (emptied p b v) b E.n (index E.l v)))
        flat = nothing_bar (ap (x86.kind E.l) word ∙ lawful.blank E.l)

    next : after p b v ≡ past M.l v
    next = ap (λ (s : ℕ). v + (s - v % s)) M.spans ∙ next_is (span M.l) v (span_pos M.l)

    -- what was met stays met, and now this too
    later : (j : ℕ) → Seen p v j → Seen (emptied p b v) (after p b v) j
    later j S = record {
      x = S.x;
      l = S.l;
      n = S.n;
      canonical = S.canonical;
      at = kept S.x ∙ S.at;
      low = S.low;
      slot = S.slot;
      ended = omega (arith, S.ended, after_gt p b v);
    }

    met : Seen (emptied p b v) (after p b v) here
    unfolding here
    met = record { x = v; l = M.l; n = M.n; canonical = cv; at = kept v ∙ M.at; low = M.in_use.0; slot = refl; ended = omega (arith, next) }

    good : Good (emptied p b v) base used
    good = M.good

  -- each step meets an entry that was not met before
  fresh : (p : List ℕ) (G : Good p base used) (v : ℕ) (g : ℕ → ℕ) (cv : Canonical 4 v) → ((j : ℕ) → g j ≡ 0 → Seen p v j) → 0 < g (here p G v cv)
  fresh p G v g cv seen = ⊎_elim (λ h. h) (λ h. absurd (unseen p G v cv (seen (here p G v cv) (omega arith)))) (below? 0 (g (here p G v cv)))

  seen_after : (p : List ℕ) (G : Good p base used) (v : ℕ) (g : ℕ → ℕ) (cv : Canonical 4 v) → ((j : ℕ) → g j ≡ 0 → Seen p v j)
      → (j : ℕ) → without (here p G v cv) g j ≡ 0 → Seen (emptied p b v) (after p b v) j
  seen_after p G v g cv seen j z = ⊎_elim
      (λ (q : j ≡ here p G v cv). subst (Seen (emptied p b v) (after p b v)) (sym q) (met p G v cv))
      (λ ne.
      let y : g j ≡ 0 = rw (ne_eqb j (here p G v cv) ne) at z in
      later p G v cv j (seen j y))
      (same? j (here p G v cv))

  enough_from : (n : ℕ) (p : List ℕ) (v : ℕ) (g : ℕ → ℕ) → Good p base used → Half v → ((j : ℕ) → g j ≡ 0 → Seen p v j) → sum (used * 512) g ≤ n
      → cleared n p b v e ≡ cleared (e - v) p b v e
  enough_from zero p v g G r seen le = ⊎_elim
      (λ h.
      let cv = canonical_at v r h in
      absurd (omega (arith, fresh p G v g cv seen, sum_without (used * 512) (here p G v cv) g (here_lt p G v cv))))
      (λ h. cleared_end 0 p b v e h ∙ sym (cleared_end (e - v) p b v e h))
      (below? v e)
  enough_from (suc n) p v g G r seen le = ⊎_elim
      (λ h.
      let cv = canonical_at v r h in
      let less : sum (used * 512) (without (here p G v cv) g) ≤ n = omega (arith, fresh p G v g cv seen, sum_without (used * 512) (here p G v cv) g (here_lt p G v cv)) in
      let r' : Half (after p b v) = ⊎_elim (λ a. inl a) (λ c. inr (omega (arith, c.0, after_gt p b v), c.1)) r in
      cleared_step n p b v e h
      ∙ enough_from n (emptied p b v) (after p b v) (without (here p G v cv) g) (good p G v cv) r' (seen_after p G v g cv seen) less
      ∙ sym (cleared_more p b v e h))
      (λ h. cleared_end (suc n) p b v e h ∙ sym (cleared_end (e - v) p b v e h))
      (below? v e)

  pub enough : (p : List ℕ) (v : ℕ) → Good p base used → Half v → cleared (used * 512) p b v e ≡ cleared (e - v) p b v e
  enough p v G r = enough_from (used * 512) p v (λ j. 1) G r (λ j z. absurd (omega arith)) (omega (arith, sum_ones (used * 512)))
