-- Page flags after a protect: which change and to what.
use Prim.Native.Nat.{ℕ, zero, suc, ◌+◌, ◌*◌, ◌/◌, ◌%◌, ◌≤◌, ◌<◌}
use mathlib.Core.Path.{◌≡◌, refl, sym, ◌∙◌, ap, subst}
use mathlib.Core.Bool.{true, false}
use mathlib.Core.List.{List}
use mathlib.Core.Logic.{◌⊎◌, inl, inr, ⊎_elim}
use native.Mathlib.Omega.{arith}
use lib.ListN.{length, get_or, set}
use lib.Seq.{get_or-set_same, get_or-set_other}
use Rattle.paging.proofs.Cases.{same?, below?, clash}
use Rattle.scan.proofs.Scans.{tell}
use Rattle.space.specs.Space.{mapping_at, is_mapping, mapping_place}
use Rattle.space.specs.Passes.{page_at, Passes, Paged}
use Rattle.space.specs.declared.Mapping.{Mapping}
use Rattle.space.specs.declared.Space.{Space}
use Rattle.space.proofs.Facts.{mapping_place_lem}
use Rattle.vmar_protect.specs.Protect.{with_rights, Lent, page_done, pages_done, touching, part_from, part_to, changed, mapping_done, mappings_done}
use Rattle.vmar_protect_laws.specs.Laws.{page_addr, InRange}
use Rattle.vmar_protect.proofs.Parts.{touch_means, touch_of, from_is, to_is, part_runs, changed_in}
use Rattle.vmar_protect.proofs.Buffers.{pages_kept, mappings_kept}

-- page k of slot i is one of the n pages from `first` on of slot j
abbrev pub Among : ℕ → ℕ → ℕ → ℕ → ℕ → Type 0
Among j first n i k = (i ≡ j) × (first ≤ k) × (k < first + n)

module _ (base : ℕ) (m : Mapping) (j access first : ℕ) where
  -- the pages before one
  among_less : (n i k : ℕ) → (Among j first (suc n) i k → ⊥) → Among j first n i k → ⊥
  among_less n i k none a = let a1 = a.1 in let a2 = a.2 in none (a.0, a1, omega arith)

  -- a page that is not done stays
  pub pages_stay : (t : Lent) (n i k : ℕ) → k < 512 → first + n ≤ 512 → (Among j first n i k → ⊥) → page_at (pages_done t (base / 4096) m j access first n).flags i k ≡ page_at t.flags i k
  unfolding pages_done page_done
  pages_stay t zero i k l h none = refl
  pages_stay t (suc n) i k l h none =
      get_or-set_other (pages_done t (base / 4096) m j access first n).flags (j * 512 + (first + n)) (i * 512 + k) (with_rights (page_at (pages_done t (base / 4096) m j access first n).flags j (first + n)) access) 0
      (λ q. let e : i ≡ j = omega arith in let d : k ≡ first + n = omega arith in none (e, omega arith, omega arith))
      ∙ pages_stay t n i k l (omega arith) (among_less n i k none)

  -- and one that is done has the rights
  pub pages_change : (t : Lent) (n k : ℕ) → length t.flags ≡ 32768 → j < 64 → first + n ≤ 512 → first ≤ k → k < first + n
      → page_at (pages_done t (base / 4096) m j access first n).flags j k ≡ with_rights (page_at t.flags j k) access
  unfolding pages_done page_done
  pages_change t zero k e l h low high = absurd (omega arith)
  pages_change t (suc n) k e l h low high =
      ⊎_elim
      (λ (q : k ≡ first + n).
      let u : List ℕ = (pages_done t (base / 4096) m j access first n).flags in
      let long : length u ≡ 32768 = (pages_kept base 0 t m j access first n).flags ∙ e in
      subst (λ (x : ℕ). get_or (set u (j * 512 + (first + n)) (with_rights (page_at u j (first + n)) access)) (j * 512 + x) 0 ≡ with_rights (page_at t.flags j x) access) (sym q)
      (get_or-set_same u (j * 512 + (first + n)) (with_rights (page_at u j (first + n)) access) 0 (omega arith)
      ∙ ap (λ (x : ℕ). with_rights x access) (pages_stay t n j (first + n) (omega arith) (omega arith) (λ a. let a2 = a.2 in omega arith))))
      (λ (q : k ≡ first + n → ⊥).
      get_or-set_other (pages_done t (base / 4096) m j access first n).flags (j * 512 + (first + n)) (j * 512 + k) (with_rights (page_at (pages_done t (base / 4096) m j access first n).flags j (first + n)) access) 0
      (λ z. q (omega arith))
      ∙ pages_change t n k e l (omega arith) low (omega arith))
      (same? k (first + n))

module _ (s : Space) (f : List ℕ) (g : Passes s f) (base r begin end access : ℕ) (run : begin ≤ end) (low_end : begin % 4096 ≡ 0) (high_end : end % 4096 ≡ 0) where
  -- a mapping in the list is paged
  paged_at : (k : ℕ) → k < s.mapcount → Paged (mapping_at s (mapping_place s k))
  paged_at k l = let q = mapping_place_lem g k l in g.paged (mapping_place s k) q.0 q.1

  -- the changed pages of a touching mapping lie in the range
  pub in_range : (k i j : ℕ) → k < s.mapcount → touching (mapping_at s (mapping_place s k)) r begin end ≡ true
      → Among (mapping_place s k) (changed (mapping_at s (mapping_place s k)) begin end).first (changed (mapping_at s (mapping_place s k)) begin end).count i j → InRange s r begin end i j
  in_range k i j l t a =
      let q = mapping_place_lem g k l in
      let z = paged_at k l in
      let z0 = z.addr in
      let z1 = z.size in
      let w = touch_means _ r _ _ begin end t in
      let w1 = w.1 in
      let w2 = w.2 in
      let m : Mapping = mapping_at s (mapping_place s k) in
      let x = from_is m begin in
      let x0 = x.0 in
      let x1 = x.1 in
      let y = to_is m end in
      let y0 = y.0 in
      let y1 = y.1 in
      let e = part_runs m begin end run w1 w2 in
      let a1 = a.1 in
      let a2 = a.2 in
      subst (λ (n : ℕ). InRange s r begin end n j) (sym a.0) (record {
        slot = q.0;
        live = q.1;
        mine = w.0;
        page = omega arith;
        from = omega arith;
        to = omega arith;
      })

  -- a mapping with a page in the range touches it
  pub range_touches : (i j : ℕ) → InRange s r begin end i j → touching (mapping_at s i) r begin end ≡ true
  range_touches i j w =
      let w0 = w.page in
      let w1 = w.from in
      let w2 = w.to in
      touch_of _ _ _ _ begin end w.mine (omega arith) (omega arith)

  -- and the page is one of its changed ones
  pub among : (i j : ℕ) → InRange s r begin end i j → Among i (changed (mapping_at s i) begin end).first (changed (mapping_at s i) begin end).count i j
  among i j w =
      let z = g.paged i w.slot w.live in
      let z0 = z.addr in
      let z1 = z.size in
      let w0 = w.page in
      let w1 = w.from in
      let w2 = w.to in
      let m : Mapping = mapping_at s i in
      let x = from_is m begin in
      let x0 = x.0 in
      let x1 = x.1 in
      let y = to_is m end in
      let y0 = y.0 in
      let y1 = y.1 in
      ⊎_elim
      (λ (p : part_from m begin ≡ m.addr). ⊎_elim (λ (q : part_to m end ≡ m.addr + m.size). (refl, omega arith, omega arith)) (λ (q : part_to m end ≡ end). (refl, omega arith, omega arith)) y.2)
      (λ (p : part_from m begin ≡ begin). ⊎_elim (λ (q : part_to m end ≡ m.addr + m.size). (refl, omega arith, omega arith)) (λ (q : part_to m end ≡ end). (refl, omega arith, omega arith)) y.2)
      x.2

  -- the changed pages lie within the slot
  pub few : (k : ℕ) → k < s.mapcount → touching (mapping_at s (mapping_place s k)) r begin end ≡ true
      → (changed (mapping_at s (mapping_place s k)) begin end).first + (changed (mapping_at s (mapping_place s k)) begin end).count ≤ 512
  few k l t = let z = paged_at k l in let z1 = z.few in let c = changed_in (mapping_at s (mapping_place s k)) r begin end z run t in omega arith

  -- one place: a page that is not in the range, or of another slot, stays
  place_stay : (t : Lent) (k i j : ℕ) → k < s.mapcount → j < 512 → (i ≡ mapping_place s k → InRange s r begin end i j → ⊥)
      → page_at (mapping_done t (base / 4096) s r begin end access k).flags i j ≡ page_at t.flags i j
  unfolding mapping_done
  place_stay t k i j l h none =
      ⊎_elim
      (λ (e : touching (mapping_at s (mapping_place s k)) r begin end ≡ true). rw e
      (pages_stay base (mapping_at s (mapping_place s k)) (mapping_place s k) access (changed (mapping_at s (mapping_place s k)) begin end).first t (changed (mapping_at s (mapping_place s k)) begin end).count i j h (few k l e) (λ a. none a.0 (in_range k i j l e a))))
      (λ (e : touching (mapping_at s (mapping_place s k)) r begin end ≡ false). rw e refl)
      (tell (touching (mapping_at s (mapping_place s k)) r begin end))

  -- one in the range changes
  place_change : (t : Lent) (k j : ℕ) → k < s.mapcount → length t.flags ≡ 32768 → InRange s r begin end (mapping_place s k) j
      → page_at (mapping_done t (base / 4096) s r begin end access k).flags (mapping_place s k) j ≡ with_rights (page_at t.flags (mapping_place s k) j) access
  unfolding mapping_done
  place_change t k j l h w =
      let e = range_touches (mapping_place s k) j w in
      let a = among (mapping_place s k) j w in
      rw e (pages_change base (mapping_at s (mapping_place s k)) (mapping_place s k) access (changed (mapping_at s (mapping_place s k)) begin end).first t (changed (mapping_at s (mapping_place s k)) begin end).count j h w.slot (few k l e) a.1 a.2)

  -- the places before n: a page that is not in the range stays
  pub places_stay : (t : Lent) (n i j : ℕ) → n ≤ s.mapcount → j < 512 → ((k : ℕ) → k < n → i ≡ mapping_place s k → InRange s r begin end i j → ⊥)
      → page_at (mappings_done t (base / 4096) s r begin end access n).flags i j ≡ page_at t.flags i j
  unfolding mappings_done
  places_stay t zero i j l h none = refl
  places_stay t (suc n) i j l h none =
      place_stay (mappings_done t (base / 4096) s r begin end access n) n i j (omega arith) h (none n (omega arith))
      ∙ places_stay t n i j (omega arith) h (λ k m. none k (omega arith))

  -- once the place of its slot is done, a page in the range has the rights
  pub places_change : (t : Lent) (n k j : ℕ) → n ≤ s.mapcount → k < n → length t.flags ≡ 32768 → InRange s r begin end (mapping_place s k) j
      → page_at (mappings_done t (base / 4096) s r begin end access n).flags (mapping_place s k) j ≡ with_rights (page_at t.flags (mapping_place s k) j) access
  unfolding mappings_done
  places_change t zero k j l h long w = absurd (omega arith)
  places_change t (suc n) k j l h long w =
      ⊎_elim
      (λ (q : k ≡ n).
      let z = subst (λ (x : ℕ). InRange s r begin end (mapping_place s x) j) q w in
      subst (λ (x : ℕ). page_at (mapping_done (mappings_done t (base / 4096) s r begin end access n) (base / 4096) s r begin end access n).flags (mapping_place s x) j ≡ with_rights (page_at t.flags (mapping_place s x) j) access) (sym q)
      (place_change (mappings_done t (base / 4096) s r begin end access n) n j (omega arith) ((mappings_kept base 0 t s r begin end access n).flags ∙ long) z
      ∙ ap (λ (x : ℕ). with_rights x access) (places_stay t n (mapping_place s n) j (omega arith) (small (mapping_place s n) j z) (λ i m e v. g.mappings.once i n m (omega arith) (sym e)))))
      (λ (q : k ≡ n → ⊥).
      place_stay (mappings_done t (base / 4096) s r begin end access n) n (mapping_place s k) j (omega arith) (small (mapping_place s k) j w) (λ e v. g.mappings.once k n (omega arith) (omega arith) e)
      ∙ places_change t n k j (omega arith) (omega arith) long w)
      (same? k n)
    where
      small : (i j : ℕ) → InRange s r begin end i j → j < 512
      small i j w = let z = (g.paged i w.slot w.live).few in let p = w.page in omega arith

-- whether a page lies in the range
pub in_range? : (s : Space) (r begin end i j : ℕ) → i < 64 → InRange s r begin end i j ⊎ (InRange s r begin end i j → ⊥)
in_range? s r begin end i j l =
    ⊎_elim
    (λ (a : is_mapping s i ≡ true). ⊎_elim
    (λ (b : (mapping_at s i).region ≡ r). ⊎_elim
    (λ (c : j < (mapping_at s i).size / 4096). ⊎_elim
    (λ (d : page_addr s i j < begin). inr (λ w. let x = w.from in omega arith))
    (λ (d : begin ≤ page_addr s i j). ⊎_elim
    (λ (e : page_addr s i j < end). inl (record { slot = l; live = a; mine = b; page = c; from = d; to = e }))
    (λ (e : end ≤ page_addr s i j). inr (λ w. let x = w.to in omega arith))
    (below? (page_addr s i j) end))
    (below? (page_addr s i j) begin))
    (λ (c : (mapping_at s i).size / 4096 ≤ j). inr (λ w. let x = w.page in omega arith))
    (below? j ((mapping_at s i).size / 4096)))
    (λ (b : (mapping_at s i).region ≡ r → ⊥). inr (λ w. b w.mine))
    (same? (mapping_at s i).region r))
    (λ (a : is_mapping s i ≡ false). inr (λ w. clash _ w.live a))
    (tell (is_mapping s i))
