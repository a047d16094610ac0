-- Mappings of a space that passes its check, and their parts, are ranges that `unmap_cont` takes.
use Prim.Native.Nat.{ℕ, zero, suc, ◌+◌, ◌-◌, ◌%◌, ◌^◌, ◌≤◌, ◌<◌, min, max}
use mathlib.Core.Path.{◌≡◌, refl, sym, ◌∙◌, ap, subst}
use mathlib.Core.Bool.{true, false}
use mathlib.Core.List.{List, [], ◌∷◌}
use Rattle.std.proofs.Common.{Some}
use mathlib.Core.Logic.{inl, inr, ⊎_elim}
use native.Mathlib.Omega.{arith}
use lib.Dec.{eqb}
use borrow.Author.Tests.{eqb-true, eq-eqb, ne_eqb}
use Rattle.paging.specs.Level.{Within}
use Rattle.paging.proofs.Cases.{same?, below?, no_truth}
use Rattle.scan.proofs.Scans.{tell}
use Rattle.space.specs.Range.{overlap}
use Rattle.space.specs.Space.{region_at, mapping_at, is_region, is_mapping, region_place, mapping_place}
use Rattle.space.specs.Passes.{Passes, RootRange}
use Rattle.space.specs.declared.Mapping.{Mapping}
use Rattle.space.specs.declared.Space.{Space}
use Rattle.space.proofs.Facts.{region_place_lem, mapping_place_lem, child_in, mapping_in}
use Rattle.space.proofs.Ranges.{apart, apart_of}
use Rattle.vmar_offset.specs.Offset.{mapping_meets}
use Rattle.vmar_offset.specs.Offset as offset
use Rattle.table_cuts.specs.Cuts.{Fits, non_empty}
use Rattle.table_cuts.proofs.Append.{count_single}
use Rattle.vmar_cuts.specs.Cuts.{whole, part, part_of, PageRange}
use Rattle.vmar_cuts.specs.Parts.{cut_of, cuts_of}
use Rattle.vmar_cuts.specs.declared.Extent.{Extent}

-- two ranges that overlap: each begins before the other ends
pub overlaps : (a n b m : ℕ) → overlap a n b m ≡ true → (a < b + m) × (b < a + n)
overlaps a n b m e = (
  ⊎_elim (λ (l : a < b + m). l) (λ (l : b + m ≤ a). no_truth (sym (apart_of a n b m (inl l)) ∙ e)) (below? a (b + m)),
  ⊎_elim (λ (l : b < a + n). l) (λ (l : a + n ≤ b). no_truth (sym (apart_of a n b m (inr l)) ∙ e)) (below? b (a + n)),
)

pub overlap_of : (a n b m : ℕ) → a < b + m → b < a + n → overlap a n b m ≡ true
overlap_of a n b m l h =
    ⊎_elim (λ (e : overlap a n b m ≡ true). e) (λ (e : overlap a n b m ≡ false). absurd (⊎_elim (λ k. omega arith) (λ k. omega arith) (apart a n b m e))) (tell (overlap a n b m))

-- a mapping of r that meets [b, b + n)
pub record Meets (m : Mapping) (r b n : ℕ) : Type 0 where
  pub live : m.live ≡ true
  pub own : m.region ≡ r
  pub from : m.addr < b + n
  pub to : b < m.addr + m.size

pub meets : (m : Mapping) (r b n : ℕ) → mapping_meets m r b n ≡ true → Meets m r b n
unfolding offset.meets
meets m r b n e =
    ⊎_elim
    (λ (l : m.live ≡ true). ⊎_elim
    (λ (q : eqb m.region r ≡ true).
    let o = overlaps m.addr m.size b n (simp (l, q) at e) in
    record { live = l; own = eqb-true m.region r q; from = o.0; to = o.1 })
    (λ (q : eqb m.region r ≡ false). no_truth (simp (l, q) at e))
    (tell (eqb m.region r)))
    (λ (l : m.live ≡ false). no_truth (simp l at e))
    (tell m.live)

pub meets_of : (m : Mapping) (r b n : ℕ) → Meets m r b n → mapping_meets m r b n ≡ true
unfolding offset.meets
meets_of m r b n k = simp (k.live, eq-eqb m.region r k.own, overlap_of m.addr m.size b n k.from k.to)

-- the end of a mapping that fits is a number of 64 bits
pub fits_end : (m : Mapping) → Fits (whole m) → m.addr + m.size < 2 ^ 64
fits_end m F = ⊎_elim (λ l. omega arith) (λ u. omega (arith, u.1)) F.range.1

-- the part of a mapping that fits
module _ (m : Mapping) (r b e : ℕ) (F : Fits (whole m)) (R : PageRange b e) (k : mapping_meets m r b (e - b) ≡ true) where
  pub ends : (max m.addr b ≤ min (m.addr + m.size) e) × (m.addr ≤ max m.addr b)
  ends = let o = R.order in let q = meets m r b (e - b) k in let f = q.from in let t = q.to in (omega arith, omega arith)

  part_page : (part m b e).addr % 4096 ≡ 0
  unfolding part
  part_page =
      let x = F.page in
      let y = R.begin in
      ⊎_elim
      (λ (l : m.addr < b). let z : max m.addr b ≡ b = omega arith in rw z y)
      (λ (l : b ≤ m.addr). let z : max m.addr b ≡ m.addr = omega arith in rw z x)
      (below? m.addr b)

  end_page : min (m.addr + m.size) e % 4096 ≡ 0
  end_page =
      let x = F.page in
      let p = F.pages in
      let y = R.end in
      ⊎_elim
      (λ (l : m.addr + m.size < e). let z : min (m.addr + m.size) e ≡ m.addr + m.size = omega arith in let w : (m.addr + m.size) % 4096 ≡ 0 = omega arith in rw z w)
      (λ (l : e ≤ m.addr + m.size). let z : min (m.addr + m.size) e ≡ e = omega arith in rw z y)
      (below? (m.addr + m.size) e)

  pub part_fits : Fits (part m b e)
  unfolding part
  part_fits =
      let l = ends in
      let p = part_page in
      let q = end_page in
      let u = l.0 in
      let v = l.1 in
      let w = F.range.1 in
      record {
        page = p;
        pages = omega arith;
        range = (omega arith, ⊎_elim (λ h. inl (omega arith)) (λ h. let h0 = h.0 in let h1 = h.1 in inr (omega arith, omega arith)) w);
      }

-- the code's choice is the definition's
module _ (m : Mapping) (r b e : ℕ) where
  pub part_of_lem : mapping_meets m r b (e - b) ≡ true → part_of m r b e ≡ part m b e ∷ []
  unfolding part_of
  part_of_lem k = rw k

  pub part_none : mapping_meets m r b (e - b) ≡ false → part_of m r b e ≡ []
  unfolding part_of
  part_none k = rw k

  -- how many are not empty, by the code's part
  pub count_empty : (p : Extent) → cuts_of (Some p) ≡ part_of m r b e → p.len ≡ 0 → non_empty (part_of m r b e) ≡ 0
  count_empty p is z = sym (ap non_empty is) ∙ count_single (cut_of p) ∙ rw (eq-eqb p.len 0 z)

  pub count_some : (p : Extent) → cuts_of (Some p) ≡ part_of m r b e → (p.len ≡ 0 → ⊥) → non_empty (part_of m r b e) ≡ 1
  count_some p is some = sym (ap non_empty is) ∙ count_single (cut_of p) ∙ rw (ne_eqb p.len 0 some)

-- a root range lies in one half of the addresses, and so does each region below it: by its place, since a parent stands before its children
root_within : (a n : ℕ) → RootRange a n → Within 4 a (a + n)
root_within a n (inl e) = (omega arith, inl (omega (arith, e.1)))
root_within a n (inr e) = (omega arith, inr (omega (arith, e.0), omega (arith, e.0, e.1)))

pub inner_within : (a n x k : ℕ) → Within 4 a (a + n) → a ≤ x → x + k ≤ a + n → Within 4 x (x + k)
inner_within a n x k w l h = (omega arith, ⊎_elim (λ z. inl (omega arith)) (λ z. inr (omega (arith, z.0), omega (arith, z.1))) w.1)

module _ {s : Space} {flags : List ℕ} (p : Passes s flags) where
  place_within : (n k : ℕ) → k < n → k < s.regcount
      → Within 4 (region_at s (region_place s k)).addr ((region_at s (region_place s k)).addr + (region_at s (region_place s k)).size)
  place_within zero k l h = absurd (omega arith)
  place_within (suc n) k l h =
      ⊎_elim
      (λ (e : (region_at s (region_place s k)).parent ≡ 32). root_within _ _ (p.tree.range k h e))
      (λ (e : (region_at s (region_place s k)).parent ≡ 32 → ⊥).
      let m = p.tree.parent k h e in
      let b = m.1 in
      let up = place_within n m.0 (omega arith) (omega arith) in
      let at = p.regions.slot m.0 (omega arith) in
      let i = child_in p (region_place s k) (region_place s m.0) (region_place_lem p k h).0 (region_place_lem p k h).1 at (sym m.2) in
      inner_within _ _ _ _ up i.0 i.1)
      (same? _ _)

  pub region_within : (i : ℕ) → i < 32 → is_region s i ≡ true → Within 4 (region_at s i).addr ((region_at s i).addr + (region_at s i).size)
  region_within i l a =
      let m = p.regions.whole i l a in
      subst (λ (j : ℕ). Within 4 (region_at s j).addr ((region_at s j).addr + (region_at s j).size)) m.2 (place_within (suc m.0) m.0 (omega arith) m.1)

  -- each mapping fits
  pub mapping_fits : (i : ℕ) → i < 64 → is_mapping s i ≡ true → Fits (whole (mapping_at s i))
  mapping_fits i l a =
      let g = p.inner.region i l a in
      let in_region_lem = mapping_in p i (mapping_at s i).region l a refl in
      record {
        page = (p.paged i l a).addr;
        pages = (p.paged i l a).size;
        range = inner_within _ _ _ _ (region_within (mapping_at s i).region g.0 g.1) in_region_lem.0 in_region_lem.1;
      }

  pub place_fits : (k : ℕ) → k < s.mapcount → Fits (whole (mapping_at s (mapping_place s k)))
  place_fits k h = let at = mapping_place_lem p k h in mapping_fits (mapping_place s k) at.0 at.1
