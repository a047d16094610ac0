-- Ranges by their ends; and that ends fit in a space that passes its check.
use Rattle.std.proofs.Common.{◌≡◌, ℕ, ◌+◌, ◌^◌, ◌<◌, ◌≤◌, true, false, List, refl, ap, ⊎_elim, arith}
use Rattle.std.proofs.lemmas.Bool.Decides.{nat_tests}
use Rattle.scan.proofs.Scans.{tell}
use Rattle.space.specs.Range.{overlap}
use Rattle.space.specs.Space.{region_at, mapping_at}
use Rattle.space.specs.Passes.{Blank, Passes}
use Rattle.space.specs.declared.Region.{Region}
use Rattle.space.specs.declared.Mapping.{Mapping}
use Rattle.space.specs.declared.Space.{Space}
use Rattle.space.proofs.Facts.{region_end}
use Rattle.space_parts.specs.Parts.{Fitting, meet}

-- by what the tests show
pub meets : (a e b f : ℕ) → a < f → b < e → meet a e b f ≡ true
unfolding meet
meets a e b f l h = grind (arith, nat_tests)

pub ends_before : (a e b f : ℕ) → f ≤ a → meet a e b f ≡ false
unfolding meet
ends_before a e b f l = grind (arith, nat_tests)

pub begins_after : (a e b f : ℕ) → e ≤ b → meet a e b f ≡ false
unfolding meet
begins_after a e b f l = grind (arith, nat_tests)

pub meet_overlap : (a n b m : ℕ) → meet a (a + n) b (b + m) ≡ overlap a n b m
unfolding meet overlap
meet_overlap a n b m = refl

-- a free slot lies at [0, 0)
pub free_region_lem : (s : Space) → Blank s → (i : ℕ) → i < 32 → (region_at s i).live ≡ false → ((region_at s i).addr ≡ 0) × ((region_at s i).size ≡ 0)
free_region_lem s b i l e = let z = b.region i l e in (ap (λ (g : Region). g.addr) z, ap (λ (g : Region). g.size) z)

pub free_mapping_lem : (s : Space) → Blank s → (i : ℕ) → i < 64 → (mapping_at s i).live ≡ false → ((mapping_at s i).addr ≡ 0) × ((mapping_at s i).size ≡ 0)
free_mapping_lem s b i l e = let z = b.mapping i l e in (ap (λ (m : Mapping). m.addr) z, ap (λ (m : Mapping). m.size) z)

-- what lives ends below 2^64, and so does what is blank
pub fitting : (s : Space) → Blank s → ((i : ℕ) → i < 32 → (region_at s i).live ≡ true → (region_at s i).addr + (region_at s i).size < 2 ^ 64)
    → ((i : ℕ) → i < 64 → (mapping_at s i).live ≡ true → (mapping_at s i).addr + (mapping_at s i).size < 2 ^ 64) → Fitting s
fitting s b regions mappings = record {
  region = λ i l. ⊎_elim (λ e. regions i l e) (λ e. let z = free_region_lem s b i l e in omega (arith, z.0, z.1)) (tell (region_at s i).live);
  mapping = λ i l. ⊎_elim (λ e. mappings i l e) (λ e. let z = free_mapping_lem s b i l e in omega (arith, z.0, z.1)) (tell (mapping_at s i).live);
}

pub passing_fits : (s : Space) (flags : List ℕ) → Passes s flags → Fitting s
passing_fits s flags p = fitting s p.blank (region_end p) (λ i l e. (p.paged i l e).end)
