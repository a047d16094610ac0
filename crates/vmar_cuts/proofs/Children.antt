-- One level of the walk down, by its tests.
use Prim.Native.Nat.{ℕ, suc, ◌-◌}
use mathlib.Core.Path.{◌≡◌, refl, sym, ◌∙◌, ap}
use mathlib.Core.Bool.{true, false}
use mathlib.Core.List.{List, [], ◌++◌}
use native.Mathlib.Omega.{arith}
use Rattle.space.specs.Space.{region_at, region_place}
use Rattle.space.specs.declared.Space.{Space}
use Rattle.vmar_doom.specs.Doomed.{is_child_in}
use Rattle.table_split.specs.Split.{Tables}
use Rattle.table_cuts.specs.Cuts.{Cut, cut_all, non_empty}
use Rattle.table_cuts.proofs.Append.{cut_append, cut_none, count_append, count_none}
use Rattle.vmar_cuts.specs.Cuts.{END, collect, parts, child_at, children, PageRange}
use Rattle.vmar_cuts.proofs.Collects.{collect_start}

-- every address is in this range
pub everything : PageRange 0 END
everything = record { order = omega arith; begin = refl; end = refl }

module _ (s : Space) (d r b e : ℕ) where
  -- what the region at a place gives, with one level less
  abbrev pub below : ℕ → List Cut
  below = child_at s (λ i. children s (d - 1) i 0 END) r b e

  pub no_depth : d ≡ 0 → children s d r b e ≡ []
  unfolding children
  no_depth z = rw z

  pub some_depth : (d ≡ 0 → ⊥) → children s d r b e ≡ collect below 0 s.regcount
  unfolding children
  some_depth h = let z : d ≡ suc (d - 1) = omega arith in ap (λ (x : ℕ). children s x r b e) z

  module _ (k : ℕ) where
    child_none : is_child_in (region_at s (region_place s k)) r b e ≡ false → below k ≡ []
    unfolding child_at
    child_none q = rw q

    child_there : is_child_in (region_at s (region_place s k)) r b e ≡ true → below k ≡ children s (d - 1) (region_place s k) 0 END ++ parts s (region_place s k) 0 END
    unfolding child_at
    child_there q = rw q

    pub cut_no_child : (n : ℕ) (t : Tables) → is_child_in (region_at s (region_place s k)) r b e ≡ false → t ≡ cut_all n (below k) t
    cut_no_child n t q = sym (ap (λ (xs : List Cut). cut_all n xs t) (child_none q) ∙ cut_none n t)

    pub cut_child : (n : ℕ) (t u v : Tables) → is_child_in (region_at s (region_place s k)) r b e ≡ true
        → u ≡ cut_all n (children s (d - 1) (region_place s k) 0 END) t → v ≡ cut_all n (parts s (region_place s k) 0 END) u → v ≡ cut_all n (below k) t
    cut_child n t u v q x y =
        y
        ∙ ap (cut_all n (parts s (region_place s k) 0 END)) x
        ∙ sym (ap (λ (xs : List Cut). cut_all n xs t) (child_there q) ∙ cut_append n (children s (d - 1) (region_place s k) 0 END) (parts s (region_place s k) 0 END) t)

    pub room_no_child : (x : ℕ) → is_child_in (region_at s (region_place s k)) r b e ≡ false → x ≡ x - non_empty (below k)
    room_no_child x q = let z = ap non_empty (child_none q) ∙ count_none in omega arith

    pub room_child : (x y z : ℕ) → is_child_in (region_at s (region_place s k)) r b e ≡ true
        → y ≡ x - non_empty (children s (d - 1) (region_place s k) 0 END) → z ≡ y - non_empty (parts s (region_place s k) 0 END) → z ≡ x - non_empty (below k)
    room_child x y z q f g =
        let w = ap non_empty (child_there q) ∙ count_append (children s (d - 1) (region_place s k) 0 END) (parts s (region_place s k) 0 END) in
        omega arith

  -- at the start all is left
  pub all_left : (d ≡ 0 → ⊥) → collect below 0 (s.regcount - 0) ≡ children s d r b e
  all_left h = collect_start below s.regcount ∙ sym (some_depth h)
