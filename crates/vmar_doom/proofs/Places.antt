-- A `for` over the first n places of a list of slots: place k of them is place k of the list.
use Rattle.std.proofs.Common.{◌≡◌, ℕ, ◌<◌, List, length, get_or, take, arith}
use Rattle.std.proofs.lemmas.List.{get_or-take, length-take}
use Rattle.space.specs.Passes.{Passes}
use Rattle.space.specs.declared.Space.{Space}

pub below_count : (n : ℕ) (list : List ℕ) (k : ℕ) → k < length (take n list) → k < n
below_count n list k h = omega (arith, length-take n list)

pub listed : (n : ℕ) (list : List ℕ) (k : ℕ) → k < length (take n list) → get_or (take n list) k 0 ≡ get_or list k 0
listed n list k h = get_or-take n list k 0 (below_count n list k h)

module _ {s : Space} {flags : List ℕ} (p : Passes s flags) where
  pub region_below : (k : ℕ) → k < length (take s.regcount s.reglist) → get_or (take s.regcount s.reglist) k 0 < 32
  region_below k h = rw (listed s.regcount s.reglist k h) (p.regions.slot k (below_count s.regcount s.reglist k h))

  pub mapping_below : (k : ℕ) → k < length (take s.mapcount s.maplist) → get_or (take s.mapcount s.maplist) k 0 < 64
  mapping_below k h = rw (listed s.mapcount s.maplist k h) (p.mappings.slot k (below_count s.mapcount s.maplist k h))
