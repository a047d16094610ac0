-- The code's parts as cuts: one at most for a mapping.
use Rattle.std.specs.Prelude.{List, [], ◌∷◌, Option, Some, None}
use Rattle.table_cuts.specs.Cuts.{Cut}
use Rattle.vmar_cuts.specs.declared.Extent.{Extent}

abbrev pub cut_of : Extent → Cut
cut_of p = record { addr = p.addr; len = p.len }

abbrev pub cuts_of : Option Extent → List Cut
cuts_of None = []
cuts_of (Some p) = cut_of p ∷ []
