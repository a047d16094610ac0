-- `numbers`: the numbers so far are written.
use Rattle.std.proofs.Common.{◌∷◌, take, false}
use Rattle.std.specs.Fmt.{digits}
use Rattle.std.specs.Io.KnownBytes.{Appends}
use Rattle.std.specs.List.{flat_map}
use Rattle.lines.proofs.numbers.Given as goal

abbrev pub invariant-loop-value : goal.invariant-loop-value
invariant-loop-value g l =
    Appends (g.W.Write.contents l.initial.out) (g.W.Write.contents l.out) (flat_map (λ n. 32 ∷ digits 16 false n) (take l.value-index l.values))
