-- `all_plain`: while no flaw was found, the words that were passed have none.
use Rattle.std.proofs.Common.{◌≡◌}
use Rattle.form.specs.Sure.{AllPlain}
use Rattle.form.proofs.all_plain.Given as goal

abbrev pub invariant-loop-w : goal.invariant-loop-w
invariant-loop-w l = l.found ≡ 0 → AllPlain l.bits.mask l.bits.tag l.table l.w-index
