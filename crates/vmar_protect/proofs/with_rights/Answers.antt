-- `with_rights`: the bits that stay and the new ones.
use native.Mathlib.Omega.{arith}
use lib.Bits.{and_le_r}
use Rattle.vmar_protect.proofs.Rights.{new_rights}
use Rattle.vmar_protect.proofs.with_rights.Goals as goal

pub overflow_cast-result : goal.overflow_cast-result
overflow_cast-result c = record { fits = omega (arith, and_le_r c.args.flags.0 0x1c) }

pub returns : goal.returns
returns c = new_rights c.args.old c.args.flags.0 (omega (arith, c.ranges.old))
