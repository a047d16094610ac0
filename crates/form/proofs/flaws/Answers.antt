-- `flaws`: what has none is plain.
use Rattle.std.proofs.Common.{arith}
use Rattle.form.proofs.Flawless.{agree_le, flawless}
use Rattle.form.proofs.flaws.Goals as goal

pub overflow_mul-leaf : goal.overflow_mul-leaf
overflow_mul-leaf c = let l = agree_le c.args.w c.ranges.w.fits in record { fits = omega arith }

pub returns : goal.returns
returns c = flawless c.args.w c.ranges.w.fits c.args.bits.mask c.args.bits.tag (omega arith) (omega arith)
