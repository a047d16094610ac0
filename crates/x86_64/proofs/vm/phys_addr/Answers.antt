-- `phys_addr`: the mask keeps bits 51 to 12.
use Rattle.std.proofs.lemmas.Nat.Bits.{and_high}
use Rattle.x86_64.proofs.vm.phys_addr.Goals as goal

pub returns : goal.returns
returns c = and_high c.args.paddr 40 12
