-- `X86PTE::marks`: the mask keeps bits 5 and 6.
use Rattle.std.proofs.lemmas.Nat.Bits.{and_high}
use Rattle.x86_64.proofs.vm.X86PTE.marks.Goals as goal

pub returns : goal.returns
returns c = and_high c.args.self.0 2 5
