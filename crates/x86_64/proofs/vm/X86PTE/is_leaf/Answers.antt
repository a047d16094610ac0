-- `X86PTE::is_leaf`: the mask of one bit.
use Rattle.std.proofs.Common.{◌∙◌}
use Rattle.x86_64.proofs.Words.{one_bit}
use Rattle.x86_64.proofs.vm.X86PTE.is_leaf.Goals as goal

pub returns : goal.returns
returns c = c.contains.ensures ∙ one_bit c.args.self.0 9
