-- `X86PTE::flags`: each bit gives its flag.
use Rattle.std.proofs.Common.{◌∙◌, arith}
use Rattle.common.specs.Flags.{READ, WRITE, EXECUTE, USER}
use Rattle.x86_64.proofs.Words.{one_bit, if_bit, unless_bit}
use Rattle.x86_64.proofs.vm.X86PTE.flags.Goals as goal

pub returns : goal.returns
returns c =
    let w = c.args.self.0 in
    let read = if_bit w 0 READ c.is_present.ensures c.bits_if.ensures in
    let write = if_bit w 1 WRITE (c.contains.ensures ∙ one_bit w 1) c.bits_if-2.ensures in
    let execute = unless_bit w 63 EXECUTE (c.contains-2.ensures ∙ one_bit w 63) c.bits_if-3.ensures in
    let user = if_bit w 2 USER (c.contains-3.ensures ∙ one_bit w 2) c.bits_if-4.ensures in
    omega arith
