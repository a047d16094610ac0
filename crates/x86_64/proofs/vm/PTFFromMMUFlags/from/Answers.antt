-- `PTF::from`: each flag gives its bit.
use Rattle.std.proofs.Common.{◌≡◌, ◌∙◌, ◌^◌, arith}
use Rattle.x86_64.specs.Entry.{any_right}
use Rattle.x86_64.proofs.Words.{one_bit, if_bit, unless_bit, if_any}
use Rattle.x86_64.proofs.vm.PTFFromMMUFlags.from.Goals as goal

pub returns : goal.returns
returns c =
    let f = c.args.f.0 in
    let present : c.bits_if.result ≡ any_right f = c.bits_if.ensures ∙ if_any f in
    let write = if_bit f 3 (2 ^ 1) (c.contains.ensures ∙ one_bit f 3) c.bits_if-2.ensures in
    let user = if_bit f 5 (2 ^ 2) (c.contains-2.ensures ∙ one_bit f 5) c.bits_if-3.ensures in
    let execute = unless_bit f 4 (2 ^ 63) (c.contains-3.ensures ∙ one_bit f 4) c.bits_if-4.ensures in
    omega arith
