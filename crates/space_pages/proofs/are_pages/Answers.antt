-- `are_pages`: the pages, then the bytes past them.
use Rattle.std.proofs.Common.{arith}
use Rattle.paging.proofs.Cases.{clash}
use Rattle.space_pages.proofs.Alike.{others_are}
use Rattle.space_pages.proofs.Slot.{pages_to, alike_from, zero_from}
use Rattle.space_pages.proofs.are_pages.Goals as goal

pub returns-then-are_alike : goal.returns-then-are_alike
returns-then-are_alike c =
    let a = c.args in
    let alike = c.are_alike.ensures.0 c.if-are_alike.true in
    (λ t. pages_to a.flags.now a.i a.pages (omega arith) (omega arith) (rw others_are at alike) (c.are_zero.ensures.0 t), λ p. c.are_zero.ensures.1 (zero_from a.flags.now a.i a.pages (omega arith) (omega arith) p))

pub returns-else-are_alike : goal.returns-else-are_alike
returns-else-are_alike c =
    let a = c.args in
    (λ t. clash _ t c.if-are_alike.false, λ p. c.are_alike.ensures.1 (rw others_are (alike_from a.flags.now a.i a.pages (omega arith) (omega arith) p)))
