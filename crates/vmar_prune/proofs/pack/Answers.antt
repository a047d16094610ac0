use Rattle.std.proofs.Common.{◌∙◌, ap, not, arith}
use Rattle.vmar_prune.specs.Prune.{kept_slots}
use Rattle.vmar_prune.proofs.Parts.{packed_none, packed_without, packed_with}
use Rattle.vmar_prune.proofs.pack.Goals as goal

pub loop-slot-init : goal.loop-slot-init
loop-slot-init c = record { few = omega arith; order = packed_none _ _ _ }

pub loop-slot-preserved-then-goes-slot : goal.loop-slot-preserved-then-goes-slot
loop-slot-preserved-then-goes-slot c =
    let a = c.args in
    let loop = c.loop-slot in
    record {
      few = omega arith;
      order = loop.invariant.order ∙ packed_without (kept_slots a.goes.now) a.list.now a.old.now loop.slot-index (ap not c.if-goes-slot.true);
    }

pub loop-slot-preserved : goal.loop-slot-preserved
loop-slot-preserved c =
    let a = c.args in
    let loop = c.loop-slot in
    record {
      few = omega arith;
      order = packed_with (kept_slots a.goes.now) a.list.now a.old.now loop.slot-index loop.list loop.n (ap not c.if-goes-slot.false) loop.invariant.order;
    }
