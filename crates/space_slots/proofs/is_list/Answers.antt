use Rattle.std.proofs.Common.{◌≡◌, ◌+◌, ◌-◌, ◌≤◌, length, sym, ◌∙◌, arith}
use Rattle.paging.proofs.Cases.{no_truth}
use Rattle.scan.proofs.Slices.{slice_length, slice_at}
use Rattle.space_slots.proofs.is_list.Goals as goal

pub returns-then-not-is_new_slot : goal.returns-then-not-is_new_slot
returns-then-not-is_new_slot c =
    (no_truth, λ p. sym c.if-not-is_new_slot.true ∙ c.is_new_slot.ensures.1 (p.slot c.loop-k.k c.loop-k-test.true, p.once c.loop-k.k c.loop-k-test.true))

pub returns : goal.returns
returns c =
    let list = c.args.list.now in
    let count = c.args.count in
    let long : length list ≤ length list = omega arith in
    let many = slice_length list count (length list) long in
    let at = slice_at list count (length list) long in (
      λ t. record {
        room = omega arith;
        slot = λ k l. (c.loop-k.invariant k (omega arith)).0;
        once = λ k l. (c.loop-k.invariant k (omega arith)).1;
        rest = λ k l h. let e : count + (k - count) ≡ k = omega arith in rw (← e, ← at (k - count) (omega arith)) (c.are_zero.ensures.0 t (k - count) (omega arith));
      },
      λ p. c.are_zero.ensures.1 (λ k l. at k (omega arith) ∙ p.rest (count + k) (omega arith) (omega arith)),
    )
