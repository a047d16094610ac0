use Rattle.std.specs.Prelude.{ℕ}
use Rattle.std.proofs.Common.{ap, ◌∙◌, arith}
use Rattle.common.specs.declared.vm.PageSize.{PageSize}
use Rattle.x86_64.specs.Entry.{addr_of, flags_of}
use Rattle.pool.specs.Pool.{listed}
use Rattle.pool.proofs.Memory.{list_none, list_more, list_all}
use Rattle.table_split.proofs.put_pieces.Invariants.{word_at}
use Rattle.table_split.proofs.put_pieces.Goals as goal

pub loop-i-init : goal.loop-i-init
loop-i-init c = list_none _ c.args.table.now

pub loop-i-preserved : goal.loop-i-preserved
loop-i-preserved c =
    rw (c.leaf.ensures, c.loop-i.invariant) (list_more (word_at c.args.size c.addr-paddr.result c.flags-flags.result.0 c.size-step.result) c.loop-i.i c.args.table.now c.loop-i-test.true)

pub returns : goal.returns
returns c =
    let x = c.loop-i in
    let s : PageSize = c.args.size in
    let w : ℕ = c.args.leaf.0 in
    list_all (word_at s c.addr-paddr.result c.flags-flags.result.0 c.size-step.result) c.args.table.now x.table x.i (omega arith) (omega arith) x.invariant
    ∙ ap (λ (n : ℕ). listed n (word_at s c.addr-paddr.result c.flags-flags.result.0 c.size-step.result)) c.requires
    ∙ ap (λ (n : ℕ). listed 512 (word_at s n c.flags-flags.result.0 c.size-step.result)) c.addr-paddr.ensures
    ∙ ap (λ (n : ℕ). listed 512 (word_at s (addr_of w) n c.size-step.result)) c.flags-flags.ensures
    ∙ ap (λ (n : ℕ). listed 512 (word_at s (addr_of w) (flags_of w) n)) c.size-step.ensures
