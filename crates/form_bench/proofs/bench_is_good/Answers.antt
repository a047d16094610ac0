-- `bench_is_good`: the answer as a number.
use Rattle.std.proofs.Common.{refl}
use Rattle.paging.specs.Choice.{refused, taken}
use Rattle.paging.proofs.Cases.{decided_true, decided_false}
use Rattle.form_bench.proofs.bench_is_good.Goals as goal

pub returns-then-is_good : goal.returns-then-is_good
returns-then-is_good c = taken (decided_true _ c.is_good.result c.is_good.ensures c.if-is_good.true) refl

pub returns : goal.returns
returns c = refused (decided_false _ c.is_good.result c.is_good.ensures c.if-is_good.false) refl
