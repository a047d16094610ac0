-- `is_formed`: the sweep begins with the root alone, and when it is over every taken frame has a rank or the pool is not well formed.
use Rattle.std.proofs.Common.{◌/◌}
use Rattle.form.proofs.Answers.{passed}
use Rattle.form.proofs.Steps.{begin}
use Rattle.form.proofs.Ends.{answered}
use Rattle.form.proofs.is_formed.Goals as goal

pub sweep_all-requires : goal.sweep_all-requires
sweep_all-requires c = let a = c.args in begin a.pool.now (a.base / 4096) a.used

pub returns-then-sweep_all : goal.returns-then-sweep_all
returns-then-sweep_all c =
    let a = c.args in
    answered a.pool.now (a.base / 4096) a.used c.sweep_all.new.at
    (passed c.if-sweep_all.ensures)
    c.all_reached.result c.requires.root c.all_reached.ensures
