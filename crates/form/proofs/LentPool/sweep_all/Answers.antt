use Rattle.std.proofs.Common.{◌≡◌, ℕ, ◌+◌, ◌-◌, ◌*◌, ◌/◌, subst, arith}
use Rattle.form.specs.Sweep.{Sweep, goes, stops}
use Rattle.form.proofs.Answers.{passed, refused}
use Rattle.form.proofs.Steps.{next_rank}
use Rattle.form.proofs.LentPool.sweep_all.Goals as goal

pub returns-then-not-sweep_rank : goal.returns-then-not-sweep_rank
returns-then-not-sweep_rank c = stops (refused c.if-not-sweep_rank.ensures)

pub loop-rank-preserved : goal.loop-rank-preserved
loop-rank-preserved c =
    let s = c.args.self.now in
    let e : c.loop-rank.rank ≡ c.loop-rank.rank - 1 + 1 = omega arith in
    next_rank s.words.now (s.base / 4096) s.used c.sweep_rank.new.at (c.loop-rank.rank - 1)
    (subst (λ (y : ℕ). Sweep s.words.now (s.base / 4096) s.used c.sweep_rank.new.at y (s.used * 512)) e (passed c.if-not-sweep_rank.ensures))

pub returns : goal.returns
returns c =
    let s = c.args.self.now in
    let e : c.loop-rank.rank ≡ 0 = omega arith in
    goes (subst (λ (y : ℕ). Sweep s.words.now (s.base / 4096) s.used c.loop-rank.at y 0) e c.loop-rank.invariant)
