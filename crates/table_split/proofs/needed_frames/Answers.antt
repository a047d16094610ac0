-- `needed_frames`: what both walks find, counted.
use native.Mathlib.Omega.{arith}
use Rattle.paging.proofs.Counts.{splits_most, left_most}
use Rattle.table_split.proofs.Ends.{level_most}
use Rattle.table_split.proofs.needed_frames.Goals as goal

pub count_splits-requires-2 : goal.count_splits-requires-2
count_splits-requires-2 c =
    omega (
      arith,
      c.level_left.ensures,
      left_most c.args.start c.args.end c.leaf_level-at_end.result,
      c.leaf_level-at_end.ensures,
      level_most c.args.pool.now c.args.base c.args.used c.requires c.args.end,
    )

pub overflow_add-result : goal.overflow_add-result
overflow_add-result c =
    let a = c.args in
    omega (
      arith,
      c.count_splits.ensures,
      splits_most a.start c.leaf_level-at_start.result,
      c.leaf_level-at_start.ensures,
      level_most a.pool.now a.base a.used c.requires a.start,
      c.count_splits-2.ensures,
      splits_most a.end c.level_left.result,
      c.level_left.ensures,
      left_most a.start a.end c.leaf_level-at_end.result,
      c.leaf_level-at_end.ensures,
      level_most a.pool.now a.base a.used c.requires a.end,
    )
