-- `zero_frame`: a part of zeros is back in the pool.
use Rattle.std.proofs.Common.{ℕ, replicate, ap, ◌∙◌, rules}
use Rattle.pool.proofs.Frames.{put_frame_lem, part_length}
use Rattle.pool.proofs.zero_frame.Goals as goal

pub returns : goal.returns
returns c =
    let a = c.args in
    put_frame_lem a.pool.now _ (replicate 512 0) a.i
    (c.fill.ensures.after (λ y e. search rules) ∙ ap (λ (k : ℕ). replicate k 0) (part_length a.pool.now a.i c.requires))
