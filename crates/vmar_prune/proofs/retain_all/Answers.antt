use Rattle.std.proofs.Common.{List, get_or, ℕ, ◌∙◌, ap}
use Rattle.space.specs.Space.{blank_mapping}
use Rattle.vmar_prune.specs.Piece.{retained}
use Rattle.vmar_prune.proofs.Parts.{retain_none, retain_more}
use Rattle.vmar_prune.proofs.retain_all.Goals as goal

pub loop-i-init : goal.loop-i-init
loop-i-init c = retain_none _ _ _

pub loop-i-preserved : goal.loop-i-preserved
loop-i-preserved c =
    let a = c.args in
    let i = c.loop-i.i in
    c.retain.ensures
    ∙ ap (λ (f : List ℕ). retained (get_or a.old.now i blank_mapping) (get_or a.new.now i blank_mapping) f i) c.loop-i.invariant
    ∙ retain_more a.old.now a.new.now a.flags.now i
