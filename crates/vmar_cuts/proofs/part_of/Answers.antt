-- `part_of`: the test of the definition, and the ends of the part.
use Rattle.std.proofs.Common.{sym, ◌∙◌, arith}
use Rattle.vmar_cuts.specs.Cuts.{part}
use Rattle.vmar_cuts.proofs.Parts.{ends, part_fits, part_of_lem, part_none}
use Rattle.vmar_cuts.proofs.part_of.Goals as goal

pub returns-then-not-meets-clause-value : goal.returns-then-not-meets-clause-value
returns-then-not-meets-clause-value c = let a = c.args in sym (part_none a.m a.r a.span.begin a.span.end (sym c.meets.ensures ∙ c.if-not-meets.true))

pub overflow_sub-result : goal.overflow_sub-result
overflow_sub-result c =
    let a = c.args in
    let l = ends a.m a.r a.span.begin a.span.end c.requires a.span.pages (sym c.meets.ensures ∙ c.if-not-meets.false) in
    omega (arith, l.0)

pub returns-clause-value : goal.returns-clause-value
unfolding part
returns-clause-value c = let a = c.args in let e = sym (part_of_lem a.m a.r a.span.begin a.span.end (sym c.meets.ensures ∙ c.if-not-meets.false)) in let from = c.max-from.ensures in let to = c.min-to.ensures in rw (from, to) e

pub returns-clause-fits : goal.returns-clause-fits
unfolding part
returns-clause-fits c = let a = c.args in let f = part_fits a.m a.r a.span.begin a.span.end c.requires a.span.pages (sym c.meets.ensures ∙ c.if-not-meets.false) in let from = c.max-from.ensures in let to = c.min-to.ensures in rw (from, to) f
