-- `is_good`: the clauses are the phrases.
use Rattle.std.proofs.Common.{sym, ◌∙◌}
use Rattle.paging.proofs.Cases.{decide, clash}
use Rattle.space.specs.Passes.{Passes}
use Rattle.space_check.proofs.Whole.{whole, regions_of, mappings_of}
use Rattle.space_check.proofs.is_good.Goals as goal
use Rattle.space_check.proofs.is_good.Goals.{then-are_regions_good, else-are_regions_good}

pub returns-then-are_mappings_good : goal.returns-then-are_mappings_good
returns-then-are_mappings_good c =
    let s = c.args.s.now in
    let flags = c.args.flags.now in
    let t = c.if-are_mappings_good.true in
    elim c.if-are_regions_good.branch [
      | then-are_regions_good w ↦ decide (Passes s flags) _
          (λ apart. whole c.are_regions_good.ensures.long w.are_mappings_good.ensures.long (c.are_regions_good.ensures.good.0 w.if-are_regions_good.true) (w.are_mappings_good.ensures.good.0 (sym w.value-is ∙ t)) (c.are_parts_apart.ensures.0 apart))
          (λ p. c.are_parts_apart.ensures.1 p.apart)
      | else-are_regions_good w ↦ clash _ t (w.value-is ∙ w.if-are_regions_good.false)
    ]

pub returns-else-are_mappings_good : goal.returns-else-are_mappings_good
returns-else-are_mappings_good c =
    let f = c.if-are_mappings_good.false in
    decide (Passes c.args.s.now c.args.flags.now) _ (λ t. clash _ t f) (λ p.
    elim c.if-are_regions_good.branch [
      | then-are_regions_good w ↦ w.value-is ∙ w.are_mappings_good.ensures.good.1 (mappings_of w.are_mappings_good.ensures.long p)
      | else-are_regions_good w ↦ clash _ (c.are_regions_good.ensures.good.1 (regions_of c.are_regions_good.ensures.long p)) w.if-are_regions_good.false
    ])
