use Rattle.std.proofs.Common.{rules, not}
use Rattle.std.proofs.lemmas.Iterator.{YieldsList-from_slice}
use Rattle.std.proofs.lemmas.Iterator.Search.{position_from_yields_List}
use Rattle.scan.proofs.Found.{position_scan}
use Rattle.space.specs.Space.{blank_mapping}
use Rattle.space.specs.declared.Mapping.{Mapping}
use Rattle.vmar_offset.proofs.free_mapping.Goals as goal

pub returns : goal.returns
returns c =
    let xs = c.args.s.now.mappings in
    let p = λ (g : Mapping). not g.live in
    position_scan p xs blank_mapping 64 (search rules) _ (position_from_yields_List p _ _ _ c.position.ensures.ran (YieldsList-from_slice xs cc) (λ x b q k. search rules))
