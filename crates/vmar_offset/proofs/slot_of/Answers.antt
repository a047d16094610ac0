use Rattle.std.proofs.Common.{rules}
use Rattle.std.proofs.lemmas.Iterator.{YieldsList-from_slice}
use Rattle.std.proofs.lemmas.Iterator.Search.{position_from_yields_List}
use Rattle.scan.proofs.Found.{position_scan}
use Rattle.space.specs.Space.{blank_region}
use Rattle.space.specs.declared.Region.{Region}
use Rattle.vmar_offset.specs.Offset.{has_id}
use Rattle.vmar_offset.proofs.slot_of.Goals as goal

pub returns : goal.returns
returns c =
    let xs = c.args.s.now.regions in
    let p = λ (g : Region). has_id g c.args.id in
    position_scan p xs blank_region 32 (search rules) _ (position_from_yields_List p _ _ _ c.position.ensures.ran (YieldsList-from_slice xs cc) (λ x b q k. search rules))
