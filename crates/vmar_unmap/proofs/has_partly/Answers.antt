use Rattle.std.proofs.Common.{rules}
use Rattle.std.proofs.lemmas.Iterator.{YieldsList-from_slice}
use Rattle.std.proofs.lemmas.Iterator.Search.{any_from_yields_List}
use Rattle.scan.proofs.Found.{any_scan}
use Rattle.space.specs.Space.{blank_region}
use Rattle.space.specs.declared.Region.{Region}
use Rattle.vmar_unmap.specs.Unmap.{is_partly}
use Rattle.vmar_unmap.proofs.has_partly.Goals as goal

pub returns : goal.returns
returns c =
    let a = c.args in
    let p = λ (g : Region). is_partly g a.r a.begin a.end in
    any_scan p a.s.now.regions blank_region 32 (search rules) _ (any_from_yields_List p _ _ _ c.any.ensures.ran (YieldsList-from_slice a.s.now.regions cc) (λ x b q k. search rules))
