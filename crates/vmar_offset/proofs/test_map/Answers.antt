-- `test_map`: room, then no child and no mapping in the way.
use Rattle.std.proofs.Common.{◌+◌, not, rules, arith, sym, ap, ◌∙◌, leb-true}
use Rattle.std.proofs.lemmas.Iterator.{YieldsList-from_slice}
use Rattle.std.proofs.lemmas.Iterator.Search.{any_from_yields_List}
use Rattle.scan.proofs.Found.{any_scan}
use Rattle.space.specs.Space.{region_at, blank_region, blank_mapping}
use Rattle.space.specs.declared.Region.{Region}
use Rattle.space.specs.declared.Mapping.{Mapping}
use Rattle.space.proofs.Facts.{region_end}
use Rattle.vmar_offset.specs.Offset.{child_meets, mapping_meets}
use Rattle.vmar_offset.proofs.Offsets.{on_child, off_children}
use Rattle.vmar_offset.proofs.test_map.Goals as goal

pub overflow_add-begin : goal.overflow_add-begin
overflow_add-begin c =
    let pre = c.requires in
    let a = c.args in
    let end = region_end pre.passes a.r pre.slot pre.live in
    let room = leb-true (a.offset + a.len) (region_at a.s.now a.r).size (sym c.sum_le.ensures ∙ c.if-not-sum_le.false) in
    record { fits = omega arith }

pub returns-then-any : goal.returns-then-any
returns-then-any c =
    let a = c.args in
    let p = λ (g : Region). child_meets g a.r ((region_at a.s.now a.r).addr + a.offset) a.len in
    let e = any_scan p a.s.now.regions blank_region 32 (search rules) _ (any_from_yields_List p _ _ _ c.any.ensures.ran (YieldsList-from_slice a.s.now.regions cc) (λ x b q k. search rules)) in
    on_child a.s.now a.r a.offset a.len (sym c.sum_le.ensures ∙ c.if-not-sum_le.false) (sym e ∙ c.if-any.true)

pub returns : goal.returns
returns c =
    let a = c.args in
    let p = λ (g : Region). child_meets g a.r ((region_at a.s.now a.r).addr + a.offset) a.len in
    let e = any_scan p a.s.now.regions blank_region 32 (search rules) _ (any_from_yields_List p _ _ _ c.any.ensures.ran (YieldsList-from_slice a.s.now.regions cc) (λ x b q k. search rules)) in
    let o = λ (m : Mapping). mapping_meets m a.r ((region_at a.s.now a.r).addr + a.offset) a.len in
    let f = any_scan o a.s.now.mappings blank_mapping 64 (search rules) _ (any_from_yields_List o _ _ _ c.any-2.ensures.ran (YieldsList-from_slice a.s.now.mappings cc) (λ x b q k. search rules)) in
    ap not f ∙ sym (off_children a.s.now a.r a.offset a.len (sym c.sum_le.ensures ∙ c.if-not-sum_le.false) (sym e ∙ c.if-any.false))
