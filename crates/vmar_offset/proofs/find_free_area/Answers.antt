-- `find_free_area`: at 0, else after the first child that is taken, else after the first mapping.
use Rattle.std.proofs.Common.{◌≡◌, length, take, rules, sym, ◌∙◌}
use Rattle.std.proofs.lemmas.List.{length-take-le}
use Rattle.space.specs.Space.{blank_region, blank_mapping}
use Rattle.space.specs.declared.Region.{Region}
use Rattle.space.specs.declared.Mapping.{Mapping}
use Rattle.vmar_offset.proofs.Ends.{first_places, children_in, mappings_in, area_of_child, area_of_mapping}
use Rattle.vmar_offset.proofs.find_free_area.Goals as goal

pub first_end-requires : goal.first_end-requires
first_end-requires c =
    let pre = c.requires in
    let s = c.args.s.now in
    let many : length (take s.regcount s.reglist) ≡ s.regcount = (let room = pre.passes.regions.room in search (rules, length-take-le s.regcount s.reglist)) in
    (pre, children_in pre.passes c.args.r many (search rules) pre.slot)

pub returns-in-Some : goal.returns-in-Some
returns-in-Some c =
    let a = c.args in
    let s = a.s.now in
    let many : length (take s.regcount s.reglist) ≡ s.regcount = (let room = c.requires.passes.regions.room in search (rules, length-take-le s.regcount s.reglist)) in
    area_of_child s a.r a.len a.align c.in-Some.at (sym c.test_map.ensures ∙ c.if-test_map.false)
    (c.in-Some.ensures blank_region ∙ first_places (λ (g : Region). g.parent) (λ (g : Region). g.addr) (λ (g : Region). g.size) s.regions s.reglist s.regcount blank_region s a.r a.len a.align many)

pub first_end-requires-2 : goal.first_end-requires-2
first_end-requires-2 c =
    let pre = c.requires in
    let s = c.args.s.now in
    let many : length (take s.mapcount s.maplist) ≡ s.mapcount = (let room = pre.passes.mappings.room in search (rules, length-take-le s.mapcount s.maplist)) in
    (pre, mappings_in pre.passes c.args.r many (search rules))

pub returns : goal.returns
returns c =
    let a = c.args in
    let s = a.s.now in
    let children : length (take s.regcount s.reglist) ≡ s.regcount = (let room = c.requires.passes.regions.room in search (rules, length-take-le s.regcount s.reglist)) in
    let mappings : length (take s.mapcount s.maplist) ≡ s.mapcount = (let room = c.requires.passes.mappings.room in search (rules, length-take-le s.mapcount s.maplist)) in
    area_of_mapping s a.r a.len a.align c.first_end-2.result (sym c.test_map.ensures ∙ c.if-test_map.false)
    (sym c.in_default.is ∙ c.first_end.ensures blank_region ∙ first_places (λ (g : Region). g.parent) (λ (g : Region). g.addr) (λ (g : Region). g.size) s.regions s.reglist s.regcount blank_region s a.r a.len a.align children)
    (c.first_end-2.ensures blank_mapping ∙ first_places (λ (m : Mapping). m.region) (λ (m : Mapping). m.addr) (λ (m : Mapping). m.size) s.mappings s.maplist s.mapcount blank_mapping s a.r a.len a.align mappings)
