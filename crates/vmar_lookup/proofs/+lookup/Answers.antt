use Rattle.std.proofs.Common.{◌≡◌, length, take, sym, ◌∙◌, ap, arith, rules}
use Rattle.std.proofs.lemmas.List.{length-take-le}
use Rattle.space.specs.Space.{blank_region, blank_mapping}
use Rattle.vmar_lookup.specs.Lookup.{follow, look}
use Rattle.vmar_lookup.proofs.Lookups.{outside, child_lives, no_depth, some_depth}
use Rattle.vmar_lookup.proofs.Holding.{slots_in, stepped_down, stepped_here, ended_at}
use Rattle.vmar_lookup.proofs.+lookup.Goals as goal

pub returns-then-depth-eq0 : goal.returns-then-depth-eq0
returns-then-depth-eq0 t c = sym (no_depth _ _ _ _ c.if-depth-eq0.true)

pub returns-then-not-contains : goal.returns-then-not-contains
returns-then-not-contains t c =
    let a = c.args in
    sym (some_depth a.s.now a.vaddr a.depth a.r c.if-depth-eq0.false ∙ ap (follow _) (sym (outside a.s.now a.vaddr a.r (sym c.contains.ensures ∙ c.if-not-contains.true))))

pub first_holding-requires : goal.first_holding-requires
first_holding-requires t c =
    let s = c.args.s.now in
    let p = c.requires.passes in
    let many : length (take s.regcount s.reglist) ≡ s.regcount = (let room = p.regions.room in search (rules, length-take-le s.regcount s.reglist)) in
    slots_in s.regions s.reglist s.regcount 32 many (search rules) p.regions.slot

pub lookup-requires : goal.lookup-requires
lookup-requires t c =
    let s = c.args.s.now in
    let many : length (take s.regcount s.reglist) ≡ s.regcount = (let room = c.requires.passes.regions.room in search (rules, length-take-le s.regcount s.reglist)) in (
      omega (arith, c.decreases, c.if-depth-eq0.false),
      child_lives s c.args.vaddr c.args.r c.in-Some.child c.requires (stepped_down s c.args.vaddr c.args.r (sym c.contains.ensures ∙ c.if-not-contains.false) many c.in-Some.child (c.in-Some.ensures blank_region)),
    )

pub returns-in-Some : goal.returns-in-Some
returns-in-Some t c =
    let a = c.args in
    let s = a.s.now in
    let many : length (take s.regcount s.reglist) ≡ s.regcount = (let room = c.requires.passes.regions.room in search (rules, length-take-le s.regcount s.reglist)) in
    sym (some_depth s a.vaddr a.depth a.r c.if-depth-eq0.false ∙ ap (follow _) (stepped_down s a.vaddr a.r (sym c.contains.ensures ∙ c.if-not-contains.false) many c.in-Some.child (c.in-Some.ensures blank_region)) ∙ sym c.lookup.ensures)

pub first_holding-requires-2 : goal.first_holding-requires-2
first_holding-requires-2 t c =
    let s = c.args.s.now in
    let p = c.requires.passes in
    let many : length (take s.mapcount s.maplist) ≡ s.mapcount = (let room = p.mappings.room in search (rules, length-take-le s.mapcount s.maplist)) in
    slots_in s.mappings s.maplist s.mapcount 64 many (search rules) p.mappings.slot

pub returns : goal.returns
returns t c =
    let a = c.args in
    let s = a.s.now in
    let children : length (take s.regcount s.reglist) ≡ s.regcount = (let room = c.requires.passes.regions.room in search (rules, length-take-le s.regcount s.reglist)) in
    let mappings : length (take s.mapcount s.maplist) ≡ s.mapcount = (let room = c.requires.passes.mappings.room in search (rules, length-take-le s.mapcount s.maplist)) in
    c.ok_or.ensures.value
    ∙ sym (some_depth s a.vaddr a.depth a.r c.if-depth-eq0.false
    ∙ ap (follow (look s a.vaddr _)) (stepped_here s a.vaddr a.r (sym c.contains.ensures ∙ c.if-not-contains.false) children (sym c.in_default.is ∙ c.first_holding.ensures blank_region) mappings c.first_holding-2.result (c.first_holding-2.ensures blank_mapping))
    ∙ ended_at (look s a.vaddr _) c.first_holding-2.result)
