-- `prune`: the parts, put together.
use Rattle.std.proofs.Common.{◌≡◌, ◌∙◌, ap, refl, arith, Bool, true, false, get_or, replicate, take, not}
use Rattle.std.proofs.lemmas.List.{get_or-take, length-take-le}
use Rattle.vmar_prune.specs.Prune.{packed, kept_slots, live_slots}
use Rattle.vmar_prune.specs.Steps.{packed_of}
use Rattle.vmar_prune.proofs.Parts.{pruned_made, packed_same}
use Rattle.vmar_prune.proofs.prune.Goals as goal

twice : (b : Bool) → not (not b) ≡ b
twice true = refl
twice false = refl

pub returns-clause-value : goal.returns-clause-value
returns-clause-value c =
    let a = c.args in
    let s = a.s.now in
    let p = c.requires.passes in
    let maps = c.kept_mappings-mappings in
    let free = c.are_free in
    let regs : packed_of c.pack-regcount.new.list c.pack-regcount.result ≡ packed (kept_slots a.marks.now) (replicate 32 0) s.reglist s.regcount =
    rw (length-take-le s.regcount s.reglist (omega (arith, p.regions.room))) at c.pack-regcount.ensures.order
    ∙ packed_same (kept_slots a.marks.now) (kept_slots a.marks.now) (replicate 32 0) (take s.regcount s.reglist) s.reglist s.regcount (λ k h. get_or-take s.regcount s.reglist k 0 h) (λ k h. refl)
    in
    let list : packed_of c.pack-mapcount.new.list c.pack-mapcount.result ≡ packed (live_slots maps.result) (replicate 64 0) s.maplist s.mapcount =
    rw (length-take-le s.mapcount s.maplist (omega (arith, p.mappings.room))) at c.pack-mapcount.ensures.order
    ∙ packed_same (kept_slots free.result) (live_slots maps.result) (replicate 64 0) (take s.mapcount s.maplist) s.maplist s.mapcount
    (λ k h. get_or-take s.mapcount s.maplist k 0 h)
    (λ k h. ap not (free.ensures (get_or s.maplist k 0) (p.mappings.slot k h)) ∙ twice _)
    in
    pruned_made s a.marks.now a.r a.begin a.end _ _ _ _ _ _ c.kept_regions-regions.ensures maps.ensures regs list
