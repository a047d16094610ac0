-- `protect_place`: touching, then the changed pages.
use Rattle.std.proofs.Common.{◌≡◌, ◌-◌, ◌/◌, sym, ◌∙◌, ap, ℕ, arith}
use Rattle.space.specs.Space.{mapping_at, mapping_place}
use Rattle.space.proofs.Facts.{mapping_place_lem}
use Rattle.vmar_protect.specs.Protect.{lent, changed, pages_done}
use Rattle.vmar_protect.proofs.Parts.{touch_means, changed_in}
use Rattle.vmar_protect.proofs.Buffers.{touched, untouched}
use Rattle.vmar_protect.proofs.protect_place.Goals as goal

pub returns-then-not-is_touching : goal.returns-then-not-is_touching
returns-then-not-is_touching c =
    let a = c.args in
    untouched (lent a.pages.now a.pool.now) (a.base / 4096) a.s.now a.r a.begin a.end a.flags.0 a.k (sym c.is_touching.ensures ∙ c.if-not-is_touching.true)

pub changed_pages-changed-requires : goal.changed_pages-changed-requires
changed_pages-changed-requires c =
    let a = c.args in
    let p = c.requires.0.passes in
    let at = mapping_place_lem p a.k c.requires.4 in
    let t = touch_means _ a.r _ _ a.begin a.end (sym c.is_touching.ensures ∙ c.if-not-is_touching.false) in
    (p.paged _ at.0 at.1, c.requires.3, t.1, t.2)

pub protect_mapping-requires : goal.protect_mapping-requires
protect_mapping-requires c =
    let a = c.args in
    let p = c.requires.0.passes in
    let at = mapping_place_lem p a.k c.requires.4 in
    let g = p.paged _ at.0 at.1 in
    let m = mapping_at a.s.now (mapping_place a.s.now a.k) in
    let few = changed_in m a.r a.begin a.end g c.requires.3 (sym c.is_touching.ensures ∙ c.if-not-is_touching.false) in
    (c.requires.1, c.requires.2, at.0, g, omega (arith, c.changed_pages-changed.ensures.first, c.changed_pages-changed.ensures.count), omega (arith, c.changed_pages-changed.ensures.count, few))

pub returns : goal.returns
returns c =
    let a = c.args in
    let s = a.s.now in
    let m = mapping_at s (mapping_place s a.k) in
    let t = lent a.pages.now a.pool.now in
    let pages = c.changed_pages-changed.ensures in
    let count : c.changed_pages-changed.result.end - c.changed_pages-changed.result.start ≡ (changed m a.begin a.end).count = omega (arith, pages.first, pages.count) in
    c.protect_mapping.ensures
    ∙ ap (pages_done t (a.base / 4096) m (mapping_place s a.k) a.flags.0 c.changed_pages-changed.result.start) count
    ∙ ap (λ (x : ℕ). pages_done t (a.base / 4096) m (mapping_place s a.k) a.flags.0 x (changed m a.begin a.end).count) pages.first
    ∙ touched t (a.base / 4096) s a.r a.begin a.end a.flags.0 a.k (sym c.is_touching.ensures ∙ c.if-not-is_touching.false)
