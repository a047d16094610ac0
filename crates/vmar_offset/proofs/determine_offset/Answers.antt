-- `determine_offset`: the length, then the offset asked for, or the search.
use Rattle.std.proofs.Common.{◌≡◌, sym, ap, ◌∙◌, le-ltb, rules}
use Rattle.vmar_offset.specs.Offset.{found}
use Rattle.vmar_offset.proofs.Offsets.{searched}
use Rattle.vmar_offset.proofs.determine_offset.Goals as goal

pub returns : goal.returns
returns c =
    let a = c.args in
    let e = c.ok_or.ensures.value in
    let v : c.ok_or.result ≡ found c.find_free_area.result = search rules in
    v ∙ ap found c.find_free_area.ensures ∙ searched a.s.now a.r a.len a.align a.offset (sym c.check_aligned.ensures ∙ c.if-not-check_aligned.false) c.in_default.is (le-ltb _ _ c.if-s-r.false)
