-- `fill`: the bytes from `at` on are written over.
use Rattle.std.proofs.Common.{◌≡◌, ◌+◌, ◌-◌, replicate, sym, ◌∙◌, arith, rules}
use Rattle.std.proofs.lemmas.Slice.{put_mid-paste}
use Rattle.std.proofs.lemmas.List.{length-replicate}
use Rattle.vmar_map.proofs.Maps.{filled_paste}
use Rattle.vmar_map.proofs.fill.Goals as goal

pub returns : goal.returns
returns c =
    let a = c.args in
    let e : c.fill.new.self ≡ replicate a.n a.b = search rules in
    let k : a.n ≡ a.at + a.n - a.at = omega arith in
    put_mid-paste a.at (a.at + a.n - a.at) a.flags.now c.fill.new.self (replicate a.n a.b) a.n e k (sym (length-replicate a.n a.b)) ∙ sym (filled_paste a.flags.now a.at a.n a.b c.requires)
