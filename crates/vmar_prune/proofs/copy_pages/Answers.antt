-- `copy_pages`: what is copied and what is filled.
use Rattle.std.proofs.Common.{ℕ, ◌≡◌, ◌+◌, ◌-◌, List, replicate, drop, sym, ◌∙◌, ap, arith, rules}
use Rattle.std.proofs.Math.Seq.{paste}
use Rattle.std.proofs.lemmas.Slice.{put_mid-paste}
use Rattle.std.proofs.lemmas.List.{length-replicate}
use Rattle.vmar_prune.proofs.Parts.{copied_pasted}
use Rattle.vmar_prune.proofs.copy_pages.Goals as goal

pub returns : goal.returns
returns c =
    let a = c.args in
    let rest = a.to + 512 - (a.to + a.n) in
    let zeros : c.fill.new.self ≡ replicate rest 0 = search rules in
    let few : 512 - a.n ≡ rest = omega arith in
    let n : a.from + a.n - a.from ≡ a.n = omega arith in
    let copied : c.copy_within.new.self ≡ paste a.flags.now a.to (drop a.from a.flags.now) a.n = c.copy_within.ensures.after ∙ rw n in
    put_mid-paste (a.to + a.n) rest c.copy_within.new.self c.fill.new.self (replicate (512 - a.n) 0) (512 - a.n) (zeros ∙ ap (λ (m : ℕ). replicate m 0) (sym few)) few (sym (length-replicate (512 - a.n) 0))
    ∙ ap (λ (f : List ℕ). paste f (a.to + a.n) (replicate (512 - a.n) 0) (512 - a.n)) copied
    ∙ copied_pasted a.flags.now a.to a.from a.n (omega arith) (omega arith) (omega arith)
