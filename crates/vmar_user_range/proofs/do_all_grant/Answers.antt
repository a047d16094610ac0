use Rattle.std.proofs.Common.{◌≡◌, ℕ, ◌+◌, ◌-◌, ◌≤◌, true, get_or, bit_and, bit_or, bit_xor, sym, subst, arith}
use Rattle.common.specs.Flags.{grants}
use Rattle.scan.proofs.Gather.{Gathered, nothing, more, gathered}
use Rattle.vmar_user_range.proofs.Stretches.{lacks_none, grants_all}
use Rattle.vmar_user_range.proofs.do_all_grant.Goals as goal

pub loop-j-init : goal.loop-j-init
loop-j-init c =
    let a = c.args in
    let z : 0 ≡ a.at - a.at = omega arith in
    subst (Gathered (λ (k : ℕ). grants (get_or a.flags.now (a.at + k) 0) a.access ≡ true) 0) z (nothing _)

pub loop-j-preserved : goal.loop-j-preserved
loop-j-preserved c =
    let a = c.args in
    let j = c.loop-j.j in
    let lacking = c.loop-j.lacking in
    let low : a.at ≤ j = omega (arith, c.loop-j.auto.j) in
    let P : ℕ → Type 0 = λ k. grants (get_or a.flags.now (a.at + k) 0) a.access ≡ true in
    let at : a.at + (j - a.at) ≡ j = omega arith in
    let next : j - a.at + 1 ≡ j + 1 - a.at = omega arith in
    let byte = get_or a.flags.now j 0 in
    let lacks = bit_xor (bit_and byte a.access) a.access in
    subst (Gathered P (bit_or lacking lacks)) next
    (more P lacking lacks (j - a.at) c.loop-j.invariant
    (λ (e : lacks ≡ 0). subst (λ (i : ℕ). grants (get_or a.flags.now i 0) a.access ≡ true) (sym at) (lacks_none byte a.access e))
    (λ (p : P (j - a.at)). grants_all byte a.access (subst (λ (i : ℕ). grants (get_or a.flags.now i 0) a.access ≡ true) at p)))

pub returns : goal.returns
returns c =
    let a = c.args in
    let j = c.loop-j.j in
    gathered (λ (k : ℕ). grants (get_or a.flags.now (a.at + k) 0) a.access ≡ true) c.loop-j.lacking (j - a.at) a.n (omega (arith, c.loop-j.auto.j-end, c.loop-j-test.false)) (omega (arith, c.loop-j-test.false)) c.loop-j.invariant
