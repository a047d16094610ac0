-- `test_pages`: the first byte tells of USER, all of the access.
use mathlib.Core.Path.{refl, sym, ◌∙◌}
use native.Mathlib.Omega.{arith}
use Rattle.paging.proofs.Cases.{decided_true, decided_false}
use Rattle.vmar_user_range.specs.UserRange.{no_user}
use Rattle.vmar_user_range.proofs.Stretches.{counted, some_lack, all_grant}
use Rattle.vmar_user_range.proofs.test_pages.Goals as goal

pub returns-then-not-contains : goal.returns-then-not-contains
returns-then-not-contains c = no_user (sym c.contains.ensures ∙ c.if-not-contains.true) refl

pub do_all_grant-requires : goal.do_all_grant-requires
do_all_grant-requires c =
    let a = c.args in
    let pre = c.requires in
    let lent = pre.0 in
    let slot = pre.1 in
    let low = pre.2.from in
    let few = pre.2.few in
    let top = (counted a.m.now a.page a.last pre.2 pre.3).2 in
    omega arith

pub returns-then-not-do_all_grant : goal.returns-then-not-do_all_grant
returns-then-not-do_all_grant c =
    let a = c.args in
    let user = c.contains in
    let all = c.do_all_grant in
    some_lack a.flags.now _ _ _ a.access.0 c.pages_in-n.ensures (sym user.ensures ∙ c.if-not-contains.false) (decided_false _ all.result all.ensures (c.if-not-do_all_grant.true))

pub returns : goal.returns
returns c =
    let a = c.args in
    let user = c.contains in
    let all = c.do_all_grant in
    all_grant a.flags.now _ _ _ a.access.0 c.pages_in-n.ensures (sym user.ensures ∙ c.if-not-contains.false) (decided_true _ all.result all.ensures (c.if-not-do_all_grant.false))
