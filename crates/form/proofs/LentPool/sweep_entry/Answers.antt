-- `sweep_entry`: each way through the tests is a way of `Step`.
use Rattle.std.proofs.Common.{◌≡◌, ℕ, ◌-◌, ◌%◌, ◌<◌, false, sym}
use Rattle.paging.specs.Format.{Entry}
use Rattle.x86_64.specs.Entry.{addr_of, is_leaf, x86}
use Rattle.form.specs.Sweep.{foreign}
use Rattle.form.proofs.Marks.{Table, by_leaf_lem, by_low, by_high, by_again, by_rank}
use Rattle.form.proofs.LentPool.sweep_entry.Goals as goal

pub returns-then-not-is_entry : goal.returns-then-not-is_entry
returns-then-not-is_entry c = foreign c.if-not-is_entry.ensures

pub returns-then-is_leaf : goal.returns-then-is_leaf
returns-then-is_leaf c = by_leaf_lem c.requires.1 c.if-not-is_entry.ensures (sym c.if-is_leaf.ensures)

-- a word that is an entry and no leaf
table : {base rank w p : ℕ} → 0 < w → base % 4096 ≡ 0 → Entry x86 (rank - 1) w → false ≡ is_leaf w → p ≡ addr_of w → Table base rank w p
table positive page entry no_leaf addr = record { positive = positive; entry = entry; no_leaf = sym no_leaf; addr = addr; page = page }

pub returns-then-paddr-self : goal.returns-then-paddr-self
returns-then-paddr-self c =
    by_low (table c.requires.1 c.args.self.now.sized.page c.if-not-is_entry.ensures c.if-is_leaf.ensures c.addr-paddr.ensures) c.if-paddr-self.true

pub returns-then-self-reached : goal.returns-then-self-reached
returns-then-self-reached c =
    by_high (table c.requires.1 c.args.self.now.sized.page c.if-not-is_entry.ensures c.if-is_leaf.ensures c.addr-paddr.ensures) c.if-paddr-self.false
    c.if-self-reached.true

pub returns-then-at-reached-ne0 : goal.returns-then-at-reached-ne0
returns-then-at-reached-ne0 c =
    by_again (table c.requires.1 c.args.self.now.sized.page c.if-not-is_entry.ensures c.if-is_leaf.ensures c.addr-paddr.ensures) c.if-paddr-self.false
    c.if-self-reached.false c.if-at-reached-ne0.true

pub returns : goal.returns
returns c =
    by_rank (table c.requires.1 c.args.self.now.sized.page c.if-not-is_entry.ensures c.if-is_leaf.ensures c.addr-paddr.ensures) c.if-paddr-self.false
    c.if-self-reached.false c.if-at-reached-ne0.false
