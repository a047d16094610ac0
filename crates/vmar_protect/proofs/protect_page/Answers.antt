-- `protect_page`: the byte, then the leaf.
use Rattle.std.proofs.Common.{◌/◌}
use Rattle.vmar_protect.proofs.Buffers.{page_is}
use Rattle.vmar_protect.proofs.protect_page.Goals as goal

pub returns : goal.returns
returns c =
    let a = c.args in
    page_is a.pages.now a.pool.now _ (a.base / 4096) a.m a.slot a.flags.0 a.page c.with_rights-new.result _ c.with_rights-new.ensures c.update.ensures
