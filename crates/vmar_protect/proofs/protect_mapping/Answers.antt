use Rattle.std.proofs.Common.{◌≡◌, ◌+◌, ◌-◌, ◌/◌, refl, sym, ◌∙◌, ap, arith, ℕ}
use Rattle.vmar_protect.specs.Protect.{Lent, lent, page_done, pages_done}
use Rattle.vmar_protect.proofs.Buffers.{kept_by, page_kept, pages_none, pages_more}
use Rattle.vmar_protect.proofs.protect_mapping.Goals as goal

pub loop-page-init : goal.loop-page-init
loop-page-init c =
    let none : c.args.changed.start - c.args.changed.start ≡ 0 = omega arith in
    record { pages = refl; pool = refl; good = c.requires.1; done = rw none (pages_none _ _ _ _ _ _) }

pub protect_page-requires : goal.protect_page-requires
protect_page-requires c =
    let g = c.requires.3 in
    let ga = g.addr in
    let gs = g.size in
    let ge = g.end in
    let gf = g.few in
    let top = c.requires.5 in
    let h = c.loop-page-test.true in
    (c.loop-page.invariant.pages ∙ c.requires.0, c.loop-page.invariant.good, c.requires.2, omega arith, omega arith)

pub loop-page-preserved : goal.loop-page-preserved
loop-page-preserved c =
    let a = c.args in
    let loop = c.loop-page in
    let page = c.protect_page in
    let first = a.changed.start in
    let t = lent loop.pages loop.pool in
    let u = lent page.new.pages page.new.pool in
    let k = kept_by a.base a.used t u _ page.ensures (page_kept a.base a.used t a.m a.slot a.flags.0 loop.page) in
    let from = loop.auto.page in
    let at : first + (loop.page - first) ≡ loop.page = omega arith in
    let more : loop.page + 1 - first ≡ loop.page - first + 1 = omega arith in
    record {
      pages = k.flags ∙ loop.invariant.pages;
      pool = k.pool ∙ loop.invariant.pool;
      good = k.good loop.invariant.good;
      done = page.ensures
          ∙ ap (λ (x : Lent). page_done x (a.base / 4096) a.m a.slot a.flags.0 loop.page) loop.invariant.done
          ∙ ap (λ (n : ℕ). page_done (pages_done (lent a.pages.now a.pool.now) (a.base / 4096) a.m a.slot a.flags.0 first (loop.page - first)) (a.base / 4096) a.m a.slot a.flags.0 n) (sym at)
          ∙ pages_more (lent a.pages.now a.pool.now) (a.base / 4096) a.m a.slot a.flags.0 first (loop.page - first)
          ∙ ap (pages_done (lent a.pages.now a.pool.now) (a.base / 4096) a.m a.slot a.flags.0 first) (sym more);
    }

pub returns : goal.returns
returns c =
    let a = c.args in
    let loop = c.loop-page in
    let from = loop.auto.page in
    let to = loop.auto.page-end in
    let end = c.loop-page-test.false in
    let order = c.requires.4 in
    let most = to order in
    let e : loop.page - a.changed.start ≡ a.changed.end - a.changed.start = omega arith in
    loop.invariant.done ∙ ap (pages_done (lent a.pages.now a.pool.now) (a.base / 4096) a.m a.slot a.flags.0 a.changed.start) e
