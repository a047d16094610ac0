use Rattle.std.proofs.Common.{◌/◌, refl, ◌∙◌, ap}
use Rattle.vmar_protect.specs.Protect.{Lent, lent, mapping_done}
use Rattle.vmar_protect.proofs.Buffers.{kept_by, mapping_kept, mappings_none, mappings_more}
use Rattle.vmar_protect.proofs.protect_all.Goals as goal

pub loop-k-init : goal.loop-k-init
loop-k-init c = record { pages = refl; pool = refl; good = c.requires.2; done = mappings_none _ _ _ _ _ _ _ }

pub loop-k-preserved : goal.loop-k-preserved
loop-k-preserved c =
    let a = c.args in
    let s = a.s.now in
    let loop = c.loop-k in
    let place = c.protect_place in
    let t = lent loop.pages loop.pool in
    let u = lent place.new.pages place.new.pool in
    let k = kept_by a.base a.used t u _ place.ensures (mapping_kept a.base a.used t s a.r a.begin a.end a.flags.0 loop.k) in
    record {
      pages = k.flags ∙ loop.invariant.pages;
      pool = k.pool ∙ loop.invariant.pool;
      good = k.good loop.invariant.good;
      done = place.ensures
          ∙ ap (λ (x : Lent). mapping_done x (a.base / 4096) s a.r a.begin a.end a.flags.0 loop.k) loop.invariant.done
          ∙ mappings_more (lent a.pages.now a.pool.now) (a.base / 4096) s a.r a.begin a.end a.flags.0 loop.k;
    }
