-- `map`: the tests tell the cases apart, and `fill` does the rest.
use Prim.Native.Nat.{◌/◌}
use mathlib.Core.Path.{◌≡◌, sym, ◌∙◌}
use native.Mathlib.Omega.{arith}
use Rattle.walk.specs.Walk.{found}
use Rattle.walk.specs.declared.Walk.TheVariants.{Open}
use Rattle.walk.proofs.Found.{unused, open_in}
use Rattle.table_map.proofs.map.Goals as goal

pub fill-requires : goal.fill-requires
fill-requires c =
    let seen : (let a = c.args in found a.pool.now (a.base / 4096) a.vaddr ≡ Open c.in-Open.spot) = sym c.get_entry.ensures ∙ c.in-Open.is in
    let e = c.in-Open.spot in
    let i = open_in c.args.pool.now c.args.base c.args.used c.args.vaddr c.requires e seen in
    let u = unused c.args.pool.now (c.args.base / 4096) c.args.used c.requires.formed c.args.vaddr e seen in record { room = record { frame = i.0; place = i.1; level = u.low; page = c.requires.sized.page; below = c.requires.sized.below }; reached = (omega (arith, c.if-spot-target.false), omega (arith, c.if-spot-target.false, c.if-pool-used.false, c.requires.sized.there)) }
