-- `map_overwrite`: what the first tests let pass.
use Rattle.std.proofs.Common.{sym, ◌∙◌}
use Rattle.vmar_map.proofs.Maps.{fine_length}
use Rattle.vmar_overwrite.proofs.map_overwrite.Goals as goal

pub overwrite_in-requires : goal.overwrite_in-requires
overwrite_in-requires c =
    let m = c.args.m in
    (c.requires.0, c.requires.1, fine_length m.vmo.len m.vmo_offset m.len m.permissions.0 m.flags.0 c.args.allow_faults (sym c.test_args.ensures ∙ c.in_ok-test_args.was), sym c.is_known-else-not-is_known.ensures ∙ c.if-not-is_known-2.false)
