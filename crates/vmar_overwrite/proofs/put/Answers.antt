-- `put`: the flags, then the record.
use Rattle.common.proofs.Sets.{byte}
use Rattle.vmar_overwrite.proofs.put.Goals as goal

pub overflow_cast-flags : goal.overflow_cast-flags
overflow_cast-flags c = record { fits = byte c.args.flags.0 c.requires.4 }
