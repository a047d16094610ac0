-- `are_free`: what the closure gives at each slot.
use Rattle.std.proofs.Common.{false, rules}
use Rattle.space.specs.Space.{blank_mapping}
use Rattle.vmar_prune.proofs.are_free.Goals as goal

pub returns : goal.returns
returns c = λ i h. let x = c.map.ensures.items.at i blank_mapping false h in let y = x.2 in search (rules, y)
