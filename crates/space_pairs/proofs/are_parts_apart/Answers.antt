-- `are_parts_apart`: the places are those of the parts.
use Rattle.space_pairs.proofs.Apart.{apart_of, all_apart}
use Rattle.space_pairs.proofs.are_parts_apart.Goals as goal

pub returns : goal.returns
returns c =
    let s = c.args.s.now in
    let places = c.parts_of.result in
    (λ t. apart_of s places c.requires.1 c.parts_of.ensures (c.are_all_apart.ensures.0 t), λ a. c.are_all_apart.ensures.1 (all_apart s places c.requires.1 c.parts_of.ensures a))
