-- `cut_part`: one cut at most.
use Rattle.std.proofs.Common.{◌/◌, List, sym, ◌∙◌, ap}
use Rattle.table_cuts.specs.Cuts.{Cut, cut_all}
use Rattle.table_cuts.proofs.Append.{cut_none, cut_single}
use Rattle.vmar_cuts.specs.Parts.{cut_of}
use Rattle.vmar_cuts.proofs.cut_part.Goals as goal

pub returns-in-Some-clause-value : goal.returns-in-Some-clause-value
returns-in-Some-clause-value c =
    let a = c.args in
    c.cut_one.ensures.value
    ∙ sym (cut_single (a.base / 4096) (cut_of c.in-Some.part) _)
    ∙ ap (λ (xs : List Cut). cut_all (a.base / 4096) xs (record { pool = a.pool.now; used = a.used.now })) c.in-Some.ensures.value

pub returns-in_default-clause-value : goal.returns-in_default-clause-value
returns-in_default-clause-value c =
    let a = c.args in
    sym (cut_none (a.base / 4096) _)
    ∙ ap (λ (xs : List Cut). cut_all (a.base / 4096) xs (record { pool = a.pool.now; used = a.used.now })) c.in_default.ensures.value
