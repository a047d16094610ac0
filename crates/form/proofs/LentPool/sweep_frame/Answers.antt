use Rattle.std.proofs.Common.{◌≡◌, ◌/◌, length, ap, ◌∙◌, add-zero, arith}
use Rattle.pool.proofs.Frames.{frame_length}
use Rattle.form.specs.Sweep.{goes, stops}
use Rattle.form.proofs.Answers.{passed, refused}
use Rattle.form.proofs.Steps.{skip_frame}
use Rattle.form.proofs.Frames.{plain_words, plain_frame, word_swept}
use Rattle.form.proofs.Refusals.{rank_stays}
use Rattle.form.proofs.LentPool.sweep_frame.Goals as goal

pub returns-then-at-frame : goal.returns-then-at-frame
returns-then-at-frame c =
    let a = c.args in
    let s = a.self.now in
    goes (skip_frame s.words.now (s.base / 4096) s.used a.at.now a.rank a.frame c.if-at-frame.true c.requires.sweep)

pub returns-then-all_plain : goal.returns-then-all_plain
returns-then-all_plain c =
    let a = c.args in
    let s = a.self.now in
    let words = plain_words s.words.now a.frame (omega (arith, s.sized.there, c.requires.in_use.0)) c.table_of-table.ensures (c.all_plain.ensures c.if-all_plain.true) in
    goes (plain_frame s.words.now (s.base / 4096) s.used a.at.now a.rank a.frame c.requires.sweep c.requires.in_use.0
    (omega (arith, s.sized.there, s.sized.few)) c.if-at-frame.false c.requires.in_use.1 c.leaf_bits-bits.ensures words)

pub loop-w-init : goal.loop-w-init
loop-w-init c = record { ranked = c.if-at-frame.false; sweep = rw add-zero c.requires.sweep }

pub returns-then-not-sweep_word : goal.returns-then-not-sweep_word
returns-then-not-sweep_word c =
    let i = c.loop-w.invariant in
    stops (refused (word_swept c.args.frame c.loop-w.w-index c.args.self.now.sized i.sweep c.requires.in_use i.ranked c.table_of-table.ensures
    c.loop-w-test.true c.if-not-sweep_word.ensures))

pub loop-w-preserved : goal.loop-w-preserved
loop-w-preserved c =
    let i = c.loop-w.invariant in
    record {
      ranked = rank_stays c.args.frame (omega (arith, i.ranked, c.requires.in_use.1)) c.if-not-sweep_word.ensures ∙ i.ranked;
      sweep = passed (word_swept c.args.frame c.loop-w.w-index c.args.self.now.sized i.sweep c.requires.in_use i.ranked c.table_of-table.ensures
          c.loop-w-test.true c.if-not-sweep_word.ensures);
    }

pub returns : goal.returns
returns c =
    let a = c.args in
    let s = a.self.now in
    let full = frame_length s.words.now a.frame (omega (arith, s.sized.there, c.requires.in_use.0)) in
    let e : c.loop-w.w-index ≡ 512 = omega (arith, c.loop-w.auto.w-index-end, c.loop-w-test.false, ap length c.table_of-table.ensures, full) in
    goes (rw e at c.loop-w.invariant.sweep)
