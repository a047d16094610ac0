-- The numbers of lines without values: document 01's of a refusal, and 16 of a line that cannot be read.
use Rattle.std.specs.Prelude.{ℕ}
use Rattle.refusal.specs.Refusal.{number_of}
use Rattle.trace_line.specs.declared.Unanswered.{Unanswered}
use Rattle.trace_line.specs.declared.Unanswered.TheVariants.{Refused, Unreadable}

abbrev pub number_of_line : Unanswered → ℕ
number_of_line (Refused r) = number_of r
number_of_line Unreadable = 16
