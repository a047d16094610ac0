-- What an answer says after the line's number: the refusal number, the values in hexadecimal, of which a line without any has 0, the frames in use.
use Rattle.std.specs.Prelude.{ℕ, List, [], ◌∷◌, ◌++◌, Result, Ok, Err, false, decimal}
use Rattle.std.specs.Fmt.{digits}
use Rattle.std.specs.List.{flat_map}
use Rattle.trace_line.specs.Unanswered.{number_of_line}
use Rattle.trace_line.specs.declared.Unanswered.{Unanswered}

-- in decimal, after a space
abbrev pub counted : ℕ → List ℕ
counted n = 32 ∷ decimal n

-- and a line end
abbrev pub finished : ℕ → List ℕ
finished used = counted used ++ (10 ∷ [])

abbrev pub told : Result (List ℕ) Unanswered → ℕ → List ℕ
told (Ok values) used = counted 0 ++ flat_map (λ n. 32 ∷ digits 16 false n) values ++ finished used
told (Err why) used = counted (number_of_line why) ++ (32 ∷ 48 ∷ []) ++ finished used
