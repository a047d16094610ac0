-- Down a choice, one test at a time.
use mathlib.Core.Path.{◌≡◌}
use mathlib.Core.Bool.{Bool, true, false}
use Rattle.paging.specs.Choice.{pick}

pub on : {A : Type 0} (t : Bool) (a b r : A) → t ≡ true → r ≡ a → r ≡ pick t a b
on t a b r e p = rw e p

pub off : {A : Type 0} (t : Bool) (a b r : A) → t ≡ false → r ≡ b → r ≡ pick t a b
off t a b r e p = rw e p
