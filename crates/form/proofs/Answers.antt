-- Reading the answers of tests.
use Rattle.std.proofs.Common.{ℕ, true, false, List}
use Rattle.form.specs.Form.{WellFormed}
use Rattle.form.specs.Sweep.{Sweep, Swept, goes, stops}

-- a part of the sweep that passed, and one that did not
pub passed : {p : List ℕ} {b used : ℕ} {at : List ℕ} {r n : ℕ} → Swept p b used at r n true → Sweep p b used at r n
passed (goes s) = s

pub refused : {p : List ℕ} {b used : ℕ} {at : List ℕ} {r n : ℕ} → Swept p b used at r n false → WellFormed p b used → ⊥
refused (stops f) = f
