-- The facts of Sweep.antt about a lent pool, its base being an address.
use Rattle.std.specs.Prelude.{ℕ, ◌/◌, Bool, List}
use Rattle.form.specs.Sweep.{Sweep, Swept, Step}
use Rattle.form.specs.declared.LentPool.{LentPool}

abbrev pub SweepOf : LentPool → List ℕ → ℕ → ℕ → Type 0
SweepOf s at r n = Sweep s.words.now (s.base / 4096) s.used at r n

abbrev pub SweptOf : LentPool → List ℕ → ℕ → ℕ → Bool → Type 0
SweptOf s at r n ok = Swept s.words.now (s.base / 4096) s.used at r n ok

abbrev pub StepOf : LentPool → ℕ → ℕ → List ℕ → List ℕ → Bool → Type 0
StepOf s r w at new ok = Step (s.base / 4096) s.used r w at new ok
