-- The definitions of the four calls, by what the walk found.
use Rattle.std.specs.Prelude.{Err, Ok, Option}
use Prim.Native.Nat.{ℕ, ◌+◌, ◌%◌}
use mathlib.Core.Path.{◌≡◌}
use mathlib.Core.Bool.{true, false}
use mathlib.Core.List.{List}
use Rattle.common.specs.Page.{size_of}
use Rattle.x86_64.specs.Entry.{addr_of, flags_of}
use Rattle.pool.specs.Pool.{word, put_word}
use Rattle.walk.specs.Walk.{found}
use Rattle.walk.specs.declared.Walk.TheVariants.{Leaf}
use Rattle.walk.specs.declared.LeafEntry.{LeafEntry}
use Rattle.refusal.specs.declared.Refusal.TheVariants.{InvalidArgs}
use Rattle.table.specs.Table.{queried, unmapped, misplaced, new_word, updated}
use Rattle.common.specs.declared.defs.MMUFlags.{MMUFlags}

-- what the calls are where the walk found a leaf
module _ (p : List ℕ) (b v : ℕ) (e : LeafEntry) (q : found p b v ≡ Leaf e) where
  pub shown : queried p b v ≡ Ok ((addr_of (word p e.frame e.place) + v % size_of e.size), (record { 0 = flags_of (word p e.frame e.place) }), e.size)
  shown = rw q

  pub gone : unmapped p b v ≡ record { result = Ok ((addr_of (word p e.frame e.place)), e.size); pool = put_word p e.frame e.place 0 }
  gone = rw q

  pub refused_address : (a : Option ℕ) (f : Option MMUFlags) → misplaced a e.size ≡ true → updated p b v a f ≡ record { result = Err InvalidArgs; pool = p }
  refused_address a f m = rw (q, m)

  pub rewritten : (a : Option ℕ) (f : Option MMUFlags) → misplaced a e.size ≡ false
      → updated p b v a f ≡ record { result = Ok e.size; pool = put_word p e.frame e.place (new_word (word p e.frame e.place) e.size a f) }
  rewritten a f m = rw (q, m)
