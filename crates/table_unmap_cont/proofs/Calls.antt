-- What `unmap_cont` is, by its tests.
use Rattle.std.specs.Prelude.{Err, Ok}
use Prim.Native.Nat.{ℕ, ◌+◌, ◌-◌, ◌/◌, ◌≤◌, ◌<◌}
use mathlib.Core.Bool.{Bool, true, false}
use mathlib.Core.Path.{◌≡◌, refl}
use mathlib.Core.List.{List}
use native.Mathlib.Omega.{arith}
use lib.Dec.{eqb, ltb}
use lib.ListN.{length}
use borrow.Author.Tests.{lt-ltb, le-ltb, eq-eqb, ne_eqb}
use Rattle.paging.specs.Choice.{pick}
use Rattle.refusal.specs.declared.Refusal.{Refusal}
use Rattle.refusal.specs.declared.Refusal.TheVariants.{NoFrames}
use Rattle.table_split.specs.Split.{needed, split_ends}
use Rattle.table_unmap_cont.specs.UnmapCont.{cut_from, ContUnmapping, unmap_cont}

module _ (p : List ℕ) (b used v n : ℕ) where
  pub cont_empty : n ≡ 0 → record { result = Ok 0; pool = p } ≡ unmap_cont p b used v n
  cont_empty e = rw (eq-eqb n 0 e)

  module _ (some : n ≡ 0 → ⊥) where
    pub cont_short : length p / 512 - used < needed p b v (v + n) → record { result = Err NoFrames; pool = p } ≡ unmap_cont p b used v n
    cont_short h = rw (ne_eqb n 0 some, lt-ltb (length p / 512 - used) (needed p b v (v + n)) h)

    pub cont_done : needed p b v (v + n) ≤ length p / 512 - used
        → record { result = Ok (needed p b v (v + n)); pool = cut_from (split_ends p b used v (v + n)) b v (v + n) } ≡ unmap_cont p b used v n
    cont_done h = rw (ne_eqb n 0 some, le-ltb (length p / 512 - used) (needed p b v (v + n)) h)

  -- a refused call changes no word
  pub keeps : (r : Refusal) → (unmap_cont p b used v n).result ≡ Err r → (unmap_cont p b used v n).pool ≡ p
  keeps r = go (eqb n 0) (ltb (length p / 512 - used) (needed p b v (v + n)))
    where
      done : ContUnmapping
      done = record { result = Ok (needed p b v (v + n)); pool = cut_from (split_ends p b used v (v + n)) b v (v + n) }

      go : (s t : Bool) → (pick s (record { result = Ok 0; pool = p }) (pick t (record { result = Err NoFrames; pool = p }) done)).result ≡ Err r
          → (pick s (record { result = Ok 0; pool = p }) (pick t (record { result = Err NoFrames; pool = p }) done)).pool ≡ p
      go true t q = refl
      go false true q = refl
      go false false q = let z : ◌≡◌ {A = ℕ} 0 1 = cc in absurd (omega arith)
