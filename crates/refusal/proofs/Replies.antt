-- A reply tells whether a call was refused, and with which refusal: no two refusals have one number, and none has 0.
use Prim.Native.Nat.{ℕ, ◌-◌, ◌<◌}
use mathlib.Core.Path.{◌≡◌, refl, sym, ap, ◌∙◌}
use mathlib.Core.List.{List, [], ◌∷◌}
use native.Mathlib.Omega.{arith}
use lib.ListN.{get_or}
use Rattle.refusal.specs.Refusal.{number_of}
use Rattle.refusal.specs.Reply.{Reply, success, refusal}
use Rattle.refusal.specs.declared.Refusal.{Refusal}
use Rattle.refusal.specs.declared.Refusal.TheVariants.{
  InvalidArgs,
  AccessDenied,
  NoMemory,
  NotFound,
  BadState,
  NotMapped,
  AlreadyMapped,
  NoFrames,
  NothingThere,
  NoSlot,
  BadHandle,
  BadSpace,
  BadTable,
  ChildDead,
  BadAddress,
}

-- the refusal of a number
abbrev refusal_of : ℕ → Refusal
refusal_of n = get_or table (n - 1) BadAddress
  where
    table : List Refusal
    table =
        InvalidArgs ∷ AccessDenied ∷ NoMemory ∷ NotFound ∷ BadState ∷ NotMapped ∷ AlreadyMapped ∷ NoFrames
        ∷ NothingThere ∷ NoSlot ∷ BadHandle ∷ BadSpace ∷ BadTable ∷ ChildDead ∷ BadAddress ∷ []

back : (r : Refusal) → refusal_of (number_of r) ≡ r
back InvalidArgs = refl
back AccessDenied = refl
back NoMemory = refl
back NotFound = refl
back BadState = refl
back NotMapped = refl
back AlreadyMapped = refl
back NoFrames = refl
back NothingThere = refl
back NoSlot = refl
back BadHandle = refl
back BadSpace = refl
back BadTable = refl
back ChildDead = refl
back BadAddress = refl

pub number_once : (a b : Refusal) → number_of a ≡ number_of b → a ≡ b
number_once a b e = sym (back a) ∙ ap refusal_of e ∙ back b

pub positive : (r : Refusal) → 0 < number_of r
positive InvalidArgs = omega arith
positive AccessDenied = omega arith
positive NoMemory = omega arith
positive NotFound = omega arith
positive BadState = omega arith
positive NotMapped = omega arith
positive AlreadyMapped = omega arith
positive NoFrames = omega arith
positive NothingThere = omega arith
positive NoSlot = omega arith
positive BadHandle = omega arith
positive BadSpace = omega arith
positive BadTable = omega arith
positive ChildDead = omega arith
positive BadAddress = omega arith

-- two refusals that say the same, two successes that do, and a success that says what a refusal does
pub same_refusal : (a b : Refusal) → refusal a ≡ refusal b → a ≡ b
same_refusal a b e = number_once a b (ap (λ (r : Reply). r.number) e)

pub same_values : {v w : List ℕ} → success v ≡ success w → v ≡ w
same_values e = ap (λ (r : Reply). r.values) e

pub never : {A : Type 0} {v : List ℕ} (r : Refusal) → success v ≡ refusal r → A
never r e = let n : 0 ≡ number_of r = ap (λ (x : Reply). x.number) e in absurd (omega (arith, positive r))
