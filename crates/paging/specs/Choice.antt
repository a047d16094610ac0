-- Choosing by a test, a test that decides a statement, and an answer that goes by one.
use Rattle.std.specs.Prelude.{Bool, true, false, ◌≡◌}

-- a where the test holds, else b
abbrev pub pick : {A : Type 0} → Bool → A → A → A
pick true a b = a
pick false a b = b

-- the answer of a test of P, both ways: where it says true P holds, where it says false P does not
abbrev pub Decided : Type 0 → Bool → Type 0
Decided P true = P
Decided P false = P → ⊥

-- an answer is `yes` where P holds and `no` where it does not: no second answer fits (paging/proofs/Cases, `only`)
pub data Answered {A : Type 0} (P : Type 0) (no' yes' out : A) : Type 0 where
  refused : (P → ⊥) → out ≡ no' → Answered P no' yes' out
  taken : P → out ≡ yes' → Answered P no' yes' out
