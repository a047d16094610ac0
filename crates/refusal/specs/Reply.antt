-- What a call says, in document 01's numbers, and what it leaves. Document 01, 'Refusal numbers': "0 is success. A refusal gives value 0 and changes nothing anywhere."
use Rattle.std.specs.Prelude.{ℕ, List, [], ◌∷◌}
use Rattle.refusal.specs.Refusal.{number_of}
use Rattle.refusal.specs.declared.Refusal.{Refusal}

pub record Reply : Type 0 where
  pub number : ℕ
  pub values : List ℕ

-- "0 is success."
abbrev pub success : List ℕ → Reply
success vs = record { number = 0; values = vs }

-- "A refusal gives value 0"
abbrev pub refusing : ℕ → Reply
refusing n = record { number = n; values = 0 ∷ [] }

abbrev pub refusal : Refusal → Reply
refusal r = refusing (number_of r)

-- what a call says, and all that it may change, as it is afterwards
pub record Told (A : Type 0) : Type 0 where
  pub reply : Reply
  pub after : A

-- "and changes nothing anywhere": refused with number n, all is as it was
abbrev pub refused : {A : Type 0} → ℕ → A → Told A
refused n was = record { reply = refusing n; after = was }
