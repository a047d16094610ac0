-- Page flags with other rights, bit by bit.
use Prim.Native.Nat.{ℕ, ◌+◌, ◌*◌, ◌/◌, ◌%◌, ◌<◌}
use mathlib.Core.Path.{◌≡◌, ◌∙◌}
use mathlib.Core.Bool.{true}
use native.Mathlib.Omega.{arith}
use borrow.Author.Tests.{eqb-true, eq-eqb}
use Rattle.common.specs.Flags.{READ, WRITE, EXECUTE, USER, HUGE_PAGE, has, of_five, known_page, rights}
use Rattle.space.specs.Passes.{others}
use Rattle.vmar_protect.specs.Protect.{with_rights}
use Rattle.vmar_protect.proofs.Rights.{rights_bits}
use Rattle.vmar_protect_laws.specs.Laws.{Righted}

-- the rights, one by one
three : (f : ℕ) → rights f ≡ has READ f * 4 + has WRITE f * 8 + has EXECUTE f * 16
three f = rights_bits f ∙ omega (arith, a, b)
  where
    a : f / 4 % 8 ≡ f / 4 % 2 + f / 8 % 4 * 2
    a = omega arith

    b : f / 8 % 4 ≡ f / 8 % 2 + f / 16 % 2 * 2
    b = omega arith

-- five bits put together and read again
sum_bits : (r w x u h n : ℕ) → r < 2 → w < 2 → x < 2 → u < 2 → h < 2 → n ≡ r * 4 + w * 8 + x * 16 + u * 32 + h * 64
    → (has READ n ≡ r) × (has WRITE n ≡ w) × (has EXECUTE n ≡ x) × (has USER n ≡ u) × (has HUGE_PAGE n ≡ h)
sum_bits r w x u h n a b c d e q = (omega arith, omega arith, omega arith, omega arith, omega arith)

-- known flags with other rights, bit by bit
pub new_sum : (old f : ℕ) → known_page old ≡ true → with_rights old f ≡ has READ f * 4 + has WRITE f * 8 + has EXECUTE f * 16 + has USER old * 32 + has HUGE_PAGE old * 64
new_sum old f k = omega (arith, eqb-true (of_five old) old k, three old, three f)

pub righted : (old f : ℕ) → known_page old ≡ true → Righted old f
righted old f k =
    let b = sum_bits (has READ f) (has WRITE f) (has EXECUTE f) (has USER old) (has HUGE_PAGE old) (with_rights old f) (omega arith) (omega arith) (omega arith) (omega arith) (omega arith) (new_sum old f k) in
    record {
      known = eq-eqb (of_five (with_rights old f)) (with_rights old f) (omega (arith, b.0, b.1, b.2, b.3, b.4, new_sum old f k));
      read = b.0;
      write = b.1;
      execute = b.2;
      user = b.3;
      huge = b.4;
      entry = omega (arith, b.0, b.1, b.2, b.3);
    }

-- pages that differ in their rights only have the same flags then
pub alike_now : (a b f : ℕ) → known_page a ≡ true → known_page b ≡ true → others a ≡ others b → with_rights a f ≡ with_rights b f
alike_now a b f k l e = omega (arith, new_sum a f k, new_sum b f l)

-- what a page has beside its rights stays
pub others_stay : (old f : ℕ) → known_page old ≡ true → others (with_rights old f) ≡ others old
others_stay old f k = let b = righted old f k in omega (arith, b.user, b.huge)
