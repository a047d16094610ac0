-- What a word without flaws is.
use Rattle.std.proofs.Common.{ℕ, zero, suc, ◌-◌, ◌*◌, ◌/◌, ◌%◌, ◌^◌, ◌≤◌, ◌<◌, ◌≡◌, refl, sym, ap, ◌∙◌, subst, ◌⊎◌, inl, inr, arith, mod-lt, lit<, bit_and, bit_or, bit_xor}
use Rattle.std.specs.Int.Bits.{or_add_and, xor_add_and, and_zero_r, or_zero_r}
use Rattle.std.proofs.lemmas.Nat.{and_comm, and_le_l, and_le_r, and_mask}
use Rattle.form.specs.Sure.{Plain}
use Rattle.form.proofs.Leaves.{top_lt}

pub or_zero : (a b : ℕ) → bit_or a b ≡ 0 → (a ≡ 0) × (b ≡ 0)
or_zero a b e = (omega (arith, or_add_and a b, and_le_r a b), omega (arith, or_add_and a b, and_le_l a b))

xor_zero : (a b : ℕ) → bit_xor a b ≡ 0 → a ≡ b
xor_zero a b e = omega (arith, xor_add_and a b, and_le_l a b, and_le_r a b)

and_ones : (a : ℕ) → a < 2 ^ 64 → bit_and a 0xffffffffffffffff ≡ a
and_ones a h = omega (arith, and_mask a 64)

or_ones : (a : ℕ) → a < 2 ^ 64 → bit_or a 0xffffffffffffffff ≡ 0xffffffffffffffff
or_ones a h = omega (arith, or_add_and a 0xffffffffffffffff, and_ones a h)

-- of bits 0, 1 and 63: bit 0 is set, or neither WRITE nor EXECUTE is given
abbrev agree : ℕ → ℕ → ℕ → ℕ
agree x y z = bit_or x (bit_and z (1 - y))

abbrev Agree : ℕ → ℕ → ℕ → ℕ → Type 0
Agree g x y z = (g ≡ 0) ⊎ ((g ≡ 1) × ((x ≡ 1) ⊎ ((y ≡ 0) × (z ≡ 1))))

agrees : (x y z : ℕ) → x < 2 → y < 2 → z < 2 → Agree (agree x y z) x y z
agrees zero zero zero h i j = inl refl
agrees zero zero (suc zero) h i j = inr (refl, inr (refl, refl))
agrees zero zero (suc (suc z)) h i j = absurd (omega arith)
agrees zero (suc zero) zero h i j = inl refl
agrees zero (suc zero) (suc zero) h i j = inl refl
agrees zero (suc zero) (suc (suc z)) h i j = absurd (omega arith)
agrees zero (suc (suc y)) z h i j = absurd (omega arith)
agrees (suc zero) zero zero h i j = inr (refl, inl refl)
agrees (suc zero) zero (suc zero) h i j = inr (refl, inl refl)
agrees (suc zero) zero (suc (suc z)) h i j = absurd (omega arith)
agrees (suc zero) (suc zero) zero h i j = inr (refl, inl refl)
agrees (suc zero) (suc zero) (suc zero) h i j = inr (refl, inl refl)
agrees (suc zero) (suc zero) (suc (suc z)) h i j = absurd (omega arith)
agrees (suc zero) (suc (suc y)) z h i j = absurd (omega arith)
agrees (suc (suc x)) y z h i j = absurd (omega arith)

module _ (w : ℕ) (hw : w < 2 ^ 64) where
  -- as the code computes it
  abbrev at : ℕ
  at = bit_or (bit_and w 1) (bit_and (w / 2 ^ 63) (0xffffffffffffffff - w / 2))

  at_agree : at ≡ agree (w % 2) (w / 2 % 2) (w / 2 ^ 63)
  at_agree = ap (λ (x : ℕ). bit_or x (bit_and (w / 2 ^ 63) (0xffffffffffffffff - w / 2))) (and_mask w 1) ∙ ap (bit_or (w % 2)) (low (w / 2 ^ 63) (top_lt w hw))
    where
      one : (n : ℕ) → bit_and 1 n ≡ n % 2
      one n = and_comm 1 n ∙ and_mask n 1

      low : (z : ℕ) → z < 2 → bit_and z (0xffffffffffffffff - w / 2) ≡ bit_and z (1 - w / 2 % 2)
      low zero h = omega (arith, and_le_l 0 (0xffffffffffffffff - w / 2), and_le_l 0 (1 - w / 2 % 2))
      low (suc zero) h = one (0xffffffffffffffff - w / 2) ∙ omega arith ∙ sym (one (1 - w / 2 % 2))
      low (suc (suc z)) h = absurd (omega arith)

  at_is : Agree at (w % 2) (w / 2 % 2) (w / 2 ^ 63)
  at_is =
      subst (λ (g : ℕ). Agree g (w % 2) (w / 2 % 2) (w / 2 ^ 63)) (sym at_agree)
      (agrees (w % 2) (w / 2 % 2) (w / 2 ^ 63) (mod-lt w (lit< tt)) (mod-lt (w / 2) (lit< tt)) (top_lt w hw))

  pub agree_le : at ≤ 1
  agree_le = le at at_is
    where
      le : (g : ℕ) → Agree g (w % 2) (w / 2 % 2) (w / 2 ^ 63) → g ≤ 1
      le g (inl e) = omega arith
      le g (inr e) = omega (arith, e.0)

  module _ (mask tag : ℕ) (hm : mask < 2 ^ 64) (ht : tag < 2 ^ 64) where
    -- g is 1 where the word may be a leaf, and 0 where it has to be 0
    abbrev Same : ℕ → Type 0
    Same g = bit_and w (bit_or mask (0xffffffffffffffff - g * 0xffffffffffffffff)) ≡ bit_and tag (g * 0xffffffffffffffff)

    pub flawless : bit_xor (bit_and w (bit_or mask (0xffffffffffffffff - at * 0xffffffffffffffff))) (bit_and tag (at * 0xffffffffffffffff)) ≡ 0
        → Plain mask tag w
    flawless e = go at at_is (xor_zero _ _ e)
      where
        go : (g : ℕ) → Agree g (w % 2) (w / 2 % 2) (w / 2 ^ 63) → Same g → Plain mask tag w
        go g (inl z) q = inl (sym (and_ones w hw) ∙ ap (bit_and w) (sym (or_ones mask hm)) ∙ subst Same z q ∙ and_zero_r tag)
        go g (inr o) q =
            inr (record { fits = hw; bits = ap (bit_and w) (sym (or_zero_r mask)) ∙ subst Same o.0 q ∙ and_ones tag ht; agree = o.1 })
