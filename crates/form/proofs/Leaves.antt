-- What the comparison tells is a leaf of its level: every bit that the mask has is as the rules write it, and the others are free.
use Rattle.std.proofs.Common.{ℕ, ◌+◌, ◌-◌, ◌*◌, ◌/◌, ◌%◌, ◌^◌, ◌≤◌, ◌<◌, min, ◌≡◌, refl, sym, ap, ◌∙◌, ◌⊎◌, inl, inr, true, arith, ltb, lit<, lit≤, bit_and, eq-eqb}
use Rattle.std.proofs.Math.Nat.{mod-mod}
use Rattle.std.proofs.lemmas.Nat.{and_shr, and_mod, and_mask}
use Rattle.paging.specs.Level.{span}
use Rattle.paging.specs.Format.{Entry, page}
use Rattle.x86_64.specs.Entry.{bit, frame_of, addr_of, marks_of, flags_of, rights, huge_bit, is_leaf, x86}
use Rattle.x86_64.proofs.Words.{bit_lt, not_not, addr_lt, marks_lt, FlagParts, flag_parts}
use Rattle.form.specs.Sure.{Told, Sure}

-- where the mask has all j bits from k up, they are the word's
field : (w mask k j : ℕ) → mask / 2 ^ k % 2 ^ j ≡ 2 ^ j - 1 → bit_and w mask / 2 ^ k % 2 ^ j ≡ w / 2 ^ k % 2 ^ j
field w mask k j e =
    ap (λ (x : ℕ). x % 2 ^ j) (and_shr w mask k)
    ∙ and_mod (w / 2 ^ k) (mask / 2 ^ k) j
    ∙ ap (bit_and (w / 2 ^ k % 2 ^ j)) e
    ∙ and_mask (w / 2 ^ k % 2 ^ j) j
    ∙ mod-mod (w / 2 ^ k) (2 ^ j)

-- a word is what its fields add up to
eight : (c : ℕ) → c % 8 ≡ c / 1 % 2 + c / 2 % 2 * 2 + c / 4 % 2 * 4
eight c =
    let a : c % 8 ≡ c % 4 + c / 4 % 2 * 4 = omega arith in
    let b : c % 4 ≡ c / 1 % 2 + c / 2 % 2 * 2 = omega arith in
    a ∙ ap (λ (x : ℕ). x + c / 4 % 2 * 4) b

s128 : (c : ℕ) → c ≡ c % 128 + c / 128 * 128
s128 c = omega arith

s32 : (c : ℕ) → c % 128 ≡ c % 32 + c / 32 % 4 * 32
s32 c = omega arith

s8 : (c : ℕ) → c % 32 ≡ c % 8 + c / 8 % 4 * 8
s8 c = omega arith

s4096 : (w : ℕ) → w / 128 ≡ w / 128 % 32 + w / 4096 * 32
s4096 w = omega arith

s52 : (w : ℕ) → w / 4096 ≡ w / 4096 % 2 ^ 40 + w / 2 ^ 52 * 2 ^ 40
s52 w = omega arith

s63 : (w : ℕ) → w / 2 ^ 52 ≡ w / 2 ^ 52 % 2 ^ 11 + w / 2 ^ 63 * 2 ^ 11
s63 w = omega arith

sums : (w a b c d e f g h n q0 q1 q2 q3 q4 q5 x : ℕ) → w ≡ q0 + q3 * 128 → q0 ≡ q1 + e * 32 → q1 ≡ q2 + d * 8 → q2 ≡ a + b * 2 + c * 4
    → q3 ≡ f + q4 * 32 → q4 ≡ x + q5 * 2 ^ 40 → q5 ≡ g + n * 2 ^ 11 → d ≡ 0 → f ≡ 4 + h → g ≡ 0
    → w ≡ x * 4096 + (a + b * 2 + c * 4 + 512 + n * 2 ^ 63) + h * 128 + e * 32
sums w a b c d e f g h n q0 q1 q2 q3 q4 q5 x p0 p1 p2 p3 p4 p5 p6 p7 p8 p9 = omega arith

any_right_lem : (x y n : ℕ) → x < 2 → y < 2 → n < 2 → (x ≡ 1) ⊎ ((y ≡ 0) × (n ≡ 1)) → min 1 (x + y + (1 - n)) ≡ x
any_right_lem x y n a b c (inl e) = omega arith
any_right_lem x y n a b c (inr e) = omega arith

-- bit 0 is set, or neither WRITE nor EXECUTE is given
abbrev Agree : ℕ → Type 0
Agree w = (bit 0 w ≡ 1) ⊎ ((bit 1 w ≡ 0) × (bit 63 w ≡ 1))

-- the rights that were read, written again, are the bits
rights_again : (w : ℕ) → Agree w → rights (flags_of w) ≡ bit 0 w + bit 1 w * 2 + bit 2 w * 4 + 512 + bit 63 w * 2 ^ 63
rights_again w a =
    let g : FlagParts (flags_of w) (bit 0 w) (bit 1 w) (1 - bit 63 w) (bit 2 w) =
    flag_parts (flags_of w) (bit 0 w) (bit 1 w) (1 - bit 63 w) (bit 2 w) (bit_lt 0 w) (bit_lt 1 w) (omega arith) (bit_lt 2 w) refl in
    let r = any_right_lem (bit 0 w) (bit 1 w) (bit 63 w) (bit_lt 0 w) (bit_lt 1 w) (bit_lt 63 w) a in
    rw (g.read, g.write, g.execute, g.user, r, not_not (bit 63 w) (bit_lt 63 w))

-- a word by its fields: h is bit 7
module _ (w h : ℕ) (hw : w < 2 ^ 64) (hh : h < 2) (agree : Agree w) (low : w / 2 ^ 3 % 2 ^ 2 ≡ 0) (kind : w / 2 ^ 7 % 2 ^ 5 ≡ 4 + h)
    (high : w / 2 ^ 52 % 2 ^ 11 ≡ 0) where
  whole : w ≡ addr_of w + rights (flags_of w) + h * 128 + marks_of w * 32
  whole =
      let n : w / 2 ^ 63 % 2 ≡ w / 2 ^ 63 = omega arith in
      sums w (bit 0 w) (bit 1 w) (bit 2 w) (w / 8 % 4) (marks_of w) (w / 128 % 32) (w / 2 ^ 52 % 2 ^ 11) h (w / 2 ^ 63)
      (w % 128) (w % 32) (w % 8) (w / 128) (w / 4096) (w / 2 ^ 52) (frame_of w)
      (s128 w) (s32 w) (s8 w) (eight w) (s4096 w) (s52 w) (s63 w) low kind high
      ∙ ap (λ (x : ℕ). addr_of w + (bit 0 w + bit 1 w * 2 + bit 2 w * 4 + 512 + x * 2 ^ 63) + h * 128 + marks_of w * 32) (sym n)
      ∙ ap (λ (x : ℕ). addr_of w + x + h * 128 + marks_of w * 32) (sym (rights_again w agree))

  leaf_holds : is_leaf w ≡ true
  leaf_holds = eq-eqb (bit 9 w) 1 (nine (w / 128) (w / 2 ^ 9) kind (omega arith))
    where
      nine : (q r : ℕ) → q % 32 ≡ 4 + h → r ≡ q / 4 → r % 2 ≡ 1
      nine q r a b = omega arith

  leaf_of : (l : ℕ) → l ≤ 2 → addr_of w % span l ≡ 0 → h * 128 ≡ huge_bit (ltb 0 l) → Entry x86 l w × (is_leaf w ≡ true)
  unfolding x86
  leaf_of l hl al e = (
    page (addr_of w) (flags_of w) (marks_of w) hl (al, addr_lt w) (marks_lt w)
        (whole ∙ ap (λ (x : ℕ). addr_of w + rights (flags_of w) + x + marks_of w * 2 ^ 5) e),
    leaf_holds,
  )

-- bit 63 is all that is left above
pub top_lt : (w : ℕ) → w < 2 ^ 64 → w / 2 ^ 63 < 2
top_lt w hw = omega arith

odd : (q : ℕ) → q ≡ 1 → q % 2 ≡ 1
odd q e = omega arith

agrees : (w : ℕ) → (w % 2 ≡ 1) ⊎ ((w / 2 % 2 ≡ 0) × (w / 2 ^ 63 ≡ 1)) → Agree w
agrees w (inl e) = inl (omega arith)
agrees w (inr e) = inr (e.0, odd (w / 2 ^ 63) e.1)

-- of the mask and the tag only numerals are left to compute
module _ (w mask tag : ℕ) (t : Told mask tag w) where
  by_field : (k j : ℕ) → mask / 2 ^ k % 2 ^ j ≡ 2 ^ j - 1 → w / 2 ^ k % 2 ^ j ≡ tag / 2 ^ k % 2 ^ j
  by_field k j f = sym (field w mask k j f) ∙ ap (λ (x : ℕ). x / 2 ^ k % 2 ^ j) t.bits

  sure_of : (h l : ℕ) → h < 2 → w / 2 ^ 3 % 2 ^ 2 ≡ 0 → w / 2 ^ 7 % 2 ^ 5 ≡ 4 + h → w / 2 ^ 52 % 2 ^ 11 ≡ 0
      → l ≤ 2 → addr_of w % span l ≡ 0 → h * 128 ≡ huge_bit (ltb 0 l) → Entry x86 l w × (is_leaf w ≡ true)
  sure_of h l hh low kind high = leaf_of w h t.fits hh (agrees w t.agree) low kind high l

pub sure_4k : Sure 0 0x7ff0000000000f98 0x200
sure_4k = record {
  leaves = λ w t.
      let f = by_field w 0x7ff0000000000f98 0x200 t in
      sure_of w 0x7ff0000000000f98 0x200 t 0 0 (lit< tt) (f 3 2 refl) (f 7 5 refl) (f 52 11 refl) (lit≤ tt) (omega arith) refl;
}

pub sure_2m : Sure 1 0x7ff00000001fff98 0x280
sure_2m = record {
  leaves = λ w t.
      let f = by_field w 0x7ff00000001fff98 0x280 t in
      let al : w / 2 ^ 12 % 2 ^ 9 ≡ 0 = f 12 9 refl in
      sure_of w 0x7ff00000001fff98 0x280 t 1 1 (lit< tt) (f 3 2 refl) (f 7 5 refl) (f 52 11 refl) (lit≤ tt) (omega arith) refl;
}

pub sure_1g : Sure 2 0x7ff000003fffff98 0x280
sure_1g = record {
  leaves = λ w t.
      let f = by_field w 0x7ff000003fffff98 0x280 t in
      let al : w / 2 ^ 12 % 2 ^ 18 ≡ 0 = f 12 18 refl in
      sure_of w 0x7ff000003fffff98 0x280 t 1 2 (lit< tt) (f 3 2 refl) (f 7 5 refl) (f 52 11 refl) (lit≤ tt) (omega arith) refl;
}
