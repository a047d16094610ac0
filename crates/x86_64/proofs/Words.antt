-- What the words that the rules write read back as. Each is given by its parts, numbers of one bit or few, so that every reading of it is
-- one sum.
use Rattle.std.proofs.Common.{ℕ, zero, suc, ◌+◌, ◌-◌, ◌*◌, ◌/◌, ◌%◌, ◌^◌, ◌<◌, min, ◌≡◌, refl, sym, ap, ◌∙◌, Bool, true, false, not, eqb, arith, add-zero, one-add, pow-suc, pow_pos, one-mul, zero-mul, mod-lt, lit<, bit_and, eq-eqb, ne_eqb}
use Rattle.std.proofs.lemmas.Nat.Bits.{and_high}
use Rattle.paging.specs.Choice.{pick}
use Rattle.common.specs.Flags.{READ, WRITE, EXECUTE, USER, has, grants}
use Rattle.x86_64.specs.Entry.{bit, frame_of, addr_of, marks_of, table_word, any_right, rights, huge_bit, leaf_by, flags_of, granted}

-- a mask of one bit
mask_one : (w k : ℕ) → bit_and w (2 ^ k) ≡ bit k w * 2 ^ k
mask_one w k =
    let e : 2 ^ (1 + k) - 2 ^ k ≡ 2 ^ k = rw (one-add, pow-suc) (omega arith) in
    ap (bit_and w) (sym e) ∙ and_high w 1 k

pub bit_lt : (k w : ℕ) → bit k w < 2
bit_lt k w = mod-lt (w / 2 ^ k) (lit< tt)

pub one_bit : (w k : ℕ) → grants w (2 ^ k) ≡ eqb (bit k w) 1
one_bit w k = ap (λ (n : ℕ). eqb n (2 ^ k)) (mask_one w k) ∙ go (bit k w) (bit_lt k w)
  where
    go : (x : ℕ) → x < 2 → eqb (x * 2 ^ k) (2 ^ k) ≡ eqb x 1
    go zero h = ne_eqb (0 * 2 ^ k) (2 ^ k) (λ e. omega (arith, pow_pos k))
    go (suc zero) h = eq-eqb (1 * 2 ^ k) (2 ^ k) (one-mul (2 ^ k))
    go (suc (suc x)) h = absurd (omega arith)

-- what a bit of a word gives where it is set, and where it is not
pub if_bit : (w k v : ℕ) {t : Bool} {r : ℕ} → t ≡ eqb (bit k w) 1 → r ≡ pick t v 0 → r ≡ bit k w * v
if_bit w k v e p = p ∙ ap (λ (t : Bool). pick t v 0) e ∙ go (bit k w) (bit_lt k w)
  where
    go : (x : ℕ) → x < 2 → pick (eqb x 1) v 0 ≡ x * v
    go zero h = sym (zero-mul v)
    go (suc zero) h = sym (one-mul v)
    go (suc (suc x)) h = absurd (omega arith)

pub unless_bit : (w k v : ℕ) {t : Bool} {r : ℕ} → t ≡ eqb (bit k w) 1 → r ≡ pick (not t) v 0 → r ≡ (1 - bit k w) * v
unless_bit w k v e p = p ∙ ap (λ (t : Bool). pick (not t) v 0) e ∙ go (bit k w) (bit_lt k w)
  where
    go : (x : ℕ) → x < 2 → pick (not (eqb x 1)) v 0 ≡ (1 - x) * v
    go zero h = sym (one-mul v)
    go (suc zero) h = sym (zero-mul v)
    go (suc (suc x)) h = absurd (omega arith)

-- any of READ, WRITE and EXECUTE
pub if_any : (f : ℕ) → pick (not (eqb (bit_and f 0x1c) 0)) 1 0 ≡ any_right f
if_any f = ap (λ (n : ℕ). pick (not (eqb n 0)) 1 0) (and_high f 3 2) ∙ go (f / 4 % 8) parts
  where
    parts : f / 4 % 8 ≡ has READ f + has WRITE f * 2 + has EXECUTE f * 4
    parts = omega arith

    go : (x : ℕ) → x ≡ has READ f + has WRITE f * 2 + has EXECUTE f * 4 → pick (not (eqb (x * 4) 0)) 1 0 ≡ any_right f
    go zero e = omega arith
    go (suc x) e = rw (ne_eqb (suc x * 4) 0 (λ z. omega arith)) (omega arith)

pub addr_lt : (w : ℕ) → addr_of w < 2 ^ 52
addr_lt w = omega arith

pub marks_lt : (w : ℕ) → marks_of w < 4
marks_lt w = omega arith

-- bits 5 and 6 ride on a leaf
pub with_marks : (h : Bool) (p f a m : ℕ) → m ≡ a * 2 ^ 5 → leaf_by h p f 0 + m ≡ leaf_by h p f a
with_marks h p f a m e = ap (λ (n : ℕ). p + rights f + huge_bit h + 0 + n) e ∙ ap (λ (n : ℕ). n + a * 2 ^ 5) (add-zero (p + rights f + huge_bit h))

-- a set of page flags, by READ, WRITE, EXECUTE and USER
pub record FlagParts (f p r x u : ℕ) : Type 0 where
  pub read : has READ f ≡ p
  pub write : has WRITE f ≡ r
  pub execute : has EXECUTE f ≡ x
  pub user : has USER f ≡ u

pub flag_parts : (f p r x u : ℕ) → p < 2 → r < 2 → x < 2 → u < 2 → f ≡ p * READ + r * WRITE + x * EXECUTE + u * USER → FlagParts f p r x u
flag_parts f p r x u hp hr hx hu e = record { read = omega arith; write = omega arith; execute = omega arith; user = omega arith }

-- a table entry, by its frame and bits 5 and 6
pub record TableParts (w m a : ℕ) : Type 0 where
  pub used : 0 < w
  pub no_leaf : bit 9 w ≡ 0
  pub present : bit 0 w ≡ 1
  pub frame : frame_of w ≡ m
  pub marks : marks_of w ≡ a

pub table_parts : (w m a : ℕ) → m < 2 ^ 40 → a < 4 → w ≡ table_word m a → TableParts w m a
table_parts w m a hm ha e = record {
  used = omega arith;
  no_leaf = omega arith;
  present = omega arith;
  frame = omega arith;
  marks = omega arith;
}

-- a leaf, by its frame x, bits 0, 1 and 2, bits 5 and 6, bit 7 and bit 63
pub record LeafParts (w x p r u a n : ℕ) : Type 0 where
  pub used : 0 < w
  pub is_leaf : bit 9 w ≡ 1
  pub frame : frame_of w ≡ x
  pub present : bit 0 w ≡ p
  pub write : bit 1 w ≡ r
  pub user : bit 2 w ≡ u
  pub no_execute : bit 63 w ≡ n
  pub marks : marks_of w ≡ a

pub leaf_parts : (w x p r u a h n : ℕ) → x < 2 ^ 40 → p < 2 → r < 2 → u < 2 → a < 4 → h < 2 → n < 2
    → w ≡ x * 4096 + (p + r * 2 + u * 4 + 512 + n * 2 ^ 63) + h * 128 + a * 32 → LeafParts w x p r u a n
leaf_parts w x p r u a h n hx hp hr hu ha hh hn e = record {
  used = omega arith;
  is_leaf = omega arith;
  frame = omega arith;
  present = omega arith;
  write = omega arith;
  user = omega arith;
  no_execute = omega arith;
  marks = omega arith;
}

-- one bit
has_lt : (d f : ℕ) → has d f < 2
has_lt d f = mod-lt (f / d) (lit< tt)

any_lt : (f : ℕ) → any_right f < 2
any_lt f = omega arith

-- a leaf that the rules write, whatever its size
pub leaf_word_lem : (huge : Bool) (x f a : ℕ) → x < 2 ^ 40 → a < 4 → LeafParts (leaf_by huge (x * 4096) f a) x (any_right f) (has WRITE f) (has USER f) a (1 - has EXECUTE f)
leaf_word_lem huge x f a hx ha = go huge
  where
    go : (h : Bool) → LeafParts (leaf_by h (x * 4096) f a) x (any_right f) (has WRITE f) (has USER f) a (1 - has EXECUTE f)
    go true = leaf_parts (leaf_by true (x * 4096) f a) x (any_right f) (has WRITE f) (has USER f) a 1 (1 - has EXECUTE f) hx (any_lt f) (has_lt WRITE f) (has_lt USER f) ha (lit< tt) (omega arith) refl
    go false = leaf_parts (leaf_by false (x * 4096) f a) x (any_right f) (has WRITE f) (has USER f) a 0 (1 - has EXECUTE f) hx (any_lt f) (has_lt WRITE f) (has_lt USER f) ha (lit< tt) (omega arith) (omega arith)

-- such a leaf shows the flags that it grants
pub not_not : (x : ℕ) → x < 2 → 1 - (1 - x) ≡ x
not_not x h = omega arith

pub leaf_flags : (w x f a : ℕ) → LeafParts w x (any_right f) (has WRITE f) (has USER f) a (1 - has EXECUTE f) → flags_of w ≡ granted f
leaf_flags w x f a q = rw (q.present, q.write, q.user, q.no_execute, not_not (has EXECUTE f) (has_lt EXECUTE f))

-- the flags that were read back, written again, give the same bits
any_again : (a b c : ℕ) → min 1 (min 1 (a + b + c) + b + c) ≡ min 1 (a + b + c)
any_again a b c = omega arith

pub again : (f : ℕ) → rights (granted f) ≡ rights f
again f =
    let g = flag_parts (granted f) (any_right f) (has WRITE f) (has EXECUTE f) (has USER f) (any_lt f) (has_lt WRITE f) (has_lt EXECUTE f) (has_lt USER f) refl in
    rw (g.read, g.write, g.execute, g.user, any_again (has READ f) (has WRITE f) (has EXECUTE f))
