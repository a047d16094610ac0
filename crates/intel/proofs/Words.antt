-- What the manual's rules make of the words that ours write, over the level.
use Prim.Native.Nat.{ℕ, zero, suc, ◌+◌, ◌-◌, ◌*◌, ◌/◌, ◌%◌, ◌^◌, ◌≤◌, ◌<◌, min}
use mathlib.Core.Path.{◌≡◌, refl, sym, ap, ◌∙◌}
use mathlib.Core.Bool.{Bool, true}
use mathlib.Core.Logic.{◌⊎◌, inl, inr}
use native.Mathlib.Omega.{arith}
use native.Mathlib.Nat.{mul_assoc}
use lib.Pow.{pow-add, shr-shr, mod-pow-add, mod-mod-pow}
use lib.Dec.{ltb, lit<}
use borrow.Author.Tests.{lt-ltb}
use Rattle.paging.specs.Choice.{pick}
use Rattle.paging.specs.Level.{span, index}
use Rattle.paging.proofs.Cases.{same?}
use Rattle.paging.proofs.Formats.{IsLeaf, IsTable}
use Rattle.common.specs.Flags.{WRITE, EXECUTE, USER, has}
use Rattle.x86_64.specs.Entry.{bit, frame_of, addr_of, marks_of, flags_of, is_present, table_word, any_right, leaf_by, x86}
use Rattle.x86_64.proofs.Format.{lawful}
use Rattle.intel.specs.Intel.{bits, Rights, Answer, fault, maps, everything, narrowed, page, Bit7, reserved, page_size, pat, present, used}
use Rattle.intel.specs.Agrees.{rights_of}

-- what bit 7 is in a table of level l
abbrev pub bit7_at : ℕ → Bit7
bit7_at zero = pat
bit7_at (suc zero) = page_size
bit7_at (suc (suc zero)) = page_size
bit7_at (suc (suc (suc l))) = reserved

-- the bits that select an entry are its index
pub selects : (l v : ℕ) → bits (20 + 9 * l) (12 + 9 * l) v ≡ index l v
selects l v = ap (λ (n : ℕ). v / span l % 2 ^ n) nine
  where
    nine : 20 + 9 * l + 1 - (12 + 9 * l) ≡ 9
    nine = omega arith

-- the bits of the linear address below the page's
offset : (l v : ℕ) → bits (12 + 9 * l - 1) 0 v ≡ v % span l
offset l v = ap (λ (n : ℕ). v / 1 % 2 ^ n) whole ∙ ap (λ (n : ℕ). n % span l) one
  where
    whole : 12 + 9 * l - 1 + 1 - 0 ≡ 12 + 9 * l
    whole = omega arith

    one : v / 1 ≡ v
    one = omega arith

-- a word e whose address is aligned to level l
module _ (l e : ℕ) (h : l ≤ 2) (a : addr_of e % span l ≡ 0) where
  forty : 40 - 9 * l + 9 * l ≡ 40
  forty = omega arith

  turned : 12 + 9 * l ≡ 9 * l + 12
  turned = omega arith

  -- bits 12 and up, as far as the page's address begins, are clear
  clear : e / 2 ^ 12 % 2 ^ (9 * l) ≡ 0
  clear = sym (mod-mod-pow (e / 2 ^ 12) (40 - 9 * l) (9 * l)) ∙ ap (λ (n : ℕ). e / 2 ^ 12 % 2 ^ n % 2 ^ (9 * l)) forty ∙ frame
    where
      by : addr_of e % span l ≡ addr_of e / 2 ^ 12 % 2 ^ (9 * l) * 2 ^ 12 + addr_of e % 2 ^ 12
      by = ap (λ (n : ℕ). addr_of e % 2 ^ n) turned ∙ mod-pow-add (addr_of e) (9 * l) 12

      back : addr_of e / 2 ^ 12 ≡ frame_of e
      back = omega arith

      frame : frame_of e % 2 ^ (9 * l) ≡ 0
      frame = ap (λ (n : ℕ). n % 2 ^ (9 * l)) (sym back) ∙ omega (arith, by, a)

  -- the manual's address is ours
  address : bits 51 (12 + 9 * l) e * 2 ^ (12 + 9 * l) ≡ addr_of e
  address =
      ap (λ (n : ℕ). n * 2 ^ (12 + 9 * l)) high
      ∙ ap (λ (n : ℕ). x * 2 ^ n) turned
      ∙ ap (λ (n : ℕ). x * n) (pow-add 2 (9 * l) 12)
      ∙ sym (mul_assoc x (2 ^ (9 * l)) (2 ^ 12))
      ∙ ap (λ (n : ℕ). n * 2 ^ 12) low
    where
      x : ℕ
      x = e / 2 ^ 12 / 2 ^ (9 * l) % 2 ^ (40 - 9 * l)

      width : 51 + 1 - (12 + 9 * l) ≡ 40 - 9 * l
      width = omega arith

      high : bits 51 (12 + 9 * l) e ≡ x
      high = ap (λ (n : ℕ). e / span l % 2 ^ n) width ∙ ap (λ (n : ℕ). n % 2 ^ (40 - 9 * l)) (sym (shr-shr e 12 (9 * l)))

      whole : e / 2 ^ 12 % 2 ^ (40 - 9 * l + 9 * l) ≡ frame_of e
      whole = ap (λ (n : ℕ). e / 2 ^ 12 % 2 ^ n) forty

      low : x * 2 ^ (9 * l) ≡ frame_of e
      low = omega (arith, mod-pow-add (e / 2 ^ 12) (40 - 9 * l) (9 * l), whole, clear)

  -- and the bits that the manual reserves below it are clear
  unreserved : 0 < l → bits (12 + 9 * l - 1) 13 e ≡ 0
  unreserved z =
      ap (λ (n : ℕ). e / 2 ^ 13 % 2 ^ n) width
      ∙ ap (λ (n : ℕ). n % 2 ^ (9 * l - 1)) (sym (shr-shr e 12 1))
      ∙ omega (arith, mod-pow-add (e / 2 ^ 12) (9 * l - 1) 1, whole)
    where
      width : 12 + 9 * l - 1 + 1 - 13 ≡ 9 * l - 1
      width = omega arith

      one : 9 * l - 1 + 1 ≡ 9 * l
      one = omega arith

      whole : e / 2 ^ 12 % 2 ^ (9 * l - 1 + 1) ≡ 0
      whole = ap (λ (n : ℕ). e / 2 ^ 12 % 2 ^ n) one ∙ clear

-- 0 or 1, after all that is allowed
after_all : (x : ℕ) → x < 2 → min 1 x ≡ x
after_all x h = omega arith

below_two : (x : ℕ) → x % 2 < 2
below_two x = omega arith

leaf_rights : (e : ℕ) → narrowed everything e ≡ rights_of e
leaf_rights e = rw (
  after_all (bit 1 e) (below_two (e / 2 ^ 1)),
  after_all (bit 2 e) (below_two (e / 2 ^ 2)),
  after_all (1 - bit 63 e) (omega arith),
)

-- bit 7 of a large leaf
seven_parts : (w x p r u a n : ℕ) → p < 2 → r < 2 → u < 2 → a < 4 → w ≡ x * 4096 + (p + r * 2 + u * 4 + 512 + n * 2 ^ 63) + 128 + a * 32 → bit 7 w ≡ 1
seven_parts w x p r u a n hp hr hu ha e = omega arith

seven : (x f a : ℕ) → a < 4 → bit 7 (leaf_by true (x * 4096) f a) ≡ 1
seven x f a h =
    seven_parts (leaf_by true (x * 4096) f a) x (any_right f) (has WRITE f) (has USER f) a (1 - has EXECUTE f)
    (omega arith) (below_two (f / WRITE)) (below_two (f / USER)) h refl

-- the page that a leaf of level l maps
module _ (l e v : ℕ) (i : IsLeaf x86 lawful l e) where
  abbrev Page : Answer
  Page = maps (addr_of e + v % span l) (span l) (rights_of e)

  leaf_page : page (12 + 9 * l) e v (narrowed everything e) ≡ Page
  unfolding x86
  leaf_page = rw (address l e i.low i.aligned.0, offset l v, leaf_rights e)

  large : 0 < l → bit 7 e ≡ 1
  unfolding x86
  large z =
      let w : leaf_by (ltb 0 l) (addr_of e) (flags_of e) (marks_of e) ≡ e = i.same in
      ap (bit 7) (sym w)
      ∙ ap (λ (h : Bool). bit 7 (leaf_by h (addr_of e) (flags_of e) (marks_of e))) (lt-ltb 0 l z)
      ∙ seven (frame_of e) (flags_of e) (marks_of e) (omega arith)

  large_page : (next : Answer) → 0 < l → present page_size (12 + 9 * l) e v (narrowed everything e) next ≡ Page
  unfolding x86
  large_page next z = rw (large z, unreserved l e i.low i.aligned.0 z) leaf_page

leaf_present : (l e v : ℕ) (next : Answer) → IsLeaf x86 lawful l e
    → present (bit7_at l) (12 + 9 * l) e v (narrowed everything e) next ≡ maps (addr_of e + v % span l) (span l) (rights_of e)
unfolding x86
leaf_present zero e v next i = leaf_page 0 e v i
leaf_present (suc zero) e v next i = large_page 1 e v i next (lit< tt)
leaf_present (suc (suc zero)) e v next i = large_page 2 e v i next (lit< tt)
leaf_present (suc (suc (suc l))) e v next i = absurd (omega (arith, i.low))

-- the use of a leaf
pub used_leaf : (l e v : ℕ) (next : ℕ → Rights → Answer) → IsLeaf x86 lawful l e
    → used (bit7_at l) (12 + 9 * l) e v everything next ≡ pick (is_present e) (maps (addr_of e + v % span l) (span l) (rights_of e)) fault
used_leaf l e v next i = go (same? (bit 0 e) 0)
  where
    go : (bit 0 e ≡ 0) ⊎ (bit 0 e ≡ 0 → ⊥)
        → used (bit7_at l) (12 + 9 * l) e v everything next ≡ pick (is_present e) (maps (addr_of e + v % span l) (span l) (rights_of e)) fault
    go (inl z) = rw z
    go (inr z) =
        let o : bit 0 e ≡ 1 = omega arith in
        rw o (leaf_present l e v (next (bits 51 12 e * 2 ^ 12) (narrowed everything e)) i)

-- the use of a table entry
record TableBits (e m : ℕ) : Type 0 where
  present : bit 0 e ≡ 1
  write : bit 1 e ≡ 1
  user : bit 2 e ≡ 1
  small : bit 7 e ≡ 0
  execute : bit 63 e ≡ 0
  frame : bits 51 12 e ≡ m

table_bits : (e m a : ℕ) → m < 2 ^ 40 → a < 4 → table_word m a ≡ e → TableBits e m
table_bits e m a hm ha q = record {
  present = omega arith;
  write = omega arith;
  user = omega arith;
  small = omega arith;
  execute = omega arith;
  frame = omega arith;
}

table_present : (l e m v : ℕ) (r : Rights) (next : Answer) → 0 < l → TableBits e m → present (bit7_at l) (12 + 9 * l) e v r next ≡ next
table_present zero e m v r next z b = absurd (omega arith)
table_present (suc zero) e m v r next z b = rw b.small
table_present (suc (suc zero)) e m v r next z b = rw b.small
table_present (suc (suc (suc l))) e m v r next z b = rw b.small

pub used_table : (l e m v : ℕ) (next : ℕ → Rights → Answer) → 0 < l → m * 4096 < 2 ^ 52 → IsTable x86 lawful l e m
    → used (bit7_at l) (12 + 9 * l) e v everything next ≡ next (m * 4096) everything
unfolding x86
used_table l e m v next z h i =
    let b = table_bits e m (marks_of e) (omega arith) (omega arith) i.same in
    rw (table_present l e m v (narrowed everything e) (next (bits 51 12 e * 2 ^ 12) (narrowed everything e)) z b, b.present, b.write, b.user, b.execute, b.frame)
