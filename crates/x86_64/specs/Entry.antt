-- Entry words on x86-64. States document 01, 'Entries and translation', sentence by sentence, and gathers them as one format.
use Rattle.std.specs.Prelude.{ℕ, ◌+◌, ◌-◌, ◌*◌, ◌/◌, ◌%◌, ◌^◌, min, Bool, ◌&&◌, eqb, ltb, leb}
use Rattle.paging.specs.Choice.{pick}
use Rattle.paging.specs.Format.{Kind, nothing, leaf, table, Format}
use Rattle.common.specs.Flags.{READ, WRITE, EXECUTE, USER, has}

-- bit n of a word
abbrev pub bit : ℕ → ℕ → ℕ
bit n w = w / 2 ^ n % 2

-- "Address bits are 51–12": the number of a frame, and its address
abbrev pub frame_of : ℕ → ℕ
frame_of w = w / 2 ^ 12 % 2 ^ 40

abbrev pub addr_of : ℕ → ℕ
addr_of w = frame_of w * 4096

-- "The processor may set bits 5 and 6"
abbrev pub marks_of : ℕ → ℕ
marks_of w = w / 2 ^ 5 % 4

-- "A table entry is the address with bits 0, 1, 2"; m is the number of the frame, a what stands in bits 5 and 6
abbrev pub table_word : ℕ → ℕ → ℕ
table_word m a = m * 4096 + 7 + a * 2 ^ 5

-- "any of READ, WRITE, EXECUTE is given"
abbrev pub any_right : ℕ → ℕ
any_right f = min 1 (has READ f + has WRITE f + has EXECUTE f)

-- "In a leaf, bit 0 is set when any of READ, WRITE, EXECUTE is given; bit 1 is WRITE, bit 2 USER, bit 63 is not EXECUTE; ..
-- bit 9, the manual's for software, is set in every leaf."
abbrev pub rights : ℕ → ℕ
rights f = any_right f + has WRITE f * 2 ^ 1 + has USER f * 2 ^ 2 + 2 ^ 9 + (1 - has EXECUTE f) * 2 ^ 63

-- "bit 7 marks 2 MiB and 1 GiB leaves"
abbrev pub huge_bit : Bool → ℕ
huge_bit huge = pick huge (2 ^ 7) 0

-- p is the address, f the page flags, a what stands in bits 5 and 6
abbrev pub leaf_by : Bool → ℕ → ℕ → ℕ → ℕ
leaf_by huge p f a = p + rights f + huge_bit huge + a * 2 ^ 5

-- "Reading back, READ is bit 0, and HUGE_PAGE is never returned."
abbrev pub flags_of : ℕ → ℕ
flags_of w = bit 0 w * READ + bit 1 w * WRITE + (1 - bit 63 w) * EXECUTE + bit 2 w * USER

-- so that READ comes with any right, and each other right that was given
abbrev pub granted : ℕ → ℕ
granted f = any_right f * READ + has WRITE f * WRITE + has EXECUTE f * EXECUTE + has USER f * USER

abbrev pub is_unused : ℕ → Bool
is_unused w = eqb w 0

abbrev pub is_present : ℕ → Bool
is_present w = eqb (bit 0 w) 1

-- by the software bit, whatever the rights are
abbrev pub is_leaf : ℕ → Bool
is_leaf w = eqb (bit 9 w) 1

-- "leaves stand at the three lower levels", table entries "above the lowest level"
abbrev pub kind_at : ℕ → ℕ → Kind
kind_at l w =
    pick (is_unused w) nothing
    (pick (is_leaf w) (pick (leb l 2) leaf nothing)
    (pick (ltb 0 l && leb l 3) (table (frame_of w)) nothing))

unfoldable pub x86 : Format
x86 = record {
  top = 3;
  leaf_top = 2;
  physical = 52;
  kind = kind_at;
  addr = addr_of;
  flags = flags_of;
  marks = marks_of;
  leaf_word = λ l p f a. leaf_by (ltb 0 l) p f a;
  table_word = table_word;
  granted = granted;
  table_marks = 4;
}
