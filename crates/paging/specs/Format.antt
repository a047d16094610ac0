-- Entry formats: what walking and splitting need of one, in one place. Document 01, 'Entries and translation' and 'Well formed',
-- over the format; x86-64 is the one that stands today (crate x86_64). Accessed and dirty bits ride along as one number, the marks.
--
-- In this order: what a word can be, a format, the laws that it has to meet, the words that its rules write, the test for
-- them, the pieces of a split leaf, and the theorems that hold of every format that meets the laws.
use Rattle.std.specs.Prelude.{ℕ, suc, ◌+◌, ◌*◌, ◌%◌, ◌^◌, ◌≤◌, ◌<◌, ◌≡◌, Bool, ◌&&◌, eqb, ltb}
use Rattle.paging.specs.Choice.{Decided}
use Rattle.paging.specs.Level.{span, index}

-- what a word is at its level: no entry, a leaf, or a table, by the number of its frame
pub data Kind : Type 0 where
  nothing : Kind
  leaf : Kind
  table : ℕ → Kind

abbrev pub by_kind : {A : Type 0} → Kind → A → A → (ℕ → A) → A
by_kind nothing a b c = a
by_kind leaf a b c = b
by_kind (table m) a b c = c m

pub record Format : Type 0 where
  -- the level of the root, the highest level of a leaf, and the bits of a physical address
  pub top : ℕ
  pub leaf_top : ℕ
  pub physical : ℕ
  -- reading a word: its kind at a level; of a leaf the address, the page flags, and the accessed and dirty bits
  pub kind : ℕ → ℕ → Kind
  pub addr : ℕ → ℕ
  pub flags : ℕ → ℕ
  pub marks : ℕ → ℕ
  -- writing: a leaf of a level from address, page flags and marks; a table entry from frame number and marks
  pub leaf_word : ℕ → ℕ → ℕ → ℕ → ℕ
  pub table_word : ℕ → ℕ → ℕ
  -- the page flags that are read back where these were written
  pub granted : ℕ → ℕ
  -- the marks of a table entry are below this: 4 where the processor may set both there, 1 where it sets none
  pub table_marks : ℕ

-- a word that reads back as a leaf of address p, flags f and marks a
pub record LeafReads (F : Format) (l w p f a : ℕ) : Type 0 where
  pub kind : F.kind l w ≡ leaf
  pub addr : F.addr w ≡ p
  pub flags : F.flags w ≡ f
  pub marks : F.marks w ≡ a

-- an address that a leaf of level l can have
abbrev pub Aligned : Format → ℕ → ℕ → Type 0
Aligned F l p = (p % span l ≡ 0) × (p < 2 ^ F.physical)

-- what walking and splitting need
pub record Lawful (F : Format) : Type 0 where
  -- a leaf stands in a table, and the largest has an address
  pub low : F.leaf_top ≤ F.top
  pub room : 12 + 9 * F.leaf_top ≤ F.physical
  -- the words that the rules write read back as what was written
  pub blank : (l : ℕ) → F.kind l 0 ≡ nothing
  pub reads : (l p f a : ℕ) → l ≤ F.leaf_top → Aligned F l p → a < 4 → LeafReads F l (F.leaf_word l p f a) p (F.granted f) a
  pub points : (l m a : ℕ) → 0 < l → l ≤ F.top → m * 4096 < 2 ^ F.physical → a < F.table_marks
      → (F.kind l (F.table_word m a) ≡ table m) × (F.marks (F.table_word m a) ≡ a)
  -- the flags that were read back, written again, give the same word
  pub again : (l p f a : ℕ) → F.leaf_word l p (F.granted f) a ≡ F.leaf_word l p f a
  -- the bounds of whatever is read
  pub leaf_low : (l w : ℕ) → F.kind l w ≡ leaf → l ≤ F.leaf_top
  pub table_in : (l w m : ℕ) → F.kind l w ≡ table m → (0 < l) × (l ≤ F.top) × (m * 4096 < 2 ^ F.physical)
  pub addr_lt : (w : ℕ) → F.addr w < 2 ^ F.physical
  pub marks_lt : (w : ℕ) → F.marks w < 4

-- "each leaf and each table entry is a word that the rules above write", at its level, "aligned to their size"; "no other non-zero entries"
pub data Entry (F : Format) (l w : ℕ) : Type 0 where
  blank : w ≡ 0 → Entry F l w
  pointer : (m a : ℕ) → 0 < l → l ≤ F.top → m * 4096 < 2 ^ F.physical → a < F.table_marks → w ≡ F.table_word m a → Entry F l w
  page : (p f a : ℕ) → l ≤ F.leaf_top → Aligned F l p → a < 4 → w ≡ F.leaf_word l p f a → Entry F l w

-- the test for such a word: what was read, written again, is the word
unfoldable pub written : Format → ℕ → ℕ → Bool
written F l w =
    by_kind (F.kind l w) (eqb w 0)
    (eqb (F.addr w % span l) 0 && eqb (F.leaf_word l (F.addr w) (F.flags w) (F.marks w)) w)
    (λ m. ltb (F.marks w) F.table_marks && eqb (F.table_word m (F.marks w)) w)

-- piece i of the leaf w of the level above l, with the marks a: "give each kept address its own frame or do not keep it" (README)
abbrev pub piece : Format → ℕ → ℕ → ℕ → ℕ → ℕ
piece F l w a i = F.leaf_word l (F.addr w + i * span l) (F.flags w) a

-- what is proved of every format that meets the laws: `FormatsHold`, below
pub record Formats (F : Format) : Type 0 where
  -- whether the rules write a word is decided, both ways
  pub decided : (l w : ℕ) → Decided (Entry F l w) (written F l w)
  -- reading an entry and writing again what was read gives the same word
  pub leaf_again : (l w : ℕ) → Entry F l w → F.kind l w ≡ leaf → F.leaf_word l (F.addr w) (F.flags w) (F.marks w) ≡ w
  pub table_again : (l w m : ℕ) → Entry F l w → F.kind l w ≡ table m → F.table_word m (F.marks w) ≡ w
  -- a piece is a leaf of its own part of the address and of the whole's flags
  pub piece_reads : (l w a i : ℕ) → Entry F (suc l) w → F.kind (suc l) w ≡ leaf → a < 4 → i < 512
      → LeafReads F l (piece F l w a i) (F.addr w + i * span l) (F.flags w) a
  pub piece_entry : (l w a i : ℕ) → Entry F (suc l) w → F.kind (suc l) w ≡ leaf → a < 4 → i < 512 → Entry F l (piece F l w a i)
  -- every address has in its piece the frame that it had in the whole
  pub own_frame : (l w a v : ℕ) → Entry F (suc l) w → F.kind (suc l) w ≡ leaf → a < 4
      → F.addr (piece F l w a (index l v)) + v % span l ≡ F.addr w + v % span (suc l)

pub record FormatsHold : Type 0 where
  pub holds : (F : Format) → Lawful F → Formats F
