-- What is proved of entry words: "reading back" of document 01, 'Entries and translation', for every set of flags, address and size.
use Rattle.std.specs.Prelude.{ℕ, ◌+◌, ◌*◌, ◌%◌, ◌^◌, ◌<◌, ◌≡◌, true, false, eqb}
use Rattle.paging.specs.Format.{Entry, Lawful, Formats}
use Rattle.common.specs.Flags.{READ, HUGE_PAGE, has, known_page}
use Rattle.common.specs.Page.{level_of, size_of, is_huge}
use Rattle.common.specs.declared.vm.PageSize.{PageSize}
use Rattle.x86_64.specs.Entry.{frame_of, addr_of, marks_of, flags_of, is_unused, is_present, is_leaf, any_right, granted, leaf_by, table_word, x86}

-- a word that shows a leaf of address p, with what the page flags f grant, and a in bits 5 and 6
pub record ShowsLeaf (w p f a : ℕ) : Type 0 where
  pub used : is_unused w ≡ false
  pub leaf : is_leaf w ≡ true
  pub present : is_present w ≡ eqb (any_right f) 1
  pub addr : addr_of w ≡ p
  pub flags : flags_of w ≡ granted f
  pub marks : marks_of w ≡ a

-- a word that shows a table in frame m, with a in bits 5 and 6
pub record ShowsTable (w m a : ℕ) : Type 0 where
  pub used : is_unused w ≡ false
  pub leaf : is_leaf w ≡ false
  pub present : is_present w ≡ true
  pub addr : addr_of w ≡ m * 4096
  pub marks : marks_of w ≡ a

pub record ReadBack : Type 0 where
  -- reading back a word that the rules write gives what was written
  pub leaf : (s : PageSize) (p f a : ℕ) → p % size_of s ≡ 0 → p < 2 ^ 52 → a < 4 → ShowsLeaf (leaf_by (is_huge s) p f a) p f a
  pub table : (m a : ℕ) → m < 2 ^ 40 → a < 4 → ShowsTable (table_word m a) m a
  -- known flags with READ come back as they were given, HUGE_PAGE aside
  pub given : (f : ℕ) → known_page f ≡ true → has READ f ≡ 1 → granted f + has HUGE_PAGE f * HUGE_PAGE ≡ f
  -- reading and writing again gives the same word, bits 5 and 6 aside
  pub leaf_again : (s : PageSize) (w : ℕ) → Entry x86 (level_of s) w → is_leaf w ≡ true
      → leaf_by (is_huge s) (addr_of w) (flags_of w) 0 + marks_of w * 2 ^ 5 ≡ w
  pub table_again : (l w : ℕ) → Entry x86 l w → is_unused w ≡ false → is_leaf w ≡ false → table_word (frame_of w) 0 + marks_of w * 2 ^ 5 ≡ w
  -- the words are those of a format, so that whatever holds of formats holds of them
  pub lawful : Lawful x86
  pub formats : Formats x86
