-- What is proved of entry words, by page size.
use Rattle.std.proofs.Common.{ℕ, ◌+◌, ◌*◌, ◌/◌, ◌%◌, ◌^◌, ◌<◌, min, ◌≡◌, refl, sym, ap, ◌∙◌, Bool, true, false, arith, eqb, ltb, eq-eqb, ne_eqb, eqb-true}
use Rattle.paging.specs.Format.{Entry}
use Rattle.paging.proofs.Levels.{page_of}
use Rattle.common.specs.Flags.{READ, WRITE, EXECUTE, USER, HUGE_PAGE, has, of_five, known_page}
use Rattle.common.specs.Page.{level_of, size_of, is_huge}
use Rattle.common.specs.declared.vm.PageSize.{PageSize}
use Rattle.common.specs.declared.vm.PageSize.TheVariants.{Size4K, Size2M, Size1G}
use Rattle.common.proofs.Pages.{size_span}
use Rattle.x86_64.specs.Entry.{bit, frame_of, addr_of, marks_of, flags_of, is_unused, is_leaf, granted, leaf_by, table_word, x86}
use Rattle.x86_64.specs.ReadBack.{ShowsLeaf, ShowsTable, ReadBack}
use Rattle.x86_64.proofs.Words.{table_parts, leaf_word_lem, leaf_flags, with_marks}
use Rattle.x86_64.proofs.Format.{lawful, x86_formats, leaf_entry, table_entry}

-- bit 7 marks the sizes above the lowest level
pub huge_level : (s : PageSize) → ltb 0 (level_of s) ≡ is_huge s
huge_level Size4K = refl
huge_level Size2M = refl
huge_level Size1G = refl

shows_leaf : (s : PageSize) (p f a : ℕ) → p % size_of s ≡ 0 → p < 2 ^ 52 → a < 4 → ShowsLeaf (leaf_by (is_huge s) p f a) p f a
shows_leaf s p f a e h b = rw (page_of (level_of s) p (rw (size_span s) at e)) (back (p / 4096) (omega arith))
  where
    back : (x : ℕ) → x < 2 ^ 40 → ShowsLeaf (leaf_by (is_huge s) (x * 4096) f a) (x * 4096) f a
    back x hx =
        let w = leaf_by (is_huge s) (x * 4096) f a in
        let q = leaf_word_lem (is_huge s) x f a hx b in
        record {
          used = ne_eqb w 0 (λ z. omega (arith, q.used));
          leaf = eq-eqb (bit 9 w) 1 q.is_leaf;
          present = ap (λ (n : ℕ). eqb n 1) q.present;
          addr = ap (λ (n : ℕ). n * 4096) q.frame;
          flags = leaf_flags w x f a q;
          marks = q.marks;
        }

shows_table : (m a : ℕ) → m < 2 ^ 40 → a < 4 → ShowsTable (table_word m a) m a
shows_table m a h b =
    let w = table_word m a in
    let q = table_parts w m a h b refl in
    record {
      used = ne_eqb w 0 (λ z. omega (arith, q.used));
      leaf = ne_eqb (bit 9 w) 1 (λ z. omega (arith, q.no_leaf));
      present = eq-eqb (bit 0 w) 1 q.present;
      addr = ap (λ (n : ℕ). n * 4096) q.frame;
      marks = q.marks;
    }

five_given : (f r w x u h : ℕ) → r * READ + w * WRITE + x * EXECUTE + u * USER + h * HUGE_PAGE ≡ f → r ≡ 1
    → min 1 (r + w + x) * READ + w * WRITE + x * EXECUTE + u * USER + h * HUGE_PAGE ≡ f
five_given f r w x u h e o = omega arith

given : (f : ℕ) → known_page f ≡ true → has READ f ≡ 1 → granted f + has HUGE_PAGE f * HUGE_PAGE ≡ f
given f k o = five_given f (has READ f) (has WRITE f) (has EXECUTE f) (has USER f) (has HUGE_PAGE f) (eqb-true (of_five f) f k) o

leaf_again : (s : PageSize) (w : ℕ) → Entry x86 (level_of s) w → is_leaf w ≡ true → leaf_by (is_huge s) (addr_of w) (flags_of w) 0 + marks_of w * 2 ^ 5 ≡ w
unfolding x86
leaf_again s w x b =
    with_marks (is_huge s) (addr_of w) (flags_of w) (marks_of w) (marks_of w * 2 ^ 5) refl
    ∙ ap (λ (h : Bool). leaf_by h (addr_of w) (flags_of w) (marks_of w)) (sym (huge_level s))
    ∙ x86_formats.leaf_again (level_of s) w x (leaf_entry (level_of s) w x b)

table_again : (l w : ℕ) → Entry x86 l w → is_unused w ≡ false → is_leaf w ≡ false → table_word (frame_of w) 0 + marks_of w * 2 ^ 5 ≡ w
unfolding x86
table_again l w x u b = omega (arith, x86_formats.table_again l w (frame_of w) x (table_entry l w x u b))

pub read_back : ReadBack
read_back = record {
  leaf = shows_leaf;
  table = shows_table;
  given = given;
  leaf_again = leaf_again;
  table_again = table_again;
  lawful = lawful;
  formats = x86_formats;
}
