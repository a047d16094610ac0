-- x86-64 entries meet what walking and splitting need of a format.
use Rattle.std.proofs.Common.{ℕ, ◌-◌, ◌*◌, ◌/◌, ◌%◌, ◌^◌, ◌≤◌, ◌<◌, ◌≡◌, refl, ap, ◌∙◌, subst, Bool, true, false, ◌&&◌, arith, eqb, ltb, leb, lit≤, eq-eqb, ne_eqb, le-leb, lt-ltb, leb-true, ltb-true, eqb-true}
use Rattle.std.proofs.lemmas.Bool.{lt-leb, eqb-false}
use Rattle.paging.specs.Choice.{pick, Decided}
use Rattle.paging.specs.Level.{span}
use Rattle.paging.specs.Format.{nothing, leaf, table, LeafReads, Lawful, Entry, written, Formats}
use Rattle.paging.proofs.Cases.{both}
use Rattle.paging.proofs.Levels.{page_of}
use Rattle.paging.proofs.Formats.{Is, is, formats}
use Rattle.common.specs.Flags.{WRITE, EXECUTE, USER, has}
use Rattle.common.specs.Page.{level_of, aligned, is_huge}
use Rattle.common.specs.declared.vm.PageSize.{PageSize}
use Rattle.common.specs.declared.vm.PageSize.TheVariants.{Size4K, Size2M, Size1G}
use Rattle.x86_64.specs.Entry.{
  bit,
  frame_of,
  addr_of,
  marks_of,
  flags_of,
  is_unused,
  is_leaf,
  kind_at,
  table_word,
  any_right,
  leaf_by,
  granted,
  x86,
}
use Rattle.x86_64.proofs.Words.{addr_lt, marks_lt, table_parts, LeafParts, leaf_word_lem, leaf_flags, again}

-- a word by its tests
kind_leaf : (l w : ℕ) → 0 < w → bit 9 w ≡ 1 → l ≤ 2 → kind_at l w ≡ leaf
kind_leaf l w u b h = rw (ne_eqb w 0 (λ e. omega arith), eq-eqb (bit 9 w) 1 b, le-leb l 2 h)

kind_table : (l w : ℕ) → 0 < w → bit 9 w ≡ 0 → 0 < l → l ≤ 3 → kind_at l w ≡ table (frame_of w)
kind_table l w u b z h = rw (ne_eqb w 0 (λ e. omega arith), b, lt-ltb 0 l z, le-leb l 3 h)

-- and back
leaf_kind : (l w : ℕ) → kind_at l w ≡ leaf → l ≤ 2
leaf_kind l w = go (eqb w 0) (eqb (bit 9 w) 1) (leb l 2) refl (ltb 0 l && leb l 3)
  where
    go : (a b c : Bool) → leb l 2 ≡ c → (d : Bool) → pick a nothing (pick b (pick c leaf nothing) (pick d (table (frame_of w)) nothing)) ≡ leaf → l ≤ 2
    go true b c e d k = cc
    go false true true e d k = leb-true l 2 e
    go false true false e d k = cc
    go false false c e true k = cc
    go false false c e false k = cc

table_kind : (l w m : ℕ) → kind_at l w ≡ table m → (0 < l) × (l ≤ 3) × (m * 4096 < 2 ^ 52)
table_kind l w m = go (eqb w 0) (eqb (bit 9 w) 1) (leb l 2) (ltb 0 l && leb l 3) refl
  where
    go : (a b c d : Bool) → ltb 0 l && leb l 3 ≡ d → pick a nothing (pick b (pick c leaf nothing) (pick d (table (frame_of w)) nothing)) ≡ table m → (0 < l) × (l ≤ 3) × (m * 4096 < 2 ^ 52)
    go true b c d e k = cc
    go false true true d e k = cc
    go false true false d e k = cc
    go false false c true e k =
        let t = both (ltb 0 l) (leb l 3) e in
        let f : frame_of w ≡ m = cc in
        (ltb-true 0 l t.0, leb-true l 3 t.1, omega (arith, addr_lt w))
    go false false c false e k = cc

-- an aligned address is that of a frame
reads : (l p f a : ℕ) → l ≤ 2 → (p % span l ≡ 0) × (p < 2 ^ 52) → a < 4 → LeafReads x86 l (leaf_by (ltb 0 l) p f a) p (granted f) a
unfolding x86
reads l p f a h g b = rw (page_of l p g.0) (back (p / 4096) (omega (arith, g.1)))
  where
    back : (x : ℕ) → x < 2 ^ 40 → LeafReads x86 l (leaf_by (ltb 0 l) (x * 4096) f a) (x * 4096) (granted f) a
    back x hx =
        let w = leaf_by (ltb 0 l) (x * 4096) f a in
        let q : LeafParts w x (any_right f) (has WRITE f) (has USER f) a (1 - has EXECUTE f) = leaf_word_lem (ltb 0 l) x f a hx b in
        record {
          kind = kind_leaf l w q.used q.is_leaf h;
          addr = ap (λ (n : ℕ). n * 4096) q.frame;
          flags = leaf_flags w x f a q;
          marks = q.marks;
        }

points : (l m a : ℕ) → 0 < l → l ≤ 3 → m * 4096 < 2 ^ 52 → a < 4 → (kind_at l (table_word m a) ≡ table m) × (x86.marks (table_word m a) ≡ a)
unfolding x86
points l m a z h s b =
    let q = table_parts (table_word m a) m a (omega arith) b refl in
    (kind_table l (table_word m a) q.used q.no_leaf z h ∙ ap table q.frame, q.marks)

pub lawful : Lawful x86
unfolding x86
lawful = record {
  low = lit≤ tt;
  room = lit≤ tt;
  blank = λ l. refl;
  reads = reads;
  points = points;
  again = λ l p f a. rw (again f);
  leaf_low = leaf_kind;
  table_in = table_kind;
  addr_lt = addr_lt;
  marks_lt = marks_lt;
}

pub x86_formats : Formats x86
x86_formats = formats x86 lawful

-- what an entry is, by its tests
pub leaf_entry : (l w : ℕ) → Entry x86 l w → is_leaf w ≡ true → x86.kind l w ≡ leaf
unfolding x86
leaf_entry l w x b = go (leb l 2) refl
  where
    used : is_unused w ≡ false
    used = ne_eqb w 0 (λ e. omega (arith, eqb-true (bit 9 w) 1 b))

    go : (d : Bool) → leb l 2 ≡ d → kind_at l w ≡ leaf
    go true e = rw (used, b, e)
    go false e =
        let k : kind_at l w ≡ nothing = rw (used, b, e) in
        absurd (eqb-false w 0 used (subst (Is x86 lawful l w) k (is x86 lawful l w x)))

pub unused_entry : (l w : ℕ) → is_unused w ≡ true → x86.kind l w ≡ nothing
unfolding x86
unused_entry l w u = rw u

pub table_entry : (l w : ℕ) → Entry x86 l w → is_unused w ≡ false → is_leaf w ≡ false → x86.kind l w ≡ table (frame_of w)
unfolding x86
table_entry l w x u b = go (ltb 0 l && leb l 3) refl
  where
    go : (d : Bool) → ltb 0 l && leb l 3 ≡ d → kind_at l w ≡ table (frame_of w)
    go true e = rw (u, b, e)
    go false e =
        let k : kind_at l w ≡ nothing = rw (u, b, e) in
        absurd (eqb-false w 0 u (subst (Is x86 lawful l w) k (is x86 lawful l w x)))

-- The answer of `is_entry` by its tests: each way the word can go, and what `written` computes there.
pub decides : (l w : ℕ) {r : Bool} → written x86 l w ≡ r → Decided (Entry x86 l w) r
decides l w e = subst (λ (t : Bool). Decided (Entry x86 l w) t) e (x86_formats.decided l w)

pub when_unused : (l w : ℕ) → is_unused w ≡ true → written x86 l w ≡ true
unfolding written x86
when_unused l w u = rw u

module _ (l w : ℕ) (u : is_unused w ≡ false) where
  module _ (b : is_leaf w ≡ true) where
    pub when_leaf : (s : PageSize) → l ≡ level_of s
        → written x86 l w ≡ aligned s (addr_of w) && eqb (leaf_by (is_huge s) (addr_of w) (flags_of w) (marks_of w)) w
    unfolding written x86
    when_leaf Size4K e = rw (e, u, b)
    when_leaf Size2M e = rw (e, u, b)
    when_leaf Size1G e = rw (e, u, b)

    pub when_high : 2 < l → written x86 l w ≡ false
    unfolding written x86
    when_high h = rw (u, b, lt-leb l 2 h)

  module _ (b : is_leaf w ≡ false) where
    pub when_table : 0 < l → l ≤ 3 → written x86 l w ≡ eqb (table_word (frame_of w) (marks_of w)) w
    unfolding written x86
    when_table z h = rw (u, b, lt-ltb 0 l z, le-leb l 3 h, lt-ltb (marks_of w) 4 (marks_lt w))

    pub when_low : l ≡ 0 → written x86 l w ≡ false
    unfolding written x86
    when_low e = rw (e, u, b)

    pub when_above : 3 < l → written x86 l w ≡ false
    unfolding written x86
    when_above h = rw (u, b, lt-leb l 3 h, lt-ltb 0 l (omega arith))
