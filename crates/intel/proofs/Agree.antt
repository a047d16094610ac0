-- On a well-formed table the processor's translation is what a walk shows: one lemma for a table of any level, used at the four.
use Prim.Native.Nat.{ℕ, zero, suc, ◌+◌, ◌-◌, ◌*◌, ◌%◌, ◌<◌}
use mathlib.Core.Path.{◌≡◌, refl, ap, ◌∙◌, subst}
use mathlib.Core.Logic.{◌⊎◌, inl, inr}
use native.Mathlib.Omega.{arith}
use Rattle.paging.specs.Level.{span, index}
use Rattle.paging.specs.Format.{Kind, nothing, leaf, table, Entry}
use Rattle.paging.specs.Table.{walk, View, view, seen, shows, Translation, to, nowhere, translated, translates, Formed}
use Rattle.paging.proofs.Cases.{same?}
use Rattle.paging.proofs.Levels.{index_lt}
use Rattle.paging.proofs.Formats.{Is, is}
use Rattle.paging.proofs.Walks.{stands, nothing_bar, leaf_bar}
use Rattle.common.specs.Flags.{READ, has}
use Rattle.x86_64.specs.Entry.{bit, addr_of, flags_of, kind_at, x86}
use Rattle.x86_64.proofs.Words.{flag_parts}
use Rattle.x86_64.proofs.Format.{lawful}
use Rattle.intel.specs.Intel.{bits, Rights, Answer, fault, maps, everything, used, from, from_pt, from_pd, from_pdpt, from_pml4, intel}
use Rattle.intel.specs.Agrees.{rights_of, as_intel, Stored, SameRights, Agreement}
use Rattle.intel.proofs.Words.{bit7_at, selects, used_leaf, used_table}

-- how the processor's answer and the table's translation go together
data Together (a : Answer) (t : Translation) : Type 0 where
  neither : a ≡ fault → t ≡ nowhere → Together a t
  held : (p f : ℕ) → has READ f ≡ 0 → a ≡ fault → t ≡ to p f → Together a t
  both : (p size f : ℕ) (r : Rights) → SameRights f r → a ≡ maps p size r → t ≡ to p f → Together a t

-- the page flags of a leaf with bit 0 are its rights
leaf_flags : (w : ℕ) → (has READ (flags_of w) ≡ bit 0 w) × (bit 0 w ≡ 1 → SameRights (flags_of w) (rights_of w))
leaf_flags w =
    let g = flag_parts (flags_of w) (bit 0 w) (bit 1 w) (1 - bit 63 w) (bit 2 w) (omega arith) (omega arith) (omega arith) (omega arith) refl in
    (g.read, λ o. record { read = g.read ∙ o; write = g.write; user = g.user; fetch = g.execute })

together : (v : ℕ) (o : View) → Together (as_intel v o) (translated x86 v o)
unfolding x86
together v (view l w) = go (kind_at l w) refl
  where
    leaf_both : kind_at l w ≡ leaf → (bit 0 w ≡ 0) ⊎ (bit 0 w ≡ 0 → ⊥) → Together (as_intel v (view l w)) (translated x86 v (view l w))
    leaf_both e (inl z) = held (addr_of w + v % span l) (flags_of w) ((leaf_flags w).0 ∙ z) (rw (e, z)) (rw e)
    leaf_both e (inr z) =
        let o : bit 0 w ≡ 1 = omega arith in
        both (addr_of w + v % span l) (span l) (flags_of w) (rights_of w) ((leaf_flags w).1 o) (rw (e, o)) (rw e)

    go : (k : Kind) → kind_at l w ≡ k → Together (as_intel v (view l w)) (translated x86 v (view l w))
    go nothing e = neither (rw e) (rw e)
    go leaf e = leaf_both e (same? (bit 0 w) 0)
    go (table m) e = neither (rw e) (rw e)

-- what each of the two says of the other
module _ (a : Answer) (t : Translation) where
  mapped : (p size : ℕ) (r : Rights) → Together a t → a ≡ maps p size r → (f : ℕ) × (t ≡ to p f) × SameRights f r
  mapped p size r (neither x y) e = absurd (let z : ◌≡◌ {A = ℕ} 0 1 = cc in omega arith)
  mapped p size r (held q f h x y) e = absurd (let z : ◌≡◌ {A = ℕ} 0 1 = cc in omega arith)
  mapped p size r (both q n f s h x y) e =
      let i : q ≡ p = cc in
      let j : s ≡ r = cc in
      (f, y ∙ ap (λ (k : ℕ). to k f) i, subst (SameRights f) j h)

  readable : (p f : ℕ) → Together a t → t ≡ to p f → has READ f ≡ 1 → (size : ℕ) × (r : Rights) × (a ≡ maps p size r) × SameRights f r
  readable p f (neither x y) e o = absurd (let z : ◌≡◌ {A = ℕ} 0 1 = cc in omega arith)
  readable p f (held q g h x y) e o = absurd (let z : g ≡ f = cc in omega (arith, ap (has READ) z))
  readable p f (both q n g s h x y) e o =
      let i : q ≡ p = cc in
      let j : g ≡ f = cc in
      (n, s, x ∙ ap (λ (k : ℕ). maps k n s) i, subst (λ (k : ℕ). SameRights k s) j h)

  unreadable : (p f : ℕ) → Together a t → t ≡ to p f → has READ f ≡ 0 → a ≡ fault
  unreadable p f (neither x y) e o = x
  unreadable p f (held q g h x y) e o = x
  unreadable p f (both q n g s h x y) e o = absurd (let z : g ≡ f = cc in omega (arith, ap (has READ) z, h.read))

  unmapped : Together a t → t ≡ nowhere → a ≡ fault
  unmapped (neither x y) e = x
  unmapped (held q g h x y) e = x
  unmapped (both q n g s h x y) e = absurd (let z : ◌≡◌ {A = ℕ} 0 1 = cc in omega arith)

-- a walk goes on from the table that an entry reaches
goes : (W : ℕ → ℕ → ℕ) (l n v m : ℕ) → 0 < l → x86.kind l (W n (index l v)) ≡ table m → walk x86 W l n v ≡ walk x86 W (l - 1) m v
unfolding walk
goes W zero n v m z e = absurd (omega arith)
goes W (suc l) n v m z e =
    let s : suc l - 1 ≡ l = omega arith in
    rw (e, s)

module _ (W : ℕ → ℕ → ℕ) (In : ℕ → Type 0) (root : ℕ) (mem : ℕ → ℕ) (T : Formed x86 W In root) (S : Stored W In mem) where
  -- from a frame of level l, `start` answers for v what the walk from there shows
  abbrev Right : ℕ → ℕ → (ℕ → Rights → Answer) → Type 0
  Right l v start = (n : ℕ) → In n → T.lev n ≡ l → start (n * 4096) everything ≡ as_intel v (seen W (walk x86 W l n v))

  -- a table of any level is right if the tables below it are
  one : (l v : ℕ) (next : ℕ → Rights → Answer) → (0 < l → Right (l - 1) v next) → Right l v (from mem v (20 + 9 * l) (12 + 9 * l) (bit7_at l) next)
  unfolding x86 from
  one l v next below n i q =
      rw (selects l v, S.holds n (index l v) i (index_lt l v)) (go (kind_at l (W n (index l v))) refl (is x86 lawful l (W n (index l v)) entry))
    where
      entry : Entry x86 l (W n (index l v))
      entry = rw q at (T.entries n (index l v) i (index_lt l v))

      go : (k : Kind) → kind_at l (W n (index l v)) ≡ k → Is x86 lawful l (W n (index l v)) k
          → used (bit7_at l) (12 + 9 * l) (W n (index l v)) v everything next ≡ as_intel v (seen W (walk x86 W l n v))
      go nothing e x = rw (stands x86 W n v l (nothing_bar e), x)
      go leaf e x = rw (stands x86 W n v l (leaf_bar e), e) (used_leaf l (W n (index l v)) v next x)
      go (table m) e x =
          let t = lawful.table_in l (W n (index l v)) m e in
          let d = T.down n (index l v) m i (index_lt l v) (rw q e) in
          rw (goes W l n v m t.0 e) (used_table l (W n (index l v)) m v next t.0 t.2 x ∙ below t.0 m d.0 (omega (arith, d.2)))

  -- the four, and CR3
  agrees : (v : ℕ) → intel mem (root * 4096) v ≡ as_intel v (shows x86 W root v)
  unfolding x86 shows intel from_pml4 from_pdpt from_pd from_pt
  agrees v =
      let cr3 : bits 51 12 (root * 4096) ≡ root = omega (arith, S.below root T.root_in) in
      let pt : Right 0 v (from_pt mem v) = one 0 v (λ t r. fault) (λ z. absurd (omega arith)) in
      let pd : Right 1 v (from_pd mem v) = one 1 v (from_pt mem v) (λ z. pt) in
      let pdpt : Right 2 v (from_pdpt mem v) = one 2 v (from_pd mem v) (λ z. pd) in
      let pml4 : Right 3 v (from_pml4 mem v) = one 3 v (from_pdpt mem v) (λ z. pdpt) in
      rw cr3 (pml4 root T.root_in T.root_lev)

  -- and what that says of translations
  goes_with : (v : ℕ) → Together (intel mem (root * 4096) v) (translates x86 W root v)
  unfolding translates
  goes_with v = rw (agrees v) (together v (shows x86 W root v))

  held_at : (v l w : ℕ) → shows x86 W root v ≡ view l w → kind_at l w ≡ leaf → bit 0 w ≡ 0
      → (intel mem (root * 4096) v ≡ fault) × (translates x86 W root v ≡ to (addr_of w + v % span l) (flags_of w))
  unfolding translates x86
  held_at v l w s k z = (agrees v ∙ rw (s, k, z), rw (s, k))

pub agreement : Agreement
agreement = record {
  holds = λ W In root mem T S. record {
    agrees = agrees W In root mem T S;
    mapped = λ v p size r. mapped (intel mem (root * 4096) v) (translates x86 W root v) p size r (goes_with W In root mem T S v);
    readable = λ v p f. readable (intel mem (root * 4096) v) (translates x86 W root v) p f (goes_with W In root mem T S v);
    held = held_at W In root mem T S;
    unreadable = λ v p f. unreadable (intel mem (root * 4096) v) (translates x86 W root v) p f (goes_with W In root mem T S v);
    unmapped = λ v. unmapped (intel mem (root * 4096) v) (translates x86 W root v) (goes_with W In root mem T S v);
  };
}
