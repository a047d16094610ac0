-- Tables put under an unused entry, and the page in the last: what a map does.
use Prim.Native.Nat.{ℕ, zero, suc, ◌+◌, ◌-◌, ◌*◌, ◌/◌, ◌^◌, ◌≤◌, ◌<◌}
use mathlib.Core.Path.{◌≡◌, refl, sym, ap, ◌∙◌, subst}
use mathlib.Core.Logic.{⊎_elim}
use mathlib.Core.List.{List}
use native.Mathlib.Omega.{arith}
use lib.Dec.{lit<}
use lib.ListN.{length, length-set}
use Rattle.paging.specs.Level.{span, index, Canonical}
use Rattle.paging.specs.Format.{table, Entry, blank, pointer}
use Rattle.paging.specs.Table.{hit, walk, view, shows, nowhere, translated, translates}
use Rattle.paging.proofs.Cases.{same?}
use Rattle.paging.proofs.Levels.{index_lt}
use Rattle.paging.proofs.Walks.{hit_level, hit_frame, NoTable, nothing_bar}
use Rattle.paging.proofs.Changes.{End, end, outside, inside, grown_walk, grown, formed_grow}
use Rattle.x86_64.specs.Entry.{table_word, x86}
use Rattle.x86_64.proofs.Format.{lawful}
use Rattle.pool.specs.Pool.{word, put_word, zeroed, mem_of, Taken}
use Rattle.pool.proofs.Memory.{taken_was, mem_at, put_same, put_other, zeroed_length, zeroed_before, zeroed_in}
use Rattle.form.specs.Form.{WellFormed}
use Rattle.walk.specs.declared.OpenEntry.{OpenEntry}
use Rattle.walk.proofs.Found.{Placed, Unused}
use Rattle.table_map.specs.Map as map
use Rattle.table_map.specs.Map.{under, filled}
use Rattle.table_map.proofs.Fills.{grown_length}
use Rattle.table_laws.proofs.Writes.{formed_after, inside_after, outside_after}

-- an unused word translates nowhere, whatever its level
pub nowhere_blank : (x l : ℕ) → translated x86 x (view l 0) ≡ nowhere
unfolding x86
nowhere_blank x l = refl

-- one table more, in frame u, which was not taken
module _ (p : List ℕ) (b u : ℕ) (T : WellFormed p b u) (v : ℕ) (o : OpenEntry) (U : Unused p b u T v o) (m : ℕ) (lower : o.level ≡ suc m)
    (room : u * 512 + 512 ≤ length p) (bound : (b + u) * 4096 < 2 ^ 52) where
  abbrev E : End x86 (mem_of p b) (Taken b u) b T v
  E = U.placed.E

  abbrev p' : List ℕ
  p' = map.grown p b u o

  small : o.place < 512
  small = rw U.placed.at (index_lt o.level v)

  place : index E.l v ≡ o.place
  place = ap (λ (n : ℕ). index n v) U.placed.level ∙ sym U.placed.at

  old_frame : o.frame < u
  old_frame = U.placed.taken

  at_place : mem_of p' b E.n (index E.l v) ≡ table_word (b + u) 0
  at_place =
      ap (λ (n : ℕ). mem_of p' b n (index E.l v)) U.placed.number ∙ mem_at p' b o.frame (index E.l v) ∙ ap (word p' o.frame) place
      ∙ put_same (zeroed p u) o.frame o.place (table_word (b + u) 0) (rw (zeroed_length p u room) (omega (arith, small, old_frame)))

  elsewhere : (n i : ℕ) → Taken b u n → i < 512 → ((n ≡ E.n) × (i ≡ index E.l v) → ⊥) → mem_of p' b n i ≡ mem_of p b n i
  elsewhere n i t h ne =
      put_other (zeroed p u) b o.frame o.place (table_word (b + u) 0) n i t.0 h small (λ z. ne (z.0 ∙ sym U.placed.number, z.1 ∙ sym place))
      ∙ zeroed_before p b u n i (omega arith) t.1 t.0 h

  fresh_word : (k : ℕ) → k < 512 → mem_of p' b (b + u) k ≡ 0
  fresh_word k h =
      put_other (zeroed p u) b o.frame o.place (table_word (b + u) 0) (b + u) k (omega arith) h small (λ z. omega (arith, z.0, old_frame))
      ∙ mem_at (zeroed p u) b u k ∙ zeroed_in p u k (omega arith) h

  level : E.l ≡ suc m
  level = U.placed.level ∙ lower

  points : (x86.kind (suc m) (table_word (b + u) 0) ≡ table (b + u)) × (x86.marks (table_word (b + u) 0) ≡ 0)
  unfolding x86
  points = lawful.points (suc m) (b + u) 0 (omega arith) (omega (arith, lower, U.low)) bound (lit< tt)

  tab : x86.kind (suc m) (mem_of p' b E.n (index E.l v)) ≡ table (b + u)
  tab = ap (x86.kind (suc m)) at_place ∙ points.0

  fit : Entry x86 (suc m) (mem_of p' b E.n (index E.l v))
  unfolding x86
  fit = rw at_place (pointer (b + u) 0 (omega arith) (omega (arith, lower, U.low)) bound (lit< tt) refl)

  flat : (k : ℕ) → k < 512 → NoTable (x86.kind m (mem_of p' b (b + u) k))
  unfolding x86
  flat k h = rw (fresh_word k h) (nothing_bar refl)

  pub formed_grown : WellFormed p' b (u + 1)
  formed_grown =
      formed_grow x86 (mem_of p b) (mem_of p' b) (Taken b u) b T v E elsewhere (Taken b (u + 1)) (b + u) m
      (λ n t. (t.0, omega (arith, t.1)))
      (omega arith, omega arith)
      (taken_was b u)
      (λ t. omega (arith, t.1))
      level
      fit
      tab
      (λ k h. blank (fresh_word k h))
      flat

  -- the address's walk now ends in the new table
  pub unused_grown : Unused p' b (u + 1) formed_grown v (under u v o)
  unfolding x86
  unused_grown = record {
    low = omega (arith, U.low);
    placed = record {
      E = E';
      level = lev ∙ low;
      number = num;
      taken = omega arith;
      at = refl;
      fits = subst (λ (n : ℕ). Entry x86 n (word p' u (index (o.level - 1) v))) refl (blank zero_word);
    };
    blank = zero_word;
  }
    where
      E' : End x86 (mem_of p' b) (Taken b (u + 1)) b formed_grown v
      E' = end x86 (mem_of p' b) (Taken b (u + 1)) b formed_grown v

      ends : walk x86 (mem_of p' b) 3 b v ≡ hit m (b + u) (index m v)
      ends = grown_walk x86 (mem_of p b) (mem_of p' b) (Taken b u) b T v E elsewhere v refl m (b + u) level tab (flat (index m v) (index_lt m v))

      lev : E'.l ≡ m
      lev = hit_level (sym E'.is ∙ ends)

      num : E'.n ≡ b + u
      num = hit_frame (sym E'.is ∙ ends)

      low : m ≡ o.level - 1
      low = omega (arith, lower)

      zero_word : word p' u (index (o.level - 1) v) ≡ 0
      zero_word = sym (mem_at p' b u (index (o.level - 1) v)) ∙ fresh_word (index (o.level - 1) v) (index_lt (o.level - 1) v)

  -- an address outside the entry sees what it saw
  pub grown_far : Canonical 4 v → (x : ℕ) → Canonical 4 x → (x / span E.l ≡ v / span E.l → ⊥) → shows x86 (mem_of p' b) b x ≡ shows x86 (mem_of p b) b x
  unfolding x86
  grown_far cv x cx ne = outside x86 (mem_of p b) (mem_of p' b) (Taken b u) b T v E elsewhere (omega arith) cv x cx ne

  -- one inside saw the unused entry, and sees one of the new table
  pub grown_near : (x : ℕ) → x / span E.l ≡ v / span E.l → (shows x86 (mem_of p b) b x ≡ view (suc m) 0) × (shows x86 (mem_of p' b) b x ≡ view m 0)
  grown_near x e =
      let w : mem_of p b E.n (index E.l v) ≡ 0 =
      ap (λ (n : ℕ). mem_of p b n (index E.l v)) U.placed.number ∙ mem_at p b o.frame (index E.l v) ∙ ap (word p o.frame) place ∙ U.blank in (
        inside x86 (mem_of p b) (mem_of p b) (Taken b u) b T v E (λ n i t h ne. refl) x e E.last ∙ ap (view E.l) w ∙ ap (λ (l : ℕ). view l 0) level,
        grown x86 (mem_of p b) (mem_of p' b) (Taken b u) b T v E elsewhere x e m (b + u) level tab (flat (index m x) (index_lt m x)) ∙ ap (view m) (fresh_word (index m x) (index_lt m x)),
      )

  -- no address is translated otherwise
  pub same_translation : Canonical 4 v → (x : ℕ) → Canonical 4 x → translates x86 (mem_of p' b) b x ≡ translates x86 (mem_of p b) b x
  unfolding translates
  same_translation cv x cx = ⊎_elim
      (λ e. ap (translated x86 x) (grown_near x e).1 ∙ nowhere_blank x m ∙ sym (nowhere_blank x (suc m)) ∙ sym (ap (translated x86 x) (grown_near x e).0))
      (λ ne. ap (translated x86 x) (grown_far cv x cx ne))
      (same? (x / span E.l) (v / span E.l))

-- the page of level t over v holds w, in a pool of the same length with u' tables, and no other address is translated otherwise
pub record Filled (p p' : List ℕ) (b u' v t w : ℕ) : Type 0 where
  pub formed : WellFormed p' b u'
  pub inside : (x : ℕ) → x / span t ≡ v / span t → shows x86 (mem_of p' b) b x ≡ view t w
  pub outside : Canonical 4 v → (x : ℕ) → Canonical 4 x → (x / span t ≡ v / span t → ⊥) → translates x86 (mem_of p' b) b x ≡ translates x86 (mem_of p b) b x
  pub long : length p' ≡ length p

module _ (b v t w : ℕ) (fit : Entry x86 t w) (bar : NoTable (x86.kind t w)) where
  -- the entry is at the page's level: the word is written there
  last : (p : List ℕ) (u : ℕ) (T : WellFormed p b u) (o : OpenEntry) → Unused p b u T v o → o.level ≡ t → u * 512 ≤ length p → Filled p (put_word p o.frame o.place w) b u v t w
  unfolding translates
  last p u T o U e room =
      let P : Placed p b u T v t o.frame o.place = subst (λ (l : ℕ). Placed p b u T v l o.frame o.place) e U.placed in
      record {
        formed = formed_after p b u T v t o.frame o.place w P room fit bar;
        inside = inside_after p b u T v t o.frame o.place w P room fit bar;
        outside = λ cv x cx ne. ap (translated x86 x) (outside_after p b u T v t o.frame o.place w P room cv x cx ne);
        long = length-set p (o.frame * 512 + o.place) w;
      }

  -- one table more, and the rest
  more : (p p'' : List ℕ) (u u' m : ℕ) (T : WellFormed p b u) (o : OpenEntry) → Unused p b u T v o → o.level ≡ suc m → u * 512 + 512 ≤ length p → (b + u) * 4096 < 2 ^ 52
      → Filled (map.grown p b u o) p'' b u' v t w → Filled p p'' b u' v t w
  more p p'' u u' m T o U lower room bound r = record {
    formed = r.formed;
    inside = r.inside;
    outside = λ cv x cx ne. r.outside cv x cx ne ∙ same_translation p b u T v o U m lower room bound cv x cx;
    long = r.long ∙ grown_length p b u o room;
  }

  pub fills : (n : ℕ) (p : List ℕ) (u : ℕ) (T : WellFormed p b u) (o : OpenEntry) → Unused p b u T v o → o.level ≡ t + n → (u + n) * 512 ≤ length p → (b + (u + n)) * 4096 ≤ 2 ^ 52
      → Filled p (filled n p b u v o w) b (u + n) v t w
  unfolding filled
  fills zero p u T o U e room bound = subst (λ (x : ℕ). Filled p (put_word p o.frame o.place w) b x v t w) z (last p u T o U (omega arith) (omega arith))
    where
      z : u ≡ u + 0
      z = omega arith
  fills (suc n) p u T o U e room bound =
      subst (λ (x : ℕ). Filled p (filled n (map.grown p b u o) b (u + 1) v (under u v o) w) b x v t w) s
      (more p (filled n (map.grown p b u o) b (u + 1) v (under u v o) w) u (u + 1 + n) (t + n) T o U lower here below
      (fills n (map.grown p b u o) (u + 1) (formed_grown p b u T v o U (t + n) lower here below) (under u v o) (unused_grown p b u T v o U (t + n) lower here below) (omega (arith, lower))
      (omega (arith, grown_length p b u o here)) (omega arith)))
    where
      lower : o.level ≡ suc (t + n)
      lower = omega arith

      here : u * 512 + 512 ≤ length p
      here = omega arith

      below : (b + u) * 4096 < 2 ^ 52
      below = omega arith

      s : u + 1 + n ≡ u + suc n
      s = omega arith
