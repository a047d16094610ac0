-- How a map takes frames: the words of the pool after n tables and the page's word.
use Prim.Native.Nat.{ℕ, zero, suc, ◌+◌, ◌-◌, ◌*◌, ◌≤◌, ◌<◌}
use mathlib.Core.Path.{◌≡◌, sym, ap, ◌∙◌}
use mathlib.Core.Logic.{⊎_elim}
use mathlib.Core.List.{List}
use native.Mathlib.Omega.{arith}
use native.Mathlib.Nat.{not-suc-le-zero}
use lib.Dec.{eqb, eqb-suc-zero}
use lib.ListN.{length}
use lib.Seq.{get_or-set_other}
use borrow.Author.Tests.{eq-eqb, ne_eqb}
use Rattle.paging.specs.Choice.{pick}
use Rattle.paging.specs.Level.{index}
use Rattle.paging.proofs.Cases.{same?}
use Rattle.paging.proofs.Levels.{index_lt}
use Rattle.x86_64.specs.Entry.{table_word}
use Rattle.pool.specs.Pool.{word, put_word, zeroed}
use Rattle.pool.proofs.Memory.{mem_at, put_same, zeroed_length, zeroed_before, zeroed_in}
use Rattle.walk.specs.declared.OpenEntry.{OpenEntry}
use Rattle.table_map.specs.Map.{grown, under, filled}
use Rattle.table_map.proofs.Fills.{grown_length}
use Rattle.table_laws.specs.Frames.{next_word, Frames, FramesTaken}

-- another word than the one written
put_word_other : (p : List ℕ) (f k w i j : ℕ) → k < 512 → j < 512 → ((i ≡ f) × (j ≡ k) → ⊥) → word (put_word p f k w) i j ≡ word p i j
put_word_other p f k w i j hk hj ne = get_or-set_other p (f * 512 + k) (i * 512 + j) w 0 (λ e. ne (omega arith, omega arith))

-- a word before the frame that is zeroed
zeroed_word : (p : List ℕ) (u i k : ℕ) → u * 512 ≤ length p → i < u → k < 512 → word (zeroed p u) i k ≡ word p i k
zeroed_word p u i k h l g = sym (mem_at (zeroed p u) 0 i k) ∙ zeroed_before p 0 u (0 + i) k h (omega arith) (omega arith) g ∙ mem_at p 0 i k

module _ (b v w : ℕ) where
  none : (p : List ℕ) (u : ℕ) (o : OpenEntry) → o.frame < u → o.place < 512 → u * 512 ≤ length p → Frames p (put_word p o.frame o.place w) b u 0 v w o
  none p u o hf hp room = record {
    entry = put_same p o.frame o.place w (omega arith);
    before = λ i k l h ne. put_word_other p o.frame o.place w i k hp h ne;
    tables = λ j k l h. absurd (not-suc-le-zero l);
  }

  -- one table more, and the rest
  more : (n : ℕ) (p p' : List ℕ) (u : ℕ) (o : OpenEntry) → o.frame < u → o.place < 512 → u * 512 + 512 ≤ length p
      → Frames (grown p b u o) p' b (u + 1) n v w (under u v o) → Frames p p' b u (suc n) v w o
  more n p p' u o hf hp room F = record { entry = entry; before = before; tables = tables }
    where
      entry : word p' o.frame o.place ≡ next_word b u (suc n) w
      entry =
          F.before o.frame o.place (omega arith) hp (λ z. omega (arith, z.0))
          ∙ put_same (zeroed p u) o.frame o.place (table_word (b + u) 0) (omega (arith, zeroed_length p u room))
          ∙ sym (rw (eqb-suc-zero n))

      before : (i k : ℕ) → i < u → k < 512 → ((i ≡ o.frame) × (k ≡ o.place) → ⊥) → word p' i k ≡ word p i k
      before i k l h ne =
          F.before i k (omega arith) h (λ z. omega (arith, z.0))
          ∙ put_word_other (zeroed p u) o.frame o.place (table_word (b + u) 0) i k hp h ne
          ∙ zeroed_word p u i k (omega arith) l h

      -- the first of the tables
      first : (k : ℕ) → k < 512 → word p' u k ≡ pick (eqb k (index (o.level - 1) v)) (next_word b (u + 1) n w) 0
      first k h = ⊎_elim here there (same? k (index (o.level - 1) v))
        where
          here : k ≡ index (o.level - 1) v → word p' u k ≡ pick (eqb k (index (o.level - 1) v)) (next_word b (u + 1) n w) 0
          here e = ap (word p' u) e ∙ F.entry ∙ sym (rw (eq-eqb k (index (o.level - 1) v) e))

          there : (k ≡ index (o.level - 1) v → ⊥) → word p' u k ≡ pick (eqb k (index (o.level - 1) v)) (next_word b (u + 1) n w) 0
          there ne =
              F.before u k (omega arith) h (λ z. ne z.1)
              ∙ put_word_other (zeroed p u) o.frame o.place (table_word (b + u) 0) u k hp h (λ z. omega (arith, z.0))
              ∙ zeroed_in p u k (omega arith) h
              ∙ sym (rw (ne_eqb k (index (o.level - 1) v) ne))

      tables : (j k : ℕ) → j < suc n → k < 512 → word p' (u + j) k ≡ pick (eqb k (index (o.level - suc j) v)) (next_word b (u + suc j) (suc n - suc j) w) 0
      tables zero k l h =
          let a : u + 0 ≡ u = omega arith in
          let c : u + suc 0 ≡ u + 1 = omega arith in
          let d : suc n - suc 0 ≡ n = omega arith in
          rw (a, c, d) (first k h)
      tables (suc j) k l h =
          let a : u + suc j ≡ u + 1 + j = omega arith in
          let c : u + suc (suc j) ≡ u + 1 + suc j = omega arith in
          let d : suc n - suc (suc j) ≡ n - suc j = omega arith in
          let e : o.level - suc (suc j) ≡ o.level - 1 - suc j = omega arith in
          rw (c, d, e, a) (F.tables j k (omega arith) h)

  taken : (n : ℕ) (p : List ℕ) (u : ℕ) (o : OpenEntry) → o.frame < u → o.place < 512 → n ≤ o.level → (u + n) * 512 ≤ length p → Frames p (filled n p b u v o w) b u n v w o
  unfolding filled
  taken zero p u o hf hp hl room = none p u o hf hp (omega arith)
  taken (suc n) p u o hf hp hl room =
      more n p (filled n (grown p b u o) b (u + 1) v (under u v o) w) u o hf hp (omega arith)
      (taken n (grown p b u o) (u + 1) (under u v o) (omega arith) (index_lt (o.level - 1) v) (omega arith) (omega (arith, grown_length p b u o (omega arith))))

pub frames_taken : FramesTaken
frames_taken = record { holds = λ n p b u v w o. taken b v w n p u o }
