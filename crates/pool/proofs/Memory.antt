-- The pool as memory, after one word is written and after one frame is zeroed.
use Rattle.std.proofs.Common.{ℕ, zero, suc, ◌+◌, ◌-◌, ◌*◌, ◌≤◌, ◌<◌, ◌≡◌, refl, sym, ap, ◌∙◌, ◌⊎◌, inl, inr, ⊎_elim, List, [], ◌∷◌, ◌++◌, append-nil, append_assoc, arith, add-one, length, take, drop, get_or, set, replicate, length-append, length-take, length-drop, get_or-take, get_or-append-add, get_or-set_same, get_or-set_other, drop-cons}
use Rattle.std.proofs.Math.Nat.{add-sub_cancel_left}
use Rattle.std.proofs.Math.ListN.{length-replicate, get_or-replicate, get_or-append}
use Rattle.std.proofs.Math.Seq.{set_at, drop-length}
use Rattle.pool.specs.Pool.{word, put_word, put_frame, zeroed, listed, mem_of, Taken}
use Rattle.paging.proofs.Cases.{same?, below?}

-- one frame more is taken
pub taken_was : (b u n : ℕ) → Taken b (u + 1) n → Taken b u n ⊎ (n ≡ b + u)
taken_was b u n t = ⊎_elim (λ (e : n ≡ b + u). inr e) (λ ne. inl (t.0, go ne)) (same? n (b + u))
  where
    go : (n ≡ b + u → ⊥) → n < b + u
    go ne = ⊎_elim (λ h. h) (λ h. absurd (ne (omega (arith, t.1)))) (below? n (b + u))

-- the word at place k of the frame with the number b + f
pub mem_at : (p : List ℕ) (b f k : ℕ) → mem_of p b (b + f) k ≡ word p f k
mem_at p b f k = ap (λ (n : ℕ). word p n k) (add-sub_cancel_left b f)

pub put_same : (p : List ℕ) (f k w : ℕ) → f * 512 + k < length p → word (put_word p f k w) f k ≡ w
put_same p f k w h = get_or-set_same p (f * 512 + k) w 0 h

pub put_other : (p : List ℕ) (b f k w n i : ℕ) → b ≤ n → i < 512 → k < 512 → ((n ≡ b + f) × (i ≡ k) → ⊥) → mem_of (put_word p f k w) b n i ≡ mem_of p b n i
put_other p b f k w n i hn hi hk ne = get_or-set_other p (f * 512 + k) ((n - b) * 512 + i) w 0 apart
  where
    apart : (n - b) * 512 + i ≡ f * 512 + k → ⊥
    apart e = ne (omega arith, omega arith)

-- a frame's words replaced by 512 others
module _ (p : List ℕ) (u : ℕ) (ws : List ℕ) (full : length ws ≡ 512) where
  pub frame_put_length : u * 512 + 512 ≤ length p → length (put_frame p u ws) ≡ length p
  frame_put_length h = simp (length-append, length-take, length-drop) (omega (arith, full))

  pub frame_put_before : (b n i : ℕ) → u * 512 ≤ length p → n < b + u → b ≤ n → i < 512 → mem_of (put_frame p u ws) b n i ≡ mem_of p b n i
  frame_put_before b n i h l g hi =
      get_or-append (take (u * 512) p) (ws ++ drop (u * 512 + 512) p) 0 ((n - b) * 512 + i) (simp length-take (omega arith))
      ∙ get_or-take (u * 512) p ((n - b) * 512 + i) 0 (omega arith)

  pub frame_put_in : (k : ℕ) → u * 512 ≤ length p → k < 512 → word (put_frame p u ws) u k ≡ get_or ws k 0
  frame_put_in k h g =
      let q : length (take (u * 512) p) ≡ u * 512 = simp length-take (omega arith) in
      ap (λ (x : ℕ). get_or (put_frame p u ws) (x + k) 0) (sym q)
      ∙ get_or-append-add (take (u * 512) p) (ws ++ drop (u * 512 + 512) p) k 0
      ∙ get_or-append ws (drop (u * 512 + 512) p) 0 k (rw full g)

zeros : length {A = ℕ} (replicate 512 0) ≡ 512
zeros = length-replicate {A = ℕ} 512 0

pub zeroed_length : (p : List ℕ) (u : ℕ) → u * 512 + 512 ≤ length p → length (zeroed p u) ≡ length p
zeroed_length p u h = frame_put_length p u (replicate 512 0) zeros h

pub zeroed_before : (p : List ℕ) (b u n i : ℕ) → u * 512 ≤ length p → n < b + u → b ≤ n → i < 512 → mem_of (zeroed p u) b n i ≡ mem_of p b n i
zeroed_before p b u n i h l g hi = frame_put_before p u (replicate 512 0) zeros b n i h l g hi

pub zeroed_in : (p : List ℕ) (u k : ℕ) → u * 512 ≤ length p → k < 512 → ◌≡◌ {A = ℕ} (word (zeroed p u) u k) 0
zeroed_in p u k h g = frame_put_in p u (replicate 512 0) zeros k h g ∙ get_or-replicate 512 k 0 0 g

-- what a list of n values holds
module _ (f : ℕ → ℕ) where
  pub listed_length : (n : ℕ) → length (listed n f) ≡ n
  unfolding listed
  listed_length zero = refl
  listed_length (suc n) = length-append (listed n f) (f n ∷ []) ∙ omega (arith, listed_length n)

  pub listed_at : (n k : ℕ) → k < n → get_or (listed n f) k 0 ≡ f k
  unfolding listed
  listed_at zero k h = absurd (omega arith)
  listed_at (suc n) k h = ⊎_elim (last n k) (λ ne. before n k h ne (listed_at n k)) (same? k n)
    where
      last : (n k : ℕ) → k ≡ n → get_or (listed n f ++ (f n ∷ [])) k 0 ≡ f k
      last n k e =
          let q : k ≡ length (listed n f) + 0 = omega (arith, listed_length n) in
          ap (λ (x : ℕ). get_or (listed n f ++ (f n ∷ [])) x 0) q ∙ get_or-append-add (listed n f) (f n ∷ []) 0 0 ∙ ap f (sym e)

      before : (n k : ℕ) → k < suc n → (k ≡ n → ⊥) → (k < n → get_or (listed n f) k 0 ≡ f k) → get_or (listed n f ++ (f n ∷ [])) k 0 ≡ f k
      before n k h ne ih =
          let l : k < n = ⊎_elim (λ x. x) (λ x. absurd (ne (omega arith))) (below? k n) in
          get_or-append (listed n f) (f n ∷ []) 0 k (rw (listed_length n) l) ∙ ih l

  -- a loop that writes them from the front on: none yet, one more, all
  pub list_none : (d : List ℕ) → d ≡ listed 0 f ++ drop 0 d
  unfolding listed
  list_none d = refl

  pub list_more : (n : ℕ) (d : List ℕ) → n < length d → set (listed n f ++ drop n d) n (f n) ≡ listed (n + 1) f ++ drop (n + 1) d
  unfolding listed
  list_more n d h =
      rw (add-one n, drop-cons d n 0 h, set_at (listed n f) (get_or d n 0) (drop (suc n) d) (f n) n (listed_length n)) (sym (append_assoc (listed n f) (f n ∷ []) (drop (suc n) d)))

  pub list_all : (d ws : List ℕ) (n : ℕ) → n ≤ length d → length d ≤ n → ws ≡ listed n f ++ drop n d → ws ≡ listed (length d) f
  list_all d ws n h g e =
      let q : n ≡ length d = omega arith in
      e ∙ rw (q, drop-length d) (append-nil (listed (length d) f))
