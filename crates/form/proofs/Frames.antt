-- A frame whose words are all told at once.
use Rattle.std.proofs.Common.{Bool, ◌/◌, ap, ◌∙◌, ℕ, zero, suc, ◌+◌, ◌-◌, ◌*◌, ◌≤◌, ◌<◌, ◌≡◌, refl, subst, List, true, arith, length, get_or}
use Rattle.pool.specs.Pool.{frame_at, word}
use Rattle.pool.proofs.Frames.{frame_length, frame_at_lem}
use Rattle.form.specs.Sure.{Plain, AllPlain, Sure}
use Rattle.form.specs.Form.{Sized}
use Rattle.form.specs.Sweep.{Sweep, Swept, Step}
use Rattle.form.proofs.Answers.{passed}
use Rattle.form.proofs.Marks.{by_plain}
use Rattle.form.proofs.Refusals.{stepped}

-- the words of the frame's part of the pool
pub plain_words : (p : List ℕ) (f : ℕ) {t : List ℕ} {mask tag : ℕ} → f * 512 + 512 ≤ length p → t ≡ frame_at p f → AllPlain mask tag t (length t)
    → (k : ℕ) → k < 512 → Plain mask tag (word p f k)
plain_words p f {mask = mask} {tag = tag} l e all k h =
    let n = subst (λ (t : List ℕ). AllPlain mask tag t (length t)) e all k (omega (arith, frame_length p f l)) in
    subst (Plain mask tag) (frame_at_lem p f k h) n

module _ (p : List ℕ) (b used : ℕ) (at : List ℕ) (r f : ℕ) (S : Sweep p b used at r (f * 512)) (hf : f < used) (few : used ≤ 1024)
    (e : get_or at f 0 ≡ r) (pos : 0 < r) {mask tag : ℕ} (s : Sure (r - 1) mask tag) (all : (k : ℕ) → k < 512 → Plain mask tag (word p f k)) where
  words : (k : ℕ) → k ≤ 512 → Sweep p b used at r (f * 512 + k)
  words zero h = let z : f * 512 ≡ f * 512 + 0 = omega arith in subst (Sweep p b used at r) z S
  words (suc k) h =
      let hk : k < 512 = omega arith in
      let q : f * 512 + (k + 1) ≡ f * 512 + suc k = omega arith in
      subst (Sweep p b used at r) q
      (passed (stepped p b used at r f k (words k (omega arith)) hf hk e pos (word p f k) at true few refl (by_plain s (all k hk))))

  pub plain_frame : Sweep p b used at r (f * 512 + 512)
  plain_frame = words 512 (omega arith)

-- the turn of one word of the frame's part of the pool
pub word_swept : (f k : ℕ) {p : List ℕ} {base used : ℕ} {at t new : List ℕ} {r : ℕ} {ok : Bool} → Sized (length p) base used
    → Sweep p (base / 4096) used at r (f * 512 + k) → (f < used) × (0 < r) → get_or at f 0 ≡ r → t ≡ frame_at p f → k < length t
    → Step (base / 4096) used r (get_or t k 0) at new ok → Swept p (base / 4096) used new r (f * 512 + (k + 1)) ok
word_swept f k {p} {base} {used} {at} {t} {new} {r} {ok} z S i e q h s =
    let full : f * 512 + 512 ≤ length p = omega (arith, z.there, i.0) in
    let hk : k < 512 = omega (arith, ap length q, frame_length p f full) in
    stepped p (base / 4096) used at r f k S i.0 hk e i.1 (get_or t k 0) new ok (omega (arith, z.there, z.few))
    (ap (λ (t : List ℕ). get_or t k 0) q ∙ frame_at_lem p f k hk) s
