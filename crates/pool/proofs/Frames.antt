-- Laws of a frame's part of the pool.
use Rattle.std.proofs.Common.{ℕ, ◌+◌, ◌-◌, ◌*◌, ◌≤◌, ◌<◌, ◌≡◌, ap, List, ◌++◌, arith, length, take, drop, get_or, set, length-take, length-drop, get_or-take, get_or-drop, drop-drop}
use borrow.Rule.Slice.PartMut.{put_mid, set_mid_at}
use Rattle.pool.specs.Pool.{frame_at, word, put_word, put_frame}

pub width : (i : ℕ) → i * 512 + 512 - i * 512 ≡ 512
width i = omega arith

pub frame_length : (p : List ℕ) (i : ℕ) → i * 512 + 512 ≤ length p → length (frame_at p i) ≡ 512
frame_length p i h = simp (length-take, length-drop) (omega arith)

pub frame_at_lem : (p : List ℕ) (i k : ℕ) → k < 512 → get_or (frame_at p i) k 0 ≡ word p i k
frame_at_lem p i k h = rw (get_or-take, get_or-drop)

pub put_at : (p : List ℕ) (i k v : ℕ) → i * 512 + 512 ≤ length p → k < 512
    → put_mid (i * 512) (i * 512 + 512 - i * 512) p (set (take (i * 512 + 512 - i * 512) (drop (i * 512) p)) k v) ≡ put_word p i k v
put_at p i k v h l = rw (width i) (set_mid_at (i * 512) 512 k p v (rw (frame_length p i h) l))

pub put_frame_lem : (p ys ws : List ℕ) (i : ℕ) → ys ≡ ws → put_mid (i * 512) (i * 512 + 512 - i * 512) p ys ≡ put_frame p i ws
put_frame_lem p ys ws i e = rw (width i, e) (ap (λ (t : List ℕ). take (i * 512) p ++ (ws ++ t)) (drop-drop 512 (i * 512) p))

pub part_length : (p : List ℕ) (i : ℕ) → i * 512 + 512 ≤ length p → length (take (i * 512 + 512 - i * 512) (drop (i * 512) p)) ≡ 512
part_length p i h = rw (width i) (frame_length p i h)
