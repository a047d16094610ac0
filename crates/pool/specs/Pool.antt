-- The lent pool as a list of words. States document 01, 'Sizes and buffers': frames of 512 words, "Frame i has physical address pool
-- base + 4096·i", "The first `used` frames are tables; a frame is taken at `used` and zeroed".
--
--     word of the pool      0 .. 511     512 .. 1023     ..     512·i + k
--     frame                 0, the root  1               ..     i, place k
--     frame number          b            b + 1           ..     b + i, where b is the base by 4096
use Rattle.std.specs.Prelude.{ℕ, zero, suc, ◌+◌, ◌-◌, ◌*◌, ◌≤◌, ◌<◌, List, [], ◌∷◌, ◌++◌, take, drop, get_or, set, replicate}

-- the 512 words of frame i
abbrev pub frame_at : List ℕ → ℕ → List ℕ
frame_at p i = take 512 (drop (i * 512) p)

abbrev pub word : List ℕ → ℕ → ℕ → ℕ
word p i k = get_or p (i * 512 + k) 0

-- the pool with one word written, with the words of one frame replaced, and with one frame zeroed
abbrev pub put_word : List ℕ → ℕ → ℕ → ℕ → List ℕ
put_word p i k w = set p (i * 512 + k) w

abbrev pub put_frame : List ℕ → ℕ → List ℕ → List ℕ
put_frame p i ws = take (i * 512) p ++ (ws ++ drop (i * 512 + 512) p)

abbrev pub zeroed : List ℕ → ℕ → List ℕ
zeroed p i = put_frame p i (replicate 512 0)

-- f 0, f 1, .. f (n - 1)
unfoldable pub listed : ℕ → (ℕ → ℕ) → List ℕ
listed zero f = []
listed (suc n) f = listed n f ++ (f n ∷ [])

-- the pool as memory, by frame number, and the frame numbers of its tables
abbrev pub mem_of : List ℕ → ℕ → ℕ → ℕ → ℕ
mem_of p b n k = word p (n - b) k

abbrev pub Taken : ℕ → ℕ → ℕ → Type 0
Taken b used n = (b ≤ n) × (n < b + used)
