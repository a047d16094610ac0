-- The pieces that the code writes are those of the format.
use Prim.Native.Nat.{ℕ, zero, suc, ◌+◌, ◌-◌, ◌*◌, ◌%◌, ◌^◌, ◌<◌, ◌≤◌}
use mathlib.Core.Path.{◌≡◌, ap, ◌∙◌}
use native.Mathlib.Omega.{arith}
use native.Mathlib.Nat.{mul-le-mul_right}
use lib.Dec.{ltb}
use Rattle.paging.specs.Level.{span}
use Rattle.paging.specs.Format as format
use Rattle.paging.proofs.Formats.{IsLeaf}
use Rattle.x86_64.specs.Entry.{addr_of, flags_of, leaf_by, x86}
use Rattle.x86_64.proofs.Format.{lawful}
use Rattle.walk.specs.Walk.{size_at}
use Rattle.table_split.specs.Split.{piece}

pub product : (i s : ℕ) → i < 512 → s ≤ 2 ^ 30 → i * s ≤ 2 ^ 39
product i s h g =
    let l : i ≤ 512 = omega arith in
    omega (arith, mul-le-mul_right s l)

-- the address of a frame is read back
same_addr : (y : ℕ) → y % 4096 ≡ 0 → y < 2 ^ 52 → addr_of y ≡ y
same_addr y a b = omega arith

-- that of piece i, in a leaf of the level above l, is aligned and below 2^52
piece_addr : (l A i : ℕ) → l ≤ 1 → A % span (suc l) ≡ 0 → A < 2 ^ 52 → i < 512
    → ((A + i * span l) % span l ≡ 0) × ((A + i * span l) % 4096 ≡ 0) × (A + i * span l < 2 ^ 52)
piece_addr zero A i h a b c = (omega arith, omega arith, omega arith)
piece_addr (suc zero) A i h a b c = (omega arith, omega arith, omega arith)
piece_addr (suc (suc l)) A i h a b c = absurd (omega arith)

aligned_addr : (l w i : ℕ) → l ≤ 1 → addr_of w % span (suc l) ≡ 0 → addr_of w < 2 ^ 52 → i < 512
    → addr_of (addr_of w + i * span l - (addr_of w + i * span l) % span l) ≡ addr_of w + i * span l
aligned_addr l w i h a b c =
    let p = piece_addr l (addr_of w) i h a b c in
    let z : addr_of w + i * span l - (addr_of w + i * span l) % span l ≡ addr_of w + i * span l = omega (arith, p.0) in
    ap addr_of z ∙ same_addr (addr_of w + i * span l) p.1 p.2

pub piece_is : (l w i : ℕ) → l ≤ 1 → IsLeaf x86 lawful (suc l) w → i < 512 → piece (size_at l) w i ≡ format.piece x86 l w 0 i
unfolding x86
piece_is zero w i h L c = ap (λ (n : ℕ). leaf_by (ltb 0 0) n (flags_of w) 0) (aligned_addr 0 w i h L.aligned.0 L.aligned.1 c)
piece_is (suc zero) w i h L c = ap (λ (n : ℕ). leaf_by (ltb 0 1) n (flags_of w) 0) (aligned_addr 1 w i h L.aligned.0 L.aligned.1 c)
piece_is (suc (suc l)) w i h L c = absurd (omega arith)
