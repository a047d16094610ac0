-- Cutting a range of addresses out of a table: what it takes, and what it leaves. Demand 3 of the README, over any format.
--
-- A block of level l is what one entry of that level spans; block q holds the addresses v with v / span l ≡ q.
--
--     a leaf of level 2    |  0  |  1  |  2  |  3  | ..                | 511 |      its blocks of level 1
--     the range                     [a            e)
--     splits inside                ^^^           ^^^                               those that an end falls into
--
-- In this order: when a range cuts a block partly, what a leaf requires, what the leaves of a table require together, and what is left of a cut
-- table.
use Rattle.std.specs.Prelude.{ℕ, zero, suc, ◌+◌, ◌-◌, ◌*◌, ◌/◌, ◌%◌, ◌^◌, ◌≤◌, ◌<◌, ◌≡◌, Bool, true, false, ◌&&◌, not, ◌⊎◌, ltb, leb}
use Rattle.paging.specs.Choice.{pick}
use Rattle.paging.specs.Level.{span, Canonical, Within}
use Rattle.paging.specs.Format.{nothing, by_kind, Format, Lawful}
use Rattle.paging.specs.Table.{view, shows, nowhere, translates, Formed}
use Rattle.paging.specs.Need.{need, over}
use Rattle.paging.specs.Steps.{Ranged}

-- [a, e) has an address of block q of level l; and has all of them
abbrev pub meets : ℕ → ℕ → ℕ → ℕ → Bool
meets l q a e = ltb a e && (ltb a (q * span l + span l) && ltb (q * span l) e)

abbrev pub covers : ℕ → ℕ → ℕ → ℕ → Bool
covers l q a e = leb a (q * span l) && leb (q * span l + span l) e

-- the block is partly cut: the range takes some of it and leaves some
abbrev pub partly : ℕ → ℕ → ℕ → ℕ → Bool
partly l q a e = meets l q a e && not (covers l q a e)

-- f 0 + f 1 + .. + f (n - 1)
unfoldable pub sum : ℕ → (ℕ → ℕ) → ℕ
sum zero f = 0
sum (suc n) f = sum n f + f n

-- "exactly the frames its partly cut leaves require: one for a 2 MiB leaf; for a 1 GiB leaf one plus one for each 2 MiB stretch that a cut splits
-- inside": a partly cut leaf gives way to one table of its 512 pieces, and of these each that is partly cut to one of its own
unfoldable pub required : ℕ → ℕ → ℕ → ℕ → ℕ
required zero q a e = 0
required (suc l) q a e = pick (partly (suc l) q a e) (1 + sum 512 (λ i. required l (q * 512 + i) a e)) 0

-- the leaves in frame n of level l and in the tables below it, where entry k of the frame is block at k; those of the lowest level require nothing
unfoldable pub under : Format → (ℕ → ℕ → ℕ) → ℕ → ℕ → ℕ → ℕ → (ℕ → ℕ) → ℕ
under F W a e zero n at = 0
under F W a e (suc l) n at =
    sum 512 (λ k. by_kind (F.kind (suc l) (W n k)) 0 (required (suc l) (at k) a e) (λ m. under F W a e l m (λ j. at k * 512 + j)))

-- entry k of the root: in the lower half of the addresses, or at the top of the 64 bits
abbrev pub root_block : ℕ → ℕ → ℕ
root_block l k = pick (ltb k 256) k (k + (2 ^ 64 / span l - 512))

-- what cutting [a, e) out of a table requires: the sum over its leaves
unfoldable pub frames : Format → (ℕ → ℕ → ℕ) → ℕ → ℕ → ℕ → ℕ
frames F W root a e = under F W a e F.top root (root_block F.top)

-- [a, e) was cut out of the table W: W' is what is left, k frames were taken before and k' are now, those that are In'
pub record Cutting (F : Format) (W W' : ℕ → ℕ → ℕ) (In' : ℕ → Type 0) (root a e k k' : ℕ) : Type 0 where
  -- "takes exactly the frames its partly cut leaves require"
  pub taken : k' ≡ k + frames F W root a e
  -- "Every address outside keeps its frame and rights"
  pub outside : (v : ℕ) → Canonical (suc F.top) v → (v < a) ⊎ (e ≤ v) → translates F W' root v ≡ translates F W root v
  -- "no address inside has a frame any more"
  pub inside : (v : ℕ) → a ≤ v → v < e → translates F W' root v ≡ nowhere
  pub formed : Formed F W' In' root
  -- no entry outside changes but those of partly cut leaves
  pub untouched : (v l w : ℕ) → Canonical (suc F.top) v → (v < a) ⊎ (e ≤ v) → shows F W root v ≡ view l w
      → (F.kind l w ≡ nothing) ⊎ (partly l (v / span l) a e ≡ false) → shows F W' root v ≡ view l w
  -- what is kept of one stands in the largest leaves that fit: any larger block would be partly cut
  pub largest : (v : ℕ) → Canonical (suc F.top) v → (v < a) ⊎ (e ≤ v) → over F W' root v < over F W root v
      → partly (suc (over F W' root v)) (v / span (suc (over F W' root v))) a e ≡ true

-- What is proved of it: `CutsHold`, below.
pub record Cuts (F : Format) (root : ℕ) : Type 1 where
  -- the splits at both ends, and every entry between them emptied (Steps), is such a cut
  pub cut_out : (In : ℕ → ℕ → Type 0) (next : ℕ → ℕ) (W : ℕ → ℕ → ℕ) (k : ℕ) (W' : ℕ → ℕ → ℕ) (k' a e : ℕ)
      → Formed F W (In k) root → Within (suc F.top) a e → a % 4096 ≡ 0 → e % 4096 ≡ 0 → a < e
      → Ranged F In next root (λ l w. 0) a e W k W' k' → Cutting F W W' (In k') root a e k k'
  -- nothing is cut out of a table by an empty range
  pub cut_none : (In : ℕ → Type 0) (W : ℕ → ℕ → ℕ) (k a : ℕ) → Formed F W In root → Cutting F W W In root a a k k
  -- two frames for each level at which there are leaves above the lowest: "Never more than four" where these are two
  pub most : (W : ℕ → ℕ → ℕ) (a e : ℕ) → Within (suc F.top) a e → frames F W root a e ≤ 2 * F.leaf_top
  -- and what the table requires is found from the two walks of the ends
  pub found : (W : ℕ → ℕ → ℕ) (a e : ℕ) → a < e → Within (suc F.top) a e → frames F W root a e ≡ need a (over F W root a) e (over F W root e)

pub record CutsHold : Type 1 where
  pub holds : (F : Format) (root : ℕ) → Lawful F → F.top ≤ 4 → 0 < F.table_marks → Cuts F root
