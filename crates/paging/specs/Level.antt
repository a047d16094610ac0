-- Levels, spans and indexes. States document 01, 'Entries and translation': "Indexes are bits 47–39, 38–30, 29–21 and 20–12",
-- over the level, so that one law serves every page size and a format of three levels too.
--
--     level        3          2          1          0       (page)
--     bits      47 – 39    38 – 30    29 – 21    20 – 12    11 – 0
--     spans     512 GiB     1 GiB      2 MiB      4 KiB
--
-- In this order: what an entry spans, the indexes, an address put together again, the addresses of n levels, ranges of them, the theorems.
use Rattle.std.specs.Prelude.{ℕ, zero, suc, ◌+◌, ◌-◌, ◌*◌, ◌/◌, ◌%◌, ◌^◌, ◌≤◌, ◌<◌, ◌≡◌, ◌⊎◌}

-- the bytes that one entry of level l spans
abbrev pub span : ℕ → ℕ
span l = 2 ^ (12 + 9 * l)

-- the place of an address in a table of level l: one of 512
abbrev pub index : ℕ → ℕ → ℕ
index l v = v / span l % 512

-- the indexes of the k levels from t up, each worth its span
abbrev pub joined : ℕ → ℕ → ℕ → ℕ
joined t zero v = 0
joined t (suc k) v = index (t + k) v * span (t + k) + joined t k v

-- the addresses that n levels tell apart: the lowest half of what they span, and as much at the top of the 64 bits
abbrev pub half : ℕ → ℕ
half n = 2 ^ (11 + 9 * n)

abbrev pub Canonical : ℕ → ℕ → Type 0
Canonical n v = (v < half n) ⊎ ((2 ^ 64 - half n ≤ v) × (v < 2 ^ 64))

-- a range [a, e) of such addresses, in one half; the end of the lower half is itself no such address, and one that is 2^64 is no number of 64 bits
abbrev pub Within : ℕ → ℕ → ℕ → Type 0
Within n a e = (a ≤ e) × ((e ≤ half n) ⊎ ((2 ^ 64 - half n ≤ a) × (e < 2 ^ 64)))

-- What is proved of them, for any level t at which a page stands and any number k of levels from there up; where two halves are told apart, of
-- k + 1 levels, five at most, since the addresses have 64 bits.
pub record Indexes : Type 1 where
  -- indexes and page offset put an address together again, up to what the levels span
  pub rejoin : (t k v : ℕ) → joined t k v + v % span t ≡ v % span (t + k)
  -- two different pages of a size never share all indexes
  pub tell : (t k v v' : ℕ) → t + suc k ≤ 5 → Canonical (t + suc k) v → Canonical (t + suc k) v'
      → ((l : ℕ) → t ≤ l → l ≤ t + k → index l v ≡ index l v') → v / span t ≡ v' / span t
