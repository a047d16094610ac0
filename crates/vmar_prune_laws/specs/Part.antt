-- What a part of a mapping is. Document 01, 'Sizes and buffers': "32,768 bytes of lent page flags, 512 for each mapping"; "Flags .. past a mapping's last page are zero";
-- 'Traps': "Trimming page flags by bytes". A part's VMO range and its page flags are those that the mapping had there.
use Rattle.std.specs.Prelude.{ℕ, ◌+◌, ◌*◌, ◌/◌, ◌%◌, ◌≤◌, ◌<◌, ◌≡◌, true, List}
use Rattle.space.specs.Space.{mapping_at, is_mapping}
use Rattle.space.specs.Passes.{page_at}
use Rattle.space.specs.declared.Mapping.{Mapping}
use Rattle.space.specs.declared.Space.{Space}

-- k is the mapping m from its page d on, or from there to an earlier end
pub record PartOf (m k : Mapping) (d : ℕ) : Type 0 where
  -- it lives, in the same region
  pub live : k.live ≡ true
  pub region : k.region ≡ m.region
  -- whole pages of the same range of addresses
  pub addr : k.addr ≡ m.addr + d * 4096
  pub size : k.size % 4096 ≡ 0
  pub end : d * 4096 + k.size ≤ m.size
  -- the same range of the same VMO, with the same permissions
  pub vmo : k.vmo ≡ m.vmo
  pub offset : k.offset ≡ m.offset + d * 4096
  pub permissions : k.permissions ≡ m.permissions

-- the n pages of slot j of the flags g are those of slot i of f from page d on; past them are zeros
pub record Moved (f : List ℕ) (i d : ℕ) (g : List ℕ) (j n : ℕ) : Type 0 where
  -- by pages, never by bytes
  pub pages : (p : ℕ) → p < n → page_at g j p ≡ page_at f i (d + p)
  -- "past a mapping's last page are zero"
  pub past : (p : ℕ) → n ≤ p → p < 512 → page_at g j p ≡ 0

-- slot j of t and g holds a part of the live mapping in slot i of s and f
pub record Taken (s : Space) (f : List ℕ) (i : ℕ) (t : Space) (g : List ℕ) (j : ℕ) : Type 0 where
  -- that one lives
  pub slot : i < 64
  pub live : is_mapping s i ≡ true
  -- the first pages that it lacks
  pub skip : ℕ
  -- what it is, and its page flags
  pub part : PartOf (mapping_at s i) (mapping_at t j) skip
  pub flags : Moved f i skip g j ((mapping_at t j).size / 4096)
