-- What is kept of a mapping when [b, e) is cut out of it: the bytes before b and those from e on. The Rust's `cut` has four cases:
--
--     whole    [xxxxxxxxxx]    nothing is kept
--     prefix   [xxxx------]    the bytes from e on
--     postfix  [------xxxx]    the bytes before b
--     middle   [---xxxx---]    both: the mapping keeps those before b, and a new one takes those from e on
--
-- A mapping outside the range keeps all its bytes on one side. Page flags move by pages and VMO offsets along with them; document 01, 'Traps': "Trimming page flags by bytes".
use Rattle.std.specs.Prelude.{ℕ, zero, suc, ◌+◌, ◌-◌, ◌*◌, ◌/◌, min, Bool, false, not, List, eqb, ltb, get_or, set}
use Rattle.paging.specs.Choice.{pick}
use Rattle.space.specs.Space.{blank_mapping}
use Rattle.space.specs.declared.Mapping.{Mapping}

-- how many bytes are kept before b, and from e on
unfoldable pub before : Mapping → ℕ → ℕ
before m b = min m.size (b - m.addr)

unfoldable pub after : Mapping → ℕ → ℕ
after m e = min m.size (m.addr + m.size - e)

-- the mapping of the first n bytes, and that of the last n
abbrev pub left : Mapping → ℕ → Mapping
left m n = record { live = m.live; region = m.region; addr = m.addr; size = n; vmo = m.vmo; offset = m.offset; permissions = m.permissions }

abbrev pub right : Mapping → ℕ → Mapping
right m n = record {
  live = m.live;
  region = m.region;
  addr = m.addr + (m.size - n);
  size = n;
  vmo = m.vmo;
  offset = m.offset + (m.size - n);
  permissions = m.permissions;
}

-- what the slot keeps
unfoldable pub piece : Mapping → ℕ → ℕ → Mapping
piece m b e = pick (eqb (before m b) 0) (pick (eqb (after m e) 0) blank_mapping (right m (after m e))) (left m (before m b))

-- both sides are kept: a split
unfoldable pub is_split : Mapping → ℕ → ℕ → Bool
is_split m b e = pick (eqb (before m b) 0) false (not (eqb (after m e) 0))

-- The 512 bytes from `to` on become the n bytes from `from` on and then zeros: j of them.
unfoldable pub copied : List ℕ → ℕ → ℕ → ℕ → ℕ → List ℕ
copied f to from n zero = f
copied f to from n (suc j) = set (copied f to from n j) (to + j) (pick (ltb j n) (get_or f (from + j) 0) 0)

-- slot i held the mapping m and now holds the piece k of it: its pages' flags come first, and zeros after them; nothing moves where nothing was cut
unfoldable pub retained : Mapping → Mapping → List ℕ → ℕ → List ℕ
retained m k f i = pick (eqb k.size m.size) f (copied f (i * 512) (i * 512 + (k.addr - m.addr) / 4096) (k.size / 4096) 512)

-- the flags of the last n bytes of the mapping m in slot i go to slot j
abbrev pub handed : Mapping → ℕ → List ℕ → ℕ → ℕ → List ℕ
handed m n f i j = copied f (j * 512) (i * 512 + (m.size - n) / 4096) (n / 4096) 512
