-- A fresh space. Document 01: "User root 0x200000 up to 2^47 − 4096; kernel root 0xffffff0200000000, size 0x8000000000"; "Region ids count up from 0 (the root)".
use Rattle.std.specs.Prelude.{ℕ, true, set, replicate}
use Rattle.space.specs.Space.{blank_region, blank_mapping}
use Rattle.space.specs.declared.Space.{Space}

-- a fresh space: the root with id 0 in slot 0, flags CAN_MAP_READ, CAN_MAP_WRITE, CAN_MAP_EXECUTE and CAN_MAP_SPECIFIC as in the Rust
abbrev pub new_space : ℕ → ℕ → Space
new_space addr size = record {
  regions = set (replicate 32 blank_region) 0 (record { live = true; id = 0; addr = addr; size = size; flags = 0x78; parent = 32 });
  mappings = replicate 64 blank_mapping;
  reglist = replicate 32 0;
  regcount = 1;
  maplist = replicate 64 0;
  mapcount = 0;
  nextid = 1;
}
