-- The lengths of a space's arrays. Document 01, 'Sizes and buffers': "32 regions and 64 mappings in a space". The code's type says them, `[Region; 32]` and so on;
-- the type that proofs read has lists, so that laws about spaces take them as a fact, and show that calls keep it.
use Rattle.std.specs.Prelude.{◌≡◌, length}
use Rattle.space.specs.declared.Space.{Space}

pub record Arrays (s : Space) : Type 0 where
  pub regions : length s.regions ≡ 32
  pub mappings : length s.mappings ≡ 64
  pub reglist : length s.reglist ≡ 32
  pub maplist : length s.maplist ≡ 64
