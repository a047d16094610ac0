-- The calls by what their tests show.
use Rattle.std.specs.Prelude.{ℕ, ◌≡◌, ◌/◌, true, List}
use Rattle.table_unmap_cont.specs.UnmapCont.{unmap_cont}
use Rattle.generic_page_table.specs.Rules.{range_in_rule, page_aligned}
use Rattle.generic_page_table.specs.Calls.{unmap_cont_call}

module _ (p : List ℕ) (base used v n : ℕ) where
  pub cut_core : range_in_rule v n ≡ true → page_aligned v n ≡ true → unmap_cont p (base / 4096) used v n ≡ unmap_cont_call p base used v n
  cut_core r a = rw (r, a)
