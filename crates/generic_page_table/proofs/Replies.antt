-- What a range call tells is told of one outcome alone, so that a promise fixes the outcome itself.
use Rattle.std.specs.Prelude.{Err, Ok}
use Prim.Native.Nat.{ℕ}
use mathlib.Core.Path.{sym, ap}
use mathlib.Core.List.{List, head-eq_of_cons-eq}
use Rattle.paging.specs.Choice.{Answered}
use Rattle.paging.proofs.Cases.{OneToOne, answered_by}
use Rattle.form.specs.Form.{Good}
use Rattle.refusal.specs.declared.Refusal.TheVariants.{BadTable}
use Rattle.refusal.proofs.Replies.{same_refusal, same_values, never}
use Rattle.table_map.specs.Map.{Mapping}
use Rattle.table_unmap_cont.specs.UnmapCont.{ContUnmapping}
use Rattle.page_table.specs.Calls.{map_refused}
use Rattle.page_table.specs.Replies.{map_told}
use Rattle.page_table.proofs.Replies.{map_once}
use Rattle.generic_page_table.specs.Calls.{map_cont_call, unmap_cont_refused, unmap_cont_call, unmap_cont_reply, unmap_cont_told, MapContFits, UnmapContFits}

unmap_cont_reply_lem : OneToOne unmap_cont_reply
unmap_cont_reply_lem (Ok t) (Ok u) e = ap Ok (head-eq_of_cons-eq (same_values e))
unmap_cont_reply_lem (Ok t) (Err r) e = never r e
unmap_cont_reply_lem (Err r) (Ok t) e = never r (sym e)
unmap_cont_reply_lem (Err r) (Err q) e = ap Err (same_refusal r q e)

pub unmap_cont_once : OneToOne unmap_cont_told
unmap_cont_once a b e = λ i. record { result = unmap_cont_reply_lem a.result b.result (λ j. (e j).reply) i; pool = (e i).after }

-- what the promises say of an outcome itself
module _ (p : List ℕ) (base used v n : ℕ) where
  abbrev pub MapContIs : ℕ → ℕ → Mapping → Type 0
  MapContIs pa f o = Answered (Good p base used) (map_refused p BadTable) (map_cont_call p base used v n pa f) o

  pub map_cont_is : (pa f : ℕ) (o : Mapping) → MapContFits p base used v n pa f o → MapContIs pa f o
  map_cont_is pa f o = answered_by (map_told used) (map_once used) (map_refused p BadTable) (map_cont_call p base used v n pa f) o

  abbrev pub UnmapContIs : ContUnmapping → Type 0
  UnmapContIs o = Answered (Good p base used) (unmap_cont_refused p BadTable) (unmap_cont_call p base used v n) o

  pub unmap_cont_is : (o : ContUnmapping) → UnmapContFits p base used v n o → UnmapContIs o
  unmap_cont_is o = answered_by unmap_cont_told unmap_cont_once (unmap_cont_refused p BadTable) (unmap_cont_call p base used v n) o
