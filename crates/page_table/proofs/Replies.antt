-- What a table call tells is told of one outcome alone, so that a promise fixes the outcome itself.
use Rattle.std.specs.Prelude.{Err, Ok, Option, Result}
use Prim.Native.Nat.{ℕ}
use mathlib.Core.Path.{◌≡◌, refl, sym, ap, ◌∙◌}
use mathlib.Core.List.{List, head-eq_of_cons-eq, tail-eq_of_cons-eq}
use lib.Dec.{eqb}
use Rattle.paging.specs.Choice.{pick, Answered}
use Rattle.paging.proofs.Cases.{OneToOne, answered_by}
use Rattle.common.specs.Page.{size_of}
use Rattle.common.specs.declared.vm.PageSize.{PageSize}
use Rattle.common.specs.declared.vm.PageSize.TheVariants.{Size4K, Size2M, Size1G}
use Rattle.form.specs.Form.{Good}
use Rattle.refusal.specs.declared.Refusal.TheVariants.{BadTable}
use Rattle.refusal.proofs.Replies.{same_refusal, same_values, never}
use Rattle.table.specs.Table.{Unmapping, Updating}
use Rattle.table_map.specs.Map.{Mapping}
use Rattle.page_table.specs.Replies.{query_reply, unmap_reply, unmap_told, update_reply, update_told, map_reply, used_after, map_told}
use Rattle.page_table.specs.Calls.{unmap_call, unmap_refused, update_call, update_refused, map_call, map_refused, UnmapFits, UpdateFits, MapFits}
use Rattle.refusal.specs.declared.Refusal.{Refusal}
use Rattle.common.specs.declared.defs.MMUFlags.{MMUFlags}

-- the page size of so many bytes
abbrev size_at : ℕ → PageSize
size_at n = pick (eqb n 0x1000) Size4K (pick (eqb n 0x200000) Size2M Size1G)

size_back : (s : PageSize) → size_at (size_of s) ≡ s
size_back Size4K = refl
size_back Size2M = refl
size_back Size1G = refl

size_once : OneToOne size_of
size_once s t e = sym (size_back s) ∙ ap size_at e ∙ size_back t

pub query_once : OneToOne query_reply
query_once (Ok (a, f, s)) (Ok (b, g, t)) e =
    let v = same_values e in
    let x = head-eq_of_cons-eq v in
    let y = head-eq_of_cons-eq (tail-eq_of_cons-eq v) in
    let z = size_once s t (head-eq_of_cons-eq (tail-eq_of_cons-eq (tail-eq_of_cons-eq v))) in
    λ i. Ok (x i, (record { 0 = y i }), z i)
query_once (Ok (a, f, s)) (Err r) e = never r e
query_once (Err r) (Ok (a, f, s)) e = never r (sym e)
query_once (Err r) (Err q) e = ap Err (same_refusal r q e)

unmap_reply_lem : OneToOne unmap_reply
unmap_reply_lem (Ok (a, s)) (Ok (b, t)) e =
    let v = same_values e in
    let x = head-eq_of_cons-eq v in
    let z = size_once s t (head-eq_of_cons-eq (tail-eq_of_cons-eq v)) in
    λ i. Ok (x i, z i)
unmap_reply_lem (Ok (a, s)) (Err r) e = never r e
unmap_reply_lem (Err r) (Ok (a, s)) e = never r (sym e)
unmap_reply_lem (Err r) (Err q) e = ap Err (same_refusal r q e)

pub unmap_once : OneToOne unmap_told
unmap_once a b e = λ i. record { result = unmap_reply_lem a.result b.result (λ j. (e j).reply) i; pool = (e i).after }

update_reply_lem : OneToOne update_reply
update_reply_lem (Ok s) (Ok t) e = ap Ok (size_once s t (head-eq_of_cons-eq (same_values e)))
update_reply_lem (Ok s) (Err r) e = never r e
update_reply_lem (Err r) (Ok s) e = never r (sym e)
update_reply_lem (Err r) (Err q) e = ap Err (same_refusal r q e)

pub update_once : OneToOne update_told
update_once a b e = λ i. record { result = update_reply_lem a.result b.result (λ j. (e j).reply) i; pool = (e i).after }

-- a map's reply, with the frames in use beside it
map_reply_lem : (used : ℕ) (a b : Result ℕ Refusal) → map_reply a ≡ map_reply b → used_after used a ≡ used_after used b → a ≡ b
map_reply_lem used (Ok x) (Ok y) e u = ap Ok u
map_reply_lem used (Ok x) (Err r) e u = never r e
map_reply_lem used (Err r) (Ok y) e u = never r (sym e)
map_reply_lem used (Err r) (Err q) e u = ap Err (same_refusal r q e)

pub map_once : (used : ℕ) → OneToOne (map_told used)
map_once used a b e = λ i. record { result = map_reply_lem used a.result b.result (λ j. (e j).reply) (λ j. (e j).after.1) i; pool = (e i).after.0 }

-- what the promises say of an outcome itself
module _ (p : List ℕ) (base used v : ℕ) where
  abbrev pub UnmapIs : Unmapping → Type 0
  UnmapIs o = Answered (Good p base used) (unmap_refused p BadTable) (unmap_call p base v) o

  pub unmap_is : (o : Unmapping) → UnmapFits p base used v o → UnmapIs o
  unmap_is o = answered_by unmap_told unmap_once (unmap_refused p BadTable) (unmap_call p base v) o

  abbrev pub UpdateIs : Option ℕ → Option MMUFlags → Updating → Type 0
  UpdateIs n f o = Answered (Good p base used) (update_refused p BadTable) (update_call p base v n f) o

  pub update_is : (n : Option ℕ) (f : Option MMUFlags) (o : Updating) → UpdateFits p base used v n f o → UpdateIs n f o
  update_is n f o = answered_by update_told update_once (update_refused p BadTable) (update_call p base v n f) o

  abbrev pub MapIs : ℕ → PageSize → ℕ → Mapping → Type 0
  MapIs pa s f o = Answered (Good p base used) (map_refused p BadTable) (map_call p base used v pa s f) o

  pub map_is : (pa : ℕ) (s : PageSize) (f : ℕ) (o : Mapping) → MapFits p base used v pa s f o → MapIs pa s f o
  map_is pa s f o = answered_by (map_told used) (map_once used) (map_refused p BadTable) (map_call p base used v pa s f) o
