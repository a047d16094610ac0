-- What a call on a space tells is told of one outcome alone, so that a promise fixes the outcome itself.
use Rattle.std.specs.Prelude.{Ok, Err, Option}
use Prim.Native.Nat.{ℕ, ◌/◌}
use mathlib.Core.Path.{refl, sym, ap}
use mathlib.Core.Bool.{Bool}
use mathlib.Core.List.{List, head-eq_of_cons-eq}
use Rattle.paging.specs.Choice.{Answered}
use Rattle.paging.proofs.Cases.{OneToOne, answered_by}
use Rattle.refusal.specs.declared.Refusal.TheVariants.{BadSpace, BadTable}
use Rattle.refusal.proofs.Replies.{same_refusal, same_values, never}
use Rattle.form.specs.Form.{Good}
use Rattle.space.specs.Passes.{Passes}
use Rattle.space.specs.declared.Space.{Space}
use Rattle.vmar_allocate.specs.Allocate.{allocated}
use Rattle.vmar_allocate.specs.Allocate as allocate
use Rattle.vmar_allocate.specs.Allocate.{Allocation}
use Rattle.vmar_map.specs.Map.{MapDone, mapped}
use Rattle.vmar_map.specs.Map as map
use Rattle.vmar_overwrite.specs.Overwrite.{OverwriteDone}
use Rattle.vmar_overwrite.specs.Overwrite as over
use Rattle.vmar_protect.specs.Protect.{lent, protected}
use Rattle.vmar_protect.specs.Protect as protect
use Rattle.vmar_unmap.specs.Unmap.{State, CutDone}
use Rattle.vmar_unmap.specs.Unmap as cut
use Rattle.vmar.specs.Replies.{allocate_reply, map_reply, flags_reply, user_range_reply, cut_reply, protect_reply}
use Rattle.vmar.specs.Calls.{ProtectedDone, kept, map_ext, allocate_told, flags_told, user_range_told, ext_told, map_told, cut_told, protect_told, Ordered, bad_space, bad_table, done, before, AllocateFits, MapFits, MapExtFits, CutFits, ProtectFits}

allocate_reply_lem : OneToOne allocate_reply
allocate_reply_lem (Ok a) (Ok b) e = ap Ok (head-eq_of_cons-eq (same_values e))
allocate_reply_lem (Ok a) (Err r) e = never r e
allocate_reply_lem (Err r) (Ok a) e = never r (sym e)
allocate_reply_lem (Err r) (Err q) e = ap Err (same_refusal r q e)

map_reply_lem : OneToOne map_reply
map_reply_lem (Ok a) (Ok b) e = ap Ok (head-eq_of_cons-eq (same_values e))
map_reply_lem (Ok a) (Err r) e = never r e
map_reply_lem (Err r) (Ok a) e = never r (sym e)
map_reply_lem (Err r) (Err q) e = ap Err (same_refusal r q e)

flags_reply_lem : OneToOne flags_reply
flags_reply_lem (Ok f) (Ok g) e = let v = head-eq_of_cons-eq (same_values e) in λ i. Ok (record { 0 = v i })
flags_reply_lem (Ok f) (Err r) e = never r e
flags_reply_lem (Err r) (Ok f) e = never r (sym e)
flags_reply_lem (Err r) (Err q) e = ap Err (same_refusal r q e)

user_reply : OneToOne user_range_reply
user_reply (Ok _) (Ok _) e = refl
user_reply (Ok _) (Err r) e = never r e
user_reply (Err r) (Ok _) e = never r (sym e)
user_reply (Err r) (Err q) e = ap Err (same_refusal r q e)

cut_reply_lem : OneToOne cut_reply
cut_reply_lem (Ok _) (Ok _) e = refl
cut_reply_lem (Ok _) (Err r) e = never r e
cut_reply_lem (Err r) (Ok _) e = never r (sym e)
cut_reply_lem (Err r) (Err q) e = ap Err (same_refusal r q e)

protect_reply_lem : OneToOne protect_reply
protect_reply_lem (Ok _) (Ok _) e = refl
protect_reply_lem (Ok _) (Err r) e = never r e
protect_reply_lem (Err r) (Ok _) e = never r (sym e)
protect_reply_lem (Err r) (Err q) e = ap Err (same_refusal r q e)

pub allocate_once : OneToOne allocate_told
allocate_once a b e = λ i. record { result = allocate_reply_lem a.result b.result (λ j. (e j).reply) i; space = (e i).after }

pub flags_once : OneToOne flags_told
flags_once a b e = λ i. record { result = flags_reply_lem a.result b.result (λ j. (e j).reply) i; space = (e i).after }

pub user_once : OneToOne user_range_told
user_once a b e = λ i. record { result = user_reply a.result b.result (λ j. (e j).reply) i; space = (e i).after }

pub ext_once : OneToOne ext_told
ext_once a b e = λ i. record { result = map_reply_lem a.result b.result (λ j. (e j).reply) i; state = (e i).after }

pub map_once : (st : State) → OneToOne (map_told st)
map_once st a b e = λ i. record { result = map_reply_lem a.result b.result (λ j. (e j).reply) i; space = (e i).after.space; flags = (e i).after.flags }

pub cut_once : OneToOne cut_told
cut_once a b e = λ i. record { result = cut_reply_lem a.result b.result (λ j. (e j).reply) i; state = (e i).after }

pub protect_once : (used : ℕ) → OneToOne (protect_told used)
protect_once used a b e =
    λ i. record {
      space = (e i).after.space;
      done = record { result = protect_reply_lem a.done.result b.done.result (λ j. (e j).reply) i; flags = (e i).after.flags; pool = (e i).after.pool };
    }

-- an outcome of a call that takes the pool, seen through a function that tells all outcomes apart, is the outcome itself
ordered_by : {A B P Q : Type 0} (f : A → B) → OneToOne f → (no12 no13 does out : A) → Ordered P Q (f no12) (f no13) (f does) (f out) → Ordered P Q no12 no13 does out
ordered_by f once no12 no13 does out (bad_space n e) = bad_space n (once out no12 e)
ordered_by f once no12 no13 does out (bad_table p n e) = bad_table p n (once out no13 e)
ordered_by f once no12 no13 does out (done p q e) = done p q (once out does e)

-- what the promises say of an outcome itself
module _ (s : Space) (f : List ℕ) where
  module _ (id : ℕ) (o : Option ℕ) (len flags align : ℕ) (out : Allocation) where
    abbrev pub AllocateIs : Type 0
    AllocateIs = Answered (Passes s f) (allocate.refused s BadSpace) (allocated s id o len flags align) out

    pub allocate_is : AllocateFits s f id o len flags align out → AllocateIs
    allocate_is = answered_by allocate_told allocate_once (allocate.refused s BadSpace) (allocated s id o len flags align) out

  module _ (p : List ℕ) (base used : ℕ) where
    module _ (id : ℕ) (o : Option ℕ) (vmo vmo-len at len permissions flags : ℕ) where
      abbrev pub MapIs : Bool → MapDone → Type 0
      MapIs faults out = Ordered (Passes s f) (Good p base used) (map.refused s f BadSpace) (map.refused s f BadTable) (mapped s f id o vmo vmo-len at len permissions flags faults) out

      pub map_is : (faults : Bool) (out : MapDone) → MapFits s f p base used id o vmo vmo-len at len permissions flags faults out → MapIs faults out
      map_is faults out =
          ordered_by (map_told (before s f p base used)) (map_once (before s f p base used)) (map.refused s f BadSpace) (map.refused s f BadTable)
          (mapped s f id o vmo vmo-len at len permissions flags faults) out

      abbrev pub MapExtIs : Bool → Bool → OverwriteDone → Type 0
      MapExtIs overwrite faults out =
          Ordered (Passes s f) (Good p base used) (over.refused (before s f p base used) BadSpace) (over.refused (before s f p base used) BadTable)
          (map_ext base (before s f p base used) id o vmo vmo-len at len permissions flags overwrite faults) out

      pub map_ext_is : (overwrite faults : Bool) (out : OverwriteDone) → MapExtFits s f p base used id o vmo vmo-len at len permissions flags overwrite faults out
          → MapExtIs overwrite faults out
      map_ext_is overwrite faults out =
          ordered_by ext_told ext_once (over.refused (before s f p base used) BadSpace) (over.refused (before s f p base used) BadTable)
          (map_ext base (before s f p base used) id o vmo vmo-len at len permissions flags overwrite faults) out

    abbrev pub CutIs : CutDone → CutDone → Type 0
    CutIs does out = Ordered (Passes s f) (Good p base used) (cut.refused (before s f p base used) BadSpace) (cut.refused (before s f p base used) BadTable) does out

    pub cut_is : (does out : CutDone) → CutFits s f p base used does out → CutIs does out
    cut_is does out = ordered_by cut_told cut_once (cut.refused (before s f p base used) BadSpace) (cut.refused (before s f p base used) BadTable) does out

    module _ (id addr len access : ℕ) (out : ProtectedDone) where
      abbrev pub ProtectIs : Type 0
      ProtectIs =
          Ordered (Passes s f) (Good p base used) (kept s (protect.refused (lent f p) BadSpace)) (kept s (protect.refused (lent f p) BadTable))
          (kept s (protected s (lent f p) (base / 4096) id addr len access)) out

      pub protect_is : ProtectFits s f p base used id addr len access out → ProtectIs
      protect_is =
          ordered_by (protect_told used) (protect_once used) (kept s (protect.refused (lent f p) BadSpace)) (kept s (protect.refused (lent f p) BadTable))
          (kept s (protected s (lent f p) (base / 4096) id addr len access)) out
