-- `query` against the processor.
use Rattle.std.specs.Prelude.{Err, Ok}
use Prim.Native.Nat.{ℕ, ◌+◌, ◌-◌, ◌*◌, ◌/◌, ◌%◌}
use mathlib.Core.Path.{◌≡◌, refl, sym, ap, ◌∙◌}
use mathlib.Core.Bool.{Bool, true, false}
use mathlib.Core.List.{List}
use native.Mathlib.Omega.{arith}
use Rattle.paging.specs.Choice.{pick}
use Rattle.paging.specs.Level.{span}
use Rattle.paging.specs.Format.{Kind, leaf, by_kind}
use Rattle.paging.specs.Table.{shows}
use Rattle.common.specs.Page.{size_of}
use Rattle.common.specs.declared.defs.MMUFlags.{MMUFlags}
use Rattle.common.specs.declared.vm.PageSize.{PageSize}
use Rattle.x86_64.specs.Entry.{addr_of, flags_of, is_present, kind_at, x86}
use Rattle.intel.specs.Intel.{Rights, Answer, fault, maps, intel}
use Rattle.intel.specs.Agrees.{rights_of, as_intel, Stored, Agrees}
use Rattle.intel.proofs.Agree.{agreement}
use Rattle.pool.specs.Pool.{word, mem_of, Taken}
use Rattle.form.specs.Form.{Good}
use Rattle.refusal.specs.declared.Refusal.TheVariants.{NotMapped}
use Rattle.walk.specs.Walk.{found}
use Rattle.walk.specs.declared.Walk.{Walk}
use Rattle.walk.specs.declared.Walk.TheVariants.{Leaf, Open}
use Rattle.walk.proofs.Found.{over}
use Rattle.table.specs.Table.{queried}
use Rattle.table.proofs.Laws.{shown}
use Rattle.table_laws.specs.Processor.{InMemory, Processor, ProcessorAgrees}
use Rattle.walk.proofs.Sizes.{size_bytes}
use Rattle.table_laws.proofs.Effects.{shown_at, queries, queries_not}

-- the kind of a word, by the format and by its definition
kind_of : (l w : ℕ) → x86.kind l w ≡ leaf → kind_at l w ≡ leaf
unfolding x86
kind_of l w e = e

module _ (p : List ℕ) (base used : ℕ) (G : Good p base used) (mem : ℕ → ℕ) (M : InMemory p base used mem) where
  abbrev b : ℕ
  b = base / 4096

  whole : b * 4096 ≡ base
  whole = omega (arith, G.sized.page)

  stored : Stored (mem_of p b) (Taken b used) mem
  stored = record {
    below = λ n t. omega (arith, t.1, G.sized.there, G.sized.below);
    holds = λ n k t h.
        let e : n * 4096 + k * 8 ≡ base + (n - b) * 4096 + k * 8 = omega (arith, whole, t.0) in
        ap mem e ∙ M (n - b) k (omega (arith, t.0, t.1)) h;
  }

  agrees : Agrees (mem_of p b) b mem
  agrees = agreement.holds (mem_of p b) (Taken b used) b mem G.formed stored

  at_base : (v : ℕ) {a : Answer} → intel mem (b * 4096) v ≡ a → intel mem base v ≡ a
  at_base v e = ap (λ (c : ℕ). intel mem c v) (sym whole) ∙ e

  -- the size of the processor's page is that of the leaf
  same_size : (v a : ℕ) (f : MMUFlags) (s : PageSize) → queried p b v ≡ Ok (a, f, s) → (size : ℕ) (r : Rights) → intel mem (b * 4096) v ≡ maps a size r → size ≡ size_of s
  same_size v a f s q size r i = go (found p b v) refl
    where
      go : (w : Walk) → found p b v ≡ w → size ≡ size_of s
      go (Open o) e =
          let none : Err NotMapped ≡ Ok (a, f, s) = rw e at q in
          let z : ◌≡◌ {A = ℕ} 0 1 = cc in
          absurd (omega arith)
      go (Leaf e) h =
          let o = over p b used G.formed v e h in
          let w : ℕ = word p e.frame e.place in
          let same : Ok (addr_of w + v % size_of e.size, (record { 0 = flags_of w }), e.size) ≡ Ok (a, f, s) = sym (shown p b v e h) ∙ q in
          let page : ◌≡◌ {A = ℕ × MMUFlags × PageSize} (addr_of w + v % size_of e.size, record { 0 = flags_of w }, e.size) (a, f, s) = cc in
          let es : e.size ≡ s = ap (λ (x : ℕ × MMUFlags × PageSize). x.2) page in
          let t : maps a size r ≡ as_intel v (shows x86 (mem_of p b) b v) = sym i ∙ agrees.agrees v in
          let u : maps a size r ≡ by_kind (kind_at o.l w) fault (pick (is_present w) (maps (addr_of w + v % span o.l) (span o.l) (rights_of w)) fault) (λ m. fault) =
          t ∙ ap (as_intel v) (shown_at p base used v G o.l e.frame e.place o.placed) in
          let x : maps a size r ≡ pick (is_present w) (maps (addr_of w + v % span o.l) (span o.l) (rights_of w)) fault = u ∙ ap (λ (k : Kind). by_kind k fault (pick (is_present w) (maps (addr_of w + v % span o.l) (span o.l) (rights_of w)) fault) (λ m. fault)) (kind_of o.l w o.kind) in
          by_present (addr_of w + v % span o.l) (span o.l) (rights_of w) (is_present w) x ∙ sym (size_bytes o.l o.low) ∙ ap size_of (sym o.size ∙ es)
        where
          by_present : (x n : ℕ) (g : Rights) (t : Bool) → maps a size r ≡ pick t (maps x n g) fault → size ≡ n
          by_present x n g true y = cc
          by_present x n g false y = let z : ◌≡◌ {A = ℕ} 0 1 = cc in absurd (omega arith)

  pub processor : Processor p base mem
  processor = record {
    reads = λ v a f s q h.
        let d = agrees.readable v a f.0 (queries p base used v G a f s q) h in
        (d.1, at_base v (d.2 ∙ ap (λ (n : ℕ). maps a n d.1) (same_size v a f s q d.0 d.1 d.2)), d.3);
    holds = λ v a f s q h. at_base v (agrees.unreadable v a f.0 (queries p base used v G a f s q) h);
    lacks = λ v q. at_base v (agrees.unmapped v (queries_not p base used v G q));
  }

pub processor_agrees : ProcessorAgrees
processor_agrees = record { holds = λ p base used mem G M. processor p base used G mem M }
