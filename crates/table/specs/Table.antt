-- What query, unmap and update do to a well-formed table, after document 01 and the Rust: the answer and every word of the pool. `found` is the end of the
-- address's walk (walk/specs/Walk).
use Rattle.std.specs.Prelude.{ℕ, ◌+◌, ◌-◌, ◌%◌, ◌^◌, Bool, true, false, List, ltb, Err, None, Ok, Option, Result, Some}
use Rattle.paging.specs.Choice.{pick}
use Rattle.common.specs.Page.{size_of, aligned, is_huge}
use Rattle.common.specs.declared.vm.PageSize.{PageSize}
use Rattle.x86_64.specs.Entry.{addr_of, flags_of, leaf_by}
use Rattle.pool.specs.Pool.{word, put_word}
use Rattle.refusal.specs.declared.Refusal.TheVariants.{InvalidArgs, NotMapped}
use Rattle.walk.specs.Walk.{found}
use Rattle.walk.specs.declared.Walk.{Walk}
use Rattle.walk.specs.declared.Walk.TheVariants.{Leaf, Open}
use Rattle.walk.specs.declared.LeafEntry.{LeafEntry}
use Rattle.common.specs.declared.defs.MMUFlags.{MMUFlags}
use Rattle.refusal.specs.declared.Refusal.{Refusal}

-- a call that needs a leaf: what it does with the one over the address, and what it is where there is none
abbrev pub by_leaf : {A : Type 0} → Walk → (LeafEntry → A) → A → A
by_leaf (Leaf e) f a = f e
by_leaf (Open o) f a = a

-- query: the frame of the byte, the rights and the size
abbrev pub queried : List ℕ → ℕ → ℕ → Result (ℕ × MMUFlags × PageSize) Refusal
queried p b v =
    by_leaf (found p b v)
    (λ e. let w = word p e.frame e.place in Ok (addr_of w + v % size_of e.size, (record { 0 = flags_of w }), e.size))
    (Err NotMapped)

pub record Unmapping : Type 0 where
  pub result : Result (ℕ × PageSize) Refusal
  pub pool : List ℕ

-- unmap: the whole leaf goes
abbrev pub unmapped : List ℕ → ℕ → ℕ → Unmapping
unmapped p b v =
    by_leaf (found p b v)
    (λ e. record { result = Ok ((addr_of (word p e.frame e.place)), e.size); pool = put_word p e.frame e.place 0 })
    (record { result = Err NotMapped; pool = p })

-- "a new physical address not aligned to the leaf, or whose leaf passes 2^52"
abbrev pub misplaced : Option ℕ → PageSize → Bool
misplaced (Some p) s = pick (aligned s p) (ltb (2 ^ 52 - size_of s) p) true
misplaced None s = false

-- an address alone keeps the other bits; rights drop bits 5 and 6
abbrev pub new_addr : ℕ → Option ℕ → ℕ
new_addr w (Some p) = w - addr_of w + addr_of p
new_addr w None = w

abbrev pub new_word : ℕ → PageSize → Option ℕ → Option MMUFlags → ℕ
new_word w s a (Some f) = leaf_by (is_huge s) (addr_of (new_addr w a)) f.0 0
new_word w s a None = new_addr w a

pub record Updating : Type 0 where
  pub result : Result PageSize Refusal
  pub pool : List ℕ

-- "`update` acts on the whole leaf over the address. On an unused entry the port answers 6"
abbrev pub updated : List ℕ → ℕ → ℕ → Option ℕ → Option MMUFlags → Updating
updated p b v a f =
    by_leaf (found p b v)
    (λ e. pick (misplaced a e.size)
    (record { result = Err InvalidArgs; pool = p })
    (record { result = Ok e.size; pool = put_word p e.frame e.place (new_word (word p e.frame e.place) e.size a f) }))
    (record { result = Err NotMapped; pool = p })
