-- Page flags after a map: what `filled` holds where.
use Prim.Native.Nat.{ℕ, zero, suc, ◌+◌, ◌*◌, ◌≤◌, ◌<◌}
use mathlib.Core.Path.{◌≡◌, refl, sym, ◌∙◌, subst}
use mathlib.Core.List.{List}
use mathlib.Core.Logic.{⊎_elim}
use native.Mathlib.Omega.{arith}
use lib.ListN.{length, get_or, length-set}
use lib.Seq.{get_or-set_same, get_or-set_other}
use Rattle.paging.proofs.Cases.{same?}
use Rattle.space.specs.Passes.{page_at}
use Rattle.vmar_map.specs.Map.{filled}
use Rattle.vmar_laws.specs.Maps.{PagesGiven}

pub filled_length : (f : List ℕ) (at n b : ℕ) → length (filled f at n b) ≡ length f
unfolding filled
filled_length f at zero b = refl
filled_length f at (suc n) b = length-set (filled f at n b) (at + n) b ∙ filled_length f at n b

-- each of the n bytes from `at` on is b
filled_in : (f : List ℕ) (at n b k : ℕ) → k < n → at + n ≤ length f → get_or (filled f at n b) (at + k) 0 ≡ b
unfolding filled
filled_in f at zero b k l h = absurd (omega arith)
filled_in f at (suc n) b k l h =
    ⊎_elim
    (λ (e : k ≡ n).
    subst (λ (x : ℕ). get_or (filled f at (suc n) b) (at + x) 0 ≡ b) (sym e)
    (let z = filled_length f at n b in get_or-set_same (filled f at n b) (at + n) b 0 (omega arith)))
    (λ (e : k ≡ n → ⊥). get_or-set_other (filled f at n b) (at + n) (at + k) b 0 (λ q. e (omega arith)) ∙ filled_in f at n b k (omega arith) (omega arith))
    (same? k n)

-- no other byte changes
filled_out : (f : List ℕ) (at n b x : ℕ) → ((k : ℕ) → k < n → x ≡ at + k → ⊥) → get_or (filled f at n b) x 0 ≡ get_or f x 0
unfolding filled
filled_out f at zero b x d = refl
filled_out f at (suc n) b x d = get_or-set_other (filled f at n b) (at + n) x b 0 (d n (omega arith)) ∙ filled_out f at n b x (λ k l. d k (omega arith))

-- a slot's n pages filled, where all of the slot was zero
pub pages_given : (f : List ℕ) (i n b : ℕ) → length f ≡ 32768 → i < 64 → n ≤ 512 → ((j : ℕ) → j < 512 → page_at f i j ≡ 0) → PagesGiven f (filled f (i * 512) n b) i n b
pages_given f i n b e l h zeros = record {
  given = λ j m. filled_in f (i * 512) n b j m (omega arith);
  past = λ j m q. filled_out f (i * 512) n b (i * 512 + j) (λ k u w. omega arith) ∙ zeros j q;
  kept = λ k j d m. filled_out f (i * 512) n b (k * 512 + j) (λ x u w. d (omega arith));
}
