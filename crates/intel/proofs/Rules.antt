-- The manual's sentences hold of the translation, whatever stands in memory.
use Prim.Native.Nat.{ℕ, ◌+◌, ◌-◌, ◌*◌, ◌^◌}
use mathlib.Core.Path.{◌≡◌, refl, subst}
use mathlib.Core.Bool.{Bool, true, false}
use native.Mathlib.Omega.{arith}
use lib.Dec.{eqb}
use borrow.Author.Tests.{ne_eqb}
use Rattle.paging.specs.Choice.{pick}
use Rattle.intel.specs.Intel.{bits, Rights, Answer, fault, maps, narrowed, page, Bit7, reserved, page_size, pat, present, from, from_pt, from_pd, from_pdpt, from_pml4}
use Rattle.intel.specs.Rules.{Within, Allowed, Binds, Rules}

-- an answer allows no more than s
abbrev Most : Rights → Answer → Type 0
Most s a = (p size : ℕ) (r : Rights) → a ≡ maps p size r → Within r s

most_fault : (s : Rights) → Most s fault
most_fault s p size r e = absurd (let z : ◌≡◌ {A = ℕ} 0 1 = cc in omega arith)

most_maps : (s : Rights) (q n : ℕ) → Most s (maps q n s)
most_maps s q n p size r e =
    let z : s ≡ r = cc in
    subst (λ (x : Rights). Within x s) z (record { write = omega arith; user = omega arith; fetch = omega arith })

most_pick : (s : Rights) (c : Bool) (x y : Answer) → Most s x → Most s y → Most s (pick c x y)
most_pick s true x y a b = a
most_pick s false x y a b = b

-- a test between faults is a fault
either : (c : Bool) → pick c fault fault ≡ fault
either true = refl
either false = refl

most_present : (s : Rights) (k : Bit7) (lo e v : ℕ) (next : Answer) → Most s next → Most s (present k lo e v s next)
most_present s reserved lo e v next h = most_pick s (eqb (bits 7 7 e) 1) fault next (most_fault s) h
most_present s page_size lo e v next h =
    most_pick s (eqb (bits 7 7 e) 1) (pick (eqb (bits (lo - 1) 13 e) 0) (page lo e v s) fault) next
    (most_pick s (eqb (bits (lo - 1) 13 e) 0) (page lo e v s) fault (most_maps s _ _) (most_fault s)) h
most_present s pat lo e v next h = most_maps s _ _

-- what an entry narrows is within what was before it, and within what it allows
narrower : (r s : Rights) (e : ℕ) → Within r (narrowed s e) → Allowed e r × Within r s
narrower r s e h = (
  record { write = omega (arith, h.write); user = omega (arith, h.user); fetch = omega (arith, h.fetch) },
  record { write = omega (arith, h.write); user = omega (arith, h.user); fetch = omega (arith, h.fetch) },
)

-- a table binds if the tables below it do
module _ (mem : ℕ → ℕ) (v : ℕ) where
  binds : (hi lo : ℕ) (k : Bit7) (next : ℕ → Rights → Answer) → ((t : ℕ) (s : Rights) → Most s (next t s)) → Binds mem v hi lo (from mem v hi lo k next)
  unfolding from
  binds hi lo k next below t p size s r q =
      let e = mem (t + bits hi lo v * 8) in
      let n = narrowed s e in
      let a = next (bits 51 12 e * 2 ^ 12) n in
      narrower r s e
      (most_pick n (eqb (bits 0 0 e) 0) fault (present k lo e v n a) (most_fault n) (most_present n k lo e v a (below (bits 51 12 e * 2 ^ 12) n)) p size r q)

  pte : Binds mem v 20 12 (from_pt mem v)
  unfolding from_pt
  pte = binds 20 12 pat (λ t r. fault) (λ t s. most_fault s)

  pde : Binds mem v 29 21 (from_pd mem v)
  unfolding from_pd
  pde = binds 29 21 page_size (from_pt mem v) (λ t s p size r q. (pte t p size s r q).1)

  pdpte : Binds mem v 38 30 (from_pdpt mem v)
  unfolding from_pdpt
  pdpte = binds 38 30 page_size (from_pd mem v) (λ t s p size r q. (pde t p size s r q).1)

  pml4e : Binds mem v 47 39 (from_pml4 mem v)
  unfolding from_pml4
  pml4e = binds 47 39 reserved (from_pdpt mem v) (λ t s p size r q. (pdpte t p size s r q).1)

  -- an entry e at its place, by its bits
  module _ (hi lo t e : ℕ) (r : Rights) (next : ℕ → Rights → Answer) (at : mem (t + bits hi lo v * 8) ≡ e) where
    no_large : bits 7 7 e ≡ 1 → from mem v hi lo reserved next t r ≡ fault
    unfolding from
    no_large s = rw (at, s) (either (eqb (bits 0 0 e) 0))

    is_page : bits 0 0 e ≡ 1 → bits 7 7 e ≡ 1 → bits (lo - 1) 13 e ≡ 0 → from mem v hi lo page_size next t r ≡ page lo e v (narrowed r e)
    unfolding from
    is_page p s z = rw (at, p, s, z)

    no_page : bits 7 7 e ≡ 1 → (bits (lo - 1) 13 e ≡ 0 → ⊥) → from mem v hi lo page_size next t r ≡ fault
    unfolding from
    no_page s z = rw (at, s, ne_eqb (bits (lo - 1) 13 e) 0 z) (either (eqb (bits 0 0 e) 0))

    is_small : bits 0 0 e ≡ 1 → from mem v hi lo pat next t r ≡ page lo e v (narrowed r e)
    unfolding from
    is_small p = rw (at, p)

pub rules : (mem : ℕ → ℕ) (v : ℕ) → Rules mem v
unfolding from_pml4 from_pdpt from_pd from_pt
rules mem v = record {
  pml4e = pml4e mem v;
  pdpte = pdpte mem v;
  pde = pde mem v;
  pte = pte mem v;
  pml4e_reserved = λ t e r. no_large mem v 47 39 t e r (from_pdpt mem v);
  pdpte_page = λ t e r. is_page mem v 38 30 t e r (from_pd mem v);
  pdpte_reserved = λ t e r. no_page mem v 38 30 t e r (from_pd mem v);
  pde_page = λ t e r. is_page mem v 29 21 t e r (from_pt mem v);
  pde_reserved = λ t e r. no_page mem v 29 21 t e r (from_pt mem v);
  pte_page = λ t e r. is_small mem v 20 12 t e r (λ t r. fault);
}
