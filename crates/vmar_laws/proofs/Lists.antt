-- What a free slot does at the end of a list, and scans by tests that agree.
use Prim.Native.Nat.{ℕ, ◌+◌, ◌≤◌, ◌<◌}
use mathlib.Core.Path.{◌≡◌, refl, sym, ◌∙◌, subst}
use mathlib.Core.Bool.{Bool, true, false}
use mathlib.Core.List.{List}
use mathlib.Core.Logic.{⊎_elim}
use native.Mathlib.Omega.{arith}
use lib.ListN.{length, get_or, set}
use lib.Seq.{get_or-set_same, get_or-set_other}
use Rattle.paging.proofs.Cases.{same?, below?, clash}
use Rattle.scan.specs.Scan.{first}
use Rattle.scan.proofs.Scans.{first_passes, first_most, before_first}
use Rattle.space.specs.Passes.{In, Listed}

-- what one place holds is not what another does, where one is live and the other is not
pub parted : (lives : ℕ → Bool) (i j : ℕ) → lives i ≡ false → lives j ≡ true → j ≡ i → ⊥
parted lives i j f t e = clash (lives i) (subst (λ (x : ℕ). lives x ≡ true) e t) f

-- a list with i after its last place: i there, the places before as they were
module _ (list : List ℕ) (count i : ℕ) where
  pub last_place : count < length list → (k : ℕ) → k ≡ count → get_or (set list count i) k 0 ≡ i
  last_place l k e = subst (λ (x : ℕ). get_or (set list count i) x 0 ≡ i) (sym e) (get_or-set_same list count i 0 l)

  pub early_place : (k : ℕ) → (k ≡ count → ⊥) → get_or (set list count i) k 0 ≡ get_or list k 0
  early_place k n = get_or-set_other list count k i 0 n

  pub still_in : (n x : ℕ) → n ≤ count → In list n x → In (set list count i) n x
  still_in n x l (k, h, e) = (k, h, early_place k (λ q. omega arith) ∙ e)

-- a slot that becomes live goes to the end of the list: regions and mappings alike
module _ {n : ℕ} {list : List ℕ} {count : ℕ} {lives : ℕ → Bool} (listed : Listed n list count lives) (long : length list ≡ n) (room : count < n) (i : ℕ) (slot : i < n)
    (free : lives i ≡ false) (lives' : ℕ → Bool) (born : lives' i ≡ true) (others : (j : ℕ) → (j ≡ i → ⊥) → lives' j ≡ lives j) where
  fits : count < length list
  fits = omega arith

  pub listed_more : Listed n (set list count i) (count + 1) lives'
  listed_more = record { room = omega arith; slot = slots; once = once; rest = rest; live = live; whole = whole }
    where
      slots : (k : ℕ) → k < count + 1 → get_or (set list count i) k 0 < n
      slots k l =
          ⊎_elim
          (λ (e : k ≡ count). let z = last_place list count i fits k e in omega arith)
          (λ (e : k ≡ count → ⊥). let z = early_place list count i k e in let w = listed.slot k (omega arith) in omega arith)
          (same? k count)

      once : (j k : ℕ) → j < k → k < count + 1 → get_or (set list count i) j 0 ≡ get_or (set list count i) k 0 → ⊥
      once j k h l q =
          let a = early_place list count i j (λ z. omega arith) in
          ⊎_elim
          (λ (e : k ≡ count). clash (lives i) (listed.live i slot (j, omega arith, sym a ∙ q ∙ last_place list count i fits k e)) free)
          (λ (e : k ≡ count → ⊥). listed.once j k h (omega arith) (sym a ∙ q ∙ early_place list count i k e))
          (same? k count)

      rest : (k : ℕ) → count + 1 ≤ k → k < n → get_or (set list count i) k 0 ≡ 0
      rest k l h = early_place list count i k (λ z. omega arith) ∙ listed.rest k (omega arith) h

      live : (j : ℕ) → j < n → In (set list count i) (count + 1) j → lives' j ≡ true
      live j h (k, l, q) =
          ⊎_elim
          (λ (e : k ≡ count). subst (λ (x : ℕ). lives' x ≡ true) (sym (last_place list count i fits k e) ∙ q) born)
          (λ (e : k ≡ count → ⊥).
          let t = listed.live j h (k, omega arith, sym (early_place list count i k e) ∙ q) in
          others j (parted lives i j free t) ∙ t)
          (same? k count)

      whole : (j : ℕ) → j < n → lives' j ≡ true → In (set list count i) (count + 1) j
      whole j h t =
          ⊎_elim
          (λ (e : j ≡ i). (count, omega arith, last_place list count i fits count refl ∙ sym e))
          (λ (e : j ≡ i → ⊥).
          let m = still_in list count i count j (omega arith) (listed.whole j h (sym (others j e) ∙ t)) in
          let l = m.1 in
          (m.0, omega arith, m.2))
          (same? j i)

-- scans by tests that agree find the same
pub same_first : (p q : ℕ → Bool) (n : ℕ) → ((j : ℕ) → j < n → p j ≡ q j) → first p 0 n ≡ first q 0 n
same_first p q n e =
    let a = first_most p n in
    let b = first_most q n in
    ⊎_elim
    (λ (l : first p 0 n < first q 0 n). absurd (let h : first p 0 n < n = omega arith in
    clash (p (first p 0 n)) (first_passes p n h) (e (first p 0 n) h ∙ before_first q n (first p 0 n) l)))
    (λ (l : first q 0 n ≤ first p 0 n). ⊎_elim
    (λ (s : first q 0 n ≡ first p 0 n). sym s)
    (λ (d : first q 0 n ≡ first p 0 n → ⊥). absurd (let h : first q 0 n < n = omega arith in
    clash (q (first q 0 n)) (first_passes q n h) (sym (e (first q 0 n) h) ∙ before_first p n (first q 0 n) (omega arith))))
    (same? (first q 0 n) (first p 0 n)))
    (below? (first p 0 n) (first q 0 n))

-- where one index alone passes, it is the first
pub the_first : (p : ℕ → Bool) (n k : ℕ) → k < n → p k ≡ true → ((j : ℕ) → j < n → p j ≡ true → j ≡ k) → first p 0 n ≡ k
the_first p n k l e one =
    ⊎_elim
    (λ (h : k < first p 0 n). clash (p k) e (before_first p n k h))
    (λ (h : first p 0 n ≤ k). let z : first p 0 n < n = omega arith in one (first p 0 n) z (first_passes p n z))
    (below? k (first p 0 n))
