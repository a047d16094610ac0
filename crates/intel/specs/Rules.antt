-- Sentences of the manual, with its numbers written out, that the translation meets whatever stands in memory. A table that the rules of this
-- library write never comes near most of them, so that its agreement with the processor alone would not show a slip there.
--
-- In this order: what an entry forbids, that every entry used has its say, the rules of each table.
use Rattle.std.specs.Prelude.{ℕ, ◌+◌, ◌-◌, ◌*◌, ◌^◌, ◌≤◌, ◌≡◌}
use Rattle.intel.specs.Intel.{bits, Rights, Answer, fault, maps, narrowed, from_pt, from_pd, from_pdpt, from_pml4}

-- the rights r have nothing that the rights s have not
pub record Within (r s : Rights) : Type 0 where
  pub write : r.write ≤ s.write
  pub user : r.user ≤ s.user
  pub fetch : r.fetch ≤ s.fetch

-- the rights r have nothing that the entry e forbids
pub record Allowed (e : ℕ) (r : Rights) : Type 0 where
  pub write : r.write ≤ bits 1 1 e
  pub user : r.user ≤ bits 2 2 e
  pub fetch : r.fetch ≤ 1 - bits 63 63 e

-- a page that is found from a table is allowed by the entry that bits hi:lo of v select there, and by those before it
abbrev pub Binds : (ℕ → ℕ) → ℕ → ℕ → ℕ → (ℕ → Rights → Answer) → Type 0
Binds mem v hi lo start = (t p size : ℕ) (s r : Rights) → start t s ≡ maps p size r → Allowed (mem (t + bits hi lo v * 8)) r × Within r s

pub record Rules (mem : ℕ → ℕ) (v : ℕ) : Type 0 where
  -- each entry used has its say
  pub pml4e : Binds mem v 47 39 (from_pml4 mem v)
  pub pdpte : Binds mem v 38 30 (from_pdpt mem v)
  pub pde : Binds mem v 29 21 (from_pd mem v)
  pub pte : Binds mem v 20 12 (from_pt mem v)
  -- bit 7 of a PML4E is reserved
  pub pml4e_reserved : (t e : ℕ) (r : Rights) → mem (t + bits 47 39 v * 8) ≡ e → bits 7 7 e ≡ 1 → from_pml4 mem v t r ≡ fault
  -- a present PDPTE with PS maps 1 GiB, if none of bits 29:13 is set
  pub pdpte_page : (t e : ℕ) (r : Rights) → mem (t + bits 38 30 v * 8) ≡ e → bits 0 0 e ≡ 1 → bits 7 7 e ≡ 1 → bits 29 13 e ≡ 0
      → from_pdpt mem v t r ≡ maps (bits 51 30 e * 2 ^ 30 + bits 29 0 v) (2 ^ 30) (narrowed r e)
  pub pdpte_reserved : (t e : ℕ) (r : Rights) → mem (t + bits 38 30 v * 8) ≡ e → bits 7 7 e ≡ 1 → (bits 29 13 e ≡ 0 → ⊥) → from_pdpt mem v t r ≡ fault
  -- a present PDE with PS maps 2 MiB, if none of bits 20:13 is set
  pub pde_page : (t e : ℕ) (r : Rights) → mem (t + bits 29 21 v * 8) ≡ e → bits 0 0 e ≡ 1 → bits 7 7 e ≡ 1 → bits 20 13 e ≡ 0
      → from_pd mem v t r ≡ maps (bits 51 21 e * 2 ^ 21 + bits 20 0 v) (2 ^ 21) (narrowed r e)
  pub pde_reserved : (t e : ℕ) (r : Rights) → mem (t + bits 29 21 v * 8) ≡ e → bits 7 7 e ≡ 1 → (bits 20 13 e ≡ 0 → ⊥) → from_pd mem v t r ≡ fault
  -- a present PTE maps 4 KiB, whatever its bit 7 is
  pub pte_page : (t e : ℕ) (r : Rights) → mem (t + bits 20 12 v * 8) ≡ e → bits 0 0 e ≡ 1
      → from_pt mem v t r ≡ maps (bits 51 12 e * 2 ^ 12 + bits 11 0 v) (2 ^ 12) (narrowed r e)
