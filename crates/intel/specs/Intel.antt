-- Four-level paging as the processor does it: the Intel manual (SDM), volume 3, chapter "Paging", sections on 4-level paging, access
-- rights and page faults. Written from the manual's rules; nothing here knows of the walk that the other crates prove things of.
--
--     linear address     47 – 39    38 – 30    29 – 21    20 – 12    11 – 0
--     selects an entry    PML4E      PDPTE       PDE        PTE
--     which may map                  1 GiB      2 MiB      4 KiB     page
--
-- In this order: bits of a number, the answer, what an entry allows, the page that an entry maps, what bit 7 of an entry is, the use of
-- an entry, one table, the four tables, and the translation from CR3. mem is physical memory throughout.
--
-- Assumed of the processor:
-- * 4-level paging is active (CR0.PG, CR4.PAE and IA32_EFER.LME are 1, CR4.LA57 is 0), without HLAT;
-- * IA32_EFER.NXE is 1, so that bit 63 of an entry is XD and not reserved;
-- * 1 GiB pages are supported;
-- * MAXPHYADDR is 52, so that no bit of 51 to 12 is reserved for being above it;
-- * CR4.PKE and CR4.PKS are 0, so that protection keys are not used and bits 62 to 59 are ignored.
--
-- Left out: TLBs and paging-structure caches; accessed and dirty bits, which the processor sets as it goes; memory types (PWT, PCD, PAT);
-- CR0.WP, SMEP and SMAP, which change what the supervisor may do with a page of given rights; shadow stacks (CR4.CET); and addresses that are not canonical,
-- which the processor refuses before it translates.
use Rattle.std.specs.Prelude.{ℕ, ◌+◌, ◌-◌, ◌*◌, ◌/◌, ◌%◌, ◌^◌, min, eqb}
use Rattle.paging.specs.Choice.{pick}

-- bits hi to lo of x, as a number: the manual's "bits hi:lo"
abbrev pub bits : ℕ → ℕ → ℕ → ℕ
bits hi lo x = x / 2 ^ lo % 2 ^ (hi + 1 - lo)

-- what may be done, 1 for allowed and 0 for not: writing, access in user mode, fetching instructions
pub record Rights : Type 0 where
  pub write : ℕ
  pub user : ℕ
  pub fetch : ℕ

-- a page fault whatever the access is; or a physical address, the size of its page in bytes, and the rights
pub data Answer : Type 0 where
  fault : Answer
  maps : (address size : ℕ) → Rights → Answer

-- before any entry is used nothing is forbidden
abbrev pub everything : Rights
everything = record { write = 1; user = 1; fetch = 1 }

-- What is left of the rights r after an entry e. Writing needs R/W, bit 1, in every entry used. User mode needs U/S, bit 2, in every one.
-- Fetching needs XD, bit 63, clear in every one. Reading needs no bit but P.
abbrev pub narrowed : Rights → ℕ → Rights
narrowed r e = record {
  write = min r.write (bits 1 1 e);
  user = min r.user (bits 2 2 e);
  fetch = min r.fetch (1 - bits 63 63 e);
}

-- The page of 2 ^ lo bytes that an entry e maps. Its physical address: bits 51:lo of the entry, and below them those of the linear address v.
abbrev pub page : ℕ → ℕ → ℕ → Rights → Answer
page lo e v r = maps (bits 51 lo e * 2 ^ lo + bits (lo - 1) 0 v) (2 ^ lo) r

-- What bit 7 is in an entry of a table.
pub data Bit7 : Type 0 where
  -- in a PML4E: reserved, so that it faults where it is set; the entry refers to the next table
  reserved : Bit7
  -- in a PDPTE or PDE: PS, page size; set, the entry maps a page; clear, it refers to the next table
  page_size : Bit7
  -- in a PTE: PAT, which is a memory type; the entry maps a page
  pat : Bit7

-- What comes of a present entry e: r are the rights that all entries so far leave, this one too; lo is the lowest bit of the linear address
-- that selected it, which is where the address of a page that it maps begins; `next` is the answer where it refers to the next table.
-- In a PDPTE that maps a page bits 29:13 are reserved, in such a PDE bits 20:13: those between PAT, bit 12, and the page's address.
abbrev pub present : Bit7 → ℕ → ℕ → ℕ → Rights → Answer → Answer
present reserved lo e v r next = pick (eqb (bits 7 7 e) 1) fault next
present page_size lo e v r next = pick (eqb (bits 7 7 e) 1) (pick (eqb (bits (lo - 1) 13 e) 0) (page lo e v r) fault) next
present pat lo e v r next = page lo e v r

-- The use of an entry e. Where P, bit 0, is clear it faults. Where it refers to a table, bits 51:12 locate that.
abbrev pub used : Bit7 → ℕ → ℕ → ℕ → Rights → (ℕ → Rights → Answer) → Answer
used bit7 lo e v r next =
    pick (eqb (bits 0 0 e) 0) fault (present bit7 lo e v (narrowed r e) (next (bits 51 12 e * 2 ^ 12) (narrowed r e)))

-- One table, at physical address t: bits hi:lo of the linear address v select an entry, eight bytes each, and that is used. r are the rights
-- that the entries before it leave; `next` answers for the next table, by its address and the rights.
unfoldable pub from : (ℕ → ℕ) → ℕ → ℕ → ℕ → Bit7 → (ℕ → Rights → Answer) → ℕ → Rights → Answer
from mem v hi lo bit7 next t r = used bit7 lo (mem (t + bits hi lo v * 8)) v r next

-- The four tables, the lowest first: no entry of a page table refers to another.
unfoldable pub from_pt : (ℕ → ℕ) → ℕ → ℕ → Rights → Answer
from_pt mem v = from mem v 20 12 pat (λ t r. fault)

unfoldable pub from_pd : (ℕ → ℕ) → ℕ → ℕ → Rights → Answer
from_pd mem v = from mem v 29 21 page_size (from_pt mem v)

unfoldable pub from_pdpt : (ℕ → ℕ) → ℕ → ℕ → Rights → Answer
from_pdpt mem v = from mem v 38 30 page_size (from_pd mem v)

unfoldable pub from_pml4 : (ℕ → ℕ) → ℕ → ℕ → Rights → Answer
from_pml4 mem v = from mem v 47 39 reserved (from_pdpt mem v)

-- The translation of the linear address v. mem is physical memory: the eight bytes at an address, as a number.
-- Bits 51:12 of CR3 locate the PML4 table.
unfoldable pub intel : (ℕ → ℕ) → ℕ → ℕ → Answer
intel mem cr3 v = from_pml4 mem v (bits 51 12 cr3 * 2 ^ 12) everything
