-- The 512 bytes of a slot: its pages, then zeros.
use Rattle.std.proofs.Common.{◌≡◌, ℕ, ◌+◌, ◌-◌, ◌*◌, ◌<◌, ◌≤◌, List, length, get_or, ◌∙◌, ap, arith}
use Rattle.std.specs.List.{slice_range}
use Rattle.scan.proofs.Slices.{slice_length, slice_at}
use Rattle.space.specs.Passes.{Pages, others}
use Rattle.space_pages.specs.Pages.{AllAlike, AllZero}

-- the bytes of the pages, and those past them
abbrev of_pages : List ℕ → ℕ → ℕ → List ℕ
of_pages flags i pages = slice_range flags (i * 512) (i * 512 + pages)

abbrev past_pages : List ℕ → ℕ → ℕ → List ℕ
past_pages flags i pages = slice_range flags (i * 512 + pages) (i * 512 + 512)

module _ (flags : List ℕ) (i pages : ℕ) (few : pages ≤ 512) (lent : i * 512 + 512 ≤ length flags) where
  many_pages : length (of_pages flags i pages) ≡ pages
  many_pages = slice_length flags (i * 512) (i * 512 + pages) (omega arith) ∙ omega arith

  many_past : length (past_pages flags i pages) ≡ 512 - pages
  many_past = slice_length flags (i * 512 + pages) (i * 512 + 512) (omega arith) ∙ omega arith

  page : (j : ℕ) → j < pages → get_or (of_pages flags i pages) j 0 ≡ get_or flags (i * 512 + j) 0
  page j l = slice_at flags (i * 512) (i * 512 + pages) (omega arith) j (omega arith)

  past : (j : ℕ) → pages + j < 512 → get_or (past_pages flags i pages) j 0 ≡ get_or flags (i * 512 + (pages + j)) 0
  past j l =
      let e : i * 512 + pages + j ≡ i * 512 + (pages + j) = omega arith in
      slice_at flags (i * 512 + pages) (i * 512 + 512) (omega arith) j (omega arith) ∙ ap (λ (k : ℕ). get_or flags k 0) e

  pub pages_to : AllAlike (of_pages flags i pages) (others (get_or flags (i * 512) 0)) → AllZero (past_pages flags i pages) → Pages flags i pages
  pages_to a z = record {
    known = λ j l. rw (← page j l) (a j (omega (arith, many_pages))).0;
    alike = λ j l. let e : i * 512 + 0 ≡ i * 512 = omega arith in rw (e, ← page j l) (a j (omega (arith, many_pages))).1;
    past = λ j l h.
        let e : pages + (j - pages) ≡ j = omega arith in
        rw (← e, ← past (j - pages) (omega arith)) (z (j - pages) (omega (arith, many_past)));
  }

  pub alike_from : Pages flags i pages → AllAlike (of_pages flags i pages) (others (get_or flags (i * 512) 0))
  alike_from p j l =
      let h : j < pages = omega (arith, many_pages) in
      let e : i * 512 + 0 ≡ i * 512 = omega arith in
      rw (page j h) (p.known j h, rw e at (p.alike j h))

  pub zero_from : Pages flags i pages → AllZero (past_pages flags i pages)
  zero_from p j l =
      let h : pages + j < 512 = omega (arith, many_past) in
      rw (past j h) (p.past (pages + j) (omega arith) h)
