-- One entry of a pool written: who sees it.
use Prim.Native.Nat.{ℕ, ◌+◌, ◌*◌, ◌/◌, ◌≤◌, ◌<◌}
use mathlib.Core.Path.{◌≡◌, sym, ap, ◌∙◌}
use mathlib.Core.List.{List}
use native.Mathlib.Omega.{arith}
use lib.ListN.{length, length-set}
use Rattle.paging.specs.Level.{span, index, Canonical}
use Rattle.paging.specs.Format.{Entry}
use Rattle.paging.specs.Table.{view, shows}
use Rattle.paging.proofs.Levels.{index_lt}
use Rattle.paging.proofs.Walks.{NoTable}
use Rattle.paging.proofs.Changes.{End, outside, inside, formed_put}
use Rattle.x86_64.specs.Entry.{x86}
use Rattle.pool.specs.Pool.{word, put_word, mem_of, Taken}
use Rattle.pool.proofs.Memory.{mem_at, put_same, put_other}
use Rattle.form.specs.Form.{WellFormed, Sized, Good}
use Rattle.walk.proofs.Found.{Placed}
use Rattle.table_laws.specs.Effects.{Rewrites}

module _ (p : List ℕ) (b used : ℕ) (T : WellFormed p b used) (v l f k w : ℕ) (P : Placed p b used T v l f k) (room : used * 512 ≤ length p) where
  abbrev p' : List ℕ
  p' = put_word p f k w

  abbrev E : End x86 (mem_of p b) (Taken b used) b T v
  E = P.E

  small : k < 512
  small = rw P.at (index_lt l v)

  place : index E.l v ≡ k
  place = ap (λ (m : ℕ). index m v) P.level ∙ sym P.at

  -- the place holds w, every other what it held
  pub at_place : mem_of p' b E.n (index E.l v) ≡ w
  at_place = ap (λ (n : ℕ). mem_of p' b n (index P.E.l v)) P.number ∙ mem_at p' b f (index P.E.l v) ∙ ap (word p' f) place ∙ put_same p f k w (omega (arith, P.taken, small))

  pub elsewhere : (n i : ℕ) → Taken b used n → i < 512 → ((n ≡ E.n) × (i ≡ index E.l v) → ⊥) → mem_of p' b n i ≡ mem_of p b n i
  elsewhere n i t h ne = put_other p b f k w n i t.0 h small (λ z. ne (z.0 ∙ sym P.number, z.1 ∙ sym place))

  module _ (fit : Entry x86 l w) (bar : NoTable (x86.kind l w)) where
    fit' : Entry x86 E.l (mem_of p' b E.n (index E.l v))
    fit' = rw at_place (rw P.level fit)

    bar' : NoTable (x86.kind E.l (mem_of p' b E.n (index E.l v)))
    bar' = rw at_place (rw P.level bar)

    pub formed_after : WellFormed p' b used
    formed_after = formed_put x86 (mem_of p b) (mem_of p' b) (Taken b used) b T v E elsewhere fit' bar'

    pub inside_after : (x : ℕ) → x / span l ≡ v / span l → shows x86 (mem_of p' b) b x ≡ view l w
    inside_after x near =
        inside x86 (mem_of p b) (mem_of p' b) (Taken b used) b T v E elsewhere x (rw P.level near) bar' ∙ ap (view P.E.l) at_place ∙ ap (λ (m : ℕ). view m w) P.level

  pub outside_after : Canonical 4 v → (x : ℕ) → Canonical 4 x → (x / span l ≡ v / span l → ⊥) → shows x86 (mem_of p' b) b x ≡ shows x86 (mem_of p b) b x
  unfolding x86
  outside_after cv x cx ne = outside x86 (mem_of p b) (mem_of p' b) (Taken b used) b T v E elsewhere (omega arith) cv x cx (rw P.level ne)

-- in a good pool
module _ (p : List ℕ) (base used : ℕ) (G : Good p base used) (v l f k w : ℕ) (P : Placed p (base / 4096) used G.formed v l f k) where
  fits : used * 512 ≤ length p
  fits = omega (arith, G.sized.there)

  pub sized_after : Sized (length (put_word p f k w)) base used
  sized_after = rw (length-set p (f * 512 + k) w) G.sized

  pub rewrites : Entry x86 l w → NoTable (x86.kind l w) → Rewrites p (put_word p f k w) base used v l w
  rewrites fit bar = record {
    good = record { sized = sized_after; formed = formed_after p (base / 4096) used G.formed v l f k w P fits fit bar };
    inside = inside_after p (base / 4096) used G.formed v l f k w P fits fit bar;
    outside = outside_after p (base / 4096) used G.formed v l f k w P fits;
  }
