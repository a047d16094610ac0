-- No second outcome fits.
use mathlib.Core.Path.{◌≡◌, sym, ◌∙◌}
use Rattle.paging.proofs.Cases.{only}
use Rattle.vmar.specs.Calls.{Ordered, bad_space, bad_table, done, before}
use Rattle.vmar.specs.Laws.{Once}
use Rattle.vmar.proofs.Replies.{allocate_once, map_once, flags_once, user_once, ext_once, cut_once, protect_once}

-- two outcomes of one call that takes the pool too
only_ordered : {A : Type 0} {P Q : Type 0} {no12 no13 yes' a b : A} → Ordered P Q no12 no13 yes' a → Ordered P Q no12 no13 yes' b → a ≡ b
only_ordered (bad_space n e) (bad_space m f) = e ∙ sym f
only_ordered (bad_space n e) (bad_table p m f) = absurd (n p)
only_ordered (bad_space n e) (done p q f) = absurd (n p)
only_ordered (bad_table p n e) (bad_space m f) = absurd (m p)
only_ordered (bad_table p n e) (bad_table q m f) = e ∙ sym f
only_ordered (bad_table p n e) (done q r f) = absurd (n r)
only_ordered (done p q e) (bad_space m f) = absurd (m p)
only_ordered (done p q e) (bad_table r m f) = absurd (m q)
only_ordered (done p q e) (done r t f) = e ∙ sym f

pub once : Once
once = record {
  allocate = λ s f id o len flags align a b x y. allocate_once a b (only x y);
  map = λ s f p base used id o vmo vmo-len at len permissions flags faults a b x y. map_once (before s f p base used) a b (only_ordered x y);
  mapping_flags = λ s f id x a b y z. flags_once a b (only y z);
  user_range = λ s f id addr len access a b x y. user_once a b (only x y);
  vaddr_flags = λ s f p base used id x a b y z. flags_once a b (only_ordered y z);
  map_ext = λ s f p base used id o vmo vmo-len at len permissions flags overwrite faults a b x y. ext_once a b (only_ordered x y);
  cut = λ s f p base used does a b x y. cut_once a b (only_ordered x y);
  protect = λ s f p base used id addr len access a b x y. protect_once used a b (only_ordered x y);
}
