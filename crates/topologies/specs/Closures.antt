-- The closure of a sieve by least covers, and of a set of places in two passes.
-- A place has a stage, and can be moved along each arrow into its stage: arrows into an object are places, and so are pairs of an arrow and an element.
use Rattle.std.specs.Prelude.{◌≡◌, ℕ, ◌<◌, Bool, true, List, filter}
use Rattle.std.specs.List.{list_any, list_all}
use Rattle.finite_lists.specs.Members.{In}
use Rattle.topos_model.specs.categories.Category.{Category, has, into, dom, compose}
use Rattle.topos_model.specs.topologies.Cover.{Site, covers}
use Rattle.topos_model.specs.Laws.{IsInto}

-- whether f.g is in S for each g of a cover of dom f
abbrev pub goes_within : Category → List ℕ → ℕ → List ℕ → Bool
goes_within k S f cover = list_all (λ g. has (compose k f g) S) cover

-- the f into c that go into S along the cover of dom f
unfoldable pub closure_by : Category → (ℕ → List ℕ) → ℕ → List ℕ → List ℕ
closure_by k M c S = filter (λ f. goes_within k S f (M (dom k f))) (into k c)

-- the laws of a system of places
pub record ArePlaces (k : Category) {P : Type 0} (equal : P → P → Bool) (stage : P → ℕ) (move : P → ℕ → P) (all : List P) : Type 0 where
  pub alike : (p q : P) → equal p q ≡ true → p ≡ q
  pub itself : (p : P) → equal p p ≡ true
  pub object : (p : P) → In all p → stage p < k.objects
  pub moved : (p : P) (g : ℕ) → In all p → IsInto k (stage p) g → In all (move p g) × (stage (move p g) ≡ dom k g)
  pub identity : (p : P) → In all p → move p (stage p) ≡ p
  pub twice : (p : P) (g h : ℕ) → In all p → IsInto k (stage p) g → IsInto k (dom k g) h → move (move p g) h ≡ move p (compose k g h)

module _ (k : Category) (M : ℕ → List ℕ) {P : Type 0} (equal : P → P → Bool) (stage : P → ℕ) (move : P → ℕ → P) (all : List P) where
  -- the places that a member moves to
  unfoldable pub restriction_pass : List P → List P
  restriction_pass l = filter (λ p. list_any (λ q. list_any (λ g. equal (move q g) p) (into k (stage q))) l) all

  -- the places that move into the set along each arrow of the least cover of their stage
  unfoldable pub cover_pass : List P → List P
  cover_pass l = filter (λ p. list_all (λ g. list_any (equal (move p g)) l) (M (stage p))) all

  -- restriction first, and then covers
  unfoldable pub two_passes : List P → List P
  two_passes l = cover_pass (restriction_pass l)

module _ (s : Site) {P : Type 0} (stage : P → ℕ) (move : P → ℕ → P) (all : List P) where
  -- where a member moves is a member
  abbrev pub IsRestrictionClosed : List P → Type 0
  IsRestrictionClosed l = (p : P) (g : ℕ) → In l p → IsInto s.category (stage p) g → In l (move p g)

  -- a place that moves into the set along each arrow of some cover is a member
  abbrev pub IsCoverClosed : List P → Type 0
  IsCoverClosed l = (p : P) (S : List ℕ) → In all p → In (covers s (stage p)) S → ((g : ℕ) → In S g → In l (move p g)) → In l p
