-- The least cover of each object, and the closure of a sieve (III).
use Rattle.std.specs.Prelude.{◌≡◌, ℕ, ◌<◌, Bool, List, filter}
use Rattle.std.specs.List.{list_any, list_all}
use Rattle.finite_lists.specs.Members.{In}
use Rattle.topos_model.specs.categories.Category.{has, into, dom, compose, sieves, pull}
use Rattle.topos_model.specs.topologies.Cover.{Site, covers, contains}
use Rattle.topos_model.specs.Laws.{IsCategory, IsInto, IsTopology}
use Rattle.topos_model.specs.types.Types.{is_closed_sieve}
use Rattle.topos_model.specs.types.Values.{same_numbers}

module _ (s : Site) where
  -- whether S is a cover of c
  unfoldable pub is_among_covers : ℕ → List ℕ → Bool
  is_among_covers c S = list_any (same_numbers S) (covers s c)

  -- the intersection of all covers of c
  unfoldable pub least : ℕ → List ℕ
  least c = filter (λ f. list_all (has f) (covers s c)) (into s.category c)

  -- the f into c along which S pulls back to a cover
  unfoldable pub closure : ℕ → List ℕ → List ℕ
  closure c S = filter (λ f. is_among_covers (dom s.category f) (pull s.category f S)) (into s.category c)

-- M c is the least cover of each object c
pub record IsLeast (s : Site) (M : ℕ → List ℕ) : Type 0 where
  pub sieve : (c : ℕ) → c < s.category.objects → In (sieves s.category c) (M c)
  -- a sieve covers exactly if it contains M c
  pub within : (c f : ℕ) (S : List ℕ) → In (covers s c) S → In (M c) f → In S f
  pub above : (c : ℕ) (S : List ℕ) → c < s.category.objects → In (sieves s.category c) S → ((f : ℕ) → In (M c) f → In S f) → In (covers s c) S
  -- any arrow into c, and one of the least cover of its domain before it
  pub sink : (c f g : ℕ) → IsInto s.category c f → In (M (dom s.category f)) g → In (M c) (compose s.category f g)
  -- each arrow of the least cover is one of it, and one of the least cover of its domain before it
  pub split : (c h : ℕ) → In (M c) h → (f g : ℕ) × In (M c) f × In (M (dom s.category f)) g × (compose s.category f g ≡ h)

-- the intersection of all covers is the least cover
abbrev pub IntersectionIsLeast : Type 0
IntersectionIsLeast = (s : Site) → IsCategory s.category → IsTopology s → IsLeast s (least s)

-- and the covers are the sieves that contain it
abbrev pub CoversContainLeast : Type 0
CoversContainLeast =
    (s : Site) (c : ℕ) → IsCategory s.category → IsTopology s → c < s.category.objects → covers s c ≡ filter (contains (least s c)) (sieves s.category c)

-- the closure of a sieve is the least closed sieve that contains it
abbrev pub ClosureIsLeastClosed : Type 0
ClosureIsLeastClosed =
    (s : Site) (c : ℕ) (S : List ℕ) → IsCategory s.category → IsTopology s → c < s.category.objects → In (sieves s.category c) S →
    In (filter (is_closed_sieve s c) (sieves s.category c)) (closure s c S)
    × ((f : ℕ) → In S f → In (closure s c S) f)
    × ((T : List ℕ) (f : ℕ) → In (filter (is_closed_sieve s c) (sieves s.category c)) T → ((g : ℕ) → In S g → In T g) → In (closure s c S) f → In T f)
