-- The pairs of an arrow into an object and an element over its domain, by their numbers. Elements are numbers, of which each object has so many.
use Rattle.std.specs.Prelude.{◌≡◌, ℕ, ◌+◌, ◌<◌, true, false, Bool, cond, List, [], ◌∷◌, length, get_or, map, eqb}
use Rattle.std.specs.List.{flat_map, range_with_len}
use Rattle.finite_lists.specs.Members.{In}
use Rattle.topos_model.specs.categories.Category.{Category, into, dom, compose}
use Rattle.topos_model.specs.topologies.Cover.{Site}
use Rattle.topos_model.specs.Laws.{IsInto}
use Rattle.topos_model.specs.topologies.LeastCovers.{least}

-- how many stand before those of f, where each member of the list has so many
abbrev pub starts : (ℕ → ℕ) → List ℕ → ℕ → ℕ
starts count [] f = 0
starts count (g ∷ fs) f = cond (eqb g f) 0 (count g + starts count fs f)

-- elements that restrict as those of a presheaf
pub record AreRestricted (k : Category) (size : ℕ → ℕ) (move : ℕ → ℕ → ℕ) : Type 0 where
  pub within : (c f w : ℕ) → IsInto k c f → w < size c → move f w < size (dom k f)
  pub identity : (c w : ℕ) → c < k.objects → w < size c → move c w ≡ w
  pub composite : (c f g w : ℕ) → IsInto k c f → IsInto k (dom k f) g → w < size c → move g (move f w) ≡ move (compose k f g) w

module _ (k : Category) (size : ℕ → ℕ) (move : ℕ → ℕ → ℕ) where
  -- in the order of the arrows, and then of the elements
  unfoldable pub pairs : ℕ → List (ℕ × ℕ)
  pairs c = flat_map (λ f. map (λ w. (f, w)) (range_with_len 0 (size (dom k f)))) (into k c)

  -- the number of the first pair with f
  unfoldable pub start : ℕ → ℕ → ℕ
  start c f = starts (λ f. size (dom k f)) (into k c) f

  -- the numbers of the pairs that (f, w) restricts to along the arrows of a list
  abbrev pub moved : ℕ → ℕ → List ℕ → ℕ → List ℕ
  moved c f gs w = map (λ g. start c (compose k f g) + move g w) gs

  -- for each pair those that it restricts to along the arrows that M gives for its stage
  unfoldable pub table : (ℕ → List ℕ) → ℕ → List (List ℕ)
  table M c = flat_map (λ f. map (moved c f (M (dom k f))) (range_with_len 0 (size (dom k f)))) (into k c)

  -- whether a set has the pair (f, w)
  abbrev pub has_pair : ℕ → List Bool → ℕ → ℕ → Bool
  has_pair c a f w = get_or a (start c f + w) false

-- a set of pairs that is closed under restriction and under covers
pub record IsClosedSet (s : Site) (size : ℕ → ℕ) (move : ℕ → ℕ → ℕ) (c : ℕ) (a : List Bool) : Type 0 where
  pub restricted : (f w g : ℕ) → IsInto s.category c f → w < size (dom s.category f) → IsInto s.category (dom s.category f) g →
      has_pair s.category size move c a f w ≡ true → has_pair s.category size move c a (compose s.category f g) (move g w) ≡ true
  pub covered : (f w : ℕ) → IsInto s.category c f → w < size (dom s.category f) →
      ((g : ℕ) → In (least s (dom s.category f)) g → has_pair s.category size move c a (compose s.category f g) (move g w) ≡ true) → has_pair s.category size move c a f w ≡ true

-- for each arrow into c the number of its first pair
pub record AreStarts (k : Category) (size : ℕ → ℕ) (move : ℕ → ℕ → ℕ) (c : ℕ) (row : List ℕ) : Type 0 where
  pub arrows : length row ≡ length k.ends
  pub starts_at : (f : ℕ) → IsInto k c f → get_or row f 0 ≡ start k size move c f

-- what may be asked of elements over a category
pub record CanAsk (k : Category) (size : ℕ → ℕ) (can_count : ℕ → Type 0) (can_restrict : ℕ → ℕ → Type 0) : Type 0 where
  pub count : (c : ℕ) → c < k.objects → can_count c
  pub restrict : (c f x : ℕ) → IsInto k c f → x < size c → can_restrict f x
