-- Elements that are marked as true, and of those how they restrict.
use Rattle.std.specs.Prelude.{◌≡◌, ℕ, ◌<◌, Bool, false, List, [], map, length, get_or, filter, take}
use Rattle.std.specs.List.{range_with_len}
use Rattle.topos_model.specs.categories.Category.{Category, dom, cod}
use Rattle.functor_store.specs.Store.{Store, functor_at, size_at, restriction_along}

-- their numbers, in order
unfoldable pub true_numbers : List Bool → List ℕ
true_numbers truths = filter (λ x. get_or truths x false) (range_with_len 0 (length truths))

-- for each number how many before it are marked
unfoldable pub true_counts : List Bool → List ℕ
true_counts truths = map (λ x. length (filter (λ t. t) (take x truths))) (range_with_len 0 (length truths))

-- a truth value for each element of a sealed functor
pub record AreTruths (store : Store) (id objects : ℕ) (truths : List (List Bool)) : Type 0 where
  pub sealed : id < length store.sealed
  pub site : objects ≡ store.objects
  pub objects_long : length truths ≡ objects
  pub elements : (c : ℕ) → c < objects → length (get_or truths c []) ≡ size_at (functor_at store.sealed id) c

-- where the element number x is restricted along f
abbrev pub moved : Store → ℕ → ℕ → ℕ → ℕ
moved store id f x = restriction_along store.ends (functor_at store.sealed id) f x

-- numbers of elements of a sealed functor, and a place for each element to which one of these restricts
pub record AreKept (k : Category) (store : Store) (id : ℕ) (numbers places : List (List ℕ)) : Type 0 where
  pub sealed : id < length store.sealed
  pub ends : store.ends ≡ k.ends
  pub numbers_long : length numbers ≡ k.objects
  pub places_long : length places ≡ k.objects
  pub elements : (f t : ℕ) → f < length k.ends → t < length (get_or numbers (cod k f) []) → get_or (get_or numbers (cod k f) []) t 0 < size_at (functor_at store.sealed id) (cod k f)
  pub within : (f t : ℕ) → f < length k.ends → t < length (get_or numbers (cod k f) []) → moved store id f (get_or (get_or numbers (cod k f) []) t 0) < length (get_or places (dom k f) [])

-- the places of their restrictions along f
unfoldable pub kept_along : Category → Store → ℕ → List (List ℕ) → List (List ℕ) → ℕ → List ℕ
kept_along k store id numbers places f = map (λ x. get_or (get_or places (dom k f) []) (moved store id f x) 0) (get_or numbers (cod k f) [])
