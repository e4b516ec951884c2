-- Pairs of elements, by their numbers.
use Rattle.std.specs.Prelude.{◌≡◌, ℕ, ◌+◌, ◌*◌, ◌^◌, ◌<◌, List, [], length, get_or, map, sum}
use Rattle.std.specs.List.{flat_map, range_with_len}
use Rattle.topos_model.specs.categories.Category.{Category, into, dom}
use Rattle.functor_store.specs.Store.{Store}
use Rattle.sealed_functors.specs.declared.rows.ElementRows.{ElementRows}
use Rattle.place_closures.specs.Pairs.{AreRestricted}
use Rattle.sealed_types.specs.Sealed.{sizes_in, restrictions_in}

-- the number of a pair that restricts along the arrow at a place, from those of its parts and how many second parts there are
abbrev pub pair_at : List ℕ → List ℕ → List ℕ → ℕ → ℕ
pair_at widths xs ys j = get_or xs j 0 * get_or widths j 0 + get_or ys j 0

-- elements by their numbers: how many there are at each object, and their restrictions
module _ (k : Category) (size size' : ℕ → ℕ) (move move' : ℕ → ℕ → ℕ) where
  -- the number of the pair (x, y) at c
  abbrev pub pair_number : ℕ → ℕ → ℕ → ℕ
  pair_number c x y = x * size' c + y

  -- the restrictions of the pair (x, y) at c, both parts along each arrow into c
  unfoldable pub pair_row : ℕ → ℕ → ℕ → List ℕ
  pair_row c x y = map (λ f. pair_number (dom k f) (move f x) (move' f y)) (into k c)

  -- the pairs at c, lexicographic
  pub record ArePairRows (c : ℕ) (r : ElementRows) : Type 0 where
    pub count : r.count ≡ size c * size' c
    pub width : r.width ≡ 0
    pub arrows : r.arrows ≡ length (into k c)
    pub rows : r.rows ≡ []
    pub restrictions : r.restrictions ≡ flat_map (λ x. flat_map (pair_row c x) (range_with_len 0 (size' c))) (range_with_len 0 (size c))

  -- the cells of all pairs
  unfoldable pub pair_cells : ℕ
  pair_cells = sum (map (λ c. size c * size' c * (1 + length (into k c))) (range_with_len 0 k.objects))

-- two functors of a store over the category, whose elements restrict as those of presheaves
pub record AreFactors (k : Category) (store : Store) (s t : ℕ) : Type 0 where
  pub objects : store.objects ≡ k.objects
  pub ends : store.ends ≡ k.ends
  pub first : s < length store.sealed
  pub second : t < length store.sealed
  pub restrict_first : AreRestricted k (sizes_in store s) (restrictions_in store s)
  pub restrict_second : AreRestricted k (sizes_in store t) (restrictions_in store t)

-- there are few pairs at each object
abbrev pub AreFewPairs : Category → Store → ℕ → ℕ → Type 0
AreFewPairs k store s t = (c : ℕ) → c < k.objects → sizes_in store s c * sizes_in store t c < 2 ^ 32
