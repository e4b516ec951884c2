-- The arrows into each object, and what the calls along them ask.
use Rattle.std.specs.Prelude.{◌≡◌, ℕ, ◌<◌, Bool, List, [], length, get_or}
use Rattle.functor_store.specs.Store.{Store, Functor, into, functor_at, size_at, restrictions_at}
use Rattle.truth_tables.specs.Tables.{number}

-- the chosen places are among the arrows, and the tuples there have a truth value
pub record AreLanding (truths : List (List Bool)) (sources restrictions chosen : List ℕ) : Type 0 where
  pub arrows : (k : ℕ) → k < length chosen → get_or chosen k 0 < length sources
  pub objects : (k : ℕ) → k < length chosen → get_or sources (get_or chosen k 0) 0 < length truths
  pub tuples : (k : ℕ) → k < length chosen → get_or restrictions (get_or chosen k 0) 0 < length (get_or truths (get_or sources (get_or chosen k 0) 0) [])

-- places among the arrows into each object
pub record ArePlaces (sources chosen : List (List ℕ)) : Type 0 where
  pub objects : length chosen ≡ length sources
  pub within : (c k : ℕ) → c < length sources → k < length (get_or chosen c []) → number chosen c k < length (get_or sources c [])

-- F has so many elements at each object, and their restrictions along the arrows with these sources are elements
pub record AreRestricted (F : Functor) (ends : List (ℕ × ℕ)) (sizes : List ℕ) (sources : List (List ℕ)) : Type 0 where
  pub objects : length sources ≡ length sizes
  pub counts : (c : ℕ) → c < length sizes → size_at F c ≡ get_or sizes c 0
  pub arrows : (c : ℕ) → c < length sizes → length (get_or sources c []) ≡ into ends c
  pub domains : (c j : ℕ) → c < length sizes → j < length (get_or sources c []) → number sources c j < length sizes
  pub elements : (c i j : ℕ) → c < length sizes → i < get_or sizes c 0 → j < length (get_or sources c []) →
      get_or (restrictions_at F c i) j 0 < get_or sizes (number sources c j) 0

-- the restrictions of the element i at c along the chosen arrows have a truth value
pub record IsReadable (truths : List (List Bool)) (sources chosen : List (List ℕ)) (store : Store) (context c i : ℕ) : Type 0 where
  pub sealed : context < length store.sealed
  pub object : (c < store.objects) × (c < length sources) × (c < length chosen)
  pub element : i < size_at (functor_at store.sealed context) c
  pub arrows : length (get_or sources c []) ≡ into store.ends c
  pub landing : AreLanding truths (get_or sources c []) (restrictions_at (functor_at store.sealed context) c i) (get_or chosen c [])
