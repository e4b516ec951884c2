-- The closed sieves on an object, by their numbers.
use Rattle.std.specs.Prelude.{◌≡◌, ℕ, ◌<◌, false, true, List, [], length, get_or, filter}
use Rattle.topos_model.specs.categories.Category.{Category, has, into, sieves, pull}
use Rattle.topos_model.specs.topologies.Cover.{Site, contains}
use Rattle.topos_model.specs.types.Types.{is_closed_sieve}

-- in the order of the elements of Omega
unfoldable pub closed_sieves : Site → ℕ → List (List ℕ)
closed_sieves s c = filter (is_closed_sieve s c) (sieves s.category c)

abbrev pub sieve_at : Site → ℕ → ℕ → List ℕ
sieve_at s c k = get_or (closed_sieves s c) k []

-- the number stands for the closed sieve
pub record IsNumber (s : Site) (c k : ℕ) (S : List ℕ) : Type 0 where
  pub within : k < length (closed_sieves s c)
  pub is : sieve_at s c k ≡ S

-- the f along which S pulls back within T
unfoldable pub implication : Category → ℕ → List ℕ → List ℕ → List ℕ
implication k c S T = filter (λ f. contains (pull k f S) (pull k f T)) (into k c)

-- at the first number that one of two sets has and the other has not, the set S has it not
abbrev pub Precedes : List ℕ → List ℕ → Type 0
Precedes S T = (f : ℕ) × (has f S ≡ false) × (has f T ≡ true) × ((g : ℕ) → g < f → has g S ≡ has g T)
