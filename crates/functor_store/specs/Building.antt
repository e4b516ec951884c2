-- How far a build is.
use Rattle.std.specs.Prelude.{◌≡◌, ℕ, ◌<◌, ◌≤◌, [], length, get_or}
use Rattle.functor_store.specs.Store.{Functor, size_at}

-- the elements before the element k at c have restrictions, and no other has
pub record IsRestrictedTo (F : Functor) (c k : ℕ) : Type 0 where
  pub before : (o : ℕ) → o < c → length (get_or F.restrictions o []) ≡ size_at F o
  pub here : length (get_or F.restrictions c []) ≡ k
  pub within : k ≤ size_at F c
  pub after : (o : ℕ) → c < o → get_or F.restrictions o [] ≡ []
