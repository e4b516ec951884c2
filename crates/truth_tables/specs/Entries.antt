-- Entries of the rows of elements.
use Rattle.std.specs.Prelude.{ℕ, ◌<◌, List, length, get_or}
use Rattle.functor_store.specs.Store.{Store, Functor, functor_at, size_at, element_at}
use Rattle.truth_tables.specs.Tables.{number}

-- there is an element k at c, and an entry at this place of its row
pub record IsEntry (store : Store) (id c k place : ℕ) : Type 0 where
  pub sealed : id < length store.sealed
  pub object : c < store.objects
  pub element : k < size_at (functor_at store.sealed id) c
  pub entry : place < length (element_at (functor_at store.sealed id) c k)

-- the elements are of F, and the places are those of entries of their rows
pub record AreEntries (F : Functor) (sizes : List ℕ) (elements places : List (List ℕ)) : Type 0 where
  pub members : (c i : ℕ) → c < length sizes → i < get_or sizes c 0 → number elements c i < size_at F c
  pub within : (c i : ℕ) → c < length sizes → i < get_or sizes c 0 → number places c i < length (element_at F c (number elements c i))
