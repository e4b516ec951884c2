-- A functor of a store over a category, whose elements restrict as those of a presheaf.
use Rattle.std.specs.Prelude.{◌≡◌, ℕ, ◌<◌, length}
use Rattle.topos_model.specs.categories.Category.{Category}
use Rattle.functor_store.specs.Store.{Store}
use Rattle.place_closures.specs.Pairs.{AreRestricted}
use Rattle.sealed_types.specs.Sealed.{sizes_in, restrictions_in}

pub record IsPart (k : Category) (store : Store) (id : ℕ) : Type 0 where
  pub objects : store.objects ≡ k.objects
  pub ends : store.ends ≡ k.ends
  pub within : id < length store.sealed
  pub restricts : AreRestricted k (sizes_in store id) (restrictions_in store id)
