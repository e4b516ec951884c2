-- What types that are sealed in a store say by their numbers.
use Rattle.std.specs.Prelude.{ℕ, ◌<◌, List, length}
use Rattle.topos_model.specs.topologies.Cover.{Site}
use Rattle.topos_model.specs.Laws.{IsCategory}
use Rattle.topos_model.specs.types.Types.{Presheaf}
use Rattle.functor_store.specs.Store.{Store}
use Rattle.functor_store.specs.Faithful.{IsFaithful}
use Rattle.place_closures.specs.Pairs.{AreRestricted, CanAsk}
use Rattle.sealed_types.specs.Sealed.{sizes_in, restrictions_in, IsObjectOf, IsElementOf}

abbrev pub SealedTypesRestrict : Type 0
SealedTypesRestrict =
    (s : Site) (functors : List Presheaf) (store : Store) (id : ℕ) → IsCategory s.category → IsFaithful s functors store → id < length store.sealed →
    AreRestricted s.category (sizes_in store id) (restrictions_in store id)

abbrev pub SealedTypesCanBeAsked : Type 0
SealedTypesCanBeAsked =
    (s : Site) (functors : List Presheaf) (store : Store) (id : ℕ) → IsFaithful s functors store → id < length store.sealed →
    CanAsk s.category (sizes_in store id) (IsObjectOf store id) (IsElementOf store id)
