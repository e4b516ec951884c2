use Rattle.std.proofs.Common.{◌≡◌, ◌<◌, ℕ, Option, length, subst}
use Rattle.std.specs.Prelude.{MatchOption}
use Rattle.functor_store.specs.Store.{functor_at, IsFreeKey}
use Rattle.exponentials.proofs.next.place_of.Goals as goal

pub unreachable-requires : goal.unreachable-requires
unreachable-requires c =
    let store = c.args.store.now in
    let T = c.args.ty.now in
    let free = subst (λ (o : Option ℕ). MatchOption o (IsFreeKey store.sealed T) (λ id. (id < length store.sealed) × ((functor_at store.sealed id).key ≡ T))) c.in-None.is c.find.ensures.place in
    let (id, low, key) = c.requires.held in
    free id low key
