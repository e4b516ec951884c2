use Rattle.std.proofs.Common.{◌≡◌, get_or, map, take}
use Rattle.functor_store.specs.Store.{functor_at, restriction_along}
use Rattle.term_objects.proofs.subobjects.restricted.Given as goal

abbrev pub invariant-loop-x : goal.invariant-loop-x
invariant-loop-x l = l.row ≡ map (λ x. get_or l.places (restriction_along l.store.ends (functor_at l.store.sealed l.id) l.f x) 0) (take l.x-index l.numbers)
