use Rattle.std.proofs.Common.{◌<◌, [], sym, subst, arith}
use Rattle.functor_store.specs.Store.{Store, IfBuilding, IsNext}
use Rattle.functor_store.proofs.TwoObjects.{third_next}
use Rattle.functor_store.proofs.tests.third_element_exceeds_the_budget.Goals as goal

pub push_element-third-requires : goal.push_element-third-requires
push_element-third-requires g c =
    let P : Store → Type 0 = λ s. 1 < s.objects in
    let Q : Store → Type 0 = λ s. IfBuilding s.building (λ F. IsNext F 1) in
    record { object = subst P (sym c.in_ok-store.ensures.store) (omega arith); next = subst Q (sym c.in_ok-store.ensures.store) (third_next []) }
