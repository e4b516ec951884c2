use Rattle.std.proofs.Common.{◌<◌, [], ◌∷◌, ap, sym, subst, ◌∙◌, arith}
use Rattle.functor_store.specs.Store.{Functor, functor_at, size_at}
use Rattle.functor_store.specs.TwoObjects.{two_restricted}
use Rattle.functor_store.proofs.TwoObjects.{sealed_at}
use Rattle.functor_store.proofs.tests.sealed_functor_reads_back.Goals as goal

pub element-requires-clause-element : goal.element-requires-clause-element
element-requires-clause-element g c =
    let P : Functor → Type 0 = λ F. 0 < size_at F 0 in
    subst P (sym (ap (λ s. functor_at s.sealed 0) c.in_ok-store.ensures.store ∙ sealed_at (two_restricted (7 ∷ 8 ∷ [])))) (omega arith)
