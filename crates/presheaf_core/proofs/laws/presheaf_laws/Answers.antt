use Rattle.presheaf_core.proofs.FunctorLaws.{functor_has_no_fault, fault_fails}
use Rattle.presheaf_core.proofs.FilledPresheaves.{faultless_presheaf}
use Rattle.presheaf_core.proofs.FilledPresheafIsOne.{filled_one}
use Rattle.presheaf_core.proofs.FirstFillings.{filling_pairs_first}
use Rattle.presheaf_core.proofs.laws.presheaf_laws.Goals as goal

pub returns : goal.returns
returns c = record {
  one = λ k raw law ok. (λ none. faultless_presheaf k raw law ok none, λ X fills functor. filled_one k raw law ok X fills functor);
  complete = functor_has_no_fault;
  instance = λ k X g f x e. let w = fault_fails k X g f x e in (w.composable, w.element, w.differs);
  filling = filling_pairs_first;
}
