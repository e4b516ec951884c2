use Rattle.fin_category.proofs.FilledCategories.{faultless_category}
use Rattle.fin_category.proofs.FilledAreOne.{filled_one}
use Rattle.fin_category.proofs.Associative.{associative_none, fault_fails}
use Rattle.fin_category.proofs.laws.category_laws.Goals as goal

pub returns : goal.returns
returns c = record {
  one = λ raw ok. (λ none. faultless_category raw ok none, λ k fills law. filled_one raw ok k fills law);
  complete = associative_none;
  instance = λ k h g f e. let w = fault_fails k h g f e in (w.third, w.second, w.differs);
}
