use Rattle.term_ranges.proofs.StableTerms.{typed_stable, needs_stable}
use Rattle.term_ranges.proofs.NamedTypes.{found_in_range, names_in_range}
use Rattle.term_ranges.proofs.StableMeanings.{meaning_stable}
use Rattle.term_ranges.proofs.laws.range_laws.Goals as goal

pub returns-clause-typing : goal.returns-clause-typing
returns-clause-typing c = typed_stable

pub returns-clause-needs : goal.returns-clause-needs
returns-clause-needs c = needs_stable

pub returns-clause-found : goal.returns-clause-found
returns-clause-found c = λ n maps Γ t T (h, k, ends) e. found_in_range n maps ends Γ t T h k e

pub returns-clause-named : goal.returns-clause-named
returns-clause-named c = λ n maps Γ t (h, k, ends). names_in_range n maps ends Γ t h k

pub returns-clause-meaning : goal.returns-clause-meaning
returns-clause-meaning c = λ n w more t h. meaning_stable n w more t h
