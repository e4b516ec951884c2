use Rattle.finite_lists.proofs.Lists.{sublist_within, filter_sublist, sublist_kept}
use Rattle.finite_lists.proofs.RisingLists.{Rising-sublists}
use Rattle.finite_lists.proofs.FirstAnswers.{first_none_each, first_some_each}
use Rattle.finite_lists.proofs.laws.list_laws.Goals as goal

pub returns-clause-within : goal.returns-clause-within
returns-clause-within c = λ xs s x i j. sublist_within xs s x i j

pub returns-clause-filters : goal.returns-clause-filters
returns-clause-filters c = λ p xs. filter_sublist p xs

pub returns-clause-kept : goal.returns-clause-kept
returns-clause-kept c = λ p xs s d i within keeps. sublist_kept p xs s d i within keeps

pub returns-clause-rising : goal.returns-clause-rising
returns-clause-rising c = λ xs d. Rising-sublists xs d

pub returns-clause-none : goal.returns-clause-none
returns-clause-none c = λ test xs x e i. first_none_each test xs x e i

pub returns-clause-answer : goal.returns-clause-answer
returns-clause-answer c = λ test xs y e. first_some_each test xs y e
