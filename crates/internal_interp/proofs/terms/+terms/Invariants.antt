use Rattle.std.proofs.Common.{◌+◌, ◌*◌, max}
use Rattle.topos_model.specs.declared.term.Term.{size-Term}
use Rattle.internal_interp.proofs.terms.+terms.Given as goal

abbrev pub decreases-interpret_term : goal.decreases-interpret_term
decreases-interpret_term l = 3 * size-Term l.term.now

abbrev pub decreases-value_at : goal.decreases-value_at
decreases-value_at l = 3 * size-Term l.term.now + 1

abbrev pub decreases-truths_at : goal.decreases-truths_at
decreases-truths_at l = 3 * size-Term l.term.now + 1

abbrev pub decreases-meanings : goal.decreases-meanings
decreases-meanings l = 3 * max (size-Term l.left.now) (size-Term l.right.now) + 1

abbrev pub decreases-values : goal.decreases-values
decreases-values l = 3 * max (size-Term l.left.now) (size-Term l.right.now) + 2

abbrev pub decreases-truths : goal.decreases-truths
decreases-truths l = 3 * max (size-Term l.left.now) (size-Term l.right.now) + 2

abbrev pub decreases-function_of : goal.decreases-function_of
decreases-function_of l = 3 * size-Term l.body.now + 2

abbrev pub decreases-set_of : goal.decreases-set_of
decreases-set_of l = 3 * size-Term l.body.now + 2

abbrev pub decreases-quantified : goal.decreases-quantified
decreases-quantified l = 3 * size-Term l.body.now + 2
