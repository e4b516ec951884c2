use Rattle.std.proofs.Common.{◌+◌, ◌*◌, max}
use Rattle.topos_model.specs.declared.term.Term.{size-Term}
use Rattle.term_typing.proofs.typing.+terms.Given as goal

abbrev pub decreases-inferred : goal.decreases-inferred
decreases-inferred l = 3 * size-Term l.term.now + 1

abbrev pub decreases-by_form : goal.decreases-by_form
decreases-by_form l = 3 * size-Term l.term.now

abbrev pub decreases-both : goal.decreases-both
decreases-both l = 3 * max (size-Term l.left.now) (size-Term l.right.now) + 2

abbrev pub decreases-formulas : goal.decreases-formulas
decreases-formulas l = 3 * max (size-Term l.left.now) (size-Term l.right.now) + 2

abbrev pub decreases-under_binder : goal.decreases-under_binder
decreases-under_binder l = 3 * size-Term l.body.now + 2
