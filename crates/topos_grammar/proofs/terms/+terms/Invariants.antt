use Rattle.std.proofs.Common.{◌+◌, ◌*◌, length}
use Rattle.topos_grammar.proofs.terms.+terms.Given as goal

abbrev pub decreases-any_term : goal.decreases-any_term
decreases-any_term l = 16 * length l.tokens.now + 9

abbrev pub decreases-disjunction : goal.decreases-disjunction
decreases-disjunction l = 16 * length l.tokens.now + 8

abbrev pub decreases-conjunction : goal.decreases-conjunction
decreases-conjunction l = 16 * length l.tokens.now + 7

abbrev pub decreases-negation : goal.decreases-negation
decreases-negation l = 16 * length l.tokens.now + 6

abbrev pub decreases-comparison : goal.decreases-comparison
decreases-comparison l = 16 * length l.tokens.now + 5

abbrev pub decreases-application : goal.decreases-application
decreases-application l = 16 * length l.tokens.now + 4

abbrev pub decreases-atom : goal.decreases-atom
decreases-atom l = 16 * length l.tokens.now + 3

abbrev pub decreases-parentheses : goal.decreases-parentheses
decreases-parentheses l = 16 * length l.tokens.now + 2

abbrev pub decreases-more_disjuncts : goal.decreases-more_disjuncts
decreases-more_disjuncts l = 16 * length l.tokens.now + 0

abbrev pub decreases-more_conjuncts : goal.decreases-more_conjuncts
decreases-more_conjuncts l = 16 * length l.tokens.now + 0

abbrev pub decreases-more_arguments : goal.decreases-more_arguments
decreases-more_arguments l = 16 * length l.tokens.now + 3

abbrev pub decreases-bound_term : goal.decreases-bound_term
decreases-bound_term l = 16 * length l.tokens.now + 10

abbrev pub decreases-in_parentheses : goal.decreases-in_parentheses
decreases-in_parentheses l = 16 * length l.tokens.now + 10
