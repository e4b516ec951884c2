use Rattle.std.proofs.Common.{◌+◌, ◌*◌, length}
use Rattle.topos_grammar.proofs.types.+types.Given as goal

abbrev pub decreases-any_type : goal.decreases-any_type
decreases-any_type l = 4 * length l.tokens.now + 3

abbrev pub decreases-product_type : goal.decreases-product_type
decreases-product_type l = 4 * length l.tokens.now + 2

abbrev pub decreases-more_factors : goal.decreases-more_factors
decreases-more_factors l = 4 * length l.tokens.now

abbrev pub decreases-prefix_type : goal.decreases-prefix_type
decreases-prefix_type l = 4 * length l.tokens.now + 1
