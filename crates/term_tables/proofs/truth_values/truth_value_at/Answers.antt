use Rattle.std.proofs.Common.{length, sym, ap, ◌∙◌}
use Rattle.term_tables.proofs.truth_values.truth_value_at.Goals as goal

pub true_arrows-sieve-requires-clause-restrictions : goal.true_arrows-sieve-requires-clause-restrictions
true_arrows-sieve-requires-clause-restrictions c = c.restrictions.ensures.arrows ∙ sym c.requires.arrows ∙ sym (ap length c.arrows_into.ensures.value)
