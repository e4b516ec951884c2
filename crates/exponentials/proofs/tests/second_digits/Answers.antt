use Rattle.omega_object.proofs.Operations.{in_range}
use Rattle.exponentials.proofs.tests.second_digits.Goals as goal

pub digits-requires-clause-range : goal.digits-requires-clause-range
digits-requires-clause-range c = in_range c.args.site.now c.args.values.now c.requires.values 1 c.requires.object
