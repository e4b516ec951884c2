use Rattle.std.proofs.Common.{refl, arith}
use Rattle.std.proofs.lemmas.Bool.{lt-ltb, le-ltb}
use Rattle.closed_sets.specs.Parts.{pair_parts}
use Rattle.closed_sets.proofs.tests.parts.Goals as goal

pub returns-then-k-lt14-clause-value : goal.returns-then-k-lt14-clause-value
unfolding pair_parts
returns-then-k-lt14-clause-value c = rw (lt-ltb c.args.k 14 c.if-k-lt14.true) refl

pub returns-else-k-lt14-clause-value : goal.returns-else-k-lt14-clause-value
unfolding pair_parts
returns-else-k-lt14-clause-value c = rw (le-ltb c.args.k 14 (omega (arith, c.if-k-lt14.false))) refl
