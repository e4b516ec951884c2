use Rattle.natural_search.proofs.ResidueBits.{allows_below, allows_all}
use Rattle.natural_search.proofs.residues.below.Goals as goal

pub returns-then-bound-lt64 : goal.returns-then-bound-lt64
returns-then-bound-lt64 c v low = allows_below c.args.bound v c.if-bound-lt64.true low

pub returns-else-bound-lt64 : goal.returns-else-bound-lt64
returns-else-bound-lt64 c v low = allows_all v
