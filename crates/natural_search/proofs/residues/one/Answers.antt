use Rattle.natural_search.proofs.ResidueBits.{allows_one}
use Rattle.natural_search.proofs.residues.one.Goals as goal

pub returns : goal.returns
returns c = allows_one c.args.v
