use Rattle.natural_search.proofs.ResidueBits.{allows_or_left, allows_or_right}
use Rattle.natural_search.proofs.residues.with.Goals as goal

pub returns-clause-new : goal.returns-clause-new
returns-clause-new c = allows_or_right c.args.mask c.one.result c.args.v c.one.ensures

pub returns-clause-old : goal.returns-clause-old
returns-clause-old c w h = allows_or_left c.args.mask c.one.result w h
