use Rattle.topos_tokens.proofs.Fronts.{arrow_front, lone_arrow}
use Rattle.topos_tokens.proofs.symbol.arrow.Goals as goal

pub returns-in-Some-clause-front : goal.returns-in-Some-clause-front
returns-in-Some-clause-front c = λ n. rw c.in-Some.ensures.characters (arrow_front n _)

pub returns-in-None-clause-front : goal.returns-in-None-clause-front
returns-in-None-clause-front c = lone_arrow _ c.in-None.ensures.characters
