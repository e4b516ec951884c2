use Rattle.topos_tokens.proofs.Fronts.{implies_front, equals_front}
use Rattle.topos_tokens.proofs.symbol.equals.Goals as goal

pub returns-in-Some-clause-front : goal.returns-in-Some-clause-front
returns-in-Some-clause-front c = λ n. rw c.in-Some.ensures.characters (implies_front n _)

pub returns-in-None-clause-front : goal.returns-in-None-clause-front
returns-in-None-clause-front c = λ n. equals_front n _ c.in-None.ensures.characters
