use Rattle.topos_tokens.proofs.Uniqueness.{tokens_are_unique}
use Rattle.topos_tokens.proofs.Existence.{text_or_not, tokens_or_not}
use Rattle.topos_tokens.proofs.laws.token_laws.Goals as goal

pub returns-clause-unique : goal.returns-clause-unique
returns-clause-unique c = λ bytes xs ys d e. tokens_are_unique bytes xs ys d e

pub returns-clause-text : goal.returns-clause-text
returns-clause-text c = λ bytes. text_or_not bytes

pub returns-clause-exist : goal.returns-clause-exist
returns-clause-exist c = λ bytes u. tokens_or_not bytes u
