use Rattle.std.proofs.Common.{sym, subst}
use Rattle.topos_tokens.proofs.Fronts.{no_token_nil}
use Rattle.topos_tokens.specs.Fronts.{NoToken}
use Rattle.topos_tokens.proofs.front.front.Goals as goal

pub returns-in_default-clause-token : goal.returns-in_default-clause-token
returns-in_default-clause-token c = subst NoToken (sym c.in_default.ensures.characters) no_token_nil
