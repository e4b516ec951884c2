use Rattle.std.proofs.lemmas.Result.{IfOk-weaker}
use Rattle.internal_interp.proofs.scopes.term_values.Goals as goal

pub value_of-requires-clause-known : goal.value_of-requires-clause-known
value_of-requires-clause-known c = let (w, maps, Γ, U, k) = c.requires.known in (w, maps, Γ, U, c.args.term.now, k, c.in_ok-interpreted.ensures w maps Γ U k)

pub returns : goal.returns
returns c = record { values = IfOk-weaker c.value_of.result _ _ (λ v is w maps Γ U k. is w maps Γ U c.args.term.now k (c.in_ok-interpreted.ensures w maps Γ U k)) c.value_of.ensures }
