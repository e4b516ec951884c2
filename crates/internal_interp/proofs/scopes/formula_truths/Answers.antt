use Rattle.std.proofs.lemmas.Result.{IfOk-weaker}
use Rattle.topos_model.specs.declared.ty.Ty.{Omega}
use Rattle.internal_interp.proofs.scopes.formula_truths.Goals as goal

pub interpret_term-requires-clause-known : goal.interpret_term-requires-clause-known
interpret_term-requires-clause-known c = let (w, maps, Γ, k) = c.requires.known in (w, maps, Γ, Omega, k)

pub truths_of-requires-clause-known : goal.truths_of-requires-clause-known
truths_of-requires-clause-known c = let (w, maps, Γ, k) = c.requires.known in (w, maps, Γ, c.args.formula.now, k, c.in_ok-interpreted.ensures w maps Γ Omega k)

pub returns : goal.returns
returns c = record { truths = IfOk-weaker c.truths_of.result _ _ (λ truths is w maps Γ k. is w maps Γ c.args.formula.now k (c.in_ok-interpreted.ensures w maps Γ Omega k)) c.truths_of.ensures }
