use Rattle.std.proofs.Common.{eq-eqb}
use Rattle.std.proofs.lemmas.Result.{err_from_is_err_and}
use Rattle.topos_text.specs.Tokens.{written}
use Rattle.topos_names.proofs.ScopeNames.{on_functor_of-none, on_functor_of-other, on_functor_of-some}
use Rattle.topos_names.proofs.StageLemmas.{eqb-no}
use Rattle.topos_names.proofs.scope.Scope.on_functor.Goals as goal

pub returns-in_err-number-clause-fault : goal.returns-in_err-number-clause-fault
returns-in_err-number-clause-fault c =
    let p = err_from_is_err_and c.from_residual.result c.from_residual.ensures.1 in
    rw (p.1, p.2) (λ fault e. on_functor_of-none c.self.inside c.args.self.now c.self.view_is c.args.cat (written c.args.p.now) fault (c.in_err-number.ensures.fault fault e))

pub returns-then-get-cat-clause-fault : goal.returns-then-get-cat-clause-fault
returns-then-get-cat-clause-fault c = λ fault e. on_functor_of-other c.self.inside c.args.self.now c.self.view_is c.args.cat (written c.args.p.now) c.in_ok-number.number c.get.result.now fault c.in_ok-number.ensures.ok c.get.ensures (eqb-no c.get.result.now.cat c.args.cat c.if-get-cat.true) (c.name_unknown.ensures fault e)

pub returns-clause-ok : goal.returns-clause-ok
returns-clause-ok c = on_functor_of-some c.self.inside c.args.self.now c.self.view_is c.args.cat (written c.args.p.now) c.in_ok-number.number c.get.result.now c.in_ok-number.ensures.ok c.get.ensures (eq-eqb c.get.result.now.cat c.args.cat c.if-get-cat.false)
