use Rattle.std.proofs.lemmas.Result.{err_from_is_err_and}
use Rattle.topos_text.specs.Tokens.{written}
use Rattle.topos_names.proofs.ScopeNames.{known_twice, functor_new}
use Rattle.topos_names.proofs.Declarations.{functor_declared}
use Rattle.topos_names.proofs.scope.Scope.declare_functor.Goals as goal

pub returns-in_err-add-clause-fault : goal.returns-in_err-add-clause-fault
returns-in_err-add-clause-fault c =
    let p = err_from_is_err_and c.from_residual.result c.from_residual.ensures.1 in
    rw (p.1, p.2, known_twice c.self.inside c.args.self.now c.self.view_is (written c.args.x.now) c.self.invariant) c.in_err-add.ensures.fault

pub add-requires-2 : goal.add-requires-2
add-requires-2 c = record { new = functor_new c.self.inside (written c.args.x.now) c.self.invariant c.in_ok-add.ensures.ok }

pub invariant_of-self-in-Ok : goal.invariant_of-self-in-Ok
invariant_of-self-in-Ok c = rw (c.in_ok-add.ensures.added, c.in-Ok.ensures.added) (functor_declared c.self.inside c.args.x.now.text.now (c.args.elements) c.self.invariant)

pub returns-in-Ok-clause-ok : goal.returns-in-Ok-clause-ok
returns-in-Ok-clause-ok c = rw (known_twice c.self.inside c.args.self.now c.self.view_is (written c.args.x.now) c.self.invariant) c.in_ok-add.ensures.ok
