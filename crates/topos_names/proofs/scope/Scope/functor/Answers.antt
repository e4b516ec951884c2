use Rattle.topos_text.specs.Tokens.{written}
use Rattle.topos_names.proofs.ScopeNames.{functor_of-seen}
use Rattle.topos_names.proofs.scope.Scope.functor.Goals as goal

pub returns-clause-ok : goal.returns-clause-ok
returns-clause-ok c = rw (functor_of-seen c.self.inside c.args.self.now c.self.view_is (written c.args.x.now)) c.number.ensures.ok

pub returns-clause-fault : goal.returns-clause-fault
returns-clause-fault c = rw (functor_of-seen c.self.inside c.args.self.now c.self.view_is (written c.args.x.now)) c.number.ensures.fault
