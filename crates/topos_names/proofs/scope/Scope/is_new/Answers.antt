use Rattle.topos_text.specs.Tokens.{written}
use Rattle.topos_names.proofs.ScopeNames.{known_twice}
use Rattle.topos_names.proofs.scope.Scope.is_new.Goals as goal

pub returns-clause-ok : goal.returns-clause-ok
returns-clause-ok c = rw (known_twice c.self.inside c.args.self.now c.self.view_is (written c.args.x.now) c.self.invariant) c.is_new.ensures.ok

pub returns-clause-fault : goal.returns-clause-fault
returns-clause-fault c = rw (known_twice c.self.inside c.args.self.now c.self.view_is (written c.args.x.now) c.self.invariant) c.is_new.ensures.fault
