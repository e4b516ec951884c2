use Rattle.topos_names.proofs.ScopeNames.{space_of-at}
use Rattle.topos_names.proofs.scope.Scope.space.Goals as goal

pub returns : goal.returns
returns c = space_of-at c.self.inside c.args.self.now c.self.view_is c.args.cat c.get.result.now c.get.ensures
