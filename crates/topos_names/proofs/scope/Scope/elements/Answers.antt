use Rattle.std.proofs.Common.{◌∙◌, None, Some, ap}
use Rattle.topos_names.proofs.ScopeNames.{element_names-at}
use Rattle.topos_names.proofs.scope.Scope.elements.Goals as goal

pub returns-in-Some : goal.returns-in-Some
returns-in-Some c = element_names-at c.self.inside c.args.self.now c.self.view_is c.args.functor c.args.object (Some c.in-Some.stages) (c.get.ensures ∙ ap Some c.in-Some.is) ∙ c.elements.ensures

pub returns-in-None : goal.returns-in-None
returns-in-None c = element_names-at c.self.inside c.args.self.now c.self.view_is c.args.functor c.args.object None (c.get.ensures ∙ ap Some c.in-None.is)
