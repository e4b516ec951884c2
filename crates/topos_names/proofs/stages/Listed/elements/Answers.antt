use Rattle.topos_names.proofs.StageLemmas.{elements_at-lookup}
use Rattle.topos_names.proofs.stages.Listed.elements.Goals as goal

pub returns : goal.returns
returns c = rw (← c.self.view_is, c.get.ensures.value) (elements_at-lookup c.args.object c.self.inside.at.entries c.self.invariant.apart)
