use Rattle.std.proofs.Common.{◌∙◌, sym}
use Rattle.topos_names.proofs.NameLists.{position-now}
use Rattle.topos_names.proofs.names.Names.find.Goals as goal

pub returns-in-Some : goal.returns-in-Some
returns-in-Some c = rw (← c.self.view_is) (sym c.in-Some.is ∙ c.get_index_of.ensures.index ∙ position-now c.args.text c.self.inside.set.keys)

pub returns-in-None : goal.returns-in-None
returns-in-None c = rw (← c.self.view_is) (sym c.in-None.is ∙ c.get_index_of.ensures.index ∙ position-now c.args.text c.self.inside.set.keys)
