use Rattle.std.proofs.Common.{◌∙◌, sym, map}
use Rattle.topos_text.specs.Tokens.{written}
use Rattle.topos_names.proofs.NameLists.{look_up-some, look_up-none, position-seen}
use Rattle.topos_names.proofs.table.Table.number.Goals as goal

pub returns-in-Some-clause-ok : goal.returns-in-Some-clause-ok
returns-in-Some-clause-ok g c = look_up-some (map (λ e. e.0) c.args.self.now) (written c.args.x.now) c.in-Some.number (rw (← c.self.view_is) (sym c.in-Some.is ∙ c.get_index_of.ensures.index ∙ position-seen c.args.x.now.text c.self.inside.held.entries))

pub returns-in-None-clause-fault : goal.returns-in-None-clause-fault
returns-in-None-clause-fault g c = λ fault e. look_up-none (map (λ e. e.0) c.args.self.now) (written c.args.x.now) fault (rw (← c.self.view_is) (sym c.in-None.is ∙ c.get_index_of.ensures.index ∙ position-seen c.args.x.now.text c.self.inside.held.entries)) (c.name_unknown.ensures fault e)
