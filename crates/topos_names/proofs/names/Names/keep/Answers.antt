use Rattle.std.proofs.Common.{◌∙◌, sym}
use Rattle.topos_names.proofs.NameLists.{list_any-now}
use Rattle.topos_names.proofs.Kept.{there_already}
use Rattle.topos_names.proofs.names.Names.keep.Goals as goal

pub returns-then-contains : goal.returns-then-contains
returns-then-contains c = record { kept = there_already c.args.self.now c.args.text.now (rw (← c.self.view_is) (sym (list_any-now c.args.text c.self.inside.set.keys) ∙ sym c.contains.ensures ∙ c.if-contains.true)) }

pub push-requires : goal.push-requires
push-requires c = record { new = rw (← c.self.view_is) (sym (list_any-now c.args.text c.self.inside.set.keys) ∙ sym c.contains.ensures ∙ c.if-contains.false) }
