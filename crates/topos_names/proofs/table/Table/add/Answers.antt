use Rattle.std.proofs.Common.{◌∙◌, map, ap}
use Rattle.topos_names.proofs.NameLists.{seen, insert_entry-seen}
use Rattle.topos_names.proofs.table.Table.add.Goals as goal

pub returns-in-Ok-clause-added : goal.returns-in-Ok-clause-added
returns-in-Ok-clause-added g c = rw (← c.self.view_is) (ap (map seen) c.in-Ok.ensures.entries ∙ insert_entry-seen c.args.text c.args.value c.self.inside.held.entries (rw (← c.self.view_is) at c.requires.new))
