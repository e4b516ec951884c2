use Rattle.std.proofs.Common.{◌∙◌, ap, slice_get}
use Rattle.topos_names.proofs.NameLists.{values-seen}
use Rattle.topos_names.proofs.table.Table.get.Goals as goal

pub returns : goal.returns
returns g c = rw (← c.self.view_is) (ap (λ vs. slice_get vs c.args.number) (values-seen c.self.inside.held.entries) ∙ c.index.ensures)
