use Rattle.std.proofs.Common.{length, ap, ◌∙◌}
use Rattle.fin_category.proofs.Views.{AreOf, tables_of}
use Rattle.fin_category.proofs.tables.Tables.arrows.Goals as goal

pub returns-clause-count : goal.returns-clause-count
returns-clause-count c =
    let i = c.self.inside in
    let t : AreOf c.args.self.now i.objects i.ends i.composites.items i.rows = tables_of i.objects i.ends i.composites.items i.rows c.args.self.now c.self.view_is c.self.invariant in
    c.len.ensures ∙ ap length t.ends_are
