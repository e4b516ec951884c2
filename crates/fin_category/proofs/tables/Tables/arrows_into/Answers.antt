use Rattle.std.proofs.Common.{[], length, sym, ap, ◌∙◌, arith}
use Rattle.std.proofs.lemmas.Option.{get_or_from_slice_get}
use Rattle.fin_category.proofs.Views.{into_each, few_into}
use Rattle.fin_category.proofs.Views.{AreOf, tables_of}
use Rattle.fin_category.proofs.tables.Tables.arrows_into.Goals as goal

pub get-requires : goal.get-requires
get-requires c =
    let i = c.self.inside in
    let t : AreOf c.args.self.now i.objects i.ends i.composites.items i.rows = tables_of i.objects i.ends i.composites.items i.rows c.args.self.now c.self.view_is c.self.invariant in
    rw t.count c.requires

pub returns-clause-value : goal.returns-clause-value
returns-clause-value c =
    let i = c.self.inside in
    let t : AreOf c.args.self.now i.objects i.ends i.composites.items i.rows = tables_of i.objects i.ends i.composites.items i.rows c.args.self.now c.self.view_is c.self.invariant in
    c.as_slice.ensures ∙ sym (get_or_from_slice_get i.rows c.args.c c.get.result.now [] c.get.ensures) ∙ t.arrows_into c.args.c c.requires

pub returns-clause-each : goal.returns-clause-each
returns-clause-each c = into_each c.args.self.now c.args.c c.as_slice.result.now (returns-clause-value c)

pub returns-clause-few : goal.returns-clause-few
returns-clause-few c =
    let i = c.self.inside in
    let t : AreOf c.args.self.now i.objects i.ends i.composites.items i.rows = tables_of i.objects i.ends i.composites.items i.rows c.args.self.now c.self.view_is c.self.invariant in
    omega (arith, t.few_arrows, few_into c.args.self.now c.args.c, ap length (returns-clause-value c))
