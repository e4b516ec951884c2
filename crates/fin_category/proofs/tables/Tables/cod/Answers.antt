use Rattle.std.proofs.Common.{ℕ, ◌<◌, List, length, get_or, sym, ap, subst, ◌∙◌}
use Rattle.std.proofs.lemmas.Option.{get_or_from_slice_get}
use Rattle.fin_category.proofs.Views.{AreOf, tables_of}
use Rattle.fin_category.proofs.tables.Tables.cod.Goals as goal

pub get-requires : goal.get-requires
get-requires c =
    let i = c.self.inside in
    let t : AreOf c.args.self.now i.objects i.ends i.composites.items i.rows = tables_of i.objects i.ends i.composites.items i.rows c.args.self.now c.self.view_is c.self.invariant in
    rw (← ap length t.ends_are) at c.requires

pub returns-clause-value : goal.returns-clause-value
returns-clause-value c =
    let i = c.self.inside in
    let t : AreOf c.args.self.now i.objects i.ends i.composites.items i.rows = tables_of i.objects i.ends i.composites.items i.rows c.args.self.now c.self.view_is c.self.invariant in
    ap (λ (e : ℕ × ℕ). e.1) (sym (get_or_from_slice_get i.ends c.args.f c.get.result.now (0, 0) c.get.ensures) ∙ ap (λ (ends : List (ℕ × ℕ)). get_or ends c.args.f (0, 0)) t.ends_are)

pub returns-clause-object : goal.returns-clause-object
returns-clause-object c =
    let i = c.self.inside in
    let t : AreOf c.args.self.now i.objects i.ends i.composites.items i.rows = tables_of i.objects i.ends i.composites.items i.rows c.args.self.now c.self.view_is c.self.invariant in
    subst (λ n. n < c.args.self.now.objects) (sym (returns-clause-value c)) (t.closed.ends c.args.f c.requires).1
