use Rattle.std.proofs.Common.{◌≡◌, ◌+◌, ◌*◌, ◌<◌, length, get_or, sym, ap, subst, ◌∙◌, arith}
use Rattle.std.proofs.lemmas.List.{get_or_read}
use Rattle.topos_model.specs.categories.Category.{dom, cod}
use Rattle.std.proofs.lemmas.Nat.{mul-add-lt}
use Rattle.fin_category.proofs.Views.{AreOf, tables_of}
use Rattle.fin_category.proofs.tables.Tables.compose.Goals as goal

pub index-requires : goal.index-requires
index-requires c =
    let i = c.self.inside in
    let t : AreOf c.args.self.now i.objects i.ends i.composites.items i.rows = tables_of i.objects i.ends i.composites.items i.rows c.args.self.now c.self.view_is c.self.invariant in
    let n : c.len.result ≡ length c.args.self.now.ends = c.len.ensures ∙ ap length t.ends_are in
    let p = mul-add-lt c.args.g (length c.args.self.now.ends) c.args.f (length c.args.self.now.ends) c.requires.second c.requires.first in
    rw n (omega (arith, t.places, i.composites.ok.0))

pub returns-clause-value : goal.returns-clause-value
returns-clause-value c =
    let i = c.self.inside in
    let t : AreOf c.args.self.now i.objects i.ends i.composites.items i.rows = tables_of i.objects i.ends i.composites.items i.rows c.args.self.now c.self.view_is c.self.invariant in
    let n : c.len.result ≡ length c.args.self.now.ends = c.len.ensures ∙ ap length t.ends_are in
    let p = mul-add-lt c.args.g (length c.args.self.now.ends) c.args.f (length c.args.self.now.ends) c.requires.second c.requires.first in
    let read : c.index.result.now ≡ get_or i.composites.items (c.args.g * length c.args.self.now.ends + c.args.f) c.index.result.now = rw n at c.index.ensures in
    get_or_read i.composites.items (c.args.g * length c.args.self.now.ends + c.args.f) c.index.result.now (omega (arith, t.places)) read 0
    ∙ t.composites c.args.g c.args.f c.requires.second c.requires.first c.requires.meet

pub returns-clause-arrow : goal.returns-clause-arrow
returns-clause-arrow c =
    let i = c.self.inside in
    let t : AreOf c.args.self.now i.objects i.ends i.composites.items i.rows = tables_of i.objects i.ends i.composites.items i.rows c.args.self.now c.self.view_is c.self.invariant in
    subst (λ h. h < length c.args.self.now.ends) (sym (returns-clause-value c)) (t.closed.composite c.args.g c.args.f (c.requires.second, (c.requires.first, c.requires.meet))).0.0

pub returns-clause-dom : goal.returns-clause-dom
returns-clause-dom c =
    let i = c.self.inside in
    let t : AreOf c.args.self.now i.objects i.ends i.composites.items i.rows = tables_of i.objects i.ends i.composites.items i.rows c.args.self.now c.self.view_is c.self.invariant in
    ap (dom c.args.self.now) (returns-clause-value c) ∙ (t.closed.composite c.args.g c.args.f (c.requires.second, (c.requires.first, c.requires.meet))).1

pub returns-clause-cod : goal.returns-clause-cod
returns-clause-cod c =
    let i = c.self.inside in
    let t : AreOf c.args.self.now i.objects i.ends i.composites.items i.rows = tables_of i.objects i.ends i.composites.items i.rows c.args.self.now c.self.view_is c.self.invariant in
    ap (cod c.args.self.now) (returns-clause-value c) ∙ (t.closed.composite c.args.g c.args.f (c.requires.second, (c.requires.first, c.requires.meet))).0.1
