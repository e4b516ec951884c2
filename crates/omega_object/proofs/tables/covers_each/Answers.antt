use Rattle.std.proofs.Common.{◌≡◌, ℕ, List, sym, ap, subst, ◌∙◌}
use Rattle.finite_lists.specs.Members.{In}
use Rattle.topos_model.specs.categories.Category.{Category, dom}
use Rattle.topos_model.specs.topologies.Cover.{Site}
use Rattle.topos_model.specs.Laws.{IsCategory, IsInto}
use Rattle.topos_model.specs.topologies.LeastCovers.{least}
use Rattle.fin_category.specs.ArrowSets.{arrows_in}
use Rattle.topologies.proofs.LeastCovers.{least-into}
use Rattle.omega_object.specs.Tables.{composites_of}
use Rattle.omega_object.proofs.Precedence.{mapped_pushed}
use Rattle.omega_object.proofs.tables.covers_each.Goals as goal

pub composites-requires-clause-arrows : goal.composites-requires-clause-arrows
composites-requires-clause-arrows c = λ g i.
    let s = c.args.site.now in
    let k = c.cat-cat.result.now in
    let f = c.loop-f.f in
    let laws = subst (λ (k : Category). IsCategory k) c.cat-cat.ensures c.laws.ensures.lawful in
    let site : record { category = k; dense = c.top-top.result.now.dense; families = c.top-top.result.now.families } ≡ s =
    ap (λ (x : Category). record { category = x; dense = c.top-top.result.now.dense; families = c.top-top.result.now.families }) c.cat-cat.ensures ∙ c.top-top.ensures.site in
    let row : arrows_in c.arrows.result ≡ least s (dom k f) = c.arrows.ensures ∙ c.least.ensures.arrows ∙ ap (λ (t : Site). least t c.dom.result) site ∙ ap (least s) c.dom.ensures.value in
    let e : dom s.category f ≡ dom k f = ap (λ (x : Category). dom x f) (sym c.cat-cat.ensures) in
    let a : IsInto s.category (dom s.category f) g = least-into s laws (dom s.category f) g (subst (λ (l : List ℕ). In l g) (row ∙ ap (least s) (sym e)) i) in
    subst (λ d. IsInto k d g) e (subst (λ (x : Category). IsInto x (dom s.category f) g) (sym c.cat-cat.ensures) a)

pub loop-f-preserved : goal.loop-f-preserved
unfolding composites_of
loop-f-preserved c =
    let s = c.args.site.now in
    let k = c.cat-cat.result.now in
    let f = c.loop-f.f in
    let g : ℕ → List ℕ = λ f. composites_of s.category f (least s (dom s.category f)) in
    let site : record { category = k; dense = c.top-top.result.now.dense; families = c.top-top.result.now.families } ≡ s =
    ap (λ (x : Category). record { category = x; dense = c.top-top.result.now.dense; families = c.top-top.result.now.families }) c.cat-cat.ensures ∙ c.top-top.ensures.site in
    let row : arrows_in c.arrows.result ≡ least s (dom k f) = c.arrows.ensures ∙ c.least.ensures.arrows ∙ ap (λ (t : Site). least t c.dom.result) site ∙ ap (least s) c.dom.ensures.value in
    let is : arrows_in c.composites.result ≡ g f =
    c.composites.ensures ∙ ap (composites_of k f) row ∙ ap (λ (x : Category). composites_of x f (least s (dom x f))) c.cat-cat.ensures in
    mapped_pushed arrows_in g c.loop-f.row c.push.new.self c.composites.result f c.in_ok-push.ensures.ok c.loop-f.invariant is
