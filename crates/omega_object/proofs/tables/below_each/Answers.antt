use Rattle.std.proofs.Common.{◌≡◌, ℕ, List, ap, subst, ◌∙◌}
use Rattle.finite_lists.specs.Members.{In}
use Rattle.topos_model.specs.categories.Category.{into, dom}
use Rattle.topos_model.proofs.ArrowsInto.{In-into_from}
use Rattle.fin_category.specs.ArrowSets.{arrows_in}
use Rattle.omega_object.specs.Tables.{composites_of}
use Rattle.omega_object.proofs.Precedence.{mapped_pushed}
use Rattle.omega_object.proofs.tables.below_each.Goals as goal

pub composites-requires-clause-arrows : goal.composites-requires-clause-arrows
composites-requires-clause-arrows c = λ g i.
    let k = c.args.cat.now in In-into_from k _ g (subst (λ (l : List ℕ). In l g) (c.into.ensures ∙ ap (into k) c.dom.ensures.value) i)

pub loop-f-preserved : goal.loop-f-preserved
unfolding composites_of
loop-f-preserved c =
    let k = c.args.cat.now in
    let g : ℕ → List ℕ = λ f. composites_of k f (into k (dom k f)) in
    let is : arrows_in c.composites.result ≡ g c.loop-f.f = c.composites.ensures ∙ ap (composites_of k c.loop-f.f) (c.into.ensures ∙ ap (into k) c.dom.ensures.value) in
    mapped_pushed arrows_in g c.loop-f.row c.push.new.self c.composites.result c.loop-f.f c.in_ok-push.ensures.ok c.loop-f.invariant is
