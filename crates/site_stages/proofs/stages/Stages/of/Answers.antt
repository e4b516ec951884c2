use Rattle.std.proofs.Common.{◌∙◌, ap, map, eqb, length, List, ℕ}
use Rattle.topos_model.specs.categories.Category.{dom, into}
use Rattle.topos_model.specs.statements.Cells.{objects_of}
use Rattle.site_stages.specs.declared.stages.Stages.{Stages}
use Rattle.site_stages.specs.Places.{places_among}
use Rattle.site_stages.proofs.SiteStages.{stages_are}
use Rattle.site_stages.proofs.stages.Stages.of.Goals as goal

pub returns : goal.returns
returns c =
    let made : Stages = record { sources = c.in_ok-all_sources.field-0; all = c.in_ok-all_places.field-0; least = c.in_ok-least.least; empty = c.in_ok-empty.empty } in
    stages_are c.args.site.now made
    (record {
      sources = c.in_ok-all_sources.ensures ∙ ap (λ k. map (λ o. map (dom k) (into k o)) (objects_of k)) c.cat-2.ensures;
      all = c.in_ok-all_places.ensures ∙ ap (λ k. map (λ o. places_among (into k o) (into k o)) (objects_of k)) c.cat-3.ensures;
      least_places = c.in_ok-least.ensures;
      empty = c.in_ok-empty.ensures ∙ ap (λ (l : List (List ℕ)). map (λ row. eqb (length row) 0) l) c.as_slice.ensures;
    })
