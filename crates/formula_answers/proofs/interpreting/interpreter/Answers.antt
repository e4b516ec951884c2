use Rattle.std.proofs.Common.{◌≤◌, length, refl, ap, subst, ◌∙◌}
use Rattle.topos_model.specs.categories.Category.{Category}
use Rattle.topos_model.specs.topologies.Cover.{Site}
use Rattle.topos_model.specs.statements.Form.{max_arrows}
use Rattle.topos_model.specs.Laws.{IsCategory, IsTopology}
use Rattle.formula_answers.proofs.WorldsWithMaps.{serves}
use Rattle.formula_answers.proofs.interpreting.interpreter.Goals as goal

pub returns : goal.returns
returns c =
    let same = c.cat.ensures ∙ ap (λ (s : Site). s.category) c.site-site.ensures in
    record {
      serves = serves c.args.world.now c.args.maps.now _ c.site-site.ensures
          (subst IsCategory same c.laws.ensures.lawful)
          (subst (λ (k : Category). length k.ends ≤ max_arrows) same c.laws.ensures.few)
          (subst IsTopology (c.top-top.ensures.site ∙ c.site-site.ensures) c.top-top.ensures.topology.topology)
          c.stages.ensures.stages c.store.ensures.store c.truth_values.ensures.lawful c.truth_values.ensures.counted c.requires.maps refl;
    }
