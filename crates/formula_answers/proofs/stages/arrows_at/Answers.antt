use Rattle.std.proofs.Common.{◌∙◌}
use Rattle.topos_model.specs.declared.ty.Ty.{Omega}
use Rattle.formula_answers.proofs.SieveArrows.{arrows_as, none_as}
use Rattle.formula_answers.proofs.stages.arrows_at.Goals as goal

pub returns-in-Sv : goal.returns-in-Sv
returns-in-Sv c = λ functors v h stands.
    arrows_as c.args.elements.now.site.now functors Omega c.args.c c.args.k c.in_ok-arrows.field-0 v (c.in_ok-arrows.ensures.value functors h.faithful) stands c.in-Sv.arrows c.in-Sv.is

pub returns : goal.returns
returns c = λ functors v h stands.
    c.new.ensures ∙ none_as c.args.elements.now.site.now functors Omega c.args.c c.args.k c.in_ok-arrows.field-0 v (c.in_ok-arrows.ensures.value functors h.faithful) stands c.in_default.not-Sv
