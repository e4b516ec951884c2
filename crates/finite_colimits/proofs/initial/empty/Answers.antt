use Rattle.std.proofs.Common.{ap, ◌∙◌}
use Rattle.topos_model.specs.types.Types.{Presheaf}
use Rattle.finite_colimits.proofs.SumRows.{empty_initial}
use Rattle.finite_colimits.proofs.initial.empty.Goals as goal

pub returns : goal.returns
returns c =
    empty_initial c.args.cat.now c.objects.ensures.lawful c.objects.result c.arrows.result c.from_rows.result c.objects.ensures.count c.arrows.ensures.count
    (ap (λ (Z : Presheaf). Z.sizes) c.from_rows.ensures ∙ c.in_ok-sizes.ensures) (ap (λ (Z : Presheaf). Z.along) c.from_rows.ensures ∙ c.in_ok-along.ensures)
