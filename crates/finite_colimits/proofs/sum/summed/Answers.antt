use Rattle.std.proofs.Common.{◌≡◌, sym, ◌∙◌, subst}
use Rattle.topos_model.specs.types.Types.{Presheaf}
use Rattle.topos_model.specs.Laws.{IsFunctor}
use Rattle.topos_model.specs.presheaves.Maps.{IsNatural}
use Rattle.natural_maps.proofs.CellSums.{presheaf_is}
use Rattle.finite_colimits.specs.Sums.{sum_presheaf}
use Rattle.finite_colimits.proofs.SumRows.{sum_coproduct}
use Rattle.finite_colimits.proofs.sum.summed.Goals as goal

pub from_rows-sum-requires : goal.from_rows-sum-requires
from_rows-sum-requires c =
    let r = c.requires in
    let co = sum_coproduct c.args.cat.now r.lawful c.args.x.now c.args.y.now r.first r.second in
    record { lawful = subst (IsFunctor c.args.cat.now) (sym (presheaf_is c.args.sizes _ c.in_ok-along.along _ r.sizes c.in_ok-along.ensures)) co.functor }

pub from_rows-i-requires : goal.from_rows-i-requires
from_rows-i-requires c =
    let r = c.requires in
    let co = sum_coproduct c.args.cat.now r.lawful c.args.x.now c.args.y.now r.first r.second in
    let is : c.from_rows-sum.result ≡ sum_presheaf c.args.cat.now c.args.x.now c.args.y.now = c.from_rows-sum.ensures ∙ presheaf_is c.args.sizes _ c.in_ok-along.along _ r.sizes c.in_ok-along.ensures in
    record { natural = subst (λ (Z : Presheaf). IsNatural c.args.cat.now c.args.x.now Z c.in_ok-first.first) (sym is) (subst (IsNatural c.args.cat.now c.args.x.now (sum_presheaf c.args.cat.now c.args.x.now c.args.y.now)) (sym c.in_ok-first.ensures) co.first) }

pub from_rows-j-requires : goal.from_rows-j-requires
from_rows-j-requires c =
    let r = c.requires in
    let co = sum_coproduct c.args.cat.now r.lawful c.args.x.now c.args.y.now r.first r.second in
    let is : c.from_rows-sum.result ≡ sum_presheaf c.args.cat.now c.args.x.now c.args.y.now = c.from_rows-sum.ensures ∙ presheaf_is c.args.sizes _ c.in_ok-along.along _ r.sizes c.in_ok-along.ensures in
    record { natural = subst (λ (Z : Presheaf). IsNatural c.args.cat.now c.args.y.now Z c.in_ok-second.second) (sym is) (subst (IsNatural c.args.cat.now c.args.y.now (sum_presheaf c.args.cat.now c.args.x.now c.args.y.now)) (sym c.in_ok-second.ensures) co.second) }
