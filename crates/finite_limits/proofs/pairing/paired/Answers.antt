use Rattle.std.proofs.Common.{sym, ◌∙◌, subst}
use Rattle.topos_model.specs.types.Types.{Presheaf}
use Rattle.topos_model.specs.Laws.{IsFunctor}
use Rattle.topos_model.specs.presheaves.Maps.{IsNatural}
use Rattle.natural_maps.proofs.CellSums.{presheaf_is}
use Rattle.finite_limits.specs.Pairs.{pair_presheaf}
use Rattle.finite_limits.proofs.Carried.{carried_functor, first_natural, second_natural}
use Rattle.finite_limits.proofs.PairPresheaf.{pair_carried}
use Rattle.finite_limits.proofs.pairing.paired.Goals as goal

pub from_rows-functor-requires : goal.from_rows-functor-requires
from_rows-functor-requires c =
    let k = c.args.cat.now in
    let r = c.requires in
    let pairs = c.args.pairs in
    let Z = pair_presheaf k c.args.x.now c.args.y.now pairs.first pairs.second pairs.starts pairs.places in
    let carried = pair_carried k c.in_ok-along.ensures.lawful c.args.x.now c.args.y.now r.first r.second pairs.first pairs.second pairs.starts pairs.places r.paired in
    record {
      lawful =
          subst (IsFunctor k) (sym (presheaf_is c.args.sizes _ c.in_ok-along.along _ r.sizes c.in_ok-along.ensures.rows))
          (carried_functor k c.in_ok-along.ensures.lawful c.args.x.now c.args.y.now Z r.first r.second pairs.first pairs.second carried);
    }

pub from_rows-first-requires : goal.from_rows-first-requires
from_rows-first-requires c =
    let k = c.args.cat.now in
    let r = c.requires in
    let pairs = c.args.pairs in
    let Z = pair_presheaf k c.args.x.now c.args.y.now pairs.first pairs.second pairs.starts pairs.places in
    let carried = pair_carried k c.in_ok-along.ensures.lawful c.args.x.now c.args.y.now r.first r.second pairs.first pairs.second pairs.starts pairs.places r.paired in
    record {
      natural =
          subst (λ (W : Presheaf). IsNatural k W c.args.x.now pairs.first) (sym (c.from_rows-functor.ensures ∙ presheaf_is c.args.sizes _ c.in_ok-along.along _ r.sizes c.in_ok-along.ensures.rows))
          (first_natural k c.in_ok-along.ensures.lawful c.args.x.now c.args.y.now Z r.first r.second pairs.first pairs.second carried);
    }

pub from_rows-second-requires : goal.from_rows-second-requires
from_rows-second-requires c =
    let k = c.args.cat.now in
    let r = c.requires in
    let pairs = c.args.pairs in
    let Z = pair_presheaf k c.args.x.now c.args.y.now pairs.first pairs.second pairs.starts pairs.places in
    let carried = pair_carried k c.in_ok-along.ensures.lawful c.args.x.now c.args.y.now r.first r.second pairs.first pairs.second pairs.starts pairs.places r.paired in
    record {
      natural =
          subst (λ (W : Presheaf). IsNatural k W c.args.y.now pairs.second) (sym (c.from_rows-functor.ensures ∙ presheaf_is c.args.sizes _ c.in_ok-along.along _ r.sizes c.in_ok-along.ensures.rows))
          (second_natural k c.in_ok-along.ensures.lawful c.args.x.now c.args.y.now Z r.first r.second pairs.first pairs.second carried);
    }
