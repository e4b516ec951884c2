use Rattle.std.proofs.Common.{◌≡◌, None, sym, ap, subst, ◌∙◌}
use Rattle.std.specs.Option.{option_map}
use Rattle.std.proofs.lemmas.Result.{err_from_is_err_and}
use Rattle.topos_model.specs.types.Types.{Presheaf}
use Rattle.topos_model.specs.Laws.{IsFunctor}
use Rattle.topos_model.specs.categories.Filling.{filled_presheaf}
use Rattle.topos_model.specs.Faults.{functoriality_fault}
use Rattle.presheaf_core.specs.Rows.{AreRows}
use Rattle.presheaf_core.proofs.FunctorLaws.{instance_fault, fault-failing_instance}
use Rattle.presheaf_core.proofs.FilledPresheaves.{filled_parts, rows-filled, functor_is, no_row_fault, functoriality_decides, restriction_found}
use Rattle.presheaf_core.proofs.functor.Functor.check.Goals as goal

pub returns-in_err-along-clause-fault : goal.returns-in_err-along-clause-fault
returns-in_err-along-clause-fault c =
    let p = err_from_is_err_and c.from_residual-in_err-along.result c.from_residual-in_err-along.ensures.1 in
    rw (p.1, p.2) (restriction_found c.args.cat.now c.args.raw.now _ c.in_err-along.ensures.fault)

pub failing_instance-requires : goal.failing_instance-requires
failing_instance-requires c =
    let k = c.args.cat.now in
    let raw = c.args.raw.now in
    let is : ◌≡◌ {A = Presheaf} (record { sizes = c.in_ok-sizes.sizes; along = c.in_ok-along.along }) (filled_presheaf k raw) =
    filled_parts k raw c.in_ok-sizes.sizes c.in_ok-along.along c.in_ok-sizes.ensures c.in_ok-along.ensures.rows in
    subst (λ (X : Presheaf). AreRows k X) (sym is) (rows-filled k raw c.in_ok-along.ensures.lawful c.requires (no_row_fault k raw c.in_ok-along.ensures.faultless))

pub returns-in-None-clause-presheaf : goal.returns-in-None-clause-presheaf
returns-in-None-clause-presheaf c = filled_parts c.args.cat.now c.args.raw.now c.in_ok-sizes.sizes c.in_ok-along.along c.in_ok-sizes.ensures c.in_ok-along.ensures.rows

pub returns-in-None-clause-lawful : goal.returns-in-None-clause-lawful
returns-in-None-clause-lawful c =
    let k = c.args.cat.now in
    let raw = c.args.raw.now in
    let X : Presheaf = record { sizes = c.in_ok-sizes.sizes; along = c.in_ok-along.along } in
    let is : X ≡ filled_presheaf k raw = returns-in-None-clause-presheaf c in
    let none : functoriality_fault k (filled_presheaf k raw) ≡ None = ap (functoriality_fault k) (sym is) ∙ sym (fault-failing_instance k X) ∙ ap (option_map instance_fault) (sym c.in-None.ensures) in
    subst (λ (X : Presheaf). IsFunctor k X) (sym is) (functor_is k raw c.in_ok-along.ensures.lawful c.requires (no_row_fault k raw c.in_ok-along.ensures.faultless) none)

pub returns-in-None-clause-faultless : goal.returns-in-None-clause-faultless
returns-in-None-clause-faultless c =
    let k = c.args.cat.now in
    let raw = c.args.raw.now in
    let X : Presheaf = record { sizes = c.in_ok-sizes.sizes; along = c.in_ok-along.along } in
    let is : X ≡ filled_presheaf k raw = returns-in-None-clause-presheaf c in
    functoriality_decides k raw c.in_ok-along.ensures.faultless ∙ ap (functoriality_fault k) (sym is) ∙ sym (fault-failing_instance k X) ∙ ap (option_map instance_fault) (sym c.in-None.ensures)

pub returns-in-Some-clause-fault : goal.returns-in-Some-clause-fault
returns-in-Some-clause-fault c =
    let k = c.args.cat.now in
    let raw = c.args.raw.now in
    let X : Presheaf = record { sizes = c.in_ok-sizes.sizes; along = c.in_ok-along.along } in
    let is : X ≡ filled_presheaf k raw = filled_parts k raw c.in_ok-sizes.sizes c.in_ok-along.along c.in_ok-sizes.ensures c.in_ok-along.ensures.rows in
    functoriality_decides k raw c.in_ok-along.ensures.faultless ∙ ap (functoriality_fault k) (sym is) ∙ sym (fault-failing_instance k X) ∙ ap (option_map instance_fault) (sym c.in-Some.ensures)
