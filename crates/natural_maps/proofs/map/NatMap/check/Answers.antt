use Rattle.std.proofs.Common.{◌≡◌, length, None, sym, ap, subst, ◌∙◌, arith}
use Rattle.std.proofs.lemmas.Result.{err_from_is_err_and}
use Rattle.finite_lists.specs.First.{first}
use Rattle.topos_model.specs.presheaves.Maps.{Components, IsNatural}
use Rattle.topos_model.specs.presheaves.MapFaults.{entry_fault, listed_map, map_total_fault}
use Rattle.natural_maps.specs.Components.{AreComponents}
use Rattle.natural_maps.proofs.ListedComponents.{listed_map_is, total_fault_is, found_same, are_components}
use Rattle.natural_maps.proofs.FailingSquares.{natural_from}
use Rattle.natural_maps.proofs.CheckedMaps.{entry_found, entries_within, total_found, naturality_decides, square_decides}
use Rattle.natural_maps.proofs.map.NatMap.check.Goals as goal

pub returns-in_err-entry_fault-clause-fault : goal.returns-in_err-entry_fault-clause-fault
returns-in_err-entry_fault-clause-fault c =
    let p = err_from_is_err_and c.from_residual.result c.from_residual.ensures.1 in
    rw (p.1, p.2) (entry_found c.args.cat.now c.args.p.now c.args.q.now c.args.raw.now _ (rw c.as_slice-entries.ensures at c.in_err-entry_fault.ensures.fault))

pub components-requires-clause-few : goal.components-requires-clause-few
components-requires-clause-few c = omega (arith, c.objects.ensures.few)

pub components-requires-clause-objects : goal.components-requires-clause-objects
components-requires-clause-objects c = ap length c.sizes.ensures ∙ c.requires.domain.objects ∙ sym c.objects.ensures.count

pub components-requires-clause-within : goal.components-requires-clause-within
components-requires-clause-within c =
    rw (c.as_slice-entries.ensures, c.sizes.ensures)
    (entries_within c.args.cat.now c.args.p.now c.args.q.now c.args.raw.now c.requires.listing c.requires.domain.objects (rw c.as_slice-entries.ensures at c.in_ok-entry_fault.ensures.faultless))

pub returns-in_err-rows-clause-fault : goal.returns-in_err-rows-clause-fault
returns-in_err-rows-clause-fault c =
    let k = c.args.cat.now in
    let P = c.args.p.now in
    let raw = c.args.raw.now in
    let p = err_from_is_err_and c.from_residual-in_err-rows.result c.from_residual-in_err-rows.ensures.1 in
    let known : first (entry_fault P c.args.q.now) raw.entries ≡ None = rw c.as_slice-entries.ensures at c.in_ok-entry_fault.ensures.faultless in
    rw (p.1, p.2)
    (total_found k P c.args.q.now raw known _
    (found_same _ _ _ (total_fault_is k P raw c.objects.result c.objects.ensures.count) (rw (c.as_slice-entries.ensures, c.sizes.ensures) at c.in_err-rows.ensures.fault)))

pub failing_square-requires-clause-rows : goal.failing_square-requires-clause-rows
failing_square-requires-clause-rows c =
    let k = c.args.cat.now in
    let P = c.args.p.now in
    let raw = c.args.raw.now in
    let known : first (entry_fault P c.args.q.now) raw.entries ≡ None = rw c.as_slice-entries.ensures at c.in_ok-entry_fault.ensures.faultless in
    let total : map_total_fault k P raw ≡ None = sym (total_fault_is k P raw c.objects.result c.objects.ensures.count) ∙ (rw (c.as_slice-entries.ensures, c.sizes.ensures) at c.in_ok-rows.ensures.total) in
    let is : c.in_ok-rows.rows ≡ listed_map k P raw = (rw (c.as_slice-entries.ensures, c.sizes.ensures) at c.in_ok-rows.ensures.rows) ∙ listed_map_is k P raw c.objects.result c.objects.ensures.count in
    subst (λ (m : Components). AreComponents k P c.args.q.now m) (sym is) (are_components k P c.args.q.now raw known total)

pub returns-in-Some-clause-fault : goal.returns-in-Some-clause-fault
returns-in-Some-clause-fault c =
    let k = c.args.cat.now in
    let P = c.args.p.now in
    let raw = c.args.raw.now in
    let known : first (entry_fault P c.args.q.now) raw.entries ≡ None = rw c.as_slice-entries.ensures at c.in_ok-entry_fault.ensures.faultless in
    let total : map_total_fault k P raw ≡ None = sym (total_fault_is k P raw c.objects.result c.objects.ensures.count) ∙ (rw (c.as_slice-entries.ensures, c.sizes.ensures) at c.in_ok-rows.ensures.total) in
    let is : c.in_ok-rows.rows ≡ listed_map k P raw = (rw (c.as_slice-entries.ensures, c.sizes.ensures) at c.in_ok-rows.ensures.rows) ∙ listed_map_is k P raw c.objects.result c.objects.ensures.count in
    square_decides k P c.args.q.now raw known total c.in_ok-rows.rows _ is (sym c.in-Some.ensures)

pub returns-in-None-clause-map : goal.returns-in-None-clause-map
returns-in-None-clause-map c =
    let k = c.args.cat.now in
    let P = c.args.p.now in
    let raw = c.args.raw.now in
    (rw (c.as_slice-entries.ensures, c.sizes.ensures) at c.in_ok-rows.ensures.rows) ∙ listed_map_is k P raw c.objects.result c.objects.ensures.count

pub returns-in-None-clause-faultless : goal.returns-in-None-clause-faultless
returns-in-None-clause-faultless c =
    let k = c.args.cat.now in
    let P = c.args.p.now in
    let raw = c.args.raw.now in
    let known : first (entry_fault P c.args.q.now) raw.entries ≡ None = rw c.as_slice-entries.ensures at c.in_ok-entry_fault.ensures.faultless in
    let total : map_total_fault k P raw ≡ None = sym (total_fault_is k P raw c.objects.result c.objects.ensures.count) ∙ (rw (c.as_slice-entries.ensures, c.sizes.ensures) at c.in_ok-rows.ensures.total) in
    square_decides k P c.args.q.now raw known total c.in_ok-rows.rows _ (returns-in-None-clause-map c) (sym c.in-None.ensures)

pub returns-in-None-clause-natural : goal.returns-in-None-clause-natural
returns-in-None-clause-natural c =
    let k = c.args.cat.now in
    let P = c.args.p.now in
    let raw = c.args.raw.now in
    let known : first (entry_fault P c.args.q.now) raw.entries ≡ None = rw c.as_slice-entries.ensures at c.in_ok-entry_fault.ensures.faultless in
    let total : map_total_fault k P raw ≡ None = sym (total_fault_is k P raw c.objects.result c.objects.ensures.count) ∙ (rw (c.as_slice-entries.ensures, c.sizes.ensures) at c.in_ok-rows.ensures.total) in
    let is = returns-in-None-clause-map c in
    subst (λ (m : Components). IsNatural k P c.args.q.now m) (sym is)
    (natural_from k P c.args.q.now (listed_map k P raw) (are_components k P c.args.q.now raw known total)
    (sym (naturality_decides k P c.args.q.now raw known total) ∙ returns-in-None-clause-faultless c))
