use Rattle.std.proofs.Common.{◌≡◌, ℕ, ◌≤◌, List, get_or, false, None, IfOk, sym, ap, ◌∙◌, arith, subst}
use Rattle.std.proofs.lemmas.Option.{get_or_from_slice_get}
use Rattle.finite_lists.specs.Members.{In}
use Rattle.topos_model.specs.categories.Category.{cod}
use Rattle.topos_model.specs.categories.Listed.{entries_along}
use Rattle.topos_model.specs.categories.Filling.{has_restriction, filled_row}
use Rattle.presheaf_core.specs.Faults.{IsFound}
use Rattle.presheaf_core.specs.Filling.{row_fault, missing_entry, IsPairAlong, IsComposedRow}
use Rattle.presheaf_core.specs.FillingFaults.{IsMissingEntry, IsMissingPair}
use Rattle.presheaf_core.proofs.RowSteps.{identity_row, entered_row, entered_none, entered_found, composed_row, composed_none, composed_found, entries_within, pair_along, if_ok, if_err}
use Rattle.presheaf_core.proofs.rows.row_along.Goals as goal

pub returns-then-f-objects-clause-row : goal.returns-then-f-objects-clause-row
returns-then-f-objects-clause-row c =
    let k = c.args.cat.now in
    let raw = c.args.raw.now in
    let size : get_or raw.sizes (cod k c.args.f) 0 ≡ c.get-size.result.now =
    ap (λ d. get_or raw.sizes d 0) (sym c.cod.ensures.value) ∙ get_or_from_slice_get raw.sizes c.cod.result c.get-size.result.now 0 c.get-size.ensures in
    (rw (← size) at c.in_ok-numbers_below.ensures) ∙ identity_row k raw c.args.f c.args.rows.now (omega (arith, c.objects.ensures.count))

pub listed_row-requires : goal.listed_row-requires
listed_row-requires c = λ e i.
    let k = c.args.cat.now in
    let raw = c.args.raw.now in
    let size : get_or raw.sizes (cod k c.args.f) 0 ≡ c.get-size.result.now =
    ap (λ d. get_or raw.sizes d 0) (sym c.cod.ensures.value) ∙ get_or_from_slice_get raw.sizes c.cod.result c.get-size.result.now 0 c.get-size.ensures in
    let found = rw c.as_slice.ensures at c.in-Some.ensures in
    rw (← size) (entries_within k raw c.args.f c.requires.listing found.0 e (subst (λ (l : List (ℕ × ℕ)). In l e) found.1 i))

pub composed_row-requires-clause-first : goal.composed_row-requires-clause-first
composed_row-requires-clause-first c =
    let k = c.args.cat.now in
    let raw = c.args.raw.now in
    let size : get_or raw.sizes (cod k c.args.f) 0 ≡ c.get-size.result.now =
    ap (λ d. get_or raw.sizes d 0) (sym c.cod.ensures.value) ∙ get_or_from_slice_get raw.sizes c.cod.result c.get-size.result.now 0 c.get-size.ensures in
    subst (λ (n : ℕ). IsPairAlong k c.args.rows.now n c.args.f) size (pair_along k raw c.args.f c.args.rows.now c.requires.lawful c.requires.before)

pub returns-in-Some-clause-row : goal.returns-in-Some-clause-row
returns-in-Some-clause-row c =
    let k = c.args.cat.now in
    let raw = c.args.raw.now in
    let size : get_or raw.sizes (cod k c.args.f) 0 ≡ c.get-size.result.now =
    ap (λ d. get_or raw.sizes d 0) (sym c.cod.ensures.value) ∙ get_or_from_slice_get raw.sizes c.cod.result c.get-size.result.now 0 c.get-size.ensures in
    let found = rw c.as_slice.ensures at c.in-Some.ensures in
    subst (λ (row : List ℕ). IfOk c.listed_row.result (λ r. r ≡ row)) (entered_row k raw c.args.f (omega (arith, c.objects.ensures.count)) c.args.rows.now found.0)
    (rw (found.1, ← size) at c.listed_row.ensures.row)

pub returns-in-Some-clause-faultless : goal.returns-in-Some-clause-faultless
returns-in-Some-clause-faultless c =
    let k = c.args.cat.now in
    let raw = c.args.raw.now in
    let size : get_or raw.sizes (cod k c.args.f) 0 ≡ c.get-size.result.now =
    ap (λ d. get_or raw.sizes d 0) (sym c.cod.ensures.value) ∙ get_or_from_slice_get raw.sizes c.cod.result c.get-size.result.now 0 c.get-size.ensures in
    let found = rw c.as_slice.ensures at c.in-Some.ensures in
    let high : k.objects ≤ c.args.f = omega (arith, c.objects.ensures.count) in
    if_ok (λ _. missing_entry (entries_along raw.along c.args.f) (get_or raw.sizes (cod k c.args.f) 0) ≡ None) (λ _. row_fault k raw c.args.f ≡ None) c.listed_row.result
    (λ _ e. entered_none k raw c.args.f high found.0 e) (rw (found.1, ← size) at c.listed_row.ensures.faultless)

pub returns-in-Some-clause-fault : goal.returns-in-Some-clause-fault
returns-in-Some-clause-fault c =
    let k = c.args.cat.now in
    let raw = c.args.raw.now in
    let size : get_or raw.sizes (cod k c.args.f) 0 ≡ c.get-size.result.now =
    ap (λ d. get_or raw.sizes d 0) (sym c.cod.ensures.value) ∙ get_or_from_slice_get raw.sizes c.cod.result c.get-size.result.now 0 c.get-size.ensures in
    let found = rw c.as_slice.ensures at c.in-Some.ensures in
    let high : k.objects ≤ c.args.f = omega (arith, c.objects.ensures.count) in
    if_err (λ fault. IsMissingEntry c.args.f (missing_entry (entries_along raw.along c.args.f) (get_or raw.sizes (cod k c.args.f) 0)) fault) (λ fault. IsFound (row_fault k raw c.args.f) fault) c.listed_row.result
    (λ fault e. entered_found k raw c.args.f high found.0 fault e) (rw (found.1, ← size) at c.listed_row.ensures.fault)

pub returns-in-None-clause-row : goal.returns-in-None-clause-row
returns-in-None-clause-row c =
    let k = c.args.cat.now in
    let raw = c.args.raw.now in
    let size : get_or raw.sizes (cod k c.args.f) 0 ≡ c.get-size.result.now =
    ap (λ d. get_or raw.sizes d 0) (sym c.cod.ensures.value) ∙ get_or_from_slice_get raw.sizes c.cod.result c.get-size.result.now 0 c.get-size.ensures in
    let none : has_restriction raw.along c.args.f ≡ false = rw c.as_slice.ensures at c.in-None.ensures in
    let high : k.objects ≤ c.args.f = omega (arith, c.objects.ensures.count) in
    if_ok (λ row. IsComposedRow k c.args.rows.now (get_or raw.sizes (cod k c.args.f) 0) c.args.f row) (λ row. row ≡ filled_row k raw c.args.rows.now c.args.f) c.composed_row.result
    (λ row e. composed_row k raw c.args.f high c.args.rows.now row none e) (rw (← size) at c.composed_row.ensures.row)

pub returns-in-None-clause-faultless : goal.returns-in-None-clause-faultless
returns-in-None-clause-faultless c =
    let k = c.args.cat.now in
    let raw = c.args.raw.now in
    let size : get_or raw.sizes (cod k c.args.f) 0 ≡ c.get-size.result.now =
    ap (λ d. get_or raw.sizes d 0) (sym c.cod.ensures.value) ∙ get_or_from_slice_get raw.sizes c.cod.result c.get-size.result.now 0 c.get-size.ensures in
    let none : has_restriction raw.along c.args.f ≡ false = rw c.as_slice.ensures at c.in-None.ensures in
    let high : k.objects ≤ c.args.f = omega (arith, c.objects.ensures.count) in
    if_ok (λ row. IsComposedRow k c.args.rows.now (get_or raw.sizes (cod k c.args.f) 0) c.args.f row) (λ _. row_fault k raw c.args.f ≡ None) c.composed_row.result
    (λ row e. composed_none k raw c.args.f high c.args.rows.now row none e) (rw (← size) at c.composed_row.ensures.row)

pub returns-in-None-clause-fault : goal.returns-in-None-clause-fault
returns-in-None-clause-fault c =
    let k = c.args.cat.now in
    let raw = c.args.raw.now in
    let size : get_or raw.sizes (cod k c.args.f) 0 ≡ c.get-size.result.now =
    ap (λ d. get_or raw.sizes d 0) (sym c.cod.ensures.value) ∙ get_or_from_slice_get raw.sizes c.cod.result c.get-size.result.now 0 c.get-size.ensures in
    let none : has_restriction raw.along c.args.f ≡ false = rw c.as_slice.ensures at c.in-None.ensures in
    let high : k.objects ≤ c.args.f = omega (arith, c.objects.ensures.count) in
    if_err (λ fault. IsMissingPair k (get_or raw.sizes (cod k c.args.f) 0) c.args.f fault) (λ fault. IsFound (row_fault k raw c.args.f) fault) c.composed_row.result
    (λ fault e. composed_found k raw c.args.f high none fault e) (rw (← size) at c.composed_row.ensures.fault)
