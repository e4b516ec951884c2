use Rattle.std.proofs.Common.{◌≡◌, ◌≤◌, ◌<◌, List, [], ◌∷◌, ◌++◌, ℕ, length, refl, sym, ap, ◌∙◌, arith}
use Rattle.std.proofs.lemmas.List.FromFn.{length-range_with_len, get_or-range_with_len}
use Rattle.std.proofs.lemmas.Result.{err_from_is_err_and}
use Rattle.finite_lists.specs.First.{first}
use Rattle.finite_lists.proofs.FirstAnswers.{first_left-none, first_left-some, first_left-end}
use Rattle.topos_model.specs.categories.Category.{arrows}
use Rattle.topos_model.specs.categories.Filling.{filled_row, filled_rows}
use Rattle.presheaf_core.specs.Filling.{row_fault}
use Rattle.presheaf_core.proofs.RowSteps.{search_found}
use Rattle.presheaf_core.proofs.FilledRows.{filled_rows-none, filled_rows-more, rows_more, row_along}
use Rattle.presheaf_core.proofs.rows.filled_rows.Goals as goal

pub loop-f-init : goal.loop-f-init
loop-f-init c = record {
  rows = c.new-rows.ensures ∙ filled_rows-none c.args.cat.now c.args.raw.now;
  below = rw c.new-rows.ensures (record { count = refl; each = λ f low. absurd (omega arith) });
  search = refl;
}

pub returns-in_err-row-clause-fault : goal.returns-in_err-row-clause-fault
returns-in_err-row-clause-fault c =
    let k = c.args.cat.now in
    let raw = c.args.raw.now in
    let p = err_from_is_err_and c.from_residual.result c.from_residual.ensures.1 in
    let low : c.loop-f.f < length k.ends = omega (arith, c.arrows-f-end.ensures.count) in
    rw (p.1, p.2)
    (search_found (row_fault k raw) (first (row_fault k raw) (arrows k)) (length k.ends) c.loop-f.f _
    (λ found e. c.loop-f.invariant.search ∙ first_left-some (row_fault k raw) (arrows k) c.loop-f.f 0 found (rw length-range_with_len low) (ap (row_fault k raw) (get_or-range_with_len 0 (length k.ends) c.loop-f.f 0 low ∙ omega arith) ∙ e))
    c.in_err-row.ensures.fault)

pub loop-f-preserved : goal.loop-f-preserved
loop-f-preserved c =
    let k = c.args.cat.now in
    let raw = c.args.raw.now in
    let low : c.loop-f.f < length k.ends = omega (arith, c.arrows-f-end.ensures.count) in
    let row : c.in_ok-row.row ≡ filled_row k raw c.loop-f.rows c.loop-f.f = rw c.as_slice.ensures at c.in_ok-row.ensures.row in
    record {
      rows =
          c.in_ok-push.ensures.ok ∙ ap (λ (r : List ℕ). c.loop-f.rows ++ r ∷ []) row ∙ ap (λ (rows : List (List ℕ)). rows ++ filled_row k raw rows c.loop-f.f ∷ []) c.loop-f.invariant.rows
          ∙ sym (filled_rows-more k raw c.loop-f.f);
      below =
          rw c.in_ok-push.ensures.ok
          (rows_more k raw c.arrows-f-end.ensures.lawful c.requires c.loop-f.f c.loop-f.rows c.in_ok-row.row c.loop-f.invariant.below
          (rw row (row_along k raw c.arrows-f-end.ensures.lawful c.requires c.loop-f.f c.loop-f.rows low c.loop-f.invariant.below c.in_ok-row.ensures.faultless)));
      search =
          c.loop-f.invariant.search
          ∙ first_left-none (row_fault k raw) (arrows k) c.loop-f.f 0 (rw length-range_with_len low) (ap (row_fault k raw) (get_or-range_with_len 0 (length k.ends) c.loop-f.f 0 low ∙ omega arith) ∙ c.in_ok-row.ensures.faultless);
    }

pub returns-clause-rows : goal.returns-clause-rows
returns-clause-rows c =
    let n : c.loop-f.f ≡ length c.args.cat.now.ends = omega (arith, c.arrows-f-end.ensures.count) in
    c.loop-f.invariant.rows ∙ ap (filled_rows c.args.cat.now c.args.raw.now) n

pub returns-clause-faultless : goal.returns-clause-faultless
returns-clause-faultless c =
    let high : length c.args.cat.now.ends ≤ c.loop-f.f = omega (arith, c.arrows-f-end.ensures.count) in
    c.loop-f.invariant.search ∙ first_left-end (row_fault c.args.cat.now c.args.raw.now) (arrows c.args.cat.now) c.loop-f.f (rw length-range_with_len high)
