use Rattle.std.proofs.Common.{[], length, get_or, ap, ◌∙◌}
use Rattle.truth_tables.proofs.Rows.{row-more}
use Rattle.term_objects.specs.KeptElements.{true_numbers, true_counts}
use Rattle.term_objects.proofs.subobjects.kept_rows.Goals as goal

pub loop-c-preserved : goal.loop-c-preserved
loop-c-preserved c =
    let truths = c.args.truths.now in
    let at = c.loop-c.c in
    record {
      sizes = row-more (λ c. length (true_numbers (get_or truths c []))) at c.loop-c.sizes _ c.len.result c.loop-c.invariant.sizes c.in_ok-push.ensures.ok
          (c.len.ensures ∙ ap length (c.in_ok-numbers.ensures.numbers ∙ ap true_numbers c.row.ensures));
      numbers = row-more (λ c. true_numbers (get_or truths c [])) at c.loop-c.all_numbers _ c.in_ok-numbers.numbers c.loop-c.invariant.numbers c.in_ok-push-2.ensures.ok
          (c.in_ok-numbers.ensures.numbers ∙ ap true_numbers c.row.ensures);
      places = row-more (λ c. true_counts (get_or truths c [])) at c.loop-c.all_places _ c.in_ok-numbers.places c.loop-c.invariant.places c.in_ok-push-3.ensures.ok
          (c.in_ok-numbers.ensures.places ∙ ap true_counts c.row.ensures);
    }
