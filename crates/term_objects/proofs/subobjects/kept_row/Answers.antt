use Rattle.std.proofs.Common.{◌≡◌, ◌+◌, length, [], ◌∷◌, ◌++◌, sym, ap, ◌∙◌, arith}
use Rattle.truth_tables.specs.Tables.{row}
use Rattle.truth_tables.proofs.Rows.{row-more}
use Rattle.term_objects.specs.KeptElements.{true_numbers, true_counts}
use Rattle.term_objects.proofs.TrueRows.{numbers_to, count_to, count_is, numbers_few, numbers_more, numbers_same}
use Rattle.term_objects.proofs.subobjects.kept_row.Goals as goal
use Rattle.term_objects.proofs.subobjects.kept_row.Goals.{then-truths-x+in_ok-push-2, else-truths-x}

pub overflow_cast-len : goal.overflow_cast-len
overflow_cast-len c = let few = numbers_few c.args.truths.now c.loop-x.x in omega (arith, few, c.len.ensures, ap length c.loop-x.invariant.numbers)

pub loop-x-preserved : goal.loop-x-preserved
loop-x-preserved c =
    let truths = c.args.truths.now in
    let x = c.loop-x.x in
    let places : c.push.new.self ≡ row (x + 1) (count_to truths) =
    row-more (count_to truths) x c.loop-x.places _ c.len.result c.loop-x.invariant.places c.in_ok-push.ensures.ok
    (c.len.ensures ∙ ap length c.loop-x.invariant.numbers ∙ count_is truths x (omega (arith, c.loop-x-test.true, c.requires.elements))) in
    elim c.if-truths-x.branch [
      | then-truths-x+in_ok-push-2 w ↦ record {
        numbers = w.numbers-is ∙ w.in_ok-push-2.ensures.ok ∙ ap (λ l. l ++ x ∷ []) c.loop-x.invariant.numbers ∙ sym (numbers_more truths x w.if-truths-x.true);
        places = places;
      }
      | else-truths-x w ↦ record {
        numbers = w.numbers-is ∙ c.loop-x.invariant.numbers ∙ sym (numbers_same truths x w.if-truths-x.false);
        places = places;
      }
    ]

pub returns-clause-numbers : goal.returns-clause-numbers
unfolding true_numbers
returns-clause-numbers c =
    let all : c.loop-x.x ≡ length c.args.truths.now = omega (arith, c.loop-x-test.false, c.loop-x.auto.x-end, c.requires.elements) in
    c.loop-x.invariant.numbers ∙ ap (numbers_to c.args.truths.now) all

pub returns-clause-few : goal.returns-clause-few
returns-clause-few c = let few = numbers_few c.args.truths.now c.loop-x.x in omega (arith, few, ap length c.loop-x.invariant.numbers, c.loop-x.auto.x-end)

pub returns-clause-places : goal.returns-clause-places
unfolding true_counts
returns-clause-places c =
    let all : c.loop-x.x ≡ length c.args.truths.now = omega (arith, c.loop-x-test.false, c.loop-x.auto.x-end, c.requires.elements) in
    c.loop-x.invariant.places ∙ ap (λ n. row n (count_to c.args.truths.now)) all
