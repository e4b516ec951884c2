use Rattle.std.proofs.Common.{◌≡◌, ◌++◌, ℕ, List, length, map, sym, ap, ◌∙◌, arith, append_assoc}
use Rattle.std.specs.List.{flat_map, range_with_len}
use Rattle.std.proofs.lemmas.List.{length-map}
use Rattle.topos_model.specs.categories.Category.{dom, into}
use Rattle.sealed_types.specs.Sealed.{sizes_in, restrictions_in}
use Rattle.type_rows.proofs.FlatRows.{rows_more}
use Rattle.product_objects.specs.PairRows.{pair_at, pair_row}
use Rattle.product_objects.proofs.PairNumbers.{arrows_counted, pair_row_is, few_numbers}
use Rattle.product_objects.proofs.pairs.pair_rows.Goals as goal

pub second-preserved : goal.second-preserved
second-preserved c =
    let store = c.args.store.now in
    let row : ℕ → List ℕ = pair_row c.args.cat.now (sizes_in store c.args.s) (sizes_in store c.args.t) (restrictions_in store c.args.s) (restrictions_in store c.args.t) c.args.c c.first.x in
    let before : List ℕ = flat_map (λ x. flat_map (pair_row c.args.cat.now (sizes_in store c.args.s) (sizes_in store c.args.t) (restrictions_in store c.args.s) (restrictions_in store c.args.t) c.args.c x) (range_with_len 0 (sizes_in store c.args.t c.args.c))) (range_with_len 0 c.first.x) in
    let pair : List ℕ = map (pair_at c.as_slice.result.now c.restrictions-left.result.now c.restrictions-right.result.now) (range_with_len 0 (length c.as_slice.result.now)) in
    let is : pair ≡ row c.second.y =
    pair_row_is c.args.cat.now store c.args.s c.args.t c.requires.factors c.args.c c.first.x c.second.y c.as_slice.result.now c.restrictions-left.result.now c.restrictions-right.result.now (c.as_slice.ensures ∙ c.in_ok-widths.ensures)
    c.restrictions-left.ensures.numbers c.restrictions-right.ensures.numbers in
    c.in_ok-push_pair.ensures.pushed ∙ ap (λ l. c.second.restrictions ++ l) is ∙ ap (λ l. l ++ row c.second.y) c.second.invariant ∙ append_assoc before (flat_map row (range_with_len 0 c.second.y)) (row c.second.y) ∙ ap (λ l. before ++ l) (sym (rows_more row c.second.y))

pub first-preserved : goal.first-preserved
first-preserved c =
    let store = c.args.store.now in
    let row : ℕ → ℕ → List ℕ = pair_row c.args.cat.now (sizes_in store c.args.s) (sizes_in store c.args.t) (restrictions_in store c.args.s) (restrictions_in store c.args.t) c.args.c in
    let rows : ℕ → List ℕ = λ x. flat_map (row x) (range_with_len 0 (sizes_in store c.args.t c.args.c)) in
    let whole : c.second.y ≡ sizes_in store c.args.t c.args.c = omega (arith, c.second-test.false, c.second.auto.y-end, c.count-second.ensures.elements) in
    c.second.invariant ∙ ap (λ n. flat_map rows (range_with_len 0 c.first.x) ++ flat_map (row c.first.x) (range_with_len 0 n)) whole ∙ sym (rows_more rows c.first.x)

pub push_pair-requires-clause-first : goal.push_pair-requires-clause-first
push_pair-requires-clause-first c =
    let k = c.args.cat.now in
    c.restrictions-left.ensures.arrows ∙ arrows_counted k c.args.store.now c.requires.factors.ends c.args.c
    ∙ sym (ap length (c.as_slice.ensures ∙ c.in_ok-widths.ensures) ∙ length-map (into k c.args.c) (λ f. sizes_in c.args.store.now c.args.t (dom k f)))

pub push_pair-requires-clause-second : goal.push_pair-requires-clause-second
push_pair-requires-clause-second c =
    let k = c.args.cat.now in
    c.restrictions-right.ensures.arrows ∙ arrows_counted k c.args.store.now c.requires.factors.ends c.args.c
    ∙ sym (ap length (c.as_slice.ensures ∙ c.in_ok-widths.ensures) ∙ length-map (into k c.args.c) (λ f. sizes_in c.args.store.now c.args.t (dom k f)))

pub push_pair-requires-clause-few : goal.push_pair-requires-clause-few
push_pair-requires-clause-few c =
    let store = c.args.store.now in
    few_numbers c.args.cat.now store c.args.s c.args.t c.requires.factors c.args.c c.first.x c.second.y c.as_slice.result.now c.restrictions-left.result.now c.restrictions-right.result.now (c.as_slice.ensures ∙ c.in_ok-widths.ensures)
    c.restrictions-left.ensures.numbers c.restrictions-right.ensures.numbers c.laws.ensures.lawful c.requires.few (omega (arith, c.first-test.true, c.first.auto.x-end, c.count-first.ensures.elements))
    (omega (arith, c.second-test.true, c.second.auto.y-end, c.count-second.ensures.elements))
