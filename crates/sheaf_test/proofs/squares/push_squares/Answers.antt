use Rattle.std.proofs.Common.{◌≡◌, ℕ, List, [], ◌∷◌, ◌++◌, length, get_or, map, take, ap, subst, ◌∙◌, append_assoc}
use Rattle.finite_lists.specs.Members.{In}
use Rattle.finite_lists.proofs.Lists.{In_at}
use Rattle.topos_model.specs.categories.Category.{dom, compose}
use Rattle.topos_model.specs.Laws.{IsInto}
use Rattle.sieve_table.proofs.SieveMembers.{sieve_of}
use Rattle.natural_search.specs.declared.squares.Square.{Square}
use Rattle.sheaf_test.specs.Families.{place, square_of}
use Rattle.sheaf_test.proofs.FamilyPlaces.{table_place, mapped_more}
use Rattle.sheaf_test.proofs.squares.push_squares.Goals as goal

pub dom-requires : goal.dom-requires
dom-requires c =
    let S = c.args.arrows.now in
    ((sieve_of c.args.cat.now c.args.c S c.requires.sieve).within _ (In_at S c.args.i 0 c.requires.place)).0

pub compose-requires-clause-second : goal.compose-requires-clause-second
compose-requires-clause-second c =
    let S = c.args.arrows.now in
    ((sieve_of c.args.cat.now c.args.c S c.requires.sieve).within _ (In_at S c.args.i 0 c.requires.place)).0

pub loop-g-preserved : goal.loop-g-preserved
loop-g-preserved c =
    let k = c.args.cat.now in
    let S = c.args.arrows.now in
    let items = c.arrows_into-g-items.result.now in
    let n = c.loop-g.g-index in
    let f = get_or S c.args.i 0 in
    let g = get_or items n 0 in
    let into : IsInto k (dom k f) g = subst (λ d. IsInto k d g) c.dom.ensures.value (c.arrows_into-g-items.ensures.each n c.loop-g-test.true) in
    let member : In S (compose k f g) = (sieve_of k c.args.c S c.requires.sieve).closed f g (In_at S c.args.i 0 c.requires.place) into in
    let at : get_or c.args.table.now c.compose.result 0 ≡ place S (compose k f g) = ap (λ h. get_or c.args.table.now h 0) c.compose.ensures.value ∙ table_place (length k.ends) S c.args.table.now c.requires.table (compose k f g) member in
    let square : ℕ → Square = λ p. record { arrow = g; element = c.args.i; restricted = p } in
    let before = map (square_of k S c.args.i) (take n items) in
    c.in_ok-push.ensures.ok ∙ ap (λ (l : List Square). l ++ square (get_or c.args.table.now c.compose.result 0) ∷ []) c.loop-g.invariant
    ∙ ap (λ p. (c.args.squares.now ++ before) ++ square p ∷ []) at
    ∙ append_assoc c.args.squares.now before (square (place S (compose k f g)) ∷ [])
    ∙ ap (λ (l : List Square). c.args.squares.now ++ l) (mapped_more (square_of k S c.args.i) items n c.loop-g-test.true)
