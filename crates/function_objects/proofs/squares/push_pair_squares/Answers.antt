use Rattle.std.proofs.Common.{◌≡◌, ◌+◌, ◌<◌, ◌≤◌, ◌++◌, ◌∷◌, [], not, List, ℕ, length, get_or, map, filter, take, sym, ap, subst, ◌∙◌, arith, true, false, nat_lt}
use Rattle.std.proofs.lemmas.Bool.{le-ltb, lt-ltb}
use Rattle.std.proofs.lemmas.List.{take_all}
use Rattle.finite_lists.specs.Members.{In}
use Rattle.finite_lists.proofs.Lists.{In_at}
use Rattle.topos_model.specs.categories.Category.{dom, compose}
use Rattle.topos_model.specs.Laws.{IsInto}
use Rattle.topos_model.proofs.ArrowsInto.{In-into_from}
use Rattle.sieve_table.proofs.SieveMembers.{goes, comes}
use Rattle.place_closures.proofs.PairNumbers.{number_within}
use Rattle.natural_search.specs.declared.squares.Square.{Square}
use Rattle.sealed_types.specs.Sealed.{sizes_in, restrictions_in}
use Rattle.function_objects.specs.Functions.{square_at, is_declared, pair_squares}
use Rattle.function_objects.proofs.Pushes.{kept_more, passed_more, square_same}
use Rattle.function_objects.proofs.squares.push_pair_squares.Goals as goal
use Rattle.function_objects.proofs.squares.push_pair_squares.Goals.{then-g-objects+in_ok-push, else-g-objects}

pub overflow_add-element : goal.overflow_add-element
overflow_add-element c =
    omega (arith, c.requires.starts.starts_at c.args.f c.requires.arrow, c.requires.few, number_within c.args.cat.now (sizes_in c.args.store.now c.args.s) (restrictions_in c.args.store.now c.args.s) c.args.c c.args.f c.args.w c.requires.arrow c.requires.element)

pub overflow_add-starts : goal.overflow_add-starts
overflow_add-starts c =
    let k = c.args.cat.now in
    let size = sizes_in c.args.store.now c.args.s in
    let move = restrictions_in c.args.store.now c.args.s in
    let items = c.arrows_into-g-items.result.now in
    let g = get_or items c.loop-g.g-index 0 in
    let below : IsInto k (dom k c.args.f) g = In-into_from k (dom k c.args.f) g (subst (λ l. In l g) (c.arrows_into-g-items.ensures.value ∙ ap (Rattle.topos_model.specs.categories.Category.into k) c.dom.ensures.value) (In_at items c.loop-g.g-index 0 c.loop-g-test.true)) in
    let laws = c.laws.ensures.lawful in
    let i = goes k laws c.requires.arrow below in
    let inside = c.requires.part.restricts.within (dom k c.args.f) g c.args.w below c.requires.element in
    let n = number_within k size move c.args.c (compose k c.args.f g) (move g c.args.w) i (subst (λ d. move g c.args.w < size d) (sym (comes k laws c.requires.arrow below)) inside) in
    let s : get_or c.args.starts.now c.compose.result 0 ≡ get_or c.args.starts.now (compose k c.args.f g) 0 = ap (λ j. get_or c.args.starts.now j 0) c.compose.ensures.value in
    omega (arith, s, c.requires.starts.starts_at (compose k c.args.f g) i, c.requires.few, n, c.restrict.ensures.number)

pub loop-g-preserved : goal.loop-g-preserved
loop-g-preserved c =
    let k = c.args.cat.now in
    let size = sizes_in c.args.store.now c.args.s in
    let move = restrictions_in c.args.store.now c.args.s in
    let items = c.arrows_into-g-items.result.now in
    let g = get_or items c.loop-g.g-index 0 in
    let below : IsInto k (dom k c.args.f) g = In-into_from k (dom k c.args.f) g (subst (λ l. In l g) (c.arrows_into-g-items.ensures.value ∙ ap (Rattle.topos_model.specs.categories.Category.into k) c.dom.ensures.value) (In_at items c.loop-g.g-index 0 c.loop-g-test.true)) in
    let i = goes k c.laws.ensures.lawful c.requires.arrow below in
    let h = square_at k size move c.args.c c.args.f c.args.w in
    elim c.if-g-objects.branch [
      | then-g-objects+in_ok-push w ↦
          w.squares-is ∙ w.in_ok-push.ensures.ok
          ∙ ap (λ (q : Square). c.loop-g.squares ++ q ∷ [])
          (square_same g _ _ _ _ (ap (λ n. n + c.args.w) (c.requires.starts.starts_at c.args.f c.requires.arrow))
          (ap (λ n. n + w.restrict.result) (ap (λ j. get_or c.args.starts.now j 0) w.compose.ensures.value ∙ c.requires.starts.starts_at (compose k c.args.f g) i)
          ∙ ap (λ n. Rattle.place_closures.specs.Pairs.start k size move c.args.c (compose k c.args.f g) + n) w.restrict.ensures.number))
          ∙ kept_more h (is_declared k size move) items c.args.squares.now c.loop-g.squares c.loop-g.g-index c.loop-g-test.true c.loop-g.invariant (ap not (le-ltb g k.objects (omega (arith, w.if-g-objects.true, c.objects.ensures.count))))
      | else-g-objects w ↦
          w.squares-is ∙ passed_more h (is_declared k size move) items c.args.squares.now c.loop-g.squares c.loop-g.g-index c.loop-g-test.true c.loop-g.invariant (ap not (lt-ltb g k.objects (omega (arith, w.if-g-objects.false, c.objects.ensures.count))))
    ]

pub returns : goal.returns
unfolding pair_squares
returns c =
    let k = c.args.cat.now in
    let size = sizes_in c.args.store.now c.args.s in
    let move = restrictions_in c.args.store.now c.args.s in
    let items = c.arrows_into-g-items.result.now in
    c.loop-g.invariant
    ∙ ap (λ l. c.args.squares.now ++ map (square_at k size move c.args.c c.args.f c.args.w) (filter (is_declared k size move) l))
    (take_all c.loop-g.g-index items (omega (arith, c.loop-g-test.false)) ∙ c.arrows_into-g-items.ensures.value ∙ ap (Rattle.topos_model.specs.categories.Category.into k) c.dom.ensures.value)
