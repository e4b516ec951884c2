use Rattle.std.proofs.Common.{◌≡◌, ◌+◌, ◌++◌, ◌≤◌, ℕ, List, length, flat_map, map, get_or, take, sym, ap, subst, ◌∙◌, arith}
use Rattle.std.specs.List.{range_with_len}
use Rattle.std.proofs.lemmas.List.{take_all}
use Rattle.finite_lists.proofs.Lists.{In_at}
use Rattle.finite_lists.specs.Members.{In}
use Rattle.topos_model.specs.categories.Category.{into, dom, compose}
use Rattle.topos_model.specs.Laws.{IsInto}
use Rattle.topos_model.proofs.ArrowsInto.{In-into_from}
use Rattle.sieve_table.proofs.SieveMembers.{goes, comes}
use Rattle.place_closures.specs.Pairs.{start}
use Rattle.sealed_types.specs.Sealed.{sizes_in, restrictions_in}
use Rattle.function_objects.specs.Functions.{under_row}
use Rattle.function_objects.proofs.FunctionSquares.{block_within}
use Rattle.function_objects.proofs.Pushes.{front_more}
use Rattle.function_objects.proofs.numbers.push_under.Goals as goal

pub push_block-requires : goal.push_block-requires
push_block-requires c =
    let k = c.args.cat.now in
    let size = sizes_in c.args.store.now c.args.s in
    let move = restrictions_in c.args.store.now c.args.s in
    let items = c.arrows_into-f-items.result.now in
    let f = get_or items c.loop-f.f-index 0 in
    let laws = c.laws.ensures.lawful in
    let below : IsInto k (dom k c.args.h) f = In-into_from k (dom k c.args.h) f (subst (λ l. In l f) (c.arrows_into-f-items.ensures.value ∙ ap (into k) c.dom.ensures.value) (In_at items c.loop-f.f-index 0 c.loop-f-test.true)) in
    let i = goes k laws c.requires.arrow below in
    let b = block_within k laws size move size move c.requires.part.restricts c.args.c (compose k c.args.h f) i in
    let s : get_or c.args.starts.now c.compose.result 0 ≡ start k size move c.args.c (compose k c.args.h f) = ap (λ j. get_or c.args.starts.now j 0) c.compose.ensures.value ∙ c.requires.starts.starts_at (compose k c.args.h f) i in
    let n : c.count.result ≡ size (dom k (compose k c.args.h f)) = c.count.ensures.elements ∙ ap size (c.dom-in-loop-f.ensures.value ∙ sym (comes k laws c.requires.arrow below)) in
    omega (arith, b, s, n, c.requires.long)

pub loop-f-preserved : goal.loop-f-preserved
loop-f-preserved c =
    let k = c.args.cat.now in
    let size = sizes_in c.args.store.now c.args.s in
    let move = restrictions_in c.args.store.now c.args.s in
    let items = c.arrows_into-f-items.result.now in
    let f = get_or items c.loop-f.f-index 0 in
    let laws = c.laws.ensures.lawful in
    let below : IsInto k (dom k c.args.h) f = In-into_from k (dom k c.args.h) f (subst (λ l. In l f) (c.arrows_into-f-items.ensures.value ∙ ap (into k) c.dom.ensures.value) (In_at items c.loop-f.f-index 0 c.loop-f-test.true)) in
    let i = goes k laws c.requires.arrow below in
    let s : get_or c.args.starts.now c.compose.result 0 ≡ start k size move c.args.c (compose k c.args.h f) = ap (λ j. get_or c.args.starts.now j 0) c.compose.ensures.value ∙ c.requires.starts.starts_at (compose k c.args.h f) i in
    let n : c.count.result ≡ size (dom k f) = c.count.ensures.elements ∙ ap size c.dom-in-loop-f.ensures.value in
    let block : ℕ → ℕ → List ℕ = λ a m. map (λ w. get_or c.args.row.now (a + w) 0) (range_with_len 0 m) in
    c.in_ok-push_block.ensures ∙ ap (λ a. c.loop-f.out ++ block a c.count.result) s ∙ ap (λ m. c.loop-f.out ++ block (start k size move c.args.c (compose k c.args.h f)) m) n
    ∙ front_more (λ f. block (start k size move c.args.c (compose k c.args.h f)) (size (dom k f))) items c.args.out.now c.loop-f.out c.loop-f.f-index c.loop-f-test.true c.loop-f.invariant

pub returns : goal.returns
unfolding under_row
returns c =
    let k = c.args.cat.now in
    let size = sizes_in c.args.store.now c.args.s in
    let move = restrictions_in c.args.store.now c.args.s in
    let block : ℕ → List ℕ = λ f. map (λ w. get_or c.args.row.now (start k size move c.args.c (compose k c.args.h f) + w) 0) (range_with_len 0 (size (dom k f))) in
    c.loop-f.invariant
    ∙ ap (λ l. c.args.out.now ++ flat_map block l) (take_all c.loop-f.f-index c.arrows_into-f-items.result.now (omega (arith, c.loop-f-test.false)) ∙ c.arrows_into-f-items.ensures.value ∙ ap (into k) c.dom.ensures.value)
