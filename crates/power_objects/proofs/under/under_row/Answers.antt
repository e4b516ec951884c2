use Rattle.std.proofs.Common.{◌≡◌, ◌+◌, ◌++◌, ℕ, List, get_or, map, sym, ap, subst, ◌∙◌, arith}
use Rattle.std.specs.List.{flat_map, range_with_len}
use Rattle.std.proofs.lemmas.List.{take_all}
use Rattle.finite_lists.specs.Members.{In}
use Rattle.finite_lists.proofs.Lists.{In_at}
use Rattle.topos_model.specs.categories.Category.{into, dom, compose}
use Rattle.topos_model.specs.Laws.{IsInto}
use Rattle.topos_model.proofs.ArrowsInto.{In-into_from}
use Rattle.sieve_table.proofs.SieveMembers.{goes, comes}
use Rattle.place_closures.specs.Pairs.{start}
use Rattle.place_closures.proofs.PairNumbers.{number_within}
use Rattle.place_closures.proofs.PairRows.{joined_more}
use Rattle.power_objects.specs.SubsetRows.{under}
use Rattle.power_objects.proofs.under.under_row.Goals as goal

pub push_numbers-requires : goal.push_numbers-requires
push_numbers-requires g c = λ w low.
    let k = c.args.cat.now in
    let laws = c.laws.ensures.lawful in
    let size = g.X.Elements.size c.args.x.now in
    let move = g.X.Elements.restriction c.args.x.now in
    let items = c.arrows_into-h-items.result.now in
    let h = get_or items c.loop-h.h-index 0 in
    let i : IsInto k (dom k c.args.f) h = In-into_from k (dom k c.args.f) h (subst (λ l. In l h) (c.arrows_into-h-items.ensures.value ∙ ap (into k) c.dom.ensures.value) (In_at items c.loop-h.h-index 0 c.loop-h-test.true)) in
    let a = goes k laws c.requires.arrow i in
    let n : c.count.result ≡ size (dom k (compose k c.args.f h)) = c.count.ensures ∙ ap size (c.dom-in-loop-h.ensures.value ∙ sym (comes k laws c.requires.arrow i)) in
    let b = number_within k size move c.args.c (compose k c.args.f h) w a (omega (arith, low, n)) in
    let e : get_or c.args.starts.now c.compose.result 0 ≡ start k size move c.args.c (compose k c.args.f h) = ap (λ x. get_or c.args.starts.now x 0) c.compose.ensures.value ∙ c.requires.starts.starts_at (compose k c.args.f h) a in
    omega (arith, b, e, c.requires.few)

pub loop-h-preserved : goal.loop-h-preserved
loop-h-preserved g c =
    let k = c.args.cat.now in
    let laws = c.laws.ensures.lawful in
    let size = g.X.Elements.size c.args.x.now in
    let move = g.X.Elements.restriction c.args.x.now in
    let items = c.arrows_into-h-items.result.now in
    let h = get_or items c.loop-h.h-index 0 in
    let i : IsInto k (dom k c.args.f) h = In-into_from k (dom k c.args.f) h (subst (λ l. In l h) (c.arrows_into-h-items.ensures.value ∙ ap (into k) c.dom.ensures.value) (In_at items c.loop-h.h-index 0 c.loop-h-test.true)) in
    let block : ℕ → List ℕ = λ h. map (λ w. start k size move c.args.c (compose k c.args.f h) + w) (range_with_len 0 (size (dom k h))) in
    let e : get_or c.args.starts.now c.compose.result 0 ≡ start k size move c.args.c (compose k c.args.f h) = ap (λ x. get_or c.args.starts.now x 0) c.compose.ensures.value ∙ c.requires.starts.starts_at (compose k c.args.f h) (goes k laws c.requires.arrow i) in
    let n : c.count.result ≡ size (dom k h) = c.count.ensures ∙ ap size c.dom-in-loop-h.ensures.value in
    c.in_ok-push_numbers.ensures.pushed
    ∙ ap (λ m. c.loop-h.row ++ map (λ w. m + w) (range_with_len 0 c.count.result)) e
    ∙ ap (λ m. c.loop-h.row ++ map (λ w. start k size move c.args.c (compose k c.args.f h) + w) (range_with_len 0 m)) n
    ∙ joined_more block items c.loop-h.row c.loop-h.h-index 0 c.loop-h-test.true c.loop-h.invariant

pub returns : goal.returns
unfolding under
returns g c =
    let k = c.args.cat.now in
    let size = g.X.Elements.size c.args.x.now in
    let move = g.X.Elements.restriction c.args.x.now in
    let block : ℕ → List ℕ = λ h. map (λ w. start k size move c.args.c (compose k c.args.f h) + w) (range_with_len 0 (size (dom k h))) in
    record {
      row = c.loop-h.invariant ∙ ap (flat_map block) (take_all c.loop-h.h-index c.arrows_into-h-items.result.now (omega (arith, c.loop-h-test.false)) ∙ c.arrows_into-h-items.ensures.value ∙ ap (into k) c.dom.ensures.value);
    }
