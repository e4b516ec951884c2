use Rattle.std.proofs.Common.{◌≡◌, ◌<◌, get_or, sym, ap, subst, ◌∙◌, arith}
use Rattle.finite_lists.proofs.Lists.{In_at}
use Rattle.topos_model.specs.categories.Category.{dom, compose}
use Rattle.sieve_table.proofs.SieveMembers.{goes, comes}
use Rattle.place_closures.specs.Pairs.{start}
use Rattle.place_closures.proofs.PairNumbers.{number_within}
use Rattle.place_closures.proofs.tables.moved_row.Goals as goal

pub compose-requires-clause-first : goal.compose-requires-clause-first
compose-requires-clause-first g c = (c.requires.arrows _ (In_at c.args.gs.now c.loop-g.g-index 0 c.loop-g-test.true)).0

pub compose-requires-clause-meet : goal.compose-requires-clause-meet
compose-requires-clause-meet g c = (c.requires.arrows _ (In_at c.args.gs.now c.loop-g.g-index 0 c.loop-g-test.true)).1

pub restrict-requires : goal.restrict-requires
restrict-requires g c = c.requires.asked.restrict _ _ _ (c.requires.arrows _ (In_at c.args.gs.now c.loop-g.g-index 0 c.loop-g-test.true)) c.requires.element

pub overflow_add-starts : goal.overflow_add-starts
overflow_add-starts g c =
    let k = c.args.cat.now in
    let size = g.X.Elements.size c.args.x.now in
    let move = g.X.Elements.restriction c.args.x.now in
    let h = get_or c.args.gs.now c.loop-g.g-index 0 in
    let j = c.requires.arrows h (In_at c.args.gs.now c.loop-g.g-index 0 c.loop-g-test.true) in
    let a = goes k c.laws.ensures.lawful c.requires.arrow j in
    let l = subst (λ d. move h c.args.w < size d) (sym (comes k c.laws.ensures.lawful c.requires.arrow j)) (c.requires.restricts.within (dom k c.args.f) h c.args.w j c.requires.element) in
    let b = number_within k size move c.args.c (compose k c.args.f h) (move h c.args.w) a l in
    let e : get_or c.args.starts.now c.compose.result 0 ≡ start k size move c.args.c (compose k c.args.f h) = ap (λ x. get_or c.args.starts.now x 0) c.compose.ensures.value ∙ c.requires.starts.starts_at _ a in
    omega (arith, b, e, c.restrict.ensures, c.requires.few)
