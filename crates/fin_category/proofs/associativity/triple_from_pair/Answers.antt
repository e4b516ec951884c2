use Rattle.std.proofs.Common.{◌≡◌, ℕ, get_or, sym, ap, ◌∙◌}
use Rattle.topos_model.specs.categories.Category.{compose, into}
use Rattle.finite_lists.specs.First.{first}
use Rattle.fin_category.specs.Associativity.{triple_at, triple_from_pair}
use Rattle.finite_lists.proofs.FirstAnswers.{first_left-none, first_left-some}
use Rattle.fin_category.proofs.Associative.{triple_at-fails, triple_at-holds}
use Rattle.fin_category.proofs.associativity.triple_from_pair.Goals as goal

pub loop-f-init : goal.loop-f-init
unfolding triple_from_pair
loop-f-init c = ap (first (triple_at c.args.tables.now c.args.h c.args.g)) (sym (c.arrows_into-f-items.ensures.value ∙ ap (into c.args.tables.now) c.dom.ensures.value))

pub returns-then-compose : goal.returns-then-compose
returns-then-compose c =
    let k = c.args.tables.now in
    let f : ℕ = get_or c.arrows_into-f-items.result.now c.loop-f.f-index 0 in
    let left : c.compose.result ≡ compose k c.args.h (compose k c.args.g f) = c.compose.ensures.value ∙ ap (compose k c.args.h) c.compose-gf.ensures.value in
    let right : c.compose-in-loop-f.result ≡ compose k (compose k c.args.h c.args.g) f = c.compose-in-loop-f.ensures.value ∙ ap (λ n. compose k n f) c.compose-hg.ensures.value in
    sym (c.loop-f.invariant
    ∙ first_left-some (triple_at k c.args.h c.args.g) c.arrows_into-f-items.result.now c.loop-f.f-index 0 (c.args.h, c.args.g, f) c.loop-f-test.true
    (triple_at-fails k c.args.h c.args.g f (λ e. c.if-compose.true (left ∙ e ∙ sym right))))

pub loop-f-preserved : goal.loop-f-preserved
loop-f-preserved c =
    let k = c.args.tables.now in
    let f : ℕ = get_or c.arrows_into-f-items.result.now c.loop-f.f-index 0 in
    let left : c.compose.result ≡ compose k c.args.h (compose k c.args.g f) = c.compose.ensures.value ∙ ap (compose k c.args.h) c.compose-gf.ensures.value in
    let right : c.compose-in-loop-f.result ≡ compose k (compose k c.args.h c.args.g) f = c.compose-in-loop-f.ensures.value ∙ ap (λ n. compose k n f) c.compose-hg.ensures.value in
    c.loop-f.invariant
    ∙ first_left-none (triple_at k c.args.h c.args.g) c.arrows_into-f-items.result.now c.loop-f.f-index 0 c.loop-f-test.true
    (triple_at-holds k c.args.h c.args.g f (sym left ∙ c.if-compose.false ∙ right))
