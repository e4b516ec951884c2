use Rattle.std.proofs.Common.{◌≡◌, ◌<◌, ℕ, List, get_or, sym, ap, ◌∙◌, arith}
use Rattle.topos_model.specs.categories.Category.{cod, compose}
use Rattle.topos_model.specs.Laws.{act, size}
use Rattle.presheaf_core.specs.Functoriality.{instance_at, instance_from_pair}
use Rattle.presheaf_core.proofs.SearchFrom.{first_from-start, first_from-none, first_from-some}
use Rattle.presheaf_core.proofs.FunctorLaws.{instance_at-fails, instance_at-holds}
use Rattle.presheaf_core.proofs.functoriality.instance_from_pair.Goals as goal

pub loop-x-init : goal.loop-x-init
unfolding instance_from_pair
loop-x-init c = first_from-start (instance_at c.args.cat.now c.args.functor.now c.args.g c.args.f) (size c.args.functor.now (cod c.args.cat.now c.args.g))

pub returns-then-second-first : goal.returns-then-second-first
returns-then-second-first c =
    let k = c.args.cat.now in
    let X = c.args.functor.now in
    let end : c.size-x-end.result ≡ size X (cod k c.args.g) = c.size-x-end.ensures ∙ ap (size X) c.cod.ensures.value in
    let low : c.loop-x.x < size X (cod k c.args.g) = omega (arith, end) in
    let left : get_or c.row-second.result.now (get_or c.row-first.result.now c.loop-x.x 0) 0 ≡ act X c.args.f (act X c.args.g c.loop-x.x) =
    ap (λ (r : List ℕ). get_or r (get_or c.row-first.result.now c.loop-x.x 0) 0) c.row-second.ensures ∙ ap (λ (r : List ℕ). act X c.args.f (get_or r c.loop-x.x 0)) c.row-first.ensures in
    let right : get_or c.row-both.result.now c.loop-x.x 0 ≡ act X (compose k c.args.g c.args.f) c.loop-x.x =
    ap (λ (r : List ℕ). get_or r c.loop-x.x 0) c.row-both.ensures ∙ ap (λ h. act X h c.loop-x.x) c.compose.ensures.value in
    sym (c.loop-x.invariant
    ∙ first_from-some (instance_at k X c.args.g c.args.f) c.loop-x.x (size X (cod k c.args.g)) (c.args.g, c.args.f, c.loop-x.x) low
    (instance_at-fails k X c.args.g c.args.f c.loop-x.x (λ e. c.if-second-first.true (left ∙ e ∙ sym right))))

pub loop-x-preserved : goal.loop-x-preserved
loop-x-preserved c =
    let k = c.args.cat.now in
    let X = c.args.functor.now in
    let end : c.size-x-end.result ≡ size X (cod k c.args.g) = c.size-x-end.ensures ∙ ap (size X) c.cod.ensures.value in
    let low : c.loop-x.x < size X (cod k c.args.g) = omega (arith, end) in
    let left : get_or c.row-second.result.now (get_or c.row-first.result.now c.loop-x.x 0) 0 ≡ act X c.args.f (act X c.args.g c.loop-x.x) =
    ap (λ (r : List ℕ). get_or r (get_or c.row-first.result.now c.loop-x.x 0) 0) c.row-second.ensures ∙ ap (λ (r : List ℕ). act X c.args.f (get_or r c.loop-x.x 0)) c.row-first.ensures in
    let right : get_or c.row-both.result.now c.loop-x.x 0 ≡ act X (compose k c.args.g c.args.f) c.loop-x.x =
    ap (λ (r : List ℕ). get_or r c.loop-x.x 0) c.row-both.ensures ∙ ap (λ h. act X h c.loop-x.x) c.compose.ensures.value in
    c.loop-x.invariant
    ∙ first_from-none (instance_at k X c.args.g c.args.f) c.loop-x.x (size X (cod k c.args.g)) low
    (instance_at-holds k X c.args.g c.args.f c.loop-x.x (sym left ∙ c.if-second-first.false ∙ right))
