use Rattle.std.proofs.Common.{◌≡◌, ◌<◌, ℕ, List, length, get_or, refl, sym, ap, ◌∙◌, arith}
use Rattle.topos_model.specs.categories.Category.{dom, cod}
use Rattle.topos_model.specs.Laws.{act, size}
use Rattle.topos_model.specs.presheaves.Maps.{apply}
use Rattle.natural_maps.specs.Components.{square_at, square_from}
use Rattle.presheaf_core.proofs.SearchFrom.{first_from-start, first_from-none, first_from-some}
use Rattle.natural_maps.proofs.FailingSquares.{lent_component, square_holds, square_fails}
use Rattle.natural_maps.proofs.naturality.square_from.Goals as goal

pub loop-x-init : goal.loop-x-init
unfolding square_from
loop-x-init c = first_from-start (square_at c.args.cat.now c.args.p.now c.args.q.now c.args.rows.now c.args.f) (size c.args.p.now (cod c.args.cat.now c.args.f))

pub bounds-target-x : goal.bounds-target-x
bounds-target-x c =
    let k = c.args.cat.now in
    let m = c.args.rows.now in
    let end : c.size-x-end.result ≡ size c.args.p.now (cod k c.args.f) = c.size-x-end.ensures ∙ ap (size c.args.p.now) c.cod-2.ensures.value in
    let target = lent_component m (cod k c.args.f) c.cod.result c.as_slice-target.result.now c.get-2.result.now c.as_slice-target.ensures c.get-2.ensures c.cod.ensures.value in
    omega (arith, ap length target, c.requires.rows.total (cod k c.args.f) (omega (arith, c.cod.ensures.value, c.cod.ensures.object)), end)

pub bounds-source-restricted : goal.bounds-source-restricted
bounds-source-restricted c =
    let k = c.args.cat.now in
    let m = c.args.rows.now in
    let end : c.size-x-end.result ≡ size c.args.p.now (cod k c.args.f) = c.size-x-end.ensures ∙ ap (size c.args.p.now) c.cod-2.ensures.value in
    let within : c.loop-x.x < size c.args.p.now (cod k c.args.f) = omega (arith, end) in
    let source = lent_component m (dom k c.args.f) c.dom.result c.as_slice-source.result.now c.get.result.now c.as_slice-source.ensures c.get.ensures c.dom.ensures.value in
    let at : get_or c.row-along_p.result.now c.loop-x.x 0 ≡ act c.args.p.now c.args.f c.loop-x.x = ap (λ (r : List ℕ). get_or r c.loop-x.x 0) c.row-along_p.ensures in
    rw at (omega (arith, ap length source, c.requires.rows.total (dom k c.args.f) (omega (arith, c.dom.ensures.value, c.dom.ensures.object)), c.requires.domain.within (cod k c.args.f) c.args.f c.loop-x.x (c.requires.arrow, refl) within))

pub bounds-along_q-image : goal.bounds-along_q-image
bounds-along_q-image c =
    let k = c.args.cat.now in
    let m = c.args.rows.now in
    let end : c.size-x-end.result ≡ size c.args.p.now (cod k c.args.f) = c.size-x-end.ensures ∙ ap (size c.args.p.now) c.cod-2.ensures.value in
    let within : c.loop-x.x < size c.args.p.now (cod k c.args.f) = omega (arith, end) in
    let target = lent_component m (cod k c.args.f) c.cod.result c.as_slice-target.result.now c.get-2.result.now c.as_slice-target.ensures c.get-2.ensures c.cod.ensures.value in
    let at : get_or c.as_slice-target.result.now c.loop-x.x 0 ≡ apply m (cod k c.args.f) c.loop-x.x = ap (λ (r : List ℕ). get_or r c.loop-x.x 0) target in
    rw at (omega (
      arith,
      ap length c.row-along_q.ensures,
      c.requires.codomain.total (cod k c.args.f) c.args.f (c.requires.arrow, refl),
      c.requires.rows.within (cod k c.args.f) c.loop-x.x (omega (arith, c.cod.ensures.value, c.cod.ensures.object)) within,
    ))

pub returns-then-source-restricted : goal.returns-then-source-restricted
returns-then-source-restricted c =
    let k = c.args.cat.now in
    let P = c.args.p.now in
    let m = c.args.rows.now in
    let f = c.args.f in
    let x = c.loop-x.x in
    let end : c.size-x-end.result ≡ size P (cod k f) = c.size-x-end.ensures ∙ ap (size P) c.cod-2.ensures.value in
    let source = lent_component m (dom k f) c.dom.result c.as_slice-source.result.now c.get.result.now c.as_slice-source.ensures c.get.ensures c.dom.ensures.value in
    let target = lent_component m (cod k f) c.cod.result c.as_slice-target.result.now c.get-2.result.now c.as_slice-target.ensures c.get-2.ensures c.cod.ensures.value in
    let left : get_or c.as_slice-source.result.now (get_or c.row-along_p.result.now x 0) 0 ≡ apply m (dom k f) (act P f x) =
    ap (λ (r : List ℕ). get_or r (get_or c.row-along_p.result.now x 0) 0) source ∙ ap (λ (r : List ℕ). apply m (dom k f) (get_or r x 0)) c.row-along_p.ensures in
    let right : get_or c.row-along_q.result.now (get_or c.as_slice-target.result.now x 0) 0 ≡ act c.args.q.now f (apply m (cod k f) x) =
    ap (λ (r : List ℕ). get_or r (get_or c.as_slice-target.result.now x 0) 0) c.row-along_q.ensures ∙ ap (λ (r : List ℕ). act c.args.q.now f (get_or r x 0)) target in
    sym (c.loop-x.invariant
    ∙ first_from-some (square_at k P c.args.q.now m f) x (size P (cod k f)) x (omega (arith, end)) (square_fails k P c.args.q.now m f x (λ e. c.if-source-restricted.true (left ∙ e ∙ sym right))))

pub loop-x-preserved : goal.loop-x-preserved
loop-x-preserved c =
    let k = c.args.cat.now in
    let P = c.args.p.now in
    let m = c.args.rows.now in
    let f = c.args.f in
    let x = c.loop-x.x in
    let end : c.size-x-end.result ≡ size P (cod k f) = c.size-x-end.ensures ∙ ap (size P) c.cod-2.ensures.value in
    let source = lent_component m (dom k f) c.dom.result c.as_slice-source.result.now c.get.result.now c.as_slice-source.ensures c.get.ensures c.dom.ensures.value in
    let target = lent_component m (cod k f) c.cod.result c.as_slice-target.result.now c.get-2.result.now c.as_slice-target.ensures c.get-2.ensures c.cod.ensures.value in
    let left : get_or c.as_slice-source.result.now (get_or c.row-along_p.result.now x 0) 0 ≡ apply m (dom k f) (act P f x) =
    ap (λ (r : List ℕ). get_or r (get_or c.row-along_p.result.now x 0) 0) source ∙ ap (λ (r : List ℕ). apply m (dom k f) (get_or r x 0)) c.row-along_p.ensures in
    let right : get_or c.row-along_q.result.now (get_or c.as_slice-target.result.now x 0) 0 ≡ act c.args.q.now f (apply m (cod k f) x) =
    ap (λ (r : List ℕ). get_or r (get_or c.as_slice-target.result.now x 0) 0) c.row-along_q.ensures ∙ ap (λ (r : List ℕ). act c.args.q.now f (get_or r x 0)) target in
    c.loop-x.invariant
    ∙ first_from-none (square_at k P c.args.q.now m f) x (size P (cod k f)) (omega (arith, end)) (square_holds k P c.args.q.now m f x (sym left ∙ c.if-source-restricted.false ∙ right))
