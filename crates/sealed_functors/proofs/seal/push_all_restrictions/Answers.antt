use Rattle.std.proofs.Common.{◌≡◌, ℕ, ◌*◌, ◌<◌, List, [], length, get_or, map, sym, ap, subst, ◌∙◌, arith}
use Rattle.std.proofs.lemmas.List.{length-map, get_or_default}
use Rattle.functor_store.specs.Store.{Store, with_restrictions, IfBuilding, IsFirstOpen}
use Rattle.sealed_functors.specs.declared.rows.ElementRows.{ElementRows}
use Rattle.sealed_functors.specs.Rows.{part, restriction_rows, rows_at, with_all_restrictions}
use Rattle.sealed_functors.proofs.Groups.{length-parts, part_at, part_within, mapped_at, up_to_next, up_to_all}
use Rattle.sealed_functors.proofs.Pushed.{restrictions_begin, restrictions_first, restrictions_more, restrictions_building}
use Rattle.sealed_functors.proofs.seal.push_all_restrictions.Goals as goal

abbrev with_groups : Store → List (List (List ℕ)) → Store
with_groups s gs = record s { building = with_all_restrictions s.building gs }

-- the row that is pushed
row_is : (at : List ElementRows) (c k : ℕ) (q : ElementRows) (row : List ℕ) → c < length at → q ≡ rows_at at c → k < q.count → row ≡ part q.arrows q.restrictions k →
    (k < length (get_or (map restriction_rows at) c [])) × (row ≡ get_or (get_or (map restriction_rows at) c []) k [])
row_is at c k q row low r inside is =
    let here : get_or (map restriction_rows at) c [] ≡ restriction_rows q = mapped_at restriction_rows at c low ∙ ap restriction_rows (sym r) in
    (omega (arith, inside, ap length here, length-parts q.arrows q.count q.restrictions), is ∙ sym (ap (λ g. get_or g k []) here ∙ part_at q.arrows q.count q.restrictions k inside))

pub objects-init : goal.objects-init
objects-init c = let s = c.args.store.now in ap (λ b. record s { building = b }) (restrictions_begin c.args.at.now s.objects c.requires.objects s.building c.requires.pushed)

pub part-requires : goal.part-requires
part-requires c =
    let at = c.args.at.now in
    let r : c.index-at-c.result ≡ rows_at at c.objects.c = c.index-at-c.is ∙ get_or_default at c.objects.c _ _ c.objects-test.true in
    let e : length (rows_at at c.objects.c).restrictions ≡ (rows_at at c.objects.c).count * (rows_at at c.objects.c).arrows = c.requires.shaped.restrictions c.objects.c c.objects-test.true in
    part_within c.index-at-c.result.arrows c.index-at-c.result.count c.elements.k _
    (ap length c.as_slice.ensures ∙ subst (λ (q : ElementRows). length q.restrictions ≡ q.count * q.arrows) (sym r) e)
    c.elements-test.true

pub push_restrictions-requires-clause-first : goal.push_restrictions-requires-clause-first
push_restrictions-requires-clause-first c =
    let s = c.args.store.now in
    let at = c.args.at.now in
    let r : c.index-at-c.result ≡ rows_at at c.objects.c = c.index-at-c.is ∙ get_or_default at c.objects.c _ _ c.objects-test.true in
    let here : length (get_or (map restriction_rows at) c.objects.c []) ≡ c.index-at-c.result.count = ap length (mapped_at restriction_rows at c.objects.c c.objects-test.true ∙ ap restriction_rows (sym r)) ∙ length-parts _ _ _ in
    subst (λ (t : Store). IfBuilding t.building (λ F. IsFirstOpen F c.objects.c c.elements.k)) (sym c.elements.invariant)
    (restrictions_first at s.objects c.requires.objects s.building c.objects.c c.elements.k c.requires.pushed (omega (arith, c.objects-test.true, c.requires.objects)) (omega (arith, here, c.elements-test.true)))

pub returns-in-Err-clause-building : goal.returns-in-Err-clause-building
returns-in-Err-clause-building c =
    let s = c.args.store.now in
    subst (λ (t : Store). IfBuilding t.building (λ _. Unit {0})) (sym (c.in-Err.ensures.err ∙ c.elements.invariant))
    (restrictions_building c.args.at.now s.objects c.requires.objects s.building c.objects.c c.elements.k c.requires.pushed)

pub elements-preserved : goal.elements-preserved
elements-preserved c =
    let s = c.args.store.now in
    let at = c.args.at.now in
    let r : c.index-at-c.result ≡ rows_at at c.objects.c = c.index-at-c.is ∙ get_or_default at c.objects.c _ _ c.objects-test.true in
    let w = row_is at c.objects.c c.elements.k c.index-at-c.result c.part.result.now c.objects-test.true r c.elements-test.true (c.part.ensures ∙ ap (λ xs. part c.index-at-c.result.arrows xs c.elements.k) c.as_slice.ensures) in
    c.in_default.ensures.ok ∙ ap (λ (t : Store). record t { building = with_restrictions t.building c.objects.c c.part.result.now }) c.elements.invariant
    ∙ ap (λ b. record s { building = b }) (restrictions_more at s.objects c.requires.objects s.building c.objects.c c.elements.k c.part.result.now (omega (arith, c.objects-test.true, c.requires.objects)) w.0 w.1)

pub objects-preserved : goal.objects-preserved
objects-preserved c =
    let at = c.args.at.now in
    let gs = map restriction_rows at in
    let r : c.index-at-c.result ≡ rows_at at c.objects.c = c.index-at-c.is ∙ get_or_default at c.objects.c _ _ c.objects-test.true in
    let n : length (get_or gs c.objects.c []) ≡ c.index-at-c.result.count = ap length (mapped_at restriction_rows at c.objects.c c.objects-test.true ∙ ap restriction_rows (sym r)) ∙ length-parts _ _ _ in
    c.elements.invariant ∙ ap (with_groups c.args.store.now)
    (up_to_next gs c.objects.c c.elements.k (omega (arith, c.objects-test.true, length-map at restriction_rows)) (omega (arith, n, c.elements-test.false)))

pub returns-clause-ok : goal.returns-clause-ok
returns-clause-ok c = c.objects.invariant ∙ ap (with_groups c.args.store.now) (up_to_all (map restriction_rows c.args.at.now) c.objects.c (omega (arith, c.objects-test.false, length-map c.args.at.now restriction_rows)))

pub returns-clause-building : goal.returns-clause-building
returns-clause-building c =
    let s = c.args.store.now in
    subst (λ (t : Store). IfBuilding t.building (λ _. Unit {0})) (sym c.objects.invariant)
    (restrictions_building c.args.at.now s.objects c.requires.objects s.building c.objects.c 0 c.requires.pushed)
