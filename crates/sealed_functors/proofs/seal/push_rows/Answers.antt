use Rattle.std.proofs.Common.{◌≡◌, ℕ, ◌+◌, ◌*◌, ◌<◌, List, [], length, get_or, map, Err, sym, ap, subst, ◌∙◌, arith}
use Rattle.std.proofs.lemmas.List.{length-map, get_or_default}
use Rattle.functor_store.specs.declared.fault.StoreFault.{StoreFault}
use Rattle.functor_store.specs.declared.fault.StoreFault.TheVariants.{Over, NoMemory}
use Rattle.functor_store.specs.Store.{Store, cells, into, with_row, IfBuilding, IsNext, IsOverWhere}
use Rattle.sealed_functors.specs.declared.rows.ElementRows.{ElementRows}
use Rattle.sealed_functors.specs.Rows.{part, element_rows, rows_at, up_to, with_all_rows, IsOverExactly}
use Rattle.sealed_functors.proofs.Groups.{length-parts, part_at, part_within, mapped_at, up_to_next, up_to_all}
use Rattle.sealed_functors.proofs.Pushed.{rows_begin, rows_next, rows_more, rows_cells, rows_building}
use Rattle.sealed_functors.proofs.seal.push_rows.Goals as goal

abbrev with_groups : Store → List (List (List ℕ)) → Store
with_groups s gs = record s { building = with_all_rows s.building gs }

pub objects-init : goal.objects-init
objects-init c =
    let s = c.args.store.now in
    let gs = map element_rows c.args.at.now in
    ap (λ b. record s { building = b }) (rows_begin gs s.objects (length-map c.args.at.now element_rows ∙ c.requires.objects) s.building c.requires.bare)

pub overflow_cast-c : goal.overflow_cast-c
overflow_cast-c c = omega (arith, c.requires.few, c.objects-test.true)

pub part-requires : goal.part-requires
part-requires c =
    let at = c.args.at.now in
    let r : c.index-at-c.result ≡ rows_at at c.objects.c = c.index-at-c.is ∙ get_or_default at c.objects.c _ _ c.objects-test.true in
    let e : length (rows_at at c.objects.c).rows ≡ (rows_at at c.objects.c).count * (rows_at at c.objects.c).width = c.requires.shaped.rows c.objects.c c.objects-test.true in
    part_within c.index-at-c.result.width c.index-at-c.result.count c.elements.k _
    (ap length c.as_slice.ensures ∙ subst (λ (q : ElementRows). length q.rows ≡ q.count * q.width) (sym r) e)
    c.elements-test.true

pub push_element-requires-clause-next : goal.push_element-requires-clause-next
push_element-requires-clause-next c =
    let s = c.args.store.now in
    let gs = map element_rows c.args.at.now in
    subst (λ (t : Store). IfBuilding t.building (λ F. IsNext F c.objects.c)) (sym c.elements.invariant)
    (rows_next gs s.objects (length-map c.args.at.now element_rows ∙ c.requires.objects) s.building c.objects.c c.elements.k c.requires.bare)

-- the row that is pushed
row_is : (at : List ElementRows) (c k : ℕ) (q : ElementRows) (row : List ℕ) → c < length at → q ≡ rows_at at c → k < q.count → row ≡ part q.width q.rows k →
    (k < length (get_or (map element_rows at) c [])) × (row ≡ get_or (get_or (map element_rows at) c []) k [])
row_is at c k q row low r inside is =
    let here : get_or (map element_rows at) c [] ≡ element_rows q = mapped_at element_rows at c low ∙ ap element_rows (sym r) in
    (omega (arith, inside, ap length here, length-parts q.width q.count q.rows), is ∙ sym (ap (λ g. get_or g k []) here ∙ part_at q.width q.count q.rows k inside))

pub elements-preserved : goal.elements-preserved
elements-preserved c =
    let s = c.args.store.now in
    let at = c.args.at.now in
    let gs = map element_rows at in
    let r : c.index-at-c.result ≡ rows_at at c.objects.c = c.index-at-c.is ∙ get_or_default at c.objects.c _ _ c.objects-test.true in
    let w = row_is at c.objects.c c.elements.k c.index-at-c.result c.part.result.now c.objects-test.true r c.elements-test.true (c.part.ensures ∙ ap (λ xs. part c.index-at-c.result.width xs c.elements.k) c.as_slice.ensures) in
    c.in_default.ensures.ok ∙ ap (λ (t : Store). record t { building = with_row t.building c.objects.c c.part.result.now }) c.elements.invariant
    ∙ ap (λ b. record s { building = b }) (rows_more gs s.objects (length-map at element_rows ∙ c.requires.objects) s.building c.objects.c c.elements.k c.part.result.now (omega (arith, c.objects-test.true, c.requires.objects)) w.0 w.1)

pub objects-preserved : goal.objects-preserved
objects-preserved c =
    let at = c.args.at.now in
    let gs = map element_rows at in
    let r : c.index-at-c.result ≡ rows_at at c.objects.c = c.index-at-c.is ∙ get_or_default at c.objects.c _ _ c.objects-test.true in
    let n : length (get_or gs c.objects.c []) ≡ c.index-at-c.result.count = ap length (mapped_at element_rows at c.objects.c c.objects-test.true ∙ ap element_rows (sym r)) ∙ length-parts _ _ _ in
    c.elements.invariant ∙ ap (with_groups c.args.store.now)
    (up_to_next gs c.objects.c c.elements.k (omega (arith, c.objects-test.true, length-map at element_rows)) (omega (arith, n, c.elements-test.false)))

pub returns-in-Err-clause-building : goal.returns-in-Err-clause-building
returns-in-Err-clause-building c =
    let s = c.args.store.now in
    let gs = map element_rows c.args.at.now in
    subst (λ (t : Store). IfBuilding t.building (λ _. Unit {0})) (sym (c.in-Err.ensures.err ∙ c.elements.invariant))
    (rows_building gs s.objects (length-map c.args.at.now element_rows ∙ c.requires.objects) s.building c.objects.c c.elements.k c.requires.bare)

over_all : (fault : StoreFault) (P Q : Type 0) → IsOverWhere (Err fault) P → (P → Q) → IsOverExactly {A = Unit {0}} (Err fault) Q
over_all Over P Q h f = f h
over_all NoMemory P Q h f = tt

pub returns-in-Err-clause-over : goal.returns-in-Err-clause-over
returns-in-Err-clause-over c =
    let s = c.args.store.now in
    let at = c.args.at.now in
    let gs = map element_rows at in
    let r : c.index-at-c.result ≡ rows_at at c.objects.c = c.index-at-c.is ∙ get_or_default at c.objects.c _ _ c.objects-test.true in
    let w = row_is at c.objects.c c.elements.k c.index-at-c.result c.part.result.now c.objects-test.true r c.elements-test.true (c.part.ensures ∙ ap (λ xs. part c.index-at-c.result.width xs c.elements.k) c.as_slice.ensures) in
    let fits = rows_cells gs s.objects (length-map at element_rows ∙ c.requires.objects) s s.building c.objects.c c.elements.k c.part.result.now c.requires.bare (omega (arith, c.objects-test.true, c.requires.objects)) w.0 w.1 in
    over_all c.in-Err.fault _ _ c.in-Err.ensures.over (λ over.
    let over' : s.budget < cells (with_groups s (up_to gs c.objects.c c.elements.k)) + 1 + into s.ends c.objects.c + length c.part.result.now =
    subst (λ (t : Store). t.budget < cells t + 1 + into t.ends c.objects.c + length c.part.result.now) c.elements.invariant over in
    omega (arith, over', fits))

pub returns-clause-ok : goal.returns-clause-ok
returns-clause-ok c = c.objects.invariant ∙ ap (with_groups c.args.store.now) (up_to_all (map element_rows c.args.at.now) c.objects.c (omega (arith, c.objects-test.false, length-map c.args.at.now element_rows)))

pub returns-clause-building : goal.returns-clause-building
returns-clause-building c =
    let s = c.args.store.now in
    let gs = map element_rows c.args.at.now in
    subst (λ (t : Store). IfBuilding t.building (λ _. Unit {0})) (sym c.objects.invariant)
    (rows_building gs s.objects (length-map c.args.at.now element_rows ∙ c.requires.objects) s.building c.objects.c 0 c.requires.bare)

pub returns-clause-over : goal.returns-clause-over
returns-clause-over c = λ over.
    let is : c.objects.store ≡ with_groups c.args.store.now (map element_rows c.args.at.now) =
    c.objects.invariant ∙ ap (with_groups c.args.store.now) (up_to_all (map element_rows c.args.at.now) c.objects.c (omega (arith, c.objects-test.false, length-map c.args.at.now element_rows))) in
    let room : c.room-room.result + cells (with_groups c.args.store.now (map element_rows c.args.at.now)) ≡ c.args.store.now.budget =
    subst (λ (t : Store). c.room-room.result + cells t ≡ t.budget) is c.room-room.ensures.room in
    omega (arith, over, room)
