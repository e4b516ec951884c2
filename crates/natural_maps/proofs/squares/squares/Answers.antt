use Rattle.std.proofs.Common.{◌≡◌, ◌<◌, ◌+◌, ◌-◌, ◌++◌, ℕ, map, length, get_or, flat_map, List, refl, sym, ap, subst, ◌∙◌, arith}
use Rattle.std.specs.List.{range_with_len}
use Rattle.topos_model.specs.categories.Category.{dom, cod}
use Rattle.topos_model.specs.Laws.{act, size}
use Rattle.natural_maps.specs.Places.{offset}
use Rattle.natural_search.specs.declared.squares.Square.{Square}
use Rattle.natural_maps.specs.Squares.{square_of, squares_along}
use Rattle.natural_maps.proofs.Offsets.{offset-more}
use Rattle.natural_maps.proofs.ListedImages.{offset_at}
use Rattle.natural_maps.proofs.JoinedBounds.{joined_more}
use Rattle.natural_maps.proofs.squares.squares.Goals as goal

pub bounds-starts-cod : goal.bounds-starts-cod
bounds-starts-cod c = (offset_at c.args.p.now.sizes c.args.starts.now c.cod.result c.requires.starts (omega (arith, c.cod.ensures.object, c.requires.domain.objects))).0

pub bounds-starts-dom : goal.bounds-starts-dom
bounds-starts-dom c = (offset_at c.args.p.now.sizes c.args.starts.now c.dom.result c.requires.starts (omega (arith, c.dom.ensures.object, c.requires.domain.objects))).0

-- the elements at an object end where those at the next one begin
next_start : (sizes starts : List ℕ) (a : ℕ) → starts ≡ map (offset sizes) (range_with_len 0 (length sizes + 1)) → a < length sizes → get_or starts (a + 1) 0 ≡ get_or starts a 0 + get_or sizes a 0
next_start sizes starts a are low =
    let here = (offset_at sizes starts a are (omega arith)).1 in
    let after = (offset_at sizes starts (a + 1) are (omega arith)).1 in
    omega (arith, here, after, offset-more sizes a low)

pub push_squares-requires-clause-elements : goal.push_squares-requires-clause-elements
push_squares-requires-clause-elements c =
    let k = c.args.cat.now in
    let f = c.loop-f.f in
    let low : f < length k.ends = omega (arith, c.arrows-f-end.ensures.count) in
    let a = c.cod.result in
    let row : length c.row.result.now ≡ get_or c.args.p.now.sizes a 0 = ap length c.row.ensures ∙ c.requires.domain.total a f (low, sym c.cod.ensures.value) in
    let next = next_start c.args.p.now.sizes c.args.starts.now a c.requires.starts (omega (arith, c.cod.ensures.object, c.requires.domain.objects)) in
    omega (arith, row, next, c.type_inv.starts (a + 1))

pub push_squares-requires-clause-restrictions : goal.push_squares-requires-clause-restrictions
push_squares-requires-clause-restrictions c x within =
    let k = c.args.cat.now in
    let f = c.loop-f.f in
    let low : f < length k.ends = omega (arith, c.arrows-f-end.ensures.count) in
    let a = c.dom.result in
    let row : length c.row.result.now ≡ get_or c.args.p.now.sizes (cod k f) 0 = ap length c.row.ensures ∙ c.requires.domain.total (cod k f) f (low, refl) in
    let at : get_or c.row.result.now x 0 ≡ act c.args.p.now f x = ap (λ (r : List ℕ). get_or r x 0) c.row.ensures in
    let below : get_or c.row.result.now x 0 < get_or c.args.p.now.sizes a 0 =
    subst (λ d. get_or c.row.result.now x 0 < size c.args.p.now d) (sym c.dom.ensures.value) (omega (arith, at, c.requires.domain.within (cod k f) f x (low, refl) (omega (arith, row, within)))) in
    let next = next_start c.args.p.now.sizes c.args.starts.now a c.requires.starts (omega (arith, c.dom.ensures.object, c.requires.domain.objects)) in
    omega (arith, below, next, c.type_inv.starts (a + 1))

pub loop-f-preserved : goal.loop-f-preserved
loop-f-preserved c =
    let k = c.args.cat.now in
    let P = c.args.p.now in
    let f = c.loop-f.f in
    let low : f < length k.ends = omega (arith, c.arrows-f-end.ensures.count) in
    let n : k.objects + (f - k.objects) ≡ f = omega (arith, c.loop-f.auto.f, c.objects-f.ensures.count) in
    let m : f - k.objects + 1 ≡ f + 1 - k.objects = omega (arith, c.loop-f.auto.f, c.objects-f.ensures.count) in
    let start = (offset_at P.sizes c.args.starts.now c.cod.result c.requires.starts (omega (arith, c.cod.ensures.object, c.requires.domain.objects))).1 ∙ ap (offset P.sizes) c.cod.ensures.value in
    let other = (offset_at P.sizes c.args.starts.now c.dom.result c.requires.starts (omega (arith, c.dom.ensures.object, c.requires.domain.objects))).1 ∙ ap (offset P.sizes) c.dom.ensures.value in
    let row : length c.row.result.now ≡ size P (cod k f) = ap length c.row.ensures ∙ c.requires.domain.total (cod k f) f (low, refl) in
    let made : ℕ → ℕ → List ℕ → List Square = λ a b r. map (λ x. record { arrow = f; element = a + x; restricted = b + get_or r x 0 }) (range_with_len 0 (length r)) in
    c.in_ok-push_squares.ensures ∙ ap (λ (l : List Square). l ++ made (get_or c.args.starts.now c.cod.result 0) (get_or c.args.starts.now c.dom.result 0) c.row.result.now) c.loop-f.invariant
    ∙ ap (λ a. flat_map (squares_along k P) (range_with_len k.objects (f - k.objects)) ++ made a (get_or c.args.starts.now c.dom.result 0) c.row.result.now) start
    ∙ ap (λ b. flat_map (squares_along k P) (range_with_len k.objects (f - k.objects)) ++ made (offset P.sizes (cod k f)) b c.row.result.now) other
    ∙ ap (λ (r : List ℕ). flat_map (squares_along k P) (range_with_len k.objects (f - k.objects)) ++ map (λ x. record { arrow = f; element = offset P.sizes (cod k f) + x; restricted = offset P.sizes (dom k f) + get_or r x 0 }) (range_with_len 0 (length c.row.result.now))) c.row.ensures
    ∙ ap (λ n. flat_map (squares_along k P) (range_with_len k.objects (f - k.objects)) ++ map (square_of k P f) (range_with_len 0 n)) row
    ∙ ap (λ g. flat_map (squares_along k P) (range_with_len k.objects (f - k.objects)) ++ squares_along k P g) (sym n)
    ∙ joined_more (squares_along k P) (f - k.objects) k.objects
    ∙ ap (λ n. flat_map (squares_along k P) (range_with_len k.objects n)) m
