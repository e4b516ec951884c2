use Rattle.std.proofs.Common.{◌≡◌, ℕ, ◌*◌, ◌<◌, List, [], ◌∷◌, ◌++◌, length, get_or, take, drop, map, sym, ap, subst, ◌∙◌, arith}
use Rattle.std.proofs.lemmas.List.{take_all}
use Rattle.finite_lists.specs.Members.{In}
use Rattle.finite_lists.proofs.Lists.{In_at, In-map, In_Contains}
use Rattle.topos_model.specs.presheaves.Maps.{Components}
use Rattle.topos_model.specs.presheaves.NaturalMaps.{maps}
use Rattle.natural_search.specs.Search.{fitting}
use Rattle.natural_search.proofs.AssignedRows.{is_fitted, fitting_long}
use Rattle.natural_search.proofs.JoinedRows.{row_at, row_within}
use Rattle.natural_maps.specs.Places.{cut}
use Rattle.natural_maps.specs.Search.{bounds_of}
use Rattle.natural_maps.specs.Squares.{squares_of}
use Rattle.natural_maps.proofs.CutRows.{mapped_more}
use Rattle.natural_maps.proofs.FittingMaps.{maps_fitting, places_are}
use Rattle.natural_maps.proofs.listing.maps_of.Goals as goal

pub row-requires : goal.row-requires
row-requires c =
    let bounds = bounds_of c.args.cat.now c.args.p.now c.args.q.now in
    let squares = squares_of c.args.cat.now c.args.p.now in
    let all = fitting c.args.q.now.along squares bounds in
    let within = row_within all (length bounds) c.loop-i.i (fitting_long c.args.q.now.along squares bounds) (omega (arith, c.loop-i-test.true, c.requires.found.count)) in
    let n : c.loop-i.i * c.args.width ≡ c.loop-i.i * length bounds = ap (λ w. c.loop-i.i * w) c.requires.width in
    omega (arith, within, n, c.requires.width, ap length c.requires.found.numbers)

pub map_of-requires-clause-places : goal.map_of-requires-clause-places
map_of-requires-clause-places c =
    let bounds = bounds_of c.args.cat.now c.args.p.now c.args.q.now in
    let squares = squares_of c.args.cat.now c.args.p.now in
    let all = fitting c.args.q.now.along squares bounds in
    let low : c.loop-i.i < length all = omega (arith, c.loop-i-test.true, c.requires.found.count) in
    let is : c.row.result.now ≡ get_or all c.loop-i.i [] =
    c.row.ensures ∙ ap (λ w. take w (drop (c.loop-i.i * w) c.args.found.now.numbers)) c.requires.width ∙ ap (λ (l : List ℕ). take (length bounds) (drop (c.loop-i.i * length bounds) l)) c.requires.found.numbers
    ∙ row_at all (length bounds) c.loop-i.i (fitting_long c.args.q.now.along squares bounds) low in
    ap length is ∙ (is_fitted c.args.q.now.along squares bounds (get_or all c.loop-i.i []) (In_at all c.loop-i.i [] low)).whole ∙ places_are c.args.cat.now c.args.p.now c.args.q.now c.requires.domain

pub map_of-requires-clause-natural : goal.map_of-requires-clause-natural
map_of-requires-clause-natural c =
    let bounds = bounds_of c.args.cat.now c.args.p.now c.args.q.now in
    let squares = squares_of c.args.cat.now c.args.p.now in
    let all = fitting c.args.q.now.along squares bounds in
    let low : c.loop-i.i < length all = omega (arith, c.loop-i-test.true, c.requires.found.count) in
    let is : c.row.result.now ≡ get_or all c.loop-i.i [] =
    c.row.ensures ∙ ap (λ w. take w (drop (c.loop-i.i * w) c.args.found.now.numbers)) c.requires.width ∙ ap (λ (l : List ℕ). take (length bounds) (drop (c.loop-i.i * length bounds) l)) c.requires.found.numbers
    ∙ row_at all (length bounds) c.loop-i.i (fitting_long c.args.q.now.along squares bounds) low in
    let fits = maps_fitting c.args.cat.now c.args.p.now c.args.q.now c.laws.ensures.lawful c.requires.domain c.requires.codomain in
    let member : In (maps c.args.cat.now c.args.p.now c.args.q.now) (cut c.args.p.now.sizes (get_or all c.loop-i.i [])) =
    subst (λ (l : List Components). In l (cut c.args.p.now.sizes (get_or all c.loop-i.i []))) (sym fits) (In-map (cut c.args.p.now.sizes) all (get_or all c.loop-i.i []) (In_at all c.loop-i.i [] low)) in
    In_Contains (maps c.args.cat.now c.args.p.now c.args.q.now) _ (subst (λ (v : List ℕ). In (maps c.args.cat.now c.args.p.now c.args.q.now) (cut c.args.p.now.sizes v)) (sym is) member)

pub loop-i-preserved : goal.loop-i-preserved
loop-i-preserved c =
    let bounds = bounds_of c.args.cat.now c.args.p.now c.args.q.now in
    let squares = squares_of c.args.cat.now c.args.p.now in
    let all = fitting c.args.q.now.along squares bounds in
    let low : c.loop-i.i < length all = omega (arith, c.loop-i-test.true, c.requires.found.count) in
    let is : c.row.result.now ≡ get_or all c.loop-i.i [] =
    c.row.ensures ∙ ap (λ w. take w (drop (c.loop-i.i * w) c.args.found.now.numbers)) c.requires.width ∙ ap (λ (l : List ℕ). take (length bounds) (drop (c.loop-i.i * length bounds) l)) c.requires.found.numbers
    ∙ row_at all (length bounds) c.loop-i.i (fitting_long c.args.q.now.along squares bounds) low in
    c.in_ok-push.ensures.ok ∙ ap (λ (l : List Components). l ++ c.in_ok-map_of.field-0 ∷ []) c.loop-i.invariant
    ∙ ap (λ (m : Components). map (cut c.args.p.now.sizes) (take c.loop-i.i all) ++ m ∷ []) (c.in_ok-map_of.ensures ∙ ap (cut c.args.p.now.sizes) is)
    ∙ mapped_more (cut c.args.p.now.sizes) all c.loop-i.i low

pub returns : goal.returns
returns c =
    let bounds = bounds_of c.args.cat.now c.args.p.now c.args.q.now in
    let squares = squares_of c.args.cat.now c.args.p.now in
    let all = fitting c.args.q.now.along squares bounds in
    c.loop-i.invariant ∙ ap (map (cut c.args.p.now.sizes)) (take_all c.loop-i.i all (omega (arith, c.loop-i-test.false, c.requires.found.count)))
    ∙ sym (maps_fitting c.args.cat.now c.args.p.now c.args.q.now c.laws.ensures.lawful c.requires.domain c.requires.codomain)
