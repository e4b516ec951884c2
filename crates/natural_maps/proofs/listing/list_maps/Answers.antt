use Rattle.std.proofs.Common.{◌≡◌, ℕ, ◌<◌, ◌≤◌, List, length, refl, sym, ap, subst, ◌∙◌, arith, Option, None, Some}
use Rattle.std.proofs.lemmas.List.{length-map}
use Rattle.topos_model.specs.presheaves.NaturalMaps.{maps}
use Rattle.natural_search.specs.declared.squares.Square.{Square}
use Rattle.natural_search.specs.declared.rows.FoundRows.{FoundRows}
use Rattle.natural_search.specs.Rows.{AreAll}
use Rattle.natural_search.specs.Search.{fitting}
use Rattle.natural_search.specs.Squares.{AreSquares, AreBounded}
use Rattle.natural_maps.specs.Places.{cut}
use Rattle.natural_maps.specs.Search.{bounds_of}
use Rattle.natural_maps.specs.Squares.{squares_of}
use Rattle.natural_maps.proofs.FittingMaps.{are_squares, are_bounded, maps_fitting}
use Rattle.natural_maps.proofs.listing.list_maps.Goals as goal

-- what holds of equal tables
moved : (G : List (List ℕ) → List ℕ → List Square → Type 0) (along along' : List (List ℕ)) (bounds bounds' : List ℕ) (squares squares' : List Square) → along ≡ along' → bounds ≡ bounds' → squares ≡ squares' → G along' bounds' squares' → G along bounds squares
moved G along along' bounds bounds' squares squares' d e f g =
    subst (λ (t : List (List ℕ)). G t bounds squares) (sym d) (subst (λ (l : List ℕ). G along' l squares) (sym e) (subst (λ (l : List Square). G along' bounds' l) (sym f) g))

pub all_rows-requires-clause-squares : goal.all_rows-requires-clause-squares
all_rows-requires-clause-squares c =
    moved (λ along bounds squares. AreSquares along (length bounds) squares) _ _ _ _ _ _ c.rows-2.ensures (c.as_slice-2.ensures ∙ c.in_ok-bounds.ensures) (c.as_slice-3.ensures ∙ c.in_ok-squares.ensures)
    (are_squares c.args.cat.now c.args.p.now c.args.q.now c.laws.ensures.lawful c.requires.domain c.requires.codomain)

pub all_rows-requires-clause-bounded : goal.all_rows-requires-clause-bounded
all_rows-requires-clause-bounded c =
    moved AreBounded _ _ _ _ _ _ c.rows-2.ensures (c.as_slice-2.ensures ∙ c.in_ok-bounds.ensures) (c.as_slice-3.ensures ∙ c.in_ok-squares.ensures)
    (are_bounded c.args.cat.now c.args.p.now c.args.q.now c.laws.ensures.lawful c.requires.domain c.requires.codomain)

over_of : (room : ℕ) (all : List (List ℕ)) (found : Option FoundRows) → AreAll room all found → found ≡ None → room < length all
over_of room all None are e = are
over_of room all (Some rows) are e = absurd (cc e)

within_of : (room : ℕ) (all : List (List ℕ)) (found : Option FoundRows) (rows : FoundRows) → AreAll room all found → found ≡ Some rows → length all ≤ room
within_of room all None rows are e = absurd (cc e)
within_of room all (Some found) rows are e = are.1

pub returns-in-Some-clause-within : goal.returns-in-Some-clause-within
returns-in-Some-clause-within c =
    let k = c.args.cat.now in
    let P = c.args.p.now in
    let Q = c.args.q.now in
    let are = moved (λ along bounds squares. fitting along squares bounds ≡ fitting Q.along (squares_of k P) (bounds_of k P Q)) _ _ _ _ _ _ c.rows-2.ensures (c.as_slice-2.ensures ∙ c.in_ok-bounds.ensures) (c.as_slice-3.ensures ∙ c.in_ok-squares.ensures) refl in
    let count : length (maps k P Q) ≡ length (fitting Q.along (squares_of k P) (bounds_of k P Q)) = ap length (maps_fitting k P Q c.laws.ensures.lawful c.requires.domain c.requires.codomain) ∙ length-map (fitting Q.along (squares_of k P) (bounds_of k P Q)) (cut P.sizes) in
    omega (arith, within_of c.args.room _ _ _ c.in_ok-found.ensures c.in-Some.is, ap length are, count, ap length c.in_ok-maps_of-in-Some.ensures)

pub returns-clause-over : goal.returns-clause-over
returns-clause-over c =
    let k = c.args.cat.now in
    let P = c.args.p.now in
    let Q = c.args.q.now in
    let are = moved (λ along bounds squares. fitting along squares bounds ≡ fitting Q.along (squares_of k P) (bounds_of k P Q)) _ _ _ _ _ _ c.rows-2.ensures (c.as_slice-2.ensures ∙ c.in_ok-bounds.ensures) (c.as_slice-3.ensures ∙ c.in_ok-squares.ensures) refl in
    let count : length (maps k P Q) ≡ length (fitting Q.along (squares_of k P) (bounds_of k P Q)) = ap length (maps_fitting k P Q c.laws.ensures.lawful c.requires.domain c.requires.codomain) ∙ length-map (fitting Q.along (squares_of k P) (bounds_of k P Q)) (cut P.sizes) in
    omega (arith, over_of c.args.room _ _ c.in_ok-found.ensures c.in-None.is, ap length are, count)
