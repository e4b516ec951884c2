use Rattle.std.proofs.Common.{◌≡◌, ℕ, List, length, sym, ap, subst, ◌∙◌, refl}
use Rattle.std.specs.Prelude.{IfOk}
use Rattle.natural_search.specs.declared.squares.Square.{Square}
use Rattle.natural_search.specs.Rows.{AreAll}
use Rattle.natural_search.specs.Search.{fitting}
use Rattle.natural_search.specs.Squares.{AreSquares, AreBounded}
use Rattle.sealed_types.specs.Sealed.{sizes_in, restrictions_in}
use Rattle.function_objects.specs.Functions.{function_rows, function_squares, function_bounds, restriction_table}
use Rattle.function_objects.proofs.FunctionSquares.{squares_are, squares_bounded}
use Rattle.function_objects.proofs.listing.rows_on.Goals as goal

-- what holds of equal tables
moved : (G : List (List ℕ) → List ℕ → List Square → Type 0) (along along' : List (List ℕ)) (bounds bounds' : List ℕ) (squares squares' : List Square) → along ≡ along' → bounds ≡ bounds' → squares ≡ squares' → G along' bounds' squares' → G along bounds squares
moved G along along' bounds bounds' squares squares' d e f g =
    subst (λ (t : List (List ℕ)). G t bounds squares) (sym d) (subst (λ (l : List ℕ). G along' l squares) (sym e) (subst (λ (l : List Square). G along' bounds' l) (sym f) g))

pub all_rows-requires-clause-squares : goal.all_rows-requires-clause-squares
all_rows-requires-clause-squares c =
    moved (λ along bounds squares. AreSquares along (length bounds) squares) _ _ _ _ _ _ c.requires.table c.requires.bounds (c.as_slice.ensures ∙ c.in_ok-squares.ensures)
    (squares_are c.args.cat.now c.laws.ensures.lawful (sizes_in c.args.store.now c.args.s) (restrictions_in c.args.store.now c.args.s) (sizes_in c.args.store.now c.args.t) (restrictions_in c.args.store.now c.args.t) c.requires.domain.restricts c.args.c)

pub all_rows-requires-clause-bounded : goal.all_rows-requires-clause-bounded
all_rows-requires-clause-bounded c =
    moved AreBounded _ _ _ _ _ _ c.requires.table c.requires.bounds (c.as_slice.ensures ∙ c.in_ok-squares.ensures)
    (squares_bounded c.args.cat.now c.laws.ensures.lawful (sizes_in c.args.store.now c.args.s) (restrictions_in c.args.store.now c.args.s) (sizes_in c.args.store.now c.args.t) (restrictions_in c.args.store.now c.args.t) c.requires.domain.restricts c.args.c)

pub returns : goal.returns
unfolding function_rows
returns c =
    let size = sizes_in c.args.store.now c.args.s in
    let move = restrictions_in c.args.store.now c.args.s in
    let size' = sizes_in c.args.store.now c.args.t in
    let move' = restrictions_in c.args.store.now c.args.t in
    let k = c.args.cat.now in
    let e = moved (λ along bounds squares. fitting along squares bounds ≡ fitting (restriction_table k size' move') (function_squares k size move c.args.c) (function_bounds k size move size' c.args.c)) _ _ _ _ _ _ c.requires.table c.requires.bounds (c.as_slice.ensures ∙ c.in_ok-squares.ensures) refl in
    subst (λ (all : List (List ℕ)). IfOk c.all_rows.result (AreAll c.args.room all)) e c.all_rows.ensures
