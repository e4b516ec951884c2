use Rattle.std.proofs.Common.{◌≡◌, ℕ, ◌+◌, List, length, refl, sym, subst, ◌∙◌}
use Rattle.std.specs.Prelude.{Result, IfOk}
use Rattle.sieve_table.proofs.SieveMembers.{sieve_of}
use Rattle.natural_search.specs.declared.squares.Square.{Square}
use Rattle.natural_search.specs.declared.rows.FirstRows.{FirstRows}
use Rattle.natural_search.specs.Search.{fitting}
use Rattle.natural_search.specs.Squares.{AreSquares, AreBounded}
use Rattle.natural_search.specs.Rows.{AreFirst}
use Rattle.sheaf_test.specs.Families.{bounds_of, squares_of}
use Rattle.sheaf_test.proofs.FittingFamilies.{are_squares, are_bounded, fitting_families}
use Rattle.sheaf_test.proofs.families.first_families.Goals as goal

-- what holds of equal tables
moved : (G : List (List ℕ) → List ℕ → List Square → Type 0) (along along' : List (List ℕ)) (bounds bounds' : List ℕ) (squares squares' : List Square) → along ≡ along' → bounds ≡ bounds' → squares ≡ squares' → G along' bounds' squares' → G along bounds squares
moved G along along' bounds bounds' squares squares' d e f g =
    subst (λ (t : List (List ℕ)). G t bounds squares) (sym d) (subst (λ (l : List ℕ). G along' l squares) (sym e) (subst (λ (l : List Square). G along' bounds' l) (sym f) g))

first_moved : {E : Type 0} (r : Result FirstRows E) (n m : ℕ) (all rows : List (List ℕ)) → n ≡ m → all ≡ rows → IfOk r (AreFirst (n + 1) all) → IfOk r (AreFirst (m + 1) rows)
first_moved r n m all rows d e h = subst (λ (l : List (List ℕ)). IfOk r (AreFirst (m + 1) l)) e (subst (λ i. IfOk r (AreFirst (i + 1) all)) d h)

pub bounds-requires-clause-arrows : goal.bounds-requires-clause-arrows
bounds-requires-clause-arrows c = λ f i. ((sieve_of c.args.cat.now c.args.c c.args.arrows.now c.requires.sieve).within f i).0

pub first_rows-requires-clause-squares : goal.first_rows-requires-clause-squares
first_rows-requires-clause-squares c =
    let k = c.args.cat.now in
    let S = c.args.arrows.now in
    moved (λ along bounds squares. AreSquares along (length bounds) squares) _ _ _ _ _ _ c.rows.ensures (c.as_slice.ensures ∙ c.in_ok-bounds.ensures) (c.as_slice-2.ensures ∙ c.in_ok-squares.ensures)
    (are_squares k c.args.x.now c.requires.functor c.args.c S (sieve_of k c.args.c S c.requires.sieve))

pub first_rows-requires-clause-bounded : goal.first_rows-requires-clause-bounded
first_rows-requires-clause-bounded c =
    let k = c.args.cat.now in
    let S = c.args.arrows.now in
    moved AreBounded _ _ _ _ _ _ c.rows.ensures (c.as_slice.ensures ∙ c.in_ok-bounds.ensures) (c.as_slice-2.ensures ∙ c.in_ok-squares.ensures)
    (are_bounded k c.args.x.now c.requires.functor c.args.c S (sieve_of k c.args.c S c.requires.sieve))

pub returns : goal.returns
returns c =
    let k = c.args.cat.now in
    let X = c.args.x.now in
    let S = c.args.arrows.now in
    let are = moved (λ along bounds squares. fitting along squares bounds ≡ fitting X.along (squares_of k S) (bounds_of k X S)) _ _ _ _ _ _ c.rows.ensures (c.as_slice.ensures ∙ c.in_ok-bounds.ensures) (c.as_slice-2.ensures ∙ c.in_ok-squares.ensures) refl
    ∙ fitting_families k X c.requires.functor c.args.c S (sieve_of k c.args.c S c.requires.sieve) in
    first_moved c.first_rows.result _ _ _ _ c.size.ensures are c.first_rows.ensures
