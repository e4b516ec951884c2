-- The rows found so far are the first ones.
use Rattle.std.proofs.Common.{◌≡◌, ℕ, zero, suc, ◌+◌, ◌<◌, ◌≤◌, true, false, min, nat_lt, List, [], ◌∷◌, ◌++◌, length, take, drop, refl, sym, ap, ◌∙◌, arith}
use Rattle.std.proofs.lemmas.List.{append-nil, append_assoc, take_all, length-take-le}
use Rattle.std.proofs.lemmas.Bool.{le-ltb}
use Rattle.topos_model.specs.presheaves.NaturalMaps.{choices}
use Rattle.natural_search.specs.declared.rows.FirstRows.{FirstRows}
use Rattle.natural_search.specs.declared.squares.Square.{Square}
use Rattle.natural_search.specs.Search.{fitting}
use Rattle.natural_search.specs.Squares.{is_fitting, AreSquares}
use Rattle.natural_search.specs.Rows.{joined, AreRows, AreFirst}

-- the row after the first ones
pub dropped : (all : List (List ℕ)) (n : ℕ) (row : List ℕ) (rest : List (List ℕ)) → drop n all ≡ row ∷ rest → rest ≡ drop (n + 1) all
dropped [] zero row rest e = absurd (cc e)
dropped [] (suc n) row rest e = absurd (cc e)
dropped (x ∷ all) zero row rest e = sym (ap (drop 1) e)
dropped (x ∷ all) (suc n) row rest e = let m : suc n + 1 ≡ suc (n + 1) = omega arith in dropped all n row rest e ∙ ap (λ i. drop i (x ∷ all)) (sym m)

pub some_left : (all : List (List ℕ)) (n : ℕ) (row : List ℕ) (rest : List (List ℕ)) → drop n all ≡ row ∷ rest → n < length all
some_left [] zero row rest e = absurd (cc e)
some_left [] (suc n) row rest e = absurd (cc e)
some_left (x ∷ all) zero row rest e = omega arith
some_left (x ∷ all) (suc n) row rest e = omega (arith, some_left all n row rest e)

pub none_left : (all : List (List ℕ)) (n : ℕ) → drop n all ≡ [] → length all ≤ n
none_left [] n e = omega arith
none_left (x ∷ all) zero e = absurd (cc e)
none_left (x ∷ all) (suc n) e = omega (arith, none_left all n e)

abbrev head : List (List ℕ) → List ℕ
head [] = []
head (x ∷ all) = x

-- one more row
pub one_more : (all : List (List ℕ)) (n : ℕ) (row : List ℕ) (rest : List (List ℕ)) → drop n all ≡ row ∷ rest → joined (take n all) ++ row ≡ joined (take (n + 1) all)
one_more [] zero row rest e = absurd (cc e)
one_more [] (suc n) row rest e = absurd (cc e)
one_more (x ∷ all) zero row rest e = ap head (sym e) ∙ sym (append-nil x)
one_more (x ∷ all) (suc n) row rest e =
    let m : suc n + 1 ≡ suc (n + 1) = omega arith in
    append_assoc x (joined (take n all)) row ∙ ap (λ l. x ++ l) (one_more all n row rest e) ∙ ap (λ i. joined (take i (x ∷ all))) (sym m)

-- the first rows are found
pub taken : (all : List (List ℕ)) (room count : ℕ) (numbers : List ℕ) → count ≡ room → count ≤ length all → numbers ≡ joined (take count all) → AreRows (take room all) (record { count = count; numbers = numbers })
taken all room count numbers e within is = record {
  count = sym (ap (λ n. length (take n all)) (sym e) ∙ length-take-le count all within);
  numbers = is ∙ ap (λ n. joined (take n all)) e;
}

-- and all are found
pub whole_taken : (all : List (List ℕ)) (room count : ℕ) (numbers : List ℕ) → length all ≤ count → count ≤ length all → count ≤ room → numbers ≡ joined (take count all) → AreRows (take room all) (record { count = count; numbers = numbers })
whole_taken all room count numbers none found within is = record {
  count = (let all_of : length (take room all) ≡ length all = ap length (take_all room all (omega arith)) in omega (arith, all_of));
  numbers = is ∙ ap joined (take_all count all none ∙ sym (take_all room all (omega arith)));
}

-- the empty row is the only one where there is no place
pub one_empty : (room : ℕ) (first : FirstRows) → first.rows.count ≡ min room 1 → first.rows.numbers ≡ [] → first.more ≡ nat_lt room 1 → AreFirst room ([] ∷ []) first
one_empty zero first count numbers more = record {
  rows = record { count = count; numbers = numbers };
  more = λ e. omega arith;
  no_more = λ e. (let f : true ≡ false = sym more ∙ e in absurd cc);
}
one_empty (suc room) first count numbers more = record {
  rows = record { count = count ∙ (let e : min (suc room) 1 ≡ 1 = omega arith in e) ∙ sym (all_of room); numbers = numbers ∙ sym (none_of room) };
  more = λ e. (let f : nat_lt (suc room) 1 ≡ false = le-ltb (suc room) 1 (omega arith) in let g : true ≡ false = sym e ∙ more ∙ f in absurd cc);
  no_more = λ e. omega arith;
}
  where
    all_of : (room : ℕ) → length (take {A = List ℕ} (suc room) ([] ∷ [])) ≡ 1
    all_of zero = refl
    all_of (suc room) = refl

    none_of : (room : ℕ) → joined (take {A = List ℕ} (suc room) ([] ∷ [])) ≡ []
    none_of zero = refl
    none_of (suc room) = refl

no_squares : (along : List (List ℕ)) (squares : List Square) → length squares ≡ 0 → fitting along squares [] ≡ [] ∷ []
unfolding fitting choices is_fitting
no_squares along [] e = refl
no_squares along (s ∷ squares) e = absurd (omega arith)

pub no_places : (along : List (List ℕ)) (squares : List Square) (bounds : List ℕ) → length bounds ≡ 0 → AreSquares along (length bounds) squares → [] ∷ [] ≡ fitting along squares bounds
no_places along squares [] e are = sym (no_squares along squares (none squares are))
  where
    none : (squares : List Square) → AreSquares along 0 squares → length squares ≡ 0
    none [] are = refl
    none (s ∷ squares) are = absurd (omega (arith, are.element 0 s (omega arith)))
no_places along squares (b ∷ bounds) e are = absurd (omega arith)
