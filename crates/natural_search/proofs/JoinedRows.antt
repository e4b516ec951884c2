-- Rows of one length behind one another.
use Rattle.std.proofs.Common.{◌≡◌, ℕ, zero, suc, ◌+◌, ◌*◌, ◌<◌, ◌≤◌, inl, inr, List, [], ◌∷◌, ◌++◌, length, get_or, take, drop, refl, sym, ap, ◌∙◌, arith}
use Rattle.std.proofs.lemmas.List.{length-append, take-append-le, take_all}
use Rattle.std.proofs.Math.Seq.{drop-append-add}
use Rattle.finite_lists.specs.Members.{In}
use Rattle.natural_search.specs.Rows.{joined, AreLong}

-- so many numbers from the start of a row on are the row
pub row_at : (all : List (List ℕ)) (w i : ℕ) → AreLong w all → i < length all → take w (drop (i * w) (joined all)) ≡ get_or all i []
row_at [] w i long low = absurd (omega arith)
row_at (x ∷ all) w zero long low =
    let n : length x ≡ w = long x (inl refl) in
    let z : 0 * w ≡ 0 = omega arith in
    ap (λ m. take w (drop m (x ++ joined all))) z ∙ take-append-le w x (joined all) (omega (arith, n)) ∙ take_all w x (omega (arith, n))
row_at (x ∷ all) w (suc i) long low =
    let n : length x ≡ w = long x (inl refl) in
    let m : suc i * w ≡ length x + i * w = omega (arith, n) in
    ap (λ m. take w (drop m (x ++ joined all))) m ∙ ap (take w) (drop-append-add x (joined all) (i * w)) ∙ row_at all w i (λ row j. long row (inr j)) (omega arith)

pub joined_length : (all : List (List ℕ)) (w : ℕ) → AreLong w all → length (joined all) ≡ length all * w
joined_length [] w long = omega arith
joined_length (x ∷ all) w long = let n : length x ≡ w = long x (inl refl) in omega (arith, n, length-append x (joined all), joined_length all w (λ row j. long row (inr j)))

pub row_within : (all : List (List ℕ)) (w i : ℕ) → AreLong w all → i < length all → i * w + w ≤ length (joined all)
row_within [] w i long low = absurd (omega arith)
row_within (x ∷ all) w zero long low = let n : length x ≡ w = long x (inl refl) in omega (arith, n, length-append x (joined all))
row_within (x ∷ all) w (suc i) long low = let n : length x ≡ w = long x (inl refl) in omega (arith, n, length-append x (joined all), row_within all w i (λ row j. long row (inr j)) (omega arith))
