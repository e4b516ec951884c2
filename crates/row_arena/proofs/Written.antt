-- What a page holds after a row is written behind what it held.
use Rattle.std.proofs.Common.{◌≡◌, ℕ, ◌+◌, ◌≤◌, List, [], ◌∷◌, ◌++◌, length, take, drop, refl, sym, ap, ◌∙◌, arith}
use Rattle.std.proofs.lemmas.List.{length-take-le, take-append-le, take_all}
use Rattle.std.proofs.lemmas.Grind.{common_steps}
use Rattle.std.proofs.Math.ListN.{take-append-drop}
use Rattle.row_arena.proofs.Keeping.{window_kept}

pub front_written : (xs ys row rest : List ℕ) (n : ℕ) → n ≤ length xs → ys ≡ take n xs ++ row ++ rest → take (n + length row) ys ≡ take n xs ++ row
front_written xs ys row rest n l e =
    let long : length (take n xs) ≡ n = length-take-le n xs l in
    let sum : length (take n xs ++ row) ≡ n + length row = grind (arith, common_steps) in
    ap (take (n + length row)) e
    ∙ take-append-le (n + length row) (take n xs ++ row) rest (omega (arith, sum))
    ∙ take_all (n + length row) (take n xs ++ row) (omega (arith, sum))

-- a list with no member
pub none_in : (row : List ℕ) → length row ≤ 0 → row ≡ []
none_in [] l = refl
none_in (x ∷ row) l = absurd (omega (arith, l))

-- a run of what is written is a run of all
pub run_of_written : (at len n : ℕ) (xs : List ℕ) → at + len ≤ length (take n xs) → take len (drop at xs) ≡ take len (drop at (take n xs))
run_of_written at len n xs l = ap (λ ys. take len (drop at ys)) (sym (take-append-drop n xs)) ∙ window_kept at len (take n xs) (drop n xs) l

pub length_written : (n : ℕ) (xs : List ℕ) → n ≤ length xs → length (take n xs) ≡ n
length_written n xs l = length-take-le n xs l
