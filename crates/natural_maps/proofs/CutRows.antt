-- Numbers cut into rows, one row more.
use Rattle.std.proofs.Common.{◌≡◌, ℕ, zero, suc, ◌+◌, ◌<◌, ◌≤◌, List, [], ◌∷◌, ◌++◌, length, get_or, map, take, drop, refl, sym, ap, ◌∙◌, arith}
use Rattle.natural_maps.specs.Places.{offset, cut}
use Rattle.natural_maps.proofs.Offsets.{offset-apart}

drop_drop : (m n : ℕ) (xs : List ℕ) → drop n (drop m xs) ≡ drop (m + n) xs
drop_drop zero n xs = let e : n ≡ 0 + n = omega arith in ap (λ m. drop m xs) e
drop_drop (suc m) n [] = none n
  where
    none : (n : ℕ) → drop {A = ℕ} n [] ≡ drop (suc m + n) []
    none zero = let e : suc m + 0 ≡ suc m = omega arith in sym (ap (λ (i : ℕ). drop {A = ℕ} i []) e)
    none (suc n) = let e : suc m + suc n ≡ suc (m + suc n) = omega arith in sym (ap (λ (i : ℕ). drop {A = ℕ} i []) e)
drop_drop (suc m) n (x ∷ xs) = let e : suc m + n ≡ suc (m + n) = omega arith in drop_drop m n xs ∙ sym (ap (λ i. drop i (x ∷ xs)) e)

pub cut-more : (sizes values : List ℕ) (i : ℕ) → i < length sizes → cut (take (i + 1) sizes) values ≡ cut (take i sizes) values ++ take (get_or sizes i 0) (drop (offset sizes i) values) ∷ []
cut-more [] values i low = absurd (omega arith)
cut-more (n ∷ sizes) values zero low = refl
cut-more (n ∷ sizes) values (suc i) low =
    let e : suc i + 1 ≡ suc (i + 1) = omega arith in
    ap (λ m. cut (take m (n ∷ sizes)) values) e ∙ ap (λ l. take n values ∷ l) (cut-more sizes (drop n values) i (omega arith))
    ∙ ap (λ l. take n values ∷ cut (take i sizes) (drop n values) ++ take (get_or sizes i 0) l ∷ []) (drop_drop n (offset sizes i) values)

pub piece_within : (sizes : List ℕ) (i : ℕ) → i < length sizes → offset sizes i + get_or sizes i 0 ≤ offset sizes (length sizes)
piece_within sizes i low = offset-apart sizes i (length sizes) low low

-- one row more
pub mapped_more : {A B : Type 0} (f : List A → B) (xs : List (List A)) (i : ℕ) → i < length xs → map f (take i xs) ++ f (get_or xs i []) ∷ [] ≡ map f (take (i + 1) xs)
mapped_more f [] i low = absurd (omega arith)
mapped_more f (x ∷ xs) zero low = refl
mapped_more f (x ∷ xs) (suc i) low = let e : suc i + 1 ≡ suc (i + 1) = omega arith in ap (λ l. f x ∷ l) (mapped_more f xs i (omega arith)) ∙ sym (ap (λ n. map f (take n (x ∷ xs))) e)
