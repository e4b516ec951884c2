-- Rows of one length that stand behind one another.
use Rattle.std.proofs.Common.{◌≡◌, ℕ, zero, suc, ◌+◌, ◌-◌, ◌*◌, ◌<◌, ◌≤◌, List, [], ◌∷◌, ◌++◌, length, get_or, take, drop, slice_range, inl, inr, refl, sym, ap, ◌∙◌, arith}
use Rattle.std.specs.List.{flat_map, range_with_len}
use Rattle.std.proofs.Math.Nat.{mul-le-mul_right}
use Rattle.std.proofs.lemmas.Grind.{flat_map-append}
use Rattle.std.proofs.lemmas.List.{length-append, get_or_append_left, get_or-append_right, append-nil, same_lists, get_or_default, length-take-le, length-drop}
use Rattle.std.proofs.lemmas.List.FromFn.{get_or-range_with_len, length-range_with_len}
use Rattle.finite_lists.specs.Members.{In}
use Rattle.finite_lists.proofs.Lists.{In_at}
use Rattle.finite_lists.proofs.DistinctLists.{In-range_from}
use Rattle.sealed_functors.specs.Rows.{part}
use Rattle.type_rows.proofs.ArrowPlaces.{range_split, part_entry}

module _ {A B : Type 0} (row : A → List B) (w : ℕ) where
  pub length-joined : (xs : List A) → ((x : A) → In xs x → length (row x) ≡ w) → length (flat_map row xs) ≡ length xs * w
  length-joined [] each = omega arith
  length-joined (x ∷ xs) each =
      let more : suc (length xs) * w ≡ w + length xs * w = omega arith in
      length-append (row x) (flat_map row xs) ∙ omega (arith, more, each x (inl refl), length-joined xs (λ y i. each y (inr i)))

  pub joined_at : (xs : List A) (i a : ℕ) (e : A) (d : B) → ((x : A) → In xs x → length (row x) ≡ w) → i < length xs → a < w →
      get_or (flat_map row xs) (i * w + a) d ≡ get_or (row (get_or xs i e)) a d
  joined_at [] i a e d each low inside = absurd (omega (arith, low))
  joined_at (x ∷ xs) zero a e d each low inside =
      let z : zero * w + a ≡ a = omega arith in
      ap (λ n. get_or (row x ++ flat_map row xs) n d) z ∙ get_or_append_left (row x) (flat_map row xs) d a (omega (arith, inside, each x (inl refl)))
  joined_at (x ∷ xs) (suc i) a e d each low inside =
      let s : suc i * w ≡ w + i * w = omega arith in
      let m : suc i * w + a - w ≡ i * w + a = omega (arith, s) in
      get_or-append_right (row x) (flat_map row xs) w (suc i * w + a) d (each x (inl refl)) (omega (arith, s))
      ∙ ap (λ n. get_or (flat_map row xs) n d) m ∙ joined_at xs i a e d (λ y j. each y (inr j)) (omega (arith, low)) inside

-- rows by their numbers
module _ {B : Type 0} (row : ℕ → List B) (w n : ℕ) (each : (k : ℕ) → k < n → length (row k) ≡ w) where
  each_in : (k : ℕ) → In (range_with_len 0 n) k → length (row k) ≡ w
  each_in k i = let r = In-range_from 0 n k i in each k (omega (arith, r.1))

  pub length-rows : length (flat_map row (range_with_len 0 n)) ≡ n * w
  length-rows = length-joined row w (range_with_len 0 n) each_in ∙ ap (λ m. m * w) (length-range_with_len 0 n)

  pub rows_at : (k i : ℕ) (d : B) → k < n → i < w → get_or (flat_map row (range_with_len 0 n)) (k * w + i) d ≡ get_or (row k) i d
  rows_at k i d low inside =
      let z : 0 + k ≡ k = omega arith in
      joined_at row w (range_with_len 0 n) k i 0 d each_in (omega (arith, low, length-range_with_len 0 n)) inside
      ∙ ap (λ j. get_or (row j) i d) (get_or-range_with_len 0 n k 0 low ∙ z)

-- one row more
pub rows_more : {B : Type 0} (row : ℕ → List B) (n : ℕ) → flat_map row (range_with_len 0 (n + 1)) ≡ flat_map row (range_with_len 0 n) ++ row n
rows_more row n =
    ap (flat_map row) (range_split 0 n 1 ∙ ap (λ m. range_with_len 0 n ++ m ∷ []) (let z : 0 + n ≡ n = omega arith in z)) ∙ flat_map-append row (range_with_len 0 n) (n ∷ [])
    ∙ ap (λ t. flat_map row (range_with_len 0 n) ++ t) (append-nil (row n))

-- a row as a part of all
pub joined_part : {A : Type 0} (row : A → List ℕ) (w : ℕ) (xs : List A) (k : ℕ) (e : A) → ((x : A) → In xs x → length (row x) ≡ w) → k < length xs → part w (flat_map row xs) k ≡ row (get_or xs k e)
joined_part row w xs k e each low =
    let all = flat_map row xs in
    let m : suc k * w ≤ length xs * w = mul-le-mul_right w (omega (arith, low)) in
    let s : suc k * w ≡ k * w + w = omega arith in
    let long : length all ≡ length xs * w = length-joined row w xs each in
    let here : length (row (get_or xs k e)) ≡ w = each (get_or xs k e) (In_at xs k e low) in
    let z : k * w + w - k * w ≡ w = omega arith in
    let l : length (part w all k) ≡ w = ap (λ j. length (take j (drop (k * w) all))) z ∙ length-take-le w (drop (k * w) all) (omega (arith, length-drop (k * w) all, long, m, s)) in
    same_lists (part w all k) (row (get_or xs k e)) (l ∙ sym here) (λ i d inside.
    let inside' : i < w = omega (arith, inside, l) in
    get_or_default (part w all k) i d 0 inside ∙ part_entry w all k i inside' ∙ joined_at row w xs k i e 0 each low inside' ∙ get_or_default (row (get_or xs k e)) i 0 d (omega (arith, inside', here)))

-- parts of no length
pub no_part : (xs : List ℕ) (k : ℕ) → xs ≡ [] → part 0 xs k ≡ []
no_part xs k e = ap (λ ys. part 0 ys k) e ∙ none (k * 0)
  where
    nothing : (xs : List ℕ) → take 0 xs ≡ []
    nothing [] = refl
    nothing (x ∷ xs) = refl

    none : (m : ℕ) → slice_range {X = ℕ} [] m (m + 0) ≡ []
    none m = let e : m + 0 - m ≡ 0 = omega arith in ap (λ j. take j (drop {A = ℕ} m [])) e ∙ nothing (drop m [])
