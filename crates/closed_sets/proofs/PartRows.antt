-- The parts of the places of a set, one place after another.
use Rattle.std.proofs.Common.{◌≡◌, ℕ, ◌+◌, ◌<◌, Bool, true, false, ◌&&◌, ◌||◌, inl, inr, List, [], ◌∷◌, ◌++◌, length, get_or, set, take, eqb, refl, sym, ap, ◌∙◌, arith}
use Rattle.std.proofs.lemmas.Bool.{or_right, eq-eqb, ne_eqb, cases_eq, cases_lt, lt-ltb, le-ltb}
use Rattle.std.proofs.lemmas.List.{take_more, length-set, length-take-le, get_or-set_same, get_or-set_other}
use Rattle.closed_sets.specs.Ideals.{is_below_some}
use Rattle.closed_sets.specs.Parts.{is_part, is_part_of_some, pair_parts}

or_no : (b : Bool) → (b || false) ≡ b
or_no true = refl
or_no false = refl

or_assoc : (a b c : Bool) → (a || (b || c)) ≡ ((a || b) || c)
or_assoc true b c = refl
or_assoc false b c = refl

some_push : (below : ℕ → ℕ → Bool) (u i : ℕ) (xs : List Bool) (x : Bool) →
    is_below_some below u i (xs ++ x ∷ []) ≡ (is_below_some below u i xs || (x && below u (i + length xs)))
some_push below u i [] x = or_no (x && below u i) ∙ (let z : i ≡ i + 0 = omega arith in ap (λ n. x && below u n) z)
some_push below u i (y ∷ xs) x =
    ap (λ b. (y && below u i) || b) (some_push below u (i + 1) xs x ∙ (let s : i + 1 + length xs ≡ i + length (y ∷ xs) = omega arith in ap (λ n. is_below_some below u (i + 1) xs || (x && below u n)) s))
    ∙ or_assoc (y && below u i) (is_below_some below u (i + 1) xs) (x && below u (i + length (y ∷ xs)))

some_more : (parts : ℕ → ℕ × ℕ) (u : ℕ) (a : List Bool) (k : ℕ) → k < length a →
    is_part_of_some parts u (take (k + 1) a) ≡ (is_part_of_some parts u (take k a) || (get_or a k false && is_part parts u k))
some_more parts u a k low =
    ap (is_part_of_some parts u) (take_more a k false low) ∙ some_push (is_part parts) u 0 (take k a) (get_or a k false)
    ∙ (let e : 0 + length (take k a) ≡ k = omega (arith, length-take-le k a (omega arith)) in ap (λ n. is_part_of_some parts u (take k a) || (get_or a k false && is_part parts u n)) e)

set_one : (xs : List Bool) (l u : ℕ) → l < length xs → get_or (set xs l true) u false ≡ (get_or xs u false || eqb l u)
set_one xs l u low =
    elim (cases_eq l u) [
      | inl e ↦ ap (λ v. get_or (set xs l true) v false) (sym e) ∙ get_or-set_same xs l true false low ∙ sym (or_right (get_or xs u false) (eqb l u) (eq-eqb l u e))
      | inr n ↦ get_or-set_other xs l u true false (λ e. n (sym e)) ∙ sym (ap (λ b. get_or xs u false || b) (ne_eqb l u n) ∙ or_no (get_or xs u false))
    ]

-- a place of the set marks its two parts
pub marked : (parts : ℕ → ℕ × ℕ) (a : List Bool) (k : ℕ) (xs : List Bool) (u : ℕ) → k < length a → get_or a k false ≡ true → (parts k).0 < length xs → (parts k).1 < length xs →
    get_or xs u false ≡ is_part_of_some parts u (take k a) →
    get_or (set (set xs (parts k).0 true) (parts k).1 true) u false ≡ is_part_of_some parts u (take (k + 1) a)
marked parts a k xs u low h l r e =
    set_one (set xs (parts k).0 true) (parts k).1 u (omega (arith, length-set xs (parts k).0 true, r))
    ∙ ap (λ b. b || eqb (parts k).1 u) (set_one xs (parts k).0 u l)
    ∙ sym (or_assoc (get_or xs u false) (eqb (parts k).0 u) (eqb (parts k).1 u))
    ∙ ap (λ b. b || is_part parts u k) e
    ∙ ap (λ b. is_part_of_some parts u (take k a) || (b && is_part parts u k)) (sym h)
    ∙ sym (some_more parts u a k low)

-- another place marks nothing
pub unmarked : (parts : ℕ → ℕ × ℕ) (a : List Bool) (k : ℕ) (u : ℕ) → k < length a → get_or a k false ≡ false → is_part_of_some parts u (take k a) ≡ is_part_of_some parts u (take (k + 1) a)
unmarked parts a k u low h =
    sym (some_more parts u a k low ∙ ap (λ b. is_part_of_some parts u (take k a) || (b && is_part parts u k)) h ∙ or_no (is_part_of_some parts u (take k a)))

-- the parts of the 63 places are among the first fourteen
pub parts_low : (k : ℕ) → k < 63 → ((pair_parts k).0 < 14) × ((pair_parts k).1 < 14)
unfolding pair_parts
parts_low k low =
    elim (cases_lt k 14) [
      | inl l ↦ rw (lt-ltb k 14 l) (l, l)
      | inr h ↦ rw (le-ltb k 14 h) ((omega arith), (omega arith))
    ]
