-- Closure operators on sets of places, and the list of all closed sets. A set is a list of truth values, one for each place.
use Rattle.std.specs.Prelude.{◌≡◌, ℕ, zero, suc, Bool, true, false, ◌&&◌, List, [], ◌∷◌, ◌++◌, length, get_or, map, filter}

-- each place of a is a place of b
abbrev pub IsBelow : List Bool → List Bool → Type 0
IsBelow a b = (k : ℕ) → get_or a k false ≡ true → get_or b k false ≡ true

-- what a closure of the sets of n places must meet
pub record IsClosure (n : ℕ) (closure : List Bool → List Bool) : Type 0 where
  pub keeps : (a : List Bool) → length a ≡ n → length (closure a) ≡ n
  pub extensive : (a : List Bool) → length a ≡ n → IsBelow a (closure a)
  pub monotone : (a b : List Bool) → length a ≡ n → length b ≡ n → IsBelow a b → IsBelow (closure a) (closure b)
  pub idempotent : (a : List Bool) → length a ≡ n → closure (closure a) ≡ closure a

-- all sets of n places: without the first place, then with it
unfoldable pub bits : ℕ → List (List Bool)
bits zero = [] ∷ []
bits (suc n) = map (λ r. false ∷ r) (bits n) ++ map (λ r. true ∷ r) (bits n)

-- the members of a list at the places of a set
unfoldable pub chosen : {A : Type 0} → List A → List Bool → List A
chosen (x ∷ xs) (true ∷ a) = x ∷ chosen xs a
chosen (x ∷ xs) (false ∷ a) = chosen xs a
chosen (x ∷ xs) [] = []
chosen [] a = []

abbrev pub same_bit : Bool → Bool → Bool
same_bit true b = b
same_bit false true = false
same_bit false false = true

unfoldable pub same_bits : List Bool → List Bool → Bool
same_bits [] [] = true
same_bits [] (y ∷ b) = false
same_bits (x ∷ a) [] = false
same_bits (x ∷ a) (y ∷ b) = same_bit x y && same_bits a b

-- whether the closure leaves a set as it is
unfoldable pub is_closed : (List Bool → List Bool) → List Bool → Bool
is_closed closure a = same_bits (closure a) a

-- all closed sets of n places, in the order of `bits`
unfoldable pub closed_lists : ℕ → (List Bool → List Bool) → List (List Bool)
closed_lists n closure = filter (is_closed closure) (bits n)
