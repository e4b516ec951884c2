-- From which sets the closed sets of a list were made.
use Rattle.std.specs.Prelude.{◌≡◌, ℕ, zero, suc, ◌+◌, ◌-◌, ◌<◌, ◌≤◌, Bool, true, false, List, [], ◌++◌, length, get_or, slice_set, take, replicate}
use Rattle.closed_sets.specs.declared.list.Origin.{Origin}
use Rattle.closed_sets.specs.declared.list.Refusal.{Refusal}
use Rattle.closed_sets.specs.Closed.{IsBelow}

abbrev pub set_at : List (List Bool) → ℕ → List Bool
set_at sets i = get_or sets i []

abbrev pub origin_at : List Origin → ℕ → Origin
origin_at origins i = get_or origins i (record { limit = 0; before = 0 })

-- a closed set that its places before the limit span, the last of which was put into a set that has the others and a lower limit
pub record IsMade (n : ℕ) (closure : List Bool → List Bool) (sets : List (List Bool)) (origins : List Origin) (a : List Bool) (o : Origin) : Type 0 where
  pub places : length a ≡ n
  pub within : o.limit ≤ n
  pub spanned : closure (take o.limit a ++ replicate (n - o.limit) false) ≡ a
  pub known : 0 < o.limit → o.before < length sets
  pub lower : 0 < o.limit → (origin_at origins o.before).limit < o.limit
  pub put : (j : ℕ) → j + 1 ≡ o.limit → get_or a j false ≡ true
  pub above : 0 < o.limit → IsBelow (set_at sets o.before) a
  pub alike : (j k : ℕ) → j + 1 ≡ o.limit → k < j → get_or a k false ≡ get_or (set_at sets o.before) k false

-- each set of the list with its origin
abbrev pub AreMade : ℕ → (List Bool → List Bool) → List (List Bool) → List Origin → Type 0
AreMade n closure sets origins = (i : ℕ) → i < length sets → IsMade n closure sets origins (set_at sets i) (origin_at origins i)

-- from the set number i one comes to the set number q in so many steps, each to the set that one was made from
abbrev pub Leads : List Origin → ℕ → ℕ → ℕ → Type 0
Leads origins zero q i = q ≡ i
Leads origins (suc m) q i = (0 < (origin_at origins i).limit) × Leads origins m q (origin_at origins i).before

-- each active set is one from which the set number i was made, or that set
abbrev pub IsPath : List Origin → List Bool → ℕ → Type 0
IsPath origins active i = (q : ℕ) → get_or active q false ≡ true → (m : ℕ) × Leads origins m q i

abbrev pub refusal_at : List Refusal → ℕ → Refusal
refusal_at refusals j = get_or refusals j (record { at = 0; new = 0 })

-- what is kept for a place, if it is a place before that: the set at which it was refused has it then as a new one
abbrev pub AreRefused : (List Bool → List Bool) → List (List Bool) → List Refusal → Type 0
AreRefused closure sets refusals =
    (j : ℕ) → j < length refusals → (refusal_at refusals j).new < j →
    ((refusal_at refusals j).at < length sets) × (get_or (closure (slice_set (set_at sets (refusal_at refusals j).at) j true)) (refusal_at refusals j).new false ≡ true)
