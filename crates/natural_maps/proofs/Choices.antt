-- Components from a choice at each element.
use Rattle.std.proofs.Common.{◌≡◌, ℕ, ◌<◌, List, [], length, get_or, map, sym, ap, ◌∙◌, subst, arith, inl, inr}
use Rattle.std.specs.List.{range_with_len}
use Rattle.std.proofs.lemmas.Bool.{cases_lt}
use Rattle.std.proofs.lemmas.List.FromFn.{length-map-range_with_len, get_or-map-range_with_len}
use Rattle.topos_model.specs.presheaves.Maps.{Components, component, apply}

chosen : (n c x s : ℕ) (P : ℕ → Type 0) → (c < n → x < s → (v : ℕ) × P v) → (v : ℕ) × (c < n → x < s → P v)
chosen n c x s P f =
    elim (cases_lt c n) [
      | inl h ↦ elim (cases_lt x s) [
        | inl l ↦ let w : (v : ℕ) × P v = f h l in (w.0, λ _ _. w.1)
        | inr l ↦ (0, λ _ m. absurd (omega arith))
      ]
      | inr h ↦ (0, λ m _. absurd (omega arith))
    ]

-- components with a property at each of so many elements of each of n objects
pub record AreChosen (n : ℕ) (s : ℕ → ℕ) (P : ℕ → ℕ → ℕ → Type 0) : Type 0 where
  pub components : Components
  pub objects : length components ≡ n
  pub total : (c : ℕ) → c < n → length (component components c) ≡ s c
  pub each : (c x : ℕ) → c < n → x < s c → P c x (apply components c x)

pub choose : (n : ℕ) (s : ℕ → ℕ) (P : ℕ → ℕ → ℕ → Type 0) → ((c x : ℕ) → c < n → x < s c → (v : ℕ) × P c x v) → AreChosen n s P
choose n s P f =
    let g : ℕ → ℕ → ℕ = λ c x. (chosen n c x (s c) (P c x) (f c x)).0 in
    let row : ℕ → List ℕ = λ c. map (g c) (range_with_len 0 (s c)) in
    let at : (c : ℕ) → c < n → get_or (map row (range_with_len 0 n)) c [] ≡ row c = λ c h. get_or-map-range_with_len row 0 n c c [] h (omega arith) in
    record {
      components = map row (range_with_len 0 n);
      objects = length-map-range_with_len row 0 n;
      total = λ c h. ap length (at c h) ∙ length-map-range_with_len (g c) 0 (s c);
      each = λ c x h l.
          subst (P c x) (sym (ap (λ (r : List ℕ). get_or r x 0) (at c h) ∙ get_or-map-range_with_len (g c) 0 (s c) x x 0 l (omega arith)))
          ((chosen n c x (s c) (P c x) (f c x)).1 h l);
    }

-- a list with a property at each of its n places
pub record IsChosen (n : ℕ) (P : ℕ → ℕ → Type 0) : Type 0 where
  pub list : List ℕ
  pub count : length list ≡ n
  pub each : (x : ℕ) → x < n → P x (get_or list x 0)

pub list_of : (n : ℕ) (g : ℕ → ℕ) → IsChosen n (λ x v. v ≡ g x)
list_of n g = record {
  list = map g (range_with_len 0 n);
  count = length-map-range_with_len g 0 n;
  each = λ x l. get_or-map-range_with_len g 0 n x x 0 l (omega arith);
}
