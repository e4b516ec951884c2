-- The places of a sieve's arrows, and a family's elements by their places.
use Rattle.std.proofs.Common.{◌≡◌, ◌≢◌, ℕ, zero, suc, ◌+◌, ◌<◌, true, inl, inr, List, [], ◌∷◌, ◌++◌, eqb, length, get_or, set, map, take, flat_map, refl, sym, ap, ◌∙◌, arith, append-nil, get_or-set_same, get_or-set_other}
use Rattle.std.specs.List.{range_with_len}
use Rattle.std.proofs.lemmas.Bool.{cases_Bool, cases_eq, eqb-true, eq-eqb, ne_eqb}
use Rattle.std.proofs.lemmas.List.{map-append, take_more, get_or-map, length-map}
use Rattle.std.proofs.lemmas.Grind.{flat_map-append}
use Rattle.finite_lists.specs.Members.{In}
use Rattle.finite_lists.proofs.Lists.{In_at}
use Rattle.topos_model.specs.topologies.Sheaves.{element_at}
use Rattle.fin_category.proofs.ArrowLists.{Rises}
use Rattle.presheaf_core.proofs.Tables.{numbers_more}
use Rattle.natural_search.specs.declared.squares.Square.{Square}
use Rattle.sheaf_test.specs.Families.{place, IsPlaceTable}

later : (g : ℕ) (S : List ℕ) (f : ℕ) → In (g ∷ S) f → eqb g f ≢ true → In S f
later g S f (inl e) other = absurd (other (eq-eqb g f e))
later g S f (inr i) other = i

-- an arrow of a sieve stands at its place
pub place_within : (S : List ℕ) (f : ℕ) → In S f → place S f < length S
place_within [] f i = absurd i
place_within (g ∷ S) f i =
    elim (cases_Bool (eqb g f)) [
      | inl e ↦ rw e (omega arith)
      | inr e ↦ let low = place_within S f (later g S f i (λ t. cc)) in rw e (omega (arith, low))
    ]

pub at_place : (S : List ℕ) (f : ℕ) → In S f → get_or S (place S f) 0 ≡ f
at_place [] f i = absurd i
at_place (g ∷ S) f i =
    elim (cases_Bool (eqb g f)) [
      | inl e ↦ rw e (eqb-true g f e)
      | inr e ↦ rw e (at_place S f (later g S f i (λ t. cc)))
    ]

pub place_at : (S : List ℕ) (i : ℕ) → Rises S → i < length S → place S (get_or S i 0) ≡ i
place_at [] i rises low = absurd (omega (arith, low))
place_at (g ∷ S) zero rises low = rw (eq-eqb g g refl) refl
place_at (g ∷ S) (suc i) rises low =
    let member : In S (get_or S i 0) = In_at S i 0 (omega (arith, low)) in
    let above : g < get_or S i 0 = rises.0 (get_or S i 0) member in
    rw (ne_eqb g (get_or S i 0) (λ e. omega (arith, above, e))) (ap suc (place_at S i rises.1 (omega (arith, low))))

-- a family has its element at an arrow at the arrow's place
pub element_at-place : (S family : List ℕ) (f : ℕ) → In S f → length family ≡ length S → element_at S family f ≡ get_or family (place S f) 0
element_at-place [] family f i long = absurd i
element_at-place (g ∷ S) [] f i long = absurd (omega (arith, long))
element_at-place (g ∷ S) (x ∷ family) f i long =
    elim (cases_Bool (eqb g f)) [
      | inl e ↦ rw e refl
      | inr e ↦ rw e (element_at-place S family f (later g S f i (λ t. cc)) (omega (arith, long)))
    ]

-- likewise by a place
pub element_at-index : (S family : List ℕ) (i : ℕ) → Rises S → length family ≡ length S → i < length S → element_at S family (get_or S i 0) ≡ get_or family i 0
element_at-index S family i rises long low = element_at-place S family (get_or S i 0) (In_at S i 0 low) long ∙ ap (λ p. get_or family p 0) (place_at S i rises low)

-- the family of the values of a function
pub element_at-map : (φ : ℕ → ℕ) (S : List ℕ) (f : ℕ) → In S f → element_at S (map φ S) f ≡ φ f
element_at-map φ S f i =
    element_at-place S (map φ S) f i (length-map S φ) ∙ get_or-map φ S (place S f) 0 0 (place_within S f i) ∙ ap φ (at_place S f i)

-- a table of places has the place of each arrow of the sieve
pub table_place : (arrows : ℕ) (S table : List ℕ) → IsPlaceTable arrows S table → (f : ℕ) → In S f → get_or table f 0 ≡ place S f
table_place arrows S table is f i = ap (λ g. get_or table g 0) (sym (at_place S f i)) ∙ is.places (place S f) (place_within S f i)

-- one arrow more in a table of places
pub one_more : (S table : List ℕ) (i : ℕ) → Rises S → i < length S → get_or S i 0 < length table → ((j : ℕ) → j < i → get_or table (get_or S j 0) 0 ≡ j)
    → (j : ℕ) → j < i + 1 → get_or (set table (get_or S i 0) i) (get_or S j 0) 0 ≡ j
one_more S table i rises low within before j less =
    elim (cases_eq j i) [
      | inl same ↦ rw same (get_or-set_same table (get_or S i 0) i 0 within)
      | inr other ↦
          let apart : get_or S j 0 ≢ get_or S i 0 = λ e. other (sym (place_at S j rises (omega (arith, low, less))) ∙ ap (place S) e ∙ place_at S i rises low) in
          get_or-set_other table (get_or S i 0) (get_or S j 0) i 0 apart ∙ before j (omega (arith, less, other))
    ]

pub mapped_more : (f : ℕ → Square) (xs : List ℕ) (i : ℕ) → i < length xs → map f (take i xs) ++ f (get_or xs i 0) ∷ [] ≡ map f (take (i + 1) xs)
mapped_more f xs i low = sym (ap (map f) (take_more xs i 0 low) ∙ map-append f (take i xs) (get_or xs i 0 ∷ []))

pub joined_more : (f : ℕ → List Square) (n : ℕ) → flat_map f (range_with_len 0 n) ++ f n ≡ flat_map f (range_with_len 0 (n + 1))
joined_more f n =
    ap (λ l. flat_map f (range_with_len 0 n) ++ l) (sym (append-nil (f n)))
    ∙ sym (ap (flat_map f) (numbers_more n) ∙ flat_map-append f (range_with_len 0 n) (n ∷ []))
