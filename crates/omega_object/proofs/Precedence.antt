-- Sublists of a rising list rise by their first differences, and a set is found by halving.
use Rattle.std.proofs.Common.{◌≡◌, ℕ, zero, suc, ◌+◌, ◌<◌, Bool, true, false, not, inl, inr, List, [], ◌∷◌, ◌++◌, length, get_or, map, refl, sym, ap, subst, ◌∙◌, arith}
use Rattle.std.proofs.lemmas.Bool.{cases_lt, cases_eq}
use Rattle.std.specs.List.{range_with_len}
use Rattle.std.proofs.lemmas.List.{get_or_default, length-map, map-append}
use Rattle.std.proofs.lemmas.List.FromFn.{length-map-range_with_len, get_or-map-range_with_len, map-range_with_len_more}
use Rattle.finite_lists.specs.Members.{In}
use Rattle.finite_lists.specs.Rising.{Rising, SublistBelow}
use Rattle.finite_lists.proofs.Lists.{same_tests, In_at, In_Contains}
use Rattle.topos_model.specs.categories.Category.{has}
use Rattle.fin_category.specs.Masks.{IsFirstDifference}
use Rattle.fin_category.proofs.ArrowLists.{has-In, In-has, Rises}
use Rattle.omega_object.specs.TruthValues.{Precedes}

not_In : (xs : List ℕ) (x : ℕ) → (In xs x → ⊥) → has x xs ≡ false
not_In xs x h = at (has x xs) refl
  where
    at : (b : Bool) → has x xs ≡ b → has x xs ≡ false
    at true e = absurd (h (In-has xs x e))
    at false e = e

-- a place where two sublists differ is one in a rising list
pub precedes : (l S T : List ℕ) → Rises l → ((g : ℕ) → (In l g → ⊥) → has g S ≡ has g T) → SublistBelow l S T → Precedes S T
precedes [] S T r alike h = absurd h
precedes (x ∷ l) S T r alike (inl h) = (
  x,
  not_In S x h.0,
  has-In T x h.1,
  λ g below. alike g (λ i. elim i [ inl e ↦ absurd (omega (arith, below, e)) | inr j ↦ let b : x < g = r.0 g j in omega (arith, below, b) ]),
)
precedes (x ∷ l) S T r alike (inr h) =
    precedes l S T r.1 (λ g out.
    elim (cases_eq g x) [
      | inl e ↦ ap (λ y. has y S) e ∙ same_tests (has x S) (has x T) (λ a. has-In T x (h.0 (In-has S x a))) (λ a. has-In S x (h.1 (In-has T x a))) ∙ ap (λ y. has y T) (sym e)
      | inr n ↦ alike g (λ i. elim i [ inl e ↦ n (sym e) | inr j ↦ out j ])
    ]) h.2

-- of two members of a rising list the earlier is below
pub rising_at : {A : Type 0} (below : A → A → Type 0) (xs : List A) (i j : ℕ) (d : A) → Rising below xs → i < j → j < length xs → below (get_or xs i d) (get_or xs j d)
rising_at below [] i j d r low within = absurd (omega (arith, within))
rising_at below (x ∷ xs) zero zero d r low within = absurd (omega (arith, low))
rising_at below (x ∷ xs) zero (suc j) d r low within = r.0 (get_or xs j d) (In_at xs j d (omega (arith, within)))
rising_at below (x ∷ xs) (suc i) zero d r low within = absurd (omega (arith, low))
rising_at below (x ∷ xs) (suc i) (suc j) d r low within = rising_at below xs i j d r.1 (omega (arith, low)) (omega (arith, within))

-- the first difference says which of two sets precedes
module _ (S T : List ℕ) (f : ℕ) (first : IsFirstDifference f S T) where
  pub differ : S ≡ T → ⊥
  differ e = let d = first.differs in let s : has f S ≡ has f T = ap (has f) e in at (has f T) (sym s ∙ d)
    where
      at : (b : Bool) → b ≡ not b → ⊥
      at true e = cc
      at false e = cc

  apart : (g : ℕ) (a b : Bool) → has g S ≡ a → has g T ≡ b → (a ≡ not b) → (g < f → ⊥)
  apart g a b p q n low = at a b n (sym p ∙ first.before g low ∙ q)
    where
      at : (a b : Bool) → a ≡ not b → a ≡ b → ⊥
      at true true n e = cc
      at true false n e = cc
      at false true n e = cc
      at false false n e = cc

  -- T has it, so T does not precede S
  pub not_after : has f T ≡ true → Precedes T S → ⊥
  not_after t (g, out, inside, same) =
      elim (cases_lt g f) [
        | inl low ↦ apart g true false inside out refl low
        | inr high ↦ elim (cases_eq g f) [
          | inl e ↦ let o : has f T ≡ false = ap (λ y. has y T) (sym e) ∙ out in cc
          | inr n ↦ let s : has f T ≡ has f S = same f (omega (arith, high, n)) in let d = first.differs in at (has f T) (has f S) s d
        ]
      ]
    where
      at : (b a : Bool) → b ≡ a → a ≡ not b → ⊥
      at true a e n = cc
      at false a e n = cc

  -- T has it not, so S does not precede T
  pub not_before : has f T ≡ false → Precedes S T → ⊥
  not_before t (g, out, inside, same) =
      elim (cases_lt g f) [
        | inl low ↦ apart g false true out inside refl low
        | inr high ↦ elim (cases_eq g f) [
          | inl e ↦ let o : has f T ≡ true = ap (λ y. has y T) (sym e) ∙ inside in cc
          | inr n ↦ let s : has f S ≡ has f T = same f (omega (arith, high, n)) in let d = first.differs in at (has f S) (has f T) s d
        ]
      ]
    where
      at : (a b : Bool) → a ≡ b → a ≡ not b → ⊥
      at true b e n = cc
      at false b e n = cc

-- the set stands in the half that the first difference says
module _ (rows : List (List ℕ)) (rises : Rising Precedes rows) (T : List ℕ) (i m f : ℕ) (is : get_or rows i [] ≡ T) (within : i < length rows) (middle : m < length rows)
    (first : IsFirstDifference f (get_or rows m []) T) where
  pub stands_later : has f T ≡ true → m < i
  stands_later t =
      elim (cases_lt m i) [
        | inl l ↦ l
        | inr h ↦ elim (cases_eq i m) [
          | inl e ↦ absurd (differ (get_or rows m []) T f first (ap (λ n. get_or rows n []) (sym e) ∙ is))
          | inr n ↦ absurd (not_after (get_or rows m []) T f first t (subst (λ S. Precedes S (get_or rows m [])) is (rising_at Precedes rows i m [] rises (omega (arith, h, n)) middle)))
        ]
      ]

  pub stands_before : has f T ≡ false → i < m
  stands_before t =
      elim (cases_lt i m) [
        | inl l ↦ l
        | inr h ↦ elim (cases_eq i m) [
          | inl e ↦ absurd (differ (get_or rows m []) T f first (ap (λ n. get_or rows n []) (sym e) ∙ is))
          | inr n ↦ absurd (not_before (get_or rows m []) T f first t (subst (λ S. Precedes (get_or rows m []) S) is (rising_at Precedes rows m i [] rises (omega (arith, h, n)) within)))
        ]
      ]

pub mapped_at : {A B : Type 0} (h : A → B) (xs : List A) (i : ℕ) (d : A) (e : B) → i < length xs → get_or (map h xs) i e ≡ h (get_or xs i d)
mapped_at h [] i d e low = absurd (omega (arith, low))
mapped_at h (x ∷ xs) zero d e low = refl
mapped_at h (x ∷ xs) (suc i) d e low = mapped_at h xs i d e (omega (arith, low))

-- a member stands at some place
pub stands : {A : Type 0} (xs : List A) (x d : A) → In xs x → (i : ℕ) × (i < length xs) × (get_or xs i d ≡ x)
stands xs x d i = let r = In_Contains xs x i in (r.0, r.1, get_or_default xs r.0 d x r.1 ∙ r.2)

-- one image more
pub mapped_pushed : {A B : Type 0} (h : A → B) (g : ℕ → B) (row new : List A) (x : A) (c : ℕ) → new ≡ row ++ x ∷ [] → map h row ≡ map g (range_with_len 0 c) → h x ≡ g c →
    map h new ≡ map g (range_with_len 0 (c + 1))
mapped_pushed h g row new x c e is same =
    ap (map h) e ∙ map-append h row (x ∷ []) ∙ ap (λ l. l ++ h x ∷ []) is ∙ ap (λ y. map g (range_with_len 0 c) ++ y ∷ []) same ∙ sym (map-range_with_len_more g 0 c c (omega arith))

-- an image by its number
pub numbered_at : {A B : Type 0} (h : A → B) (g : ℕ → B) (row : List A) (n c : ℕ) (d : A) → map h row ≡ map g (range_with_len 0 n) → c < n → h (get_or row c d) ≡ g c
numbered_at h g row n c d e low =
    let l : length row ≡ n = sym (length-map row h) ∙ ap length e ∙ length-map-range_with_len g 0 n in
    sym (mapped_at h row c d (h d) (omega (arith, low, l))) ∙ ap (λ xs. get_or xs c (h d)) e ∙ get_or-map-range_with_len g 0 n c c (h d) low (omega arith)

pub numbered_length : {A B : Type 0} (h : A → B) (g : ℕ → B) (row : List A) (n : ℕ) → map h row ≡ map g (range_with_len 0 n) → length row ≡ n
numbered_length h g row n e = sym (length-map row h) ∙ ap length e ∙ length-map-range_with_len g 0 n
