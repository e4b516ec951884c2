-- Closed sets rise in their order, so that each has one number, and halving finds it.
use Rattle.std.proofs.Common.{◌≡◌, ℕ, zero, suc, ◌<◌, Bool, true, false, cond, inl, inr, List, [], ◌∷◌, length, get_or, map, refl, sym, ap, subst, ◌∙◌, arith}
use Rattle.std.proofs.lemmas.Bool.{cases_lt, cases_eq, cases_Bool, false≢true}
use Rattle.finite_lists.specs.Members.{In}
use Rattle.finite_lists.specs.Rising.{Rising}
use Rattle.finite_lists.proofs.Lists.{In_at}
use Rattle.finite_lists.proofs.RisingLists.{Rising-append, Rising-map, Rising-filter}
use Rattle.finite_lists.proofs.Lists.{In-map_from}
use Rattle.closed_sets.specs.Closed.{bits, same_bits, is_closed, closed_lists}
use Rattle.closed_sets.proofs.Bits.{same_bits_is, same_bits_self}
use Rattle.power_objects.specs.BitOrder.{Precedes, place_in}

pub asymmetric : (a b : List Bool) → Precedes a b → Precedes b a → ⊥
asymmetric a b (i, ai, bi, before) (j, bj, aj, before') =
    elim (cases_lt i j) [
      | inl l ↦ false≢true (sym ai ∙ sym (before' i l) ∙ bi)
      | inr h ↦ elim (cases_eq i j) [
        | inl e ↦ false≢true (sym bj ∙ ap (λ n. get_or b n false) (sym e) ∙ bi)
        | inr n ↦ false≢true (sym bj ∙ sym (before j (omega (arith, h, n))) ∙ aj)
      ]
    ]

precedes-cons : (x : Bool) (a b : List Bool) → Precedes a b → Precedes (x ∷ a) (x ∷ b)
precedes-cons x a b (i, ai, bi, before) = (suc i, ai, bi, λ j low. at j low)
  where
    at : (j : ℕ) → j < suc i → get_or (x ∷ a) j false ≡ get_or (x ∷ b) j false
    at zero low = refl
    at (suc j) low = before j (omega (arith, low))

rising_bits : (n : ℕ) → Rising Precedes (bits n)
unfolding bits
rising_bits zero = (λ y i. absurd i, tt)
rising_bits (suc n) =
    Rising-append Precedes (map (λ r. false ∷ r) (bits n)) (map (λ r. true ∷ r) (bits n))
    (Rising-map Precedes Precedes (λ r. false ∷ r) (bits n) (λ a b i j p. precedes-cons false a b p) (rising_bits n))
    (Rising-map Precedes Precedes (λ r. true ∷ r) (bits n) (λ a b i j p. precedes-cons true a b p) (rising_bits n))
    (λ a b i j.
    let p = In-map_from (λ r. false ∷ r) (bits n) a i in
    let q = In-map_from (λ r. true ∷ r) (bits n) b j in
    subst (λ x. Precedes x b) p.2 (subst (λ y. Precedes (false ∷ p.0) y) q.2 (0, refl, refl, λ j low. absurd (omega (arith, low)))))

pub rising_closed : (n : ℕ) (closure : List Bool → List Bool) → Rising Precedes (closed_lists n closure)
unfolding closed_lists
rising_closed n closure = Rising-filter Precedes (is_closed closure) (bits n) (rising_bits n)

-- of two members of a rising list the earlier is below
pub rising_at : {A : Type 0} (below : A → A → Type 0) (xs : List A) (i j : ℕ) (d : A) → Rising below xs → i < j → j < length xs → below (get_or xs i d) (get_or xs j d)
rising_at below [] i j d r low within = absurd (omega (arith, within))
rising_at below (x ∷ xs) zero zero d r low within = absurd (omega (arith, low))
rising_at below (x ∷ xs) zero (suc j) d r low within = r.0 (get_or xs j d) (In_at xs j d (omega (arith, within)))
rising_at below (x ∷ xs) (suc i) zero d r low within = absurd (omega (arith, low))
rising_at below (x ∷ xs) (suc i) (suc j) d r low within = rising_at below xs i j d r.1 (omega (arith, low)) (omega (arith, within))

-- a member stands at its number
pub at_place : (rows : List (List Bool)) (a : List Bool) → In rows a → (place_in rows a < length rows) × (get_or rows (place_in rows a) [] ≡ a)
unfolding place_in
at_place [] a i = absurd i
at_place (b ∷ rows) a i =
    elim (cases_Bool (same_bits b a)) [
      | inl e ↦ subst (λ t. (cond t 0 (suc (place_in rows a)) < length (b ∷ rows)) × (get_or (b ∷ rows) (cond t 0 (suc (place_in rows a))) [] ≡ a)) (sym e) (omega arith, same_bits_is b a e)
      | inr e ↦
          let j : In rows a = elim i [ inl s ↦ absurd (false≢true (sym e ∙ ap (λ x. same_bits x a) s ∙ same_bits_self a)) | inr j ↦ j ] in
          let r = at_place rows a j in
          subst (λ t. (cond t 0 (suc (place_in rows a)) < length (b ∷ rows)) × (get_or (b ∷ rows) (cond t 0 (suc (place_in rows a))) [] ≡ a)) (sym e) (omega (arith, r.0), r.1)
    ]

-- and at no other
pub only_place : (rows : List (List Bool)) (a : List Bool) (i : ℕ) → Rising Precedes rows → i < length rows → get_or rows i [] ≡ a → i ≡ place_in rows a
only_place rows a i rises low e =
    let r = at_place rows a (subst (In rows) e (In_at rows i [] low)) in
    let p = place_in rows a in
    elim (cases_lt i p) [
      | inl l ↦ absurd (twice (subst (λ x. Precedes x a) e (subst (λ y. Precedes (get_or rows i []) y) r.1 (rising_at Precedes rows i p [] rises l r.0))))
      | inr h ↦ elim (cases_eq i p) [
        | inl s ↦ s
        | inr n ↦ absurd (twice (subst (λ x. Precedes x a) r.1 (subst (λ y. Precedes (get_or rows p []) y) e (rising_at Precedes rows p i [] rises (omega (arith, h, n)) low))))
      ]
    ]
  where
    twice : Precedes a a → ⊥
    twice p = asymmetric a a p p

-- a set stands in the half that its order to the one in the middle says
module _ (rows : List (List Bool)) (rises : Rising Precedes rows) (a : List Bool) (i m : ℕ) (is : get_or rows i [] ≡ a) (low : i < length rows) (middle : m < length rows) where
  pub stands_later : Precedes (get_or rows m []) a → m < i
  stands_later p =
      elim (cases_lt m i) [
        | inl l ↦ l
        | inr h ↦ elim (cases_eq i m) [
          | inl e ↦ let q : Precedes a a = subst (λ x. Precedes x a) (ap (λ n. get_or rows n []) (sym e) ∙ is) p in absurd (asymmetric a a q q)
          | inr n ↦ absurd (asymmetric (get_or rows m []) a p (subst (λ x. Precedes x (get_or rows m [])) is (rising_at Precedes rows i m [] rises (omega (arith, h, n)) middle)))
        ]
      ]

  pub stands_before : Precedes a (get_or rows m []) → i < m
  stands_before p =
      elim (cases_lt i m) [
        | inl l ↦ l
        | inr h ↦ elim (cases_eq i m) [
          | inl e ↦ let q : Precedes a a = subst (λ x. Precedes a x) (ap (λ n. get_or rows n []) (sym e) ∙ is) p in absurd (asymmetric a a q q)
          | inr n ↦ absurd (asymmetric a (get_or rows m []) p (subst (λ x. Precedes (get_or rows m []) x) is (rising_at Precedes rows m i [] rises (omega (arith, h, n)) low)))
        ]
      ]
