-- One more matching family than there are elements at the object: they have not one amalgamation each, so that no further ones are needed.
use Rattle.std.proofs.Common.{◌≡◌, ℕ, suc, ◌+◌, ◌≤◌, ◌⊎◌, inl, inr, List, [], ◌∷◌, ◌++◌, map, length, take, drop, Option, Some, None, refl, sym, ap, ◌∙◌, subst, arith}
use Rattle.std.specs.List.{range_with_len}
use Rattle.std.proofs.lemmas.List.{length-map, length-take, take_all, take-append-drop}
use Rattle.std.proofs.lemmas.List.FromFn.{length-range_with_len}
use Rattle.finite_lists.specs.Members.{In, Distinct}
use Rattle.finite_lists.specs.First.{first, or_else}
use Rattle.finite_lists.proofs.Lists.{In-append_left, In-map, In-map_from}
use Rattle.finite_lists.proofs.DistinctLists.{In-range, Distinct-filter, Distinct-map, Distinct-flat_map, Distinct-range}
use Rattle.finite_lists.proofs.FirstAnswers.{first-append, first_none_each}
use Rattle.topos_model.specs.categories.Category.{Category, dom}
use Rattle.topos_model.specs.types.Types.{Presheaf}
use Rattle.topos_model.specs.Laws.{act, size}
use Rattle.topos_model.specs.presheaves.NaturalMaps.{choices}
use Rattle.topos_model.specs.topologies.Sheaves.{SheafFault, element_at, agrees, matching_families}
use Rattle.fin_category.proofs.ArrowLists.{Rises}
use Rattle.natural_search.specs.Rows.{AreLong}
use Rattle.sheaf_test.specs.Amalgamations.{fault_of, fault_on}
use Rattle.sheaf_test.proofs.MatchingFamilies.{element_at-first, element_at-later, numbers_at, listed_matching}
use Rattle.sheaf_test.proofs.Amalgamations.{faultless_is_one}

-- a list with a member x has one fewer others
without : {A : Type 0} (x : A) (ys : List A) → In ys x → (zs : List A) × (length ys ≡ suc (length zs)) × ((y : A) → In ys y → (x ≡ y) ⊎ In zs y)
without x [] i = absurd i
without x (y ∷ ys) (inl e) = (ys, refl, λ z j. elim j [ inl d ↦ inl (sym e ∙ d) | inr m ↦ inr m ])
without {A} x (y ∷ ys) (inr i) =
    let r : (zs : List A) × (length ys ≡ suc (length zs)) × ((y : A) → In ys y → (x ≡ y) ⊎ In zs y) = without x ys i in (
      y ∷ r.0,
      ap suc r.1,
      λ z j. elim j [ inl d ↦ inr (inl d) | inr m ↦ elim (r.2 z m) [ inl e ↦ inl e | inr n ↦ inr (inr n) ] ],
    )

-- a list with no member twice is no longer than one that has all its members
few_members : {A : Type 0} (xs ys : List A) → Distinct xs → ((x : A) → In xs x → In ys x) → length xs ≤ length ys
few_members [] ys d h = omega arith
few_members {A} (x ∷ xs) ys d h =
    let r : (zs : List A) × (length ys ≡ suc (length zs)) × ((y : A) → In ys y → (x ≡ y) ⊎ In zs y) = without x ys (h x (inl refl)) in
    let fewer : length xs ≤ length r.0 =
    few_members xs r.0 d.1 (λ z i. elim (r.2 z (h z (inr i))) [ inl e ↦ absurd (d.0 (subst (λ w. In xs w) (sym e) i)) | inr j ↦ j ]) in
    omega (arith, fewer, r.1)

Distinct-left : {A : Type 0} (xs ys : List A) → Distinct (xs ++ ys) → Distinct xs
Distinct-left [] ys d = tt
Distinct-left (x ∷ xs) ys d = (λ i. d.0 (In-append_left xs ys x i), Distinct-left xs ys d.1)

Distinct-choices : (xss : List (List ℕ)) → ((xs : List ℕ) → In xss xs → Distinct xs) → Distinct (choices xss)
unfolding choices
Distinct-choices [] h = (λ i. i, tt)
Distinct-choices (xs ∷ rest) h =
    Distinct-flat_map (λ x. map (λ ys. x ∷ ys) (choices rest)) xs (h xs (inl refl))
    (λ x i. Distinct-map (λ ys. x ∷ ys) (choices rest) (λ s t e. cc) (Distinct-choices rest (λ ys j. h ys (inr j))))
    (λ x z y i j.
    let s = In-map_from (λ ys. x ∷ ys) (choices rest) y i in
    let t = In-map_from (λ ys. z ∷ ys) (choices rest) y j in
    let same : x ∷ s.0 ≡ z ∷ t.0 = s.2 ∙ sym t.2 in
    cc)

-- a family that an element restricts to is the list of its restrictions
restrictions : (g : ℕ → ℕ) (S family : List ℕ) → Rises S → length family ≡ length S → ((f : ℕ) → In S f → g f ≡ element_at S family f) → map g S ≡ family
restrictions g [] [] rises long same = refl
restrictions g [] (x ∷ family) rises long same = absurd (omega (arith, long))
restrictions g (f ∷ S) [] rises long same = absurd (omega (arith, long))
restrictions g (f ∷ S) (x ∷ family) rises long same =
    let head : g f ≡ x = same f (inl refl) ∙ element_at-first f S x family in
    let tail : map g S ≡ family = restrictions g S family rises.1 (omega (arith, long)) (λ h i. same h (inr i) ∙ element_at-later f S x family h rises i) in
    ap (λ y. y ∷ map g S) head ∙ ap (λ l. x ∷ l) tail

module _ (k : Category) (X : Presheaf) (c : ℕ) (S : List ℕ) (rises : Rises S) where
  abbrev all : List (List ℕ)
  all = matching_families k X S

  abbrev some : List (List ℕ)
  some = take (size X c + 1) all

  Distinct-families : Distinct all
  unfolding matching_families
  Distinct-families =
      Distinct-filter (agrees k X S) (choices (numbers_at (λ f. size X (dom k f)) S))
      (Distinct-choices (numbers_at (λ f. size X (dom k f)) S) (λ xs i.
      let f = In-map_from (λ f. range_with_len 0 (size X (dom k f))) S xs i in
      subst Distinct f.2 (Distinct-range 0 (size X (dom k f.0)))))

  some_are : some ++ drop (size X c + 1) all ≡ all
  some_are = take-append-drop (size X c + 1) all

  abbrev restricted : ℕ → List ℕ
  restricted x = map (λ f. act X f x) S

  -- where each has one, there are no more of them than elements
  few_faultless : first (fault_of X c S) some ≡ None → length some ≤ size X c
  few_faultless e =
      let few = few_members some (map restricted (range_with_len 0 (size X c))) (Distinct-left some (drop (size X c + 1) all) (subst Distinct (sym some_are) Distinct-families)) (λ family i.
      let matching = listed_matching k X S family (subst (λ l. In l family) some_are (In-append_left some (drop (size X c + 1) all) family i)) in
      let one = faultless_is_one X c S family (first_none_each (fault_of X c S) some family e i) in
      let low = one.1.within in
      subst (In (map restricted (range_with_len 0 (size X c)))) (restrictions (λ f. act X f one.0) S family rises matching.count one.1.restricts)
      (In-map restricted (range_with_len 0 (size X c)) one.0 (In-range 0 (size X c) one.0 (omega arith) (omega (arith, low))))) in
      omega (arith, few, length-map (range_with_len 0 (size X c)) restricted, length-range_with_len 0 (size X c))

  -- the first of these that has not exactly one amalgamation is the first of all
  pub enough : first (fault_of X c S) some ≡ fault_on k X c S
  unfolding fault_on
  enough = at (first (fault_of X c S) some) refl
    where
      at : (o : Option SheafFault) → first (fault_of X c S) some ≡ o → first (fault_of X c S) some ≡ first (fault_of X c S) all
      at None e = ap (first (fault_of X c S)) (take_all (size X c + 1) all (omega (arith, few_faultless e, length-take (size X c + 1) all)))
      at (Some fault) e =
          e ∙ ap (λ o. or_else o (first (fault_of X c S) (drop (size X c + 1) all))) (sym e)
          ∙ sym (first-append (fault_of X c S) some (drop (size X c + 1) all)) ∙ ap (first (fault_of X c S)) some_are

-- each of these has an element for each arrow
pub some_long : (k : Category) (X : Presheaf) (c : ℕ) (S : List ℕ) → AreLong (length S) (take (size X c + 1) (matching_families k X S))
some_long k X c S family i =
    let all = matching_families k X S in
    (listed_matching k X S family (subst (λ l. In l family) (take-append-drop (size X c + 1) all) (In-append_left (take (size X c + 1) all) (drop (size X c + 1) all) family i))).count
