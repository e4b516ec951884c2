-- The listed matching families are all of them.
use Rattle.std.proofs.Common.{◌≡◌, ℕ, suc, ◌<◌, true, eqb, inl, inr, List, [], ◌∷◌, map, length, refl, sym, ap, ◌∙◌, subst, arith}
use Rattle.std.specs.List.{range_with_len}
use Rattle.std.proofs.lemmas.Bool.{cases_Bool, eqb-true, eq-eqb, cond-true, cond-false}
use Rattle.finite_lists.specs.Members.{In}
use Rattle.finite_lists.proofs.Lists.{In-flat_map, In-flat_map_from, In-map, In-map_from, In-filter, In-filter_from, all_each, each_all}
use Rattle.finite_lists.proofs.DistinctLists.{In-range, In-range_from}
use Rattle.topos_model.specs.categories.Category.{Category, into, dom, compose, sieves}
use Rattle.topos_model.specs.types.Types.{Presheaf}
use Rattle.topos_model.specs.Laws.{IsInto, act, size}
use Rattle.topos_model.specs.presheaves.NaturalMaps.{choices}
use Rattle.topos_model.specs.topologies.Sheaves.{element_at, IsMatching, agrees, matching_families}
use Rattle.topos_model.proofs.ArrowsInto.{In-into, In-into_from}
use Rattle.fin_category.proofs.ArrowLists.{Rises}
use Rattle.sieve_table.proofs.SieveMembers.{sieve_of}

pub element_at-first : (f : ℕ) (S : List ℕ) (x : ℕ) (family : List ℕ) → element_at (f ∷ S) (x ∷ family) f ≡ x
element_at-first f S x family = cond-true (eqb f f) x (element_at S family f) (eq-eqb f f refl)

-- an element at a later arrow of a rising list
pub element_at-later : (g : ℕ) (S : List ℕ) (x : ℕ) (family : List ℕ) (f : ℕ) → Rises (g ∷ S) → In S f → element_at (g ∷ S) (x ∷ family) f ≡ element_at S family f
element_at-later g S x family f rises i =
    elim (cases_Bool (eqb g f)) [
      | inl e ↦ absurd (let e' : g ≡ f = eqb-true g f e in let low : g < f = rises.0 f i in omega arith)
      | inr e ↦ cond-false (eqb g f) x (element_at S family f) e
    ]

module _ (bound : ℕ → ℕ) where
  -- the numbers that may stand at each arrow
  abbrev pub numbers_at : List ℕ → List (List ℕ)
  numbers_at S = map (λ f. range_with_len 0 (bound f)) S

  pub choice_long : (S family : List ℕ) → In (choices (numbers_at S)) family → length family ≡ length S
  unfolding choices
  choice_long [] family (inl e) = ap length (sym e)
  choice_long [] family (inr i) = absurd i
  choice_long (g ∷ S) family i =
      let x = In-flat_map_from (λ x. map (λ ys. x ∷ ys) (choices (numbers_at S))) (range_with_len 0 (bound g)) family i in
      let rest = In-map_from (λ ys. x.0 ∷ ys) (choices (numbers_at S)) family x.2 in
      ap length (sym rest.2) ∙ ap suc (choice_long S rest.0 rest.1)

  pub choice_within : (S family : List ℕ) → In (choices (numbers_at S)) family → (f : ℕ) → In S f → element_at S family f < bound f
  unfolding choices
  choice_within [] family i f j = absurd j
  choice_within (g ∷ S) family i f j =
      let x = In-flat_map_from (λ x. map (λ ys. x ∷ ys) (choices (numbers_at S))) (range_with_len 0 (bound g)) family i in
      let rest = In-map_from (λ ys. x.0 ∷ ys) (choices (numbers_at S)) family x.2 in
      let low : x.0 < bound g = let r = In-range_from 0 (bound g) x.0 x.1 in omega arith in
      subst (λ ys. element_at (g ∷ S) ys f < bound f) rest.2 (
      elim (cases_Bool (eqb g f)) [
        | inl e ↦ rw (cond-true (eqb g f) x.0 (element_at S rest.0 f) e) (subst (λ h. x.0 < bound h) (eqb-true g f e) low)
        | inr e ↦ rw (cond-false (eqb g f) x.0 (element_at S rest.0 f) e) (choice_within S rest.0 rest.1 f (elim j [ inl e' ↦ absurd (let t = eq-eqb g f e' in cc) | inr m ↦ m ]))
      ])

  pub choice_of : (S family : List ℕ) → Rises S → length family ≡ length S → ((f : ℕ) → In S f → element_at S family f < bound f) → In (choices (numbers_at S)) family
  unfolding choices
  choice_of [] [] rises long low = inl refl
  choice_of [] (x ∷ family) rises long low = absurd (omega (arith, long))
  choice_of (g ∷ S) [] rises long low = absurd (omega (arith, long))
  choice_of (g ∷ S) (x ∷ family) rises long low =
      In-flat_map (λ x. map (λ ys. x ∷ ys) (choices (numbers_at S))) (range_with_len 0 (bound g)) x (x ∷ family)
      (let first = subst (λ y. y < bound g) (element_at-first g S x family) (low g (inl refl)) in In-range 0 (bound g) x (omega arith) (omega arith))
      (In-map (λ ys. x ∷ ys) (choices (numbers_at S)) family
      (choice_of S family rises.1 (omega (arith, long)) (λ f i. subst (λ y. y < bound f) (element_at-later g S x family f rises i) (low f (inr i)))))

module _ (k : Category) (X : Presheaf) (S family : List ℕ) where
  pub agrees_each : agrees k X S family ≡ true → (f g : ℕ) → In S f → IsInto k (dom k f) g → act X g (element_at S family f) ≡ element_at S family (compose k f g)
  unfolding agrees
  agrees_each e f g i j = eqb-true _ _ (all_each _ (into k (dom k f)) g (all_each _ S f e i) (In-into k (dom k f) g j))

  pub each_agrees : ((f g : ℕ) → In S f → IsInto k (dom k f) g → act X g (element_at S family f) ≡ element_at S family (compose k f g)) → agrees k X S family ≡ true
  unfolding agrees
  each_agrees h = each_all _ S (λ f i. each_all _ (into k (dom k f)) (λ g j. eq-eqb _ _ (h f g i (In-into_from k (dom k f) g j))))

  pub listed_matching : In (matching_families k X S) family → IsMatching k X S family
  unfolding matching_families
  listed_matching i =
      let kept = In-filter_from (agrees k X S) (choices (map (λ f. range_with_len 0 (size X (dom k f))) S)) family i in
      record {
        count = choice_long (λ f. size X (dom k f)) S family kept.0;
        within = choice_within (λ f. size X (dom k f)) S family kept.0;
        agree = agrees_each kept.1;
      }

  pub matching_listed : Rises S → IsMatching k X S family → In (matching_families k X S) family
  unfolding matching_families
  matching_listed rises matching =
      In-filter (agrees k X S) (choices (map (λ f. range_with_len 0 (size X (dom k f))) S)) family
      (choice_of (λ f. size X (dom k f)) S family rises matching.count matching.within)
      (each_agrees matching.agree)

pub lists_matching_families : (k : Category) (X : Presheaf) (c : ℕ) (S family : List ℕ) → In (sieves k c) S →
    (In (matching_families k X S) family → IsMatching k X S family) × (IsMatching k X S family → In (matching_families k X S) family)
lists_matching_families k X c S family sieve = (listed_matching k X S family, matching_listed k X S family (sieve_of k c S sieve).rises)
