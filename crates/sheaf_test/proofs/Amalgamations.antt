-- The listed amalgamations are all of them, and where there is exactly one the list has one member.
use Rattle.std.proofs.Common.{◌≡◌, ℕ, inl, inr, List, [], ◌∷◌, None, refl, sym, ◌∙◌, subst, arith}
use Rattle.std.specs.List.{range_with_len}
use Rattle.std.proofs.lemmas.Bool.{eqb-true, eq-eqb}
use Rattle.finite_lists.specs.Members.{In, Distinct}
use Rattle.finite_lists.proofs.Lists.{In-filter, In-filter_from, all_each, each_all}
use Rattle.finite_lists.proofs.DistinctLists.{In-range, In-range_from, Distinct-filter, Distinct-range}
use Rattle.topos_model.specs.types.Types.{Presheaf}
use Rattle.topos_model.specs.Laws.{size}
use Rattle.topos_model.specs.presheaves.Maps.{ExactlyOne}
use Rattle.topos_model.specs.topologies.Sheaves.{IsAmalgamation, amalgamations, not_one}

module _ (X : Presheaf) (c : ℕ) (S family : List ℕ) where
  pub listed_amalgamation : (x : ℕ) → In (amalgamations X c S family) x → IsAmalgamation X c S family x
  unfolding amalgamations
  listed_amalgamation x i =
      let kept = In-filter_from _ (range_with_len 0 (size X c)) x i in
      let low = In-range_from 0 (size X c) x kept.0 in
      record {
        within = omega arith;
        restricts = λ f j. eqb-true _ _ (all_each _ S f kept.1 j);
      }

  pub amalgamation_listed : (x : ℕ) → IsAmalgamation X c S family x → In (amalgamations X c S family) x
  unfolding amalgamations
  amalgamation_listed x is =
      In-filter _ (range_with_len 0 (size X c)) x (let low = is.within in In-range 0 (size X c) x (omega arith) (omega arith))
      (each_all _ S (λ f j. eq-eqb _ _ (is.restricts f j)))

  Distinct-amalgamations : Distinct (amalgamations X c S family)
  unfolding amalgamations
  Distinct-amalgamations = Distinct-filter _ (range_with_len 0 (size X c)) (Distinct-range 0 (size X c))

  one_of : (xs : List ℕ) → not_one c S family xs ≡ None → (x : ℕ) × (xs ≡ x ∷ [])
  one_of [] e = absurd (cc)
  one_of (x ∷ []) e = (x, refl)
  one_of (x ∷ y ∷ rest) e = absurd (cc)

  none_of : (xs : List ℕ) (x : ℕ) → Distinct xs → In xs x → ((y : ℕ) → In xs y → y ≡ x) → not_one c S family xs ≡ None
  none_of [] x distinct i alone = absurd i
  none_of (y ∷ []) x distinct i alone = refl
  none_of (y ∷ z ∷ rest) x distinct i alone = absurd (distinct.0 (inl (alone z (inr (inl refl)) ∙ sym (alone y (inl refl)))))

  -- no fault is found exactly where there is exactly one amalgamation
  pub faultless_is_one : not_one c S family (amalgamations X c S family) ≡ None → ExactlyOne (IsAmalgamation X c S family)
  faultless_is_one e =
      let one = one_of (amalgamations X c S family) e in (
        one.0,
        listed_amalgamation one.0 (subst (λ xs. In xs one.0) (sym one.1) (inl refl)),
        λ y is. elim (subst (λ xs. In xs y) one.1 (amalgamation_listed y is)) [ inl h ↦ sym h | inr n ↦ absurd n ],
      )

  pub one_is_faultless : ExactlyOne (IsAmalgamation X c S family) → not_one c S family (amalgamations X c S family) ≡ None
  one_is_faultless one =
      none_of (amalgamations X c S family) one.0 Distinct-amalgamations (amalgamation_listed one.0 one.1) (λ y i. one.2 y (listed_amalgamation y i))
