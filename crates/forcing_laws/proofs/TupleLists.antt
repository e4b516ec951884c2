-- The listed tuples are the tuples, each once, and the elements of the product in order.
use Rattle.std.proofs.Common.{◌≡◌, ℕ, inl, inr, List, [], ◌∷◌, ◌++◌, map, refl, sym, ◌∙◌, ap, subst}
use Rattle.std.specs.List.{flat_map}
use Rattle.std.proofs.lemmas.List.{map-append}
use Rattle.std.proofs.lemmas.Simd.{map-map}
use denote.Hole.Carrier
use Rattle.finite_lists.specs.Members.{In, Distinct}
use Rattle.finite_lists.proofs.Lists.{In-map, In-map_from, In-flat_map, In-flat_map_from}
use Rattle.topos_model.specs.declared.ty.Ty.{Ty}
use Rattle.topos_model.specs.declared.ty.Ty.TheBlock.{hidden-the_row-Ty-0}
use Rattle.topos_model.specs.declared.value.Val.{Val, Two}
use Rattle.topos_model.specs.types.Types.{two_elements, elements, restr}
use Rattle.topos_model.specs.statements.Needs.{product}
use Rattle.topos_model.specs.formulas.Forcing.{World, Assigned, values, along, tuples}
use Rattle.type_laws.proofs.Presheaves.{Distinct-elements, two_along_Two}
use Rattle.forcing_laws.specs.Tuples.{AreElements, paired, ListsTuples, PairsTuples}

-- a list of which the images stand once
once_mapped : {A B : Type 0} (f : A → B) (xs : List A) → Distinct (map f xs) → Distinct xs
once_mapped f [] d = tt
once_mapped f (x ∷ xs) d = (λ i. d.0 (In-map f xs x i), once_mapped f xs d.1)

module _ (w : World) where
  pub tuples_In : (Γ : List Ty) (c : ℕ) (a : Assigned) → AreElements w Γ c a → In (tuples w Γ c) a
  unfolding tuples
  tuples_In [] c [] h = inl refl
  tuples_In [] c (x ∷ a) h = absurd h
  tuples_In (T ∷ Γ) c [] h = absurd h
  tuples_In (T ∷ Γ) c (x ∷ a) h =
      subst (λ U. In (tuples w (T ∷ Γ) c) ((U, x.1) ∷ a)) (sym h.0)
      (In-flat_map _ (tuples w Γ c) a _ (tuples_In Γ c a h.2) (In-map (λ v. (T, v) ∷ a) (values w T c) x.1 h.1))

  pub In_tuples : (Γ : List Ty) (c : ℕ) (a : Assigned) → In (tuples w Γ c) a → AreElements w Γ c a
  unfolding tuples
  In_tuples [] c a h = elim h [ inl e ↦ subst (λ a. AreElements w [] c a) e tt | inr n ↦ absurd n ]
  In_tuples (T ∷ Γ) c a h =
      let m = In-flat_map_from (λ a. map (λ v. (T, v) ∷ a) (values w T c)) (tuples w Γ c) a h in
      let n = In-map_from (λ v. (T, v) ∷ m.0) (values w T c) a m.2 in
      subst (λ a. AreElements w (T ∷ Γ) c a) n.2 (refl, n.1, In_tuples Γ c m.0 m.1)

  opened : Unit {0}
  unfolding tuples two_elements along elements hidden-the_row-Ty-0 Carrier.hidden
  opened = tt

  -- tuples of at least one element with one more, as pairs
  paired_more : (Γ : List Ty) (T U : Ty) (c : ℕ) (vs : List Val) (l : List Assigned) → ((a : Assigned) → In l a → AreElements w (U ∷ Γ) c a) →
      map paired (flat_map (λ a. map (λ v. (T, v) ∷ a) vs) l) ≡ flat_map (λ u. map (λ v. Two u v) vs) (map paired l)
  paired_more Γ T U c vs [] h = refl
  paired_more Γ T U c vs (a ∷ l) h =
      map-append paired (map (λ v. (T, v) ∷ a) vs) (flat_map (λ a. map (λ v. (T, v) ∷ a) vs) l)
      ∙ ap (λ m. m ++ map paired (flat_map (λ a. map (λ v. (T, v) ∷ a) vs) l)) (map-map paired (λ v. (T, v) ∷ a) vs ∙ each a (h a (inl refl)))
      ∙ ap (λ m. map (λ v. Two (paired a) v) vs ++ m) (paired_more Γ T U c vs l (λ b i. h b (inr i)))
    where
      each : (a : Assigned) → AreElements w (U ∷ Γ) c a → map (λ v. paired ((T, v) ∷ a)) vs ≡ map (λ v. Two (paired a) v) vs
      each [] h = absurd h
      each (x ∷ a) h = refl

  pub paired_tuples : (Γ : List Ty) (c : ℕ) → map paired (tuples w Γ c) ≡ values w (product Γ) c
  unfolding opened
  paired_tuples [] c = refl
  paired_tuples (T ∷ []) c = single (values w T c)
    where
      single : (vs : List Val) → map paired (flat_map (λ a. map (λ v. (T, v) ∷ a) vs) ([] ∷ [])) ≡ vs
      single [] = refl
      single (v ∷ vs) = ap (λ l. v ∷ l) (single vs)
  paired_tuples (T ∷ U ∷ Γ) c =
      paired_more Γ T U c (values w T c) (tuples w (U ∷ Γ) c) (In_tuples (U ∷ Γ) c)
      ∙ ap (flat_map (λ u. map (λ v. Two u v) (values w T c))) (paired_tuples (U ∷ Γ) c)

  pub lists_tuples : (Γ : List Ty) (c : ℕ) → ListsTuples w Γ c
  lists_tuples Γ c = record {
    exactly = λ a. (In_tuples Γ c a, tuples_In Γ c a);
    once = once_mapped paired (tuples w Γ c) (subst (λ l. Distinct l) (sym (paired_tuples Γ c)) (Distinct-elements w.site w.functors (product Γ) c));
  }

  paired_along : (Γ : List Ty) (c f : ℕ) (a : Assigned) → AreElements w Γ c a → paired (along w f a) ≡ restr w.site w.functors (product Γ) f (paired a)
  unfolding opened
  paired_along [] c f [] h = refl
  paired_along [] c f (x ∷ a) h = absurd h
  paired_along (T ∷ Γ) c f [] h = absurd h
  paired_along (T ∷ []) c f (x ∷ []) h = ap (λ U. restr w.site w.functors U f x.1) h.0
  paired_along (T ∷ []) c f (x ∷ y ∷ a) h = absurd h.2
  paired_along (T ∷ U ∷ Γ) c f (x ∷ []) h = absurd h.2
  paired_along (T ∷ U ∷ Γ) c f (x ∷ y ∷ a) h =
      ap (λ V. Two (paired (along w f (y ∷ a))) (restr w.site w.functors V f x.1)) h.0
      ∙ ap (λ u. Two u (restr w.site w.functors T f x.1)) (paired_along (U ∷ Γ) c f (y ∷ a) h.2)
      ∙ sym (two_along_Two (elements w.site w.functors (product (U ∷ Γ))) (elements w.site w.functors T) (restr w.site w.functors (product (U ∷ Γ))) (restr w.site w.functors T) f (paired (y ∷ a)) x.1)

  pub tuples_are_product : (Γ : List Ty) → PairsTuples w Γ
  tuples_are_product Γ = record { elements = paired_tuples Γ; restrictions = λ c f a i. paired_along Γ c f a (In_tuples Γ c a i) }
