-- The tuples of a context, by their numbers.
use Rattle.std.proofs.Common.{◌≡◌, ℕ, zero, suc, ◌*◌, ◌/◌, ◌%◌, ◌<◌, inl, inr, List, [], ◌∷◌, ◌++◌, length, get_or, map, reverse, refl, sym, ap, subst, ◌∙◌, arith}
use Rattle.std.proofs.Math.Nat.{div-lt_iff_lt-mul}
use Rattle.std.proofs.lemmas.Nat.{div-add-mod'}
use Rattle.std.proofs.lemmas.List.{length-map, get_or-map, reverse-append, map-append, append_assoc}
use Rattle.finite_lists.specs.Members.{In}
use Rattle.topos_model.specs.declared.ty.Ty.{Ty}
use Rattle.topos_model.specs.declared.value.Val.{Val, Star}
use Rattle.topos_model.specs.topologies.Cover.{Site}
use Rattle.topos_model.specs.types.Types.{elements}
use Rattle.topos_model.specs.formulas.Forcing.{World, Assigned, values, tuples}
use Rattle.type_rows.proofs.FlatRows.{length-joined, joined_at}
use Rattle.product_objects.proofs.ProductElements.{pair_of}
use Rattle.term_tables.specs.Parts.{IsSealed}
use Rattle.element_values.specs.declared.elements.Elements.{Elements}
use Rattle.element_values.specs.Known.{IsReadable, IsElement, HasValue, IsWorldOf, IsTuple, count_of, values_at}
use Rattle.element_values.proofs.Parts.{itself, sealed_count}

pub tuple_count : (w : World) (Γ : List Ty) (T : Ty) (c : ℕ) → length (tuples w (T ∷ Γ) c) ≡ length (tuples w Γ c) * length (values w T c)
unfolding tuples
tuple_count w Γ T c = length-joined (λ a. map (λ v. (T, v) ∷ a) (values w T c)) (length (values w T c)) (tuples w Γ c) (λ a i. length-map (values w T c) (λ v. (T, v) ∷ a))

-- the number of a tuple with one variable more has the numbers of its outer part and of its last value
module _ (w : World) (Γ : List Ty) (T : Ty) (c k n : ℕ) (is : n ≡ length (values w T c)) (low : k < length (tuples w (T ∷ Γ) c)) where
  abbrev more : Assigned → List Assigned
  more a = map (λ v. (T, v) ∷ a) (values w T c)

  each : (a : Assigned) → In (tuples w Γ c) a → length (map (λ v. (T, v) ∷ a) (values w T c)) ≡ n
  each a i = length-map (values w T c) (λ v. (T, v) ∷ a) ∙ sym is

  within : k < length (tuples w Γ c) * n
  within = subst (λ l. k < l) (tuple_count w Γ T c ∙ ap (λ m. length (tuples w Γ c) * m) (sym is)) low

  pub some : 0 < n
  some = let (a, b, _, below, _) = pair_of (length (tuples w Γ c)) n k within in omega (arith, below)

  pub outer_low : k / n < length (tuples w Γ c)
  outer_low = (div-lt_iff_lt-mul some).1 within

  last_below : k % n < n
  last_below = let p = some in omega arith

  pub last_low : k % n < length (values w T c)
  last_low = let l = last_below in omega (arith, l, is)

  tuple_is : get_or (tuples w (T ∷ Γ) c) k [] ≡ (T, get_or (values w T c) (k % n) Star) ∷ get_or (tuples w Γ c) (k / n) []
  unfolding tuples
  tuple_is =
      ap (λ j. get_or (tuples w (T ∷ Γ) c) j []) (sym (div-add-mod' k n))
      ∙ joined_at more n (tuples w Γ c) (k / n) (k % n) [] [] each outer_low last_below
      ∙ get_or-map (λ v. (T, v) ∷ get_or (tuples w Γ c) (k / n) []) (values w T c) (k % n) Star [] last_low

  pub values_are : (e : Elements) → values_at e w (T ∷ Γ) c k ≡ values_at e w Γ c (k / n) ++ get_or (values w T c) (k % n) Star ∷ []
  values_are e =
      let a = get_or (tuples w Γ c) (k / n) [] in
      let v = get_or (values w T c) (k % n) Star in
      let snd : Ty × Val → Val = λ x. x.1 in
      ap (λ b. map snd (reverse b)) tuple_is ∙ ap (map snd) (reverse-append ((T, v) ∷ []) a) ∙ map-append snd (reverse a) ((T, v) ∷ [])

module _ (e : Elements) (w : World) (Γ : List Ty) (T : Ty) (c k n : ℕ) (h : IsTuple e w (T ∷ Γ) c k) (is : n ≡ count_of e w.functors T c) where
  width : n ≡ length (values w T c)
  width = is ∙ ap (λ (s : Site). length (elements s w.functors T c)) (sym h.world.site)

  pub count_positive : 0 < n
  count_positive = some w Γ T c k n width h.within

  pub outer_tuple : IsTuple e w Γ c (k / n)
  outer_tuple = record { world = h.world; readable = λ U i. h.readable U (inr i); object = h.object; within = outer_low w Γ T c k n width h.within }

  pub last_element : IsElement e w.functors T c (k % n)
  last_element = record {
    faithful = h.world.faithful;
    readable = h.readable T (inl refl);
    object = h.object;
    within = subst (λ (s : Site). k % n < length (elements s w.functors T c)) h.world.site (last_low w Γ T c k n width h.within);
  }

  -- the values of the outer part, and the last one
  pub one_more : (v : Val) (old outer new : List Val) → HasValue e T c (k % n) v → outer ≡ old ++ values_at e w Γ c (k / n) → new ≡ outer ++ v ∷ [] → new ≡ old ++ values_at e w (T ∷ Γ) c k
  one_more v old outer new value before after =
      let last : get_or (values w T c) (k % n) Star ≡ v = ap (λ (s : Site). get_or (elements s w.functors T c) (k % n) Star) h.world.site ∙ (value w.functors h.world.faithful).is in
      after ∙ ap (λ l. l ++ v ∷ []) before ∙ append_assoc old (values_at e w Γ c (k / n)) (v ∷ [])
      ∙ ap (λ l. old ++ l) (sym (values_are w Γ T c k n width h.within e ∙ ap (λ u. values_at e w Γ c (k / n) ++ u ∷ []) last))

-- the numbers of tuples do not depend on the world
module _ (e : Elements) (w w' : World) (c : ℕ) (world : IsWorldOf e w) (world' : IsWorldOf e w') (low : c < e.site.now.category.objects) where
  same_width : (T : Ty) → IsReadable e T → length (values w T c) ≡ length (values w' T c)
  same_width T h =
      let there = itself e T h in
      let sealed : IsSealed e.store.now T there.0 = record { low = there.1; key = there.2 } in
      ap (λ (s : Site). length (elements s w.functors T c)) world.site ∙ sym (sealed_count e w.functors T there.0 c world.faithful sealed low)
      ∙ sealed_count e w'.functors T there.0 c world'.faithful sealed low ∙ ap (λ (s : Site). length (elements s w'.functors T c)) (sym world'.site)

  same_counts : (Γ : List Ty) → ((T : Ty) → In Γ T → IsReadable e T) → length (tuples w Γ c) ≡ length (tuples w' Γ c)
  unfolding tuples
  same_counts [] h = refl
  same_counts (T ∷ Γ) h =
      tuple_count w Γ T c ∙ ap (λ n. n * length (values w T c)) (same_counts Γ (λ U i. h U (inr i))) ∙ ap (λ n. length (tuples w' Γ c) * n) (same_width T (h T (inl refl))) ∙ sym (tuple_count w' Γ T c)

pub tuple_under : (e : Elements) (w w' : World) (Γ : List Ty) (c k : ℕ) → IsTuple e w Γ c k → IsWorldOf e w' → IsTuple e w' Γ c k
tuple_under e w w' Γ c k h world = record {
  world = world;
  readable = h.readable;
  object = h.object;
  within = subst (λ n. k < n) (same_counts e w w' c h.world world h.object Γ h.readable) h.within;
}

-- the empty context has the empty tuple
pub no_values : (e : Elements) (w : World) (types : List Ty) (c k : ℕ) → length types ≡ 0 → values_at e w (reverse types) c k ≡ []
unfolding tuples
no_values e w [] c zero h = refl
no_values e w [] c (suc k) h = refl
no_values e w (T ∷ types) c k h = absurd (omega (arith, h))

-- the innermost variable is the last
pub innermost_first : (types outer : List Ty) (T : Ty) → types ≡ outer ++ T ∷ [] → reverse types ≡ T ∷ reverse outer
innermost_first types outer T e = ap reverse e ∙ reverse-append outer (T ∷ [])
