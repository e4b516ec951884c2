-- A functor of values by numbers, as answers have it, and parts of a presheaf of values.
use Rattle.std.proofs.Common.{◌≡◌, ℕ, suc, ◌<◌, cond, inl, inr, List, [], ◌∷◌, length, map, refl, ap, subst, ◌∙◌, arith}
use Rattle.std.proofs.lemmas.Bool.{cases_Bool, cond-false}
use Rattle.finite_lists.specs.Members.{In}
use Rattle.finite_lists.proofs.Lists.{map_same}
use Rattle.topos_model.specs.declared.value.Val.{Val, Star}
use Rattle.topos_model.specs.categories.Category.{Category, dom, cod, arrows}
use Rattle.topos_model.specs.Laws.{IsCategory, IsInto, IsFunctor, size, act}
use Rattle.topos_model.specs.types.Types.{Presheaf}
use Rattle.topos_model.specs.types.Values.{same}
use Rattle.topos_model.specs.statements.Answers.{place_in, numbered as answer_numbered}
use Rattle.topos_model.specs.statements.Cells.{objects_of}
use Rattle.type_laws.specs.Numbered.{place_of, numbered}
use Rattle.type_laws.proofs.Same.{same_equal}
use Rattle.type_laws.proofs.Places.{IsPresheaf}
use Rattle.type_laws.proofs.Numbering.{size_numbered, act_numbered, at_place_of}

-- the first place of a value
place_same : (v : Val) (xs : List Val) → place_of v xs ≡ place_in v xs
unfolding place_of
place_same v [] = refl
place_same v (u ∷ xs) = ap (λ n. cond (same u v) 0 (suc n)) (place_same v xs)

pub same_numbered : (k : Category) (values : ℕ → List Val) (restrict : ℕ → Val → Val) → numbered k values restrict ≡ answer_numbered k values restrict
unfolding numbered answer_numbered
same_numbered k values restrict =
    ap (λ (along : List (List ℕ)). record { sizes = map (λ c. length (values c)) (objects_of k); along = along })
    (map_same (λ f. map (λ v. place_of (restrict f v) (values (dom k f))) (values (cod k f))) (λ f. map (λ v. place_in (restrict f v) (values (dom k f))) (values (cod k f))) (arrows k)
    (λ f i. map_same (λ v. place_of (restrict f v) (values (dom k f))) (λ v. place_in (restrict f v) (values (dom k f))) (values (cod k f)) (λ v j. place_same (restrict f v) (values (dom k f)))))

-- a value whose place is one of the list's stands there
place_member : (v : Val) (xs : List Val) → place_of v xs < length xs → In xs v
unfolding place_of
place_member v [] low = absurd (omega (arith, low))
place_member v (u ∷ xs) low = elim (cases_Bool (same u v)) [
  | inl e ↦ inl (same_equal u v e)
  | inr e ↦ inr (place_member v xs (let step : cond (same u v) 0 (suc (place_of v xs)) ≡ suc (place_of v xs) = cond-false (same u v) 0 (suc (place_of v xs)) e in omega (arith, low, step)))
]

-- of the elements of a presheaf some, which by number make a functor
module _ (k : Category) (laws : IsCategory k) (values part : ℕ → List Val) (restrict : ℕ → Val → Val) (presheaf : IsPresheaf k values restrict)
    (some : (c : ℕ) (v : Val) → In (part c) v → In (values c) v) (functor : IsFunctor k (numbered k part restrict)) where
  abbrev Z : Presheaf
  Z = numbered k part restrict

  within : (c f : ℕ) (v : Val) → IsInto k c f → In (part c) v → In (part (dom k f)) (restrict f v)
  within c f v into i =
      let ends = laws.ends f into.0 in
      let object : c < k.objects = subst (λ d. d < k.objects) into.1 ends.1 in
      let place = at_place_of (part c) v Star i in
      let x = place_of v (part c) in
      let low : act Z f x < size Z (dom k f) = functor.within c f x into (omega (arith, place.0, size_numbered k part restrict c object)) in
      let moved : act Z f x ≡ place_of (restrict f v) (part (dom k f)) =
      act_numbered k part restrict c f x Star into place.0 ∙ ap (λ u. place_of (restrict f u) (part (dom k f))) place.1 in
      place_member (restrict f v) (part (dom k f)) (omega (arith, low, moved, size_numbered k part restrict (dom k f) ends.0))

  pub part_presheaf : IsPresheaf k part restrict
  part_presheaf = record {
    within = within;
    identity = λ c v object i. presheaf.identity c v object (some c v i);
    composite = λ c f g v i j m. presheaf.composite c f g v i j (some c v m);
  }
