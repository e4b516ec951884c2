-- Tables of maps and functions at terms, of equality and of membership.
use Rattle.std.proofs.Common.{◌≡◌, ℕ, ◌<◌, Bool, true, false, eqb, List, [], length, get_or, refl, sym, ap, subst, ◌∙◌, arith, inl, inr}
use Rattle.std.proofs.lemmas.Bool.{cases_eq, eq-eqb, ne_eqb}
use Rattle.topos_model.specs.declared.ty.Ty.{Ty, Pow, Fun}
use Rattle.topos_model.specs.declared.term.Term.{Term, App, Eq, Eval, Member}
use Rattle.topos_model.specs.declared.value.Val.{Val, Star}
use Rattle.topos_model.specs.topologies.Cover.{Site}
use Rattle.topos_model.specs.Laws.{IsCategory}
use Rattle.topos_model.specs.types.Types.{Presheaf, elements}
use Rattle.topos_model.specs.types.Values.{same}
use Rattle.topos_model.specs.formulas.Forcing.{World, value, forces, tuples}
use Rattle.topos_model.specs.formulas.TermLaws.{image}
use Rattle.topos_model.proofs.MeaningEquations.{value-App, value-Eval, forces-Eq, forces-Member}
use Rattle.type_laws.proofs.Same.{same_equal, same_self}
use Rattle.functor_store.specs.Store.{Store, Functor, functor_at, element_at}
use Rattle.functor_store.specs.Faithful.{Stands, HasElements}
use Rattle.truth_tables.specs.Tables.{number}
use Rattle.truth_tables.specs.Standing.{tuple_at}
use Rattle.truth_tables.specs.Entries.{AreEntries}
use Rattle.term_tables.proofs.OneNumber.{one_number}
use Rattle.term_tables.specs.Parts.{AreMapParts, AreAlike, AreFunctionParts, AreMemberParts}
use Rattle.truth_tables.proofs.Standing.{object_in, tuple_in}
use Rattle.term_tables.proofs.Contexts.{sizes_long}
use Rattle.term_tables.proofs.SealedSizes.{elements_of}
use Rattle.term_tables.proofs.ElementRows.{in_size, function_place, function_entry, subset_place, subset_entry}

-- values have one number exactly if they are equal
numbers_same : (s : Site) (functors : List Presheaf) (T : Ty) (c m n : ℕ) (u v : Val) → Stands s functors T c m u → Stands s functors T c n v → eqb m n ≡ same u v
numbers_same s functors T c m n u v p q =
    elim (cases_eq m n) [
      | inl e ↦ eq-eqb m n e ∙ sym (let x : u ≡ v = sym p.is ∙ ap (λ k. get_or (elements s functors T c) k Star) e ∙ q.is in subst (λ w. same u w ≡ true) x (same_self u))
      | inr n' ↦ ne_eqb m n n' ∙ sym (differ (same u v) refl n')
    ]
  where
    differ : (b : Bool) → same u v ≡ b → (m ≡ n → ⊥) → b ≡ false
    differ true e apart = absurd (apart (one_number s functors T c m n u v p q (same_equal u v e)))
    differ false e apart = refl

module _ (w : World) (Γ : List Ty) (m : ℕ) (S T : Ty) (t : Term) (sizes : List ℕ) (images arguments : List (List ℕ)) (h : AreMapParts w Γ m S T t sizes images arguments) where
  pub image_values : (c i : ℕ) → c < w.site.category.objects → i < length (tuples w Γ c) →
      Stands w.site w.functors T c (number images c (number arguments c i)) (value w (App m t) c (tuple_at w Γ c i))
  image_values c i low inside =
      let p = h.arguments_stand.stands c i low inside in
      subst (Stands w.site w.functors T c (number images c (number arguments c i))) (ap (image w m c) p.is ∙ sym (value-App w m t c (tuple_at w Γ c i)))
      (h.map_stands.stand c (number arguments c i) low p.within)

  pub images_long : length images ≡ length sizes
  images_long = omega (arith, h.map_stands.objects, sizes_long w Γ sizes h.counted)

  pub mapped : (c i : ℕ) → c < length sizes → i < get_or sizes c 0 → number arguments c i < length (get_or images c [])
  mapped c i low' inside' =
      let low = object_in w Γ sizes h.counted c low' in
      let p = (h.arguments_stand.stands c i low (tuple_in w Γ sizes h.counted c i low' inside')).within in
      let e = h.map_stands.elements c low in
      omega (arith, e, p)

module _ (w : World) (Γ : List Ty) (T : Ty) (t u : Term) (sizes : List ℕ) (left right : List (List ℕ)) (h : AreAlike w Γ T t u sizes left right) where
  pub equal_truths : (c i : ℕ) → c < w.site.category.objects → i < length (tuples w Γ c) → eqb (number left c i) (number right c i) ≡ forces w (Eq t u) c (tuple_at w Γ c i)
  equal_truths c i low inside =
      numbers_same w.site w.functors T c (number left c i) (number right c i) _ _ (h.left_stands.stands c i low inside) (h.right_stands.stands c i low inside)
      ∙ sym (forces-Eq w t u c (tuple_at w Γ c i))

module _ (w : World) (Γ : List Ty) (S T : Ty) (t u : Term) (store : Store) (id : ℕ) (sizes : List ℕ) (functions arguments : List (List ℕ)) (h : AreFunctionParts w Γ S T t u store id sizes functions arguments) where
  abbrev F : Functor
  F = functor_at store.sealed id

  laws : IsCategory w.site.category
  laws = h.context.lawful.1.category

  has : HasElements w.site w.functors (Fun S T) (functor_at store.sealed id)
  has = elements_of w.site w.functors store h.context.faithful (Fun S T) id h.type

  pub evaluated_values : (c i : ℕ) → c < w.site.category.objects → i < length (tuples w Γ c) →
      Stands w.site w.functors T c (get_or (element_at (functor_at store.sealed id) c (number functions c i)) (number arguments c i) 0) (value w (Eval t u) c (tuple_at w Γ c i))
  evaluated_values c i low inside =
      subst (Stands w.site w.functors T c (get_or (element_at F c (number functions c i)) (number arguments c i) 0)) (sym (value-Eval w t u c (tuple_at w Γ c i)))
      (function_entry w.site w.functors laws c low S T F has (number functions c i) (number arguments c i) _ _ (h.functions_stand.stands c i low inside) (h.arguments_stand.stands c i low inside))

  pub evaluated_entries : AreEntries (functor_at store.sealed id) sizes functions arguments
  evaluated_entries = record {
    members = λ c i low' inside'.
        let low = object_in w Γ sizes h.context.counted c low' in
        in_size w.site w.functors laws c low (Fun S T) F has (number functions c i) _ (h.functions_stand.stands c i low (tuple_in w Γ sizes h.context.counted c i low' inside'));
    within = λ c i low' inside'.
        let low = object_in w Γ sizes h.context.counted c low' in
        let inside = tuple_in w Γ sizes h.context.counted c i low' inside' in
        function_place w.site w.functors laws c low S T F has (number functions c i) (number arguments c i) _ _ (h.functions_stand.stands c i low inside) (h.arguments_stand.stands c i low inside);
  }

  pub function_site : length sizes ≡ store.objects
  function_site = omega (arith, h.context.faithful.objects, sizes_long w Γ sizes h.context.counted)

module _ (w : World) (Γ : List Ty) (T : Ty) (t u : Term) (store : Store) (id : ℕ) (sizes : List ℕ) (members subsets : List (List ℕ)) (h : AreMemberParts w Γ T t u store id sizes members subsets) where
  abbrev P : Functor
  P = functor_at store.sealed id

  laws' : IsCategory w.site.category
  laws' = h.context.lawful.1.category

  has' : HasElements w.site w.functors (Pow T) (functor_at store.sealed id)
  has' = elements_of w.site w.functors store h.context.faithful (Pow T) id h.type

  pub member_truths : (c i : ℕ) → c < w.site.category.objects → i < length (tuples w Γ c) →
      eqb (get_or (element_at (functor_at store.sealed id) c (number subsets c i)) (number members c i) 0) 1 ≡ forces w (Member t u) c (tuple_at w Γ c i)
  member_truths c i low inside =
      subset_entry w.site w.functors laws' c low T P has' (number subsets c i) (number members c i) _ _ (h.subsets_stand.stands c i low inside) (h.elements_stand.stands c i low inside)
      ∙ sym (forces-Member w t u c (tuple_at w Γ c i))

  pub member_entries : AreEntries (functor_at store.sealed id) sizes subsets members
  member_entries = record {
    members = λ c i low' inside'.
        let low = object_in w Γ sizes h.context.counted c low' in
        in_size w.site w.functors laws' c low (Pow T) P has' (number subsets c i) _ (h.subsets_stand.stands c i low (tuple_in w Γ sizes h.context.counted c i low' inside'));
    within = λ c i low' inside'.
        let low = object_in w Γ sizes h.context.counted c low' in
        let inside = tuple_in w Γ sizes h.context.counted c i low' inside' in
        subset_place w.site w.functors laws' c low T P has' (number subsets c i) (number members c i) _ _ (h.subsets_stand.stands c i low inside) (h.elements_stand.stands c i low inside);
  }

  pub power_site : length sizes ≡ store.objects
  power_site = omega (arith, h.context.faithful.objects, sizes_long w Γ sizes h.context.counted)
