-- A sealed type by its elements' numbers is the functor of the type.
use Rattle.std.proofs.Common.{◌≡◌, ℕ, ◌<◌, List, length, get_or, map, refl, sym, ap, ap₂, subst, ◌∙◌, arith}
use Rattle.std.specs.List.{range_with_len, All}
use Rattle.std.proofs.lemmas.List.{get_or_default}
use Rattle.finite_lists.specs.Members.{In}
use Rattle.finite_lists.proofs.Lists.{map_same}
use Rattle.finite_lists.proofs.DistinctLists.{In-range_from}
use Rattle.topos_model.specs.declared.ty.Ty.{Ty, Base, One, Omega, Two', Pow', Fun', more_of-Ty as one, end_of-Ty as none}
use Rattle.topos_model.specs.declared.value.Val.{Val, Star}
use Rattle.topos_model.specs.categories.Category.{Category, dom, cod}
use Rattle.topos_model.specs.topologies.Cover.{Site}
use Rattle.topos_model.specs.Laws.{IsCategory, IsFunctor}
use Rattle.topos_model.specs.types.Types.{Presheaf, elements, restr}
use Rattle.topos_model.specs.statements.Needs.{parts}
use Rattle.topos_model.specs.statements.Cells.{is_named}
use Rattle.type_laws.specs.Numbered.{place_of, numbered}
use Rattle.type_laws.specs.TypeLaws.{TypeFunctor}
use Rattle.type_laws.proofs.Numbering.{place_of_at}
use Rattle.type_laws.proofs.Presheaves.{Distinct-elements}
use Rattle.type_laws.proofs.TypeFunctors.{types_are_functors}
use Rattle.forcing_laws.proofs.NamedSheaves.{part_itself}
use Rattle.functor_store.specs.Store.{Functor, Store, functor_at, size_at, restriction_along}
use Rattle.functor_store.specs.Faithful.{Holds, HasElements, IsFaithful}
use Rattle.truth_tables.specs.Tables.{row}
use Rattle.term_tables.specs.Parts.{IsSealed}
use Rattle.sealed_world.specs.SealedWorlds.{CountedWorld, HasTypes, IsStoreOf}
use Rattle.term_objects.proofs.NumberTables.{map_places}

module _ (w : CountedWorld) (store : Store) (held : IsStoreOf w store) where
  pub functors_lawful : All (IsFunctor w.site.category) w.functors
  functors_lawful = λ n X low. subst (IsFunctor w.site.category) (get_or_default w.functors n _ X low) (held.faithful.named n (held.presheaves n low)).1

  -- a type of a list of types that are all counted
  pub member_held : (types : List Ty) (T : Ty) → In types T → ((n : ℕ) → In types (Base n) → n < length w.functors) → HasTypes types w → Holds store T
  unfolding is_named
  member_held types (Base n) i named counted = held.presheaves n (named n i)
  member_held types One i named counted = held.types One (counted One i refl)
  member_held types Omega i named counted = held.types Omega (counted Omega i refl)
  member_held types (Two' a (one S none) b (one T none)) i named counted = held.types (Two' a (one S none) b (one T none)) (counted (Two' a (one S none) b (one T none)) i refl)
  member_held types (Pow' a (one T none)) i named counted = held.types (Pow' a (one T none)) (counted (Pow' a (one T none)) i refl)
  member_held types (Fun' a (one S none) b (one T none)) i named counted = held.types (Fun' a (one S none) b (one T none)) (counted (Fun' a (one S none) b (one T none)) i refl)

  pub type_held : (T : Ty) → ((n : ℕ) → In (parts T) (Base n) → n < length w.functors) → HasTypes (parts T) w → Holds store T
  type_held T named counted = member_held (parts T) T (part_itself T) named counted

module _ (s : Site) (functors : List Presheaf) (laws : IsCategory s.category) (store : Store) (T : Ty) (id : ℕ) (faithful : IsFaithful s functors store) (sealed : IsSealed store T id) where
  abbrev F : Functor
  F = functor_at store.sealed id

  pub sealed_elements : HasElements s functors T (functor_at store.sealed id)
  sealed_elements = subst (λ S. HasElements s functors S F) sealed.key (faithful.held id sealed.low)

  abbrev els : ℕ → List Val
  els c = elements s functors T c

  sizes_are : row s.category.objects (size_at F) ≡ (TypeFunctor s functors T).sizes
  unfolding numbered
  sizes_are =
      map_same (size_at F) (λ c. length (els c)) (range_with_len 0 s.category.objects) (λ c i. let r = In-range_from 0 s.category.objects c i in sealed_elements.sizes c (omega (arith, r.1)))

  -- where an element is restricted along f, by its number
  abbrev restricted : ℕ → Val → ℕ
  restricted f v = place_of (restr s functors T f v) (els (dom s.category f))

  row_is : (f : ℕ) → f < length s.category.ends → row (size_at F (cod s.category f)) (restriction_along s.category.ends F f) ≡ map (restricted f) (els (cod s.category f))
  row_is f low =
      let c = cod s.category f in
      let size : size_at F c ≡ length (els c) = sealed_elements.sizes c (laws.ends f low).1 in
      ap (λ n. row n (restriction_along s.category.ends F f)) size
      ∙ map_same (restriction_along s.category.ends F f) (λ x. restricted f (get_or (els c) x Star)) (range_with_len 0 (length (els c)))
      (λ x i.
      let r = In-range_from 0 (length (els c)) x i in
      let stands = sealed_elements.restrictions f x low (omega (arith, r.1, size)) in
      sym (place_of_at (els (dom s.category f)) (restriction_along s.category.ends F f x) Star (Distinct-elements s functors T (dom s.category f)) stands.within)
      ∙ ap (λ v. place_of v (els (dom s.category f))) stands.is)
      ∙ map_places Star (restricted f) (els c)

  rows_are : row (length s.category.ends) (λ f. row (size_at F (cod s.category f)) (restriction_along s.category.ends F f)) ≡ (TypeFunctor s functors T).along
  unfolding numbered
  rows_are =
      map_same (λ f. row (size_at F (cod s.category f)) (restriction_along s.category.ends F f)) (λ f. map (restricted f) (els (cod s.category f))) (range_with_len 0 (length s.category.ends))
      (λ f i. let r = In-range_from 0 (length s.category.ends) f i in row_is f (omega (arith, r.1)))

  module _ (k : Category) (same : k ≡ s.category) (objects : ℕ) (counted : objects ≡ k.objects) (sizes : List ℕ) (along : List (List ℕ)) (listed : sizes ≡ row objects (size_at (functor_at store.sealed id)))
      (rows : along ≡ row (length k.ends) (λ f. row (size_at (functor_at store.sealed id) (cod k f)) (restriction_along store.ends (functor_at store.sealed id) f))) where
    pub sealed_presheaf : record { sizes = sizes; along = along } ≡ TypeFunctor s functors T
    sealed_presheaf =
        ap₂ (λ sizes along. record { sizes = sizes; along = along }) (listed ∙ ap (λ n. row n (size_at F)) (counted ∙ ap (λ (k : Category). k.objects) same) ∙ sizes_are)
        (rows ∙ ap (λ (k : Category). row (length k.ends) (λ f. row (size_at F (cod k f)) (restriction_along store.ends F f))) same
        ∙ ap (λ ends. row (length s.category.ends) (λ f. row (size_at F (cod s.category f)) (restriction_along ends F f))) faithful.ends ∙ rows_are)

    pub sealed_lawful : All (IsFunctor s.category) functors → IsFunctor k (record { sizes = sizes; along = along })
    sealed_lawful lawful = subst (λ k. IsFunctor k (record { sizes = sizes; along = along })) (sym same) (subst (IsFunctor s.category) (sym sealed_presheaf) (types_are_functors s functors laws lawful T))
