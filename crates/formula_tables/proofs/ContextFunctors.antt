-- The product of a context, sealed: its elements are the tuples, in order, and restrict as they do.
use Rattle.std.proofs.Common.{◌≡◌, ℕ, zero, suc, ◌<◌, inl, inr, List, [], ◌∷◌, length, get_or, sym, ap, subst, refl, ◌∙◌, arith}
use Rattle.std.proofs.lemmas.List.{length-map, get_or-map}
use Rattle.finite_lists.specs.Members.{In, Distinct}
use Rattle.finite_lists.proofs.Lists.{In_at}
use Rattle.topos_model.specs.declared.ty.Ty.{Ty}
use Rattle.topos_model.specs.declared.value.Val.{Val, Star}
use Rattle.topos_model.specs.declared.context.MapTy.{MapTy}
use Rattle.topos_model.specs.categories.Category.{Category, into}
use Rattle.topos_model.specs.Laws.{IsInto}
use Rattle.topos_model.specs.types.Types.{restr}
use Rattle.topos_model.specs.statements.Needs.{product}
use Rattle.topos_model.specs.formulas.Forcing.{World, Assigned, onto, source, values, along, tuples}
use Rattle.topos_model.specs.formulas.TermLaws.{IsWorld}
use Rattle.topos_model.proofs.ArrowsInto.{In-into_from}
use Rattle.functor_store.specs.Store.{Functor, Store, place, functor_at, size_at, restrictions_at, restriction_along}
use Rattle.functor_store.specs.Faithful.{HasElements, IsFaithful, Stands}
use Rattle.sieve_table.proofs.SieveMembers.{Distinct-into}
use Rattle.type_laws.proofs.Presheaves.{Distinct-elements}
use Rattle.type_rows.proofs.ArrowPlaces.{one_place, arrow_place}
use Rattle.forcing_laws.specs.Tuples.{paired, PairsTuples}
use Rattle.forcing_laws.proofs.TupleLists.{tuples_are_product}
use Rattle.forcing_laws.proofs.Tuples.{tuples_restrict}
use Rattle.truth_tables.specs.Standing.{tuple_at}
use Rattle.site_stages.specs.Stages.{arrow_at}
use Rattle.formula_tables.specs.Tuples.{AreTuples}

-- a member stands somewhere
stands_at : {A : Type 0} (xs : List A) (x d : A) → In xs x → (n : ℕ) × (n < length xs) × (get_or xs n d ≡ x)
stands_at [] x d i = absurd i
stands_at (y ∷ xs) x d (inl e) = (0, omega arith, e)
stands_at (y ∷ xs) x d (inr i) = let (n, low, e) = stands_at xs x d i in (suc n, omega (arith, low), e)

module _ (w : World) (maps : List MapTy) (world : IsWorld w maps) (Γ : List Ty) where
  abbrev k : Category
  k = w.site.category

  abbrev element : ℕ → ℕ → Val
  element c n = get_or (values w (product Γ) c) n Star

  pairs : PairsTuples w Γ
  pairs = tuples_are_product w Γ

  tuple_count : (c : ℕ) → length (values w (product Γ) c) ≡ length (tuples w Γ c)
  tuple_count c = ap length (sym (pairs.elements c)) ∙ length-map (tuples w Γ c) paired

  element_is : (c n : ℕ) → n < length (tuples w Γ c) → element c n ≡ paired (tuple_at w Γ c n)
  element_is c n low = ap (λ l. get_or l n Star) (sym (pairs.elements c)) ∙ get_or-map paired (tuples w Γ c) n [] Star low

  -- the tuple with a number is known by its pair
  tuple_by_pair : (c n : ℕ) (a : Assigned) → n < length (tuples w Γ c) → In (tuples w Γ c) a → element c n ≡ paired a → tuple_at w Γ c n ≡ a
  tuple_by_pair c n a low i e =
      let (m, within, is) = stands_at (tuples w Γ c) a [] i in
      let same : n ≡ m = one_place (values w (product Γ) c) Star n m (Distinct-elements w.site w.functors (product Γ) c)
      (omega (arith, low, tuple_count c)) (omega (arith, within, tuple_count c)) (e ∙ sym (element_is c m within ∙ ap paired is)) in
      ap (tuple_at w Γ c) same ∙ is

  module _ (store : Store) (faithful : IsFaithful w.site w.functors store) (id : ℕ) (sealed : id < length store.sealed) (key : (functor_at store.sealed id).key ≡ product Γ) where
    abbrev F : Functor
    F = functor_at store.sealed id

    has : HasElements w.site w.functors (product Γ) (functor_at store.sealed id)
    has = subst (λ T. HasElements w.site w.functors T (functor_at store.sealed id)) key (faithful.held id sealed)

    size : (c : ℕ) → c < w.site.category.objects → size_at (functor_at store.sealed id) c ≡ length (tuples w Γ c)
    size c low = has.sizes c low ∙ tuple_count c

    into_at : (c j : ℕ) → j < length (onto w c) → IsInto w.site.category c (arrow_at w.site c j)
    into_at c j low = In-into_from k c (arrow_at w.site c j) (In_at (into k c) j 0 low)

    -- the restriction along the arrow at place j stands for the restricted tuple
    stands : (c i j : ℕ) → c < w.site.category.objects → i < length (tuples w Γ c) → j < length (onto w c) →
        Stands w.site w.functors (product Γ) (source w (arrow_at w.site c j)) (get_or (restrictions_at (functor_at store.sealed id) c i) j 0) (restr w.site w.functors (product Γ) (arrow_at w.site c j) (element c i))
    stands c i j low inside there =
        let f = arrow_at w.site c j in
        let a = into_at c j there in
        let read : restriction_along k.ends F f i ≡ get_or (restrictions_at F c i) j 0 =
        ap (λ d. get_or (restrictions_at F d i) (place k.ends f) 0) a.1 ∙ ap (λ p. get_or (restrictions_at F c i) p 0) (arrow_place k c j there) in
        subst (λ n. Stands w.site w.functors (product Γ) (source w f) n (restr w.site w.functors (product Γ) f (element c i))) read
        (subst (λ d. Stands w.site w.functors (product Γ) (source w f) (restriction_along k.ends F f i) (restr w.site w.functors (product Γ) f (element d i))) a.1
        (has.restrictions f i a.0 (subst (λ d. i < size_at F d) (sym a.1) (omega (arith, inside, size c low)))))

    within_at : (c i j : ℕ) → c < w.site.category.objects → i < length (tuples w Γ c) → j < length (onto w c) →
        get_or (restrictions_at (functor_at store.sealed id) c i) j 0 < length (tuples w Γ (source w (arrow_at w.site c j)))
    within_at c i j low inside there = let s = (stands c i j low inside there).within in omega (arith, s, tuple_count (source w (arrow_at w.site c j)))

    pub context_tuples : AreTuples w Γ (functor_at store.sealed id)
    context_tuples = record {
      sizes = size;
      within = within_at;
      restricted = λ c i j low inside there.
          let f = arrow_at w.site c j in
          let m = In_at (tuples w Γ c) i [] inside in
          tuple_by_pair (source w f) (get_or (restrictions_at F c i) j 0) (along w f (tuple_at w Γ c i)) (within_at c i j low inside there)
          ((tuples_restrict w world Γ).within c f (tuple_at w Γ c i) (into_at c j there) m)
          ((stands c i j low inside there).is ∙ ap (restr w.site w.functors (product Γ) f) (element_is c i inside) ∙ sym (pairs.restrictions c f (tuple_at w Γ c i) m));
    }
