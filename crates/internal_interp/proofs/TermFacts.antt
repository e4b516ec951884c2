-- What a term that is known says of its parts, and of its meaning.
use Rattle.std.proofs.Common.{◌≡◌, ℕ, ◌<◌, inl, inr, List, [], ◌∷◌, ◌++◌, length, get_or, filter, Bool, Some, None, refl, sym, ap, subst, ◌∙◌, arith}
use denote.Bor.{Bor}
use Rattle.finite_lists.specs.Members.{In}
use Rattle.finite_lists.proofs.Lists.{In-append_left, In-append_right, In-map_from, map_same}
use denote.Hole.Carrier
use Rattle.topos_model.specs.declared.ty.Ty.{Ty, out-Ty, Omega, Two}
use Rattle.topos_model.specs.declared.ty.Ty.TheOpen.{Two as IsTwo}
use Rattle.topos_model.specs.declared.ty.Ty.TheBlock.{hidden-the_row-Ty-0, shown-the_row-Ty-0}
use Rattle.topos_model.specs.declared.term.Term.{Term}
use Rattle.topos_model.specs.declared.context.MapTy.{MapTy}
use Rattle.topos_model.specs.declared.value.Val.{Sv}
use Rattle.topos_model.specs.categories.Category.{Category, sieves}
use Rattle.topos_model.specs.types.Types.{is_closed_sieve, omega_elements}
use Rattle.topos_model.proofs.TypeEquations.{elements-Omega}
use Rattle.type_laws.proofs.Selectors.{Sv-equal}
use Rattle.omega_object.specs.TruthValues.{closed_sieves}
use Rattle.formula_tables.specs.Formulas.{IsContext}
use Rattle.topos_model.specs.topologies.Sheaves.{OfSheaves}
use Rattle.topos_model.specs.statements.Needs.{found, parts, product, subterms}
use Rattle.topos_model.specs.formulas.Forcing.{World, meaning, values, forces}
use Rattle.term_typing.proofs.TypingRules.{rules_are_typed}
use Rattle.functor_store.specs.Faithful.{Holds, HasElements}
use Rattle.omega_object.specs.declared.omega.Omega.{Omega as OmegaTables}
use Rattle.truth_tables.specs.Standing.{IsTruthTable}
use Rattle.truth_tables.specs.Tables.{row}
use Rattle.functor_store.specs.Store.{functor_at, size_at}
use Rattle.finite_lists.proofs.DistinctLists.{In-range_from}
use Rattle.std.specs.List.{range_with_len}
use Rattle.internal_interp.specs.Contexts.{widths_of}
use Rattle.forcing_laws.proofs.Properties.{Means}
use Rattle.forcing_laws.proofs.Meanings.{meanings}
use Rattle.forcing_laws.proofs.NamedSheaves.{AreOfSheaves, part_itself}
use Rattle.forcing_laws.proofs.Tuples.{Tuple}
use Rattle.forcing_laws.proofs.TupleLists.{In_tuples}
use Rattle.term_tables.specs.Parts.{AreTruthValues, AreForced, IsSealed, ArePairParts, IsPairTable, IsKnown as IsContextKnown}
use Rattle.internal_interp.specs.declared.context.Context.{Context}
use Rattle.internal_interp.specs.declared.interpreter.Interpreter.{Interpreter}
use Rattle.internal_interp.specs.declared.interpreter.Valued.{Valued}
use Rattle.internal_interp.specs.Known.{Knows, AreServed, IsKnown, IsValued, ArePair}

-- an element of Omega is a closed sieve
closed_sieve : (w : World) (c : ℕ) (S : List ℕ) → In (values w Omega c) (Sv S) → In (closed_sieves w.site c) S
unfolding omega_elements closed_sieves
closed_sieve w c S h =
    let m = In-map_from Sv (filter (is_closed_sieve w.site c) (sieves w.site.category c)) (Sv S) (subst (λ l. In l (Sv S)) (elements-Omega w.site w.functors c) h) in
    subst (In (filter (is_closed_sieve w.site c) (sieves w.site.category c))) (Sv-equal m.0 S m.2) m.1

-- the second factor of a product is among its parts
pub second_part : (S T : Ty) → In (parts (Two S T)) T
unfolding parts hidden-the_row-Ty-0 Carrier.hidden
second_part S T = inr (In-append_right (parts S) (parts T) T (part_itself T))

-- products with equal factors alone are equal
first_of : Ty → Ty
unfolding out-Ty
first_of T = elim (out-Ty T) [ IsTwo S U ↦ S | _ ↦ T ]

second_of : Ty → Ty
unfolding out-Ty
second_of T = elim (out-Ty T) [ IsTwo S U ↦ U | _ ↦ T ]

pub same_first : (S T S' T' : Ty) → Two S T ≡ Two S' T' → S ≡ S'
unfolding first_of out-Ty Carrier.out shown-the_row-Ty-0 Carrier.shown Carrier.hidden
same_first S T S' T' e = ap first_of e

pub same_second : (S T S' T' : Ty) → Two S T ≡ Two S' T' → T ≡ T'
unfolding second_of out-Ty Carrier.out shown-the_row-Ty-0 Carrier.shown Carrier.hidden
same_second S T S' T' e = ap second_of e

module _ (w : World) (maps : List MapTy) (i : Interpreter) where
  -- what is served to a term and its subterms is served to these
  pub below : {x : List Ty × Term} (ts : List (List Ty × Term)) → AreServed w maps i (x ∷ ts) → AreServed w maps i ts
  below ts h = record { each = λ s m. h.each s (inr m) }

  pub left : {x : List Ty × Term} (ts us : List (List Ty × Term)) → AreServed w maps i (x ∷ ts ++ us) → AreServed w maps i ts
  left ts us h = record { each = λ s m. h.each s (inr (In-append_left ts us s m)) }

  pub right : {x : List Ty × Term} (ts us : List (List Ty × Term)) → AreServed w maps i (x ∷ ts ++ us) → AreServed w maps i us
  right ts us h = record { each = λ s m. h.each s (inr (In-append_right ts us s m)) }

  module _ (Γ : List Ty) (U : Ty) (context : Context) (t : Term) (known : IsKnown w maps i Γ U context t) where
    -- its type and the parts of this
    pub type_served : OfSheaves w.site w.functors U × ((P : Ty) → In (parts U) P → Holds i.store.now P) × (In (parts U) Omega → (Ω : Bor OmegaTables) × (i.omega ≡ Some Ω))
    type_served = known.served.each (Γ, t) (inl refl) U (subst (λ r. In (found r ++ product Γ ∷ Γ) U) (sym (rules_are_typed maps Γ t U known.typing)) (inl refl))

    of_sheaves : AreOfSheaves w maps (subterms Γ t)
    of_sheaves = record { each = λ s m T n. (known.served.each s m T n).0 }

    pub means_of : Means w Γ U (meaning w t)
    means_of = meanings w maps known.knows.lawful Γ t U known.typing of_sheaves

  module _ (Γ : List Ty) (context : Context) (t : Term) (known : IsKnown w maps i Γ Omega context t) where
    pub has_omega : i.omega ≡ None → ⊥
    has_omega e = let (Ω, is) = (type_served Γ Omega context t known).2 (part_itself Omega) in let f : None ≡ Some Ω = sym e ∙ is in absurd (cc)

    pub truth_values : (v : Valued) → IsValued w Γ Omega t v → (Ω : Bor OmegaTables) → i.omega ≡ Some Ω → (sizes : List ℕ) →
        sizes ≡ get_or context.sizes 0 [] → AreTruthValues w Γ t Ω.now sizes v.numbers
    truth_values v h Ω is sizes e = record {
      counted = e ∙ known.scope.known.counted;
      truth_values = known.knows.omega Ω is;
      identity = λ c a low m. (means_of Γ Omega context t known).identity c a (record { low = low; fits = In_tuples w Γ c a m });
      stands = h.stands;
    }

    -- a formula, and the closed sieves of the arrows along which it is forced
    pub forced_parts : (truths : List (List Bool)) → IsTruthTable w Γ (forces w t) truths → (Ω : Bor OmegaTables) → i.omega ≡ Some Ω → (k : Category) (sizes : List ℕ) →
        k ≡ i.site.now.category → sizes ≡ get_or context.sizes 0 [] → AreForced w Γ t k Ω.now i.stages.now i.store.now context.place sizes truths
    forced_parts truths h Ω is k sizes e e' = record {
      known = subst (IsContext w Γ i.stages.now i.store.now context.place) (sym e') known.scope.known;
      category = ap (λ s. s.category) known.knows.site ∙ sym e;
      truth_values = known.knows.omega Ω is;
      sieves = λ c a low m.
          let there : Tuple w Γ c a = record { low = low; fits = In_tuples w Γ c a m } in
          let means = means_of Γ Omega context t known in
          let sieve = (means.truth refl).sieve c a there in
          (sieve, closed_sieve w c _ (subst (In (values w Omega c)) sieve (means.value.within c a there)));
      stands = h;
    }

-- the widths of a sealed type
pub widths_are : (w : World) (maps : List MapTy) (i : Interpreter) → Knows w maps i → (T : Ty) (id : ℕ) → IsSealed i.store.now T id → (sizes : List ℕ) →
    sizes ≡ row w.site.category.objects (size_at (functor_at i.store.now.sealed id)) → sizes ≡ widths_of w T
unfolding widths_of
widths_are w maps i knows T id sealed sizes e =
    e ∙ row_same w.site.category.objects (size_at (functor_at i.store.now.sealed id)) (λ c. length (values w T c))
    (λ c low. (subst (λ U. HasElements w.site w.functors U (functor_at i.store.now.sealed id)) sealed.key (knows.faithful.held id sealed.low)).sizes c low)
  where
    row_same : (n : ℕ) (f g : ℕ → ℕ) → ((c : ℕ) → c < n → f c ≡ g c) → row n f ≡ row n g
    row_same n f g h = map_same f g (range_with_len 0 n) (λ c m. let r = In-range_from 0 n c m in h c (omega (arith, r.1)))

-- the context of a term
module _ (w : World) (maps : List MapTy) (i : Interpreter) (Γ : List Ty) (context : Context) where
  pub context_known : {U : Ty} {t : Term} → IsKnown w maps i Γ U context t → (sizes : List ℕ) → sizes ≡ get_or context.sizes 0 [] → IsContextKnown w Γ i.store.now sizes
  context_known known sizes e = record { lawful = (maps, known.knows.lawful); faithful = known.knows.faithful; counted = e ∙ known.scope.known.counted }

  -- the type of a term is sealed
  pub held_type : (T : Ty) (t : Term) (v : Valued) → IsKnown w maps i Γ T context t → IsValued w Γ T t v → Holds i.store.now v.ty
  held_type T t v known h = subst (Holds i.store.now) (sym h.type_is) ((type_served w maps i Γ T context t known).1 T (part_itself T))

  pub pair_parts : (S T : Ty) (t u : Term) (left right : Valued) → ArePair w maps i Γ S T context t u left right → (sizes widths : List ℕ) → sizes ≡ get_or context.sizes 0 [] → widths ≡ widths_of w right.ty →
      ArePairParts w Γ S T t u i.store.now sizes widths left.numbers right.numbers
  unfolding widths_of
  pair_parts S T t u left right h sizes widths sized wide = record {
    context = context_known h.first_known sizes sized;
    product = h.product;
    factor = wide ∙ ap (widths_of w) h.second.type_is;
    left_stands = h.first.stands;
    right_stands = h.second.stands;
  }

  pub pair_table_of : (S T : Ty) (t : Term) (pair : Valued) → IsKnown w maps i Γ (Two S T) context t → IsValued w Γ (Two S T) t pair → (sizes widths : List ℕ) →
      sizes ≡ get_or context.sizes 0 [] → widths ≡ widths_of w T → IsPairTable w Γ S T t sizes widths pair.numbers
  unfolding widths_of
  pair_table_of S T t pair known h sizes widths sized wide = record {
    counted = sized ∙ known.scope.known.counted;
    factor = wide;
    stands = h.stands;
  }
