-- A term over a sealed world is known to what serves the world.
use Rattle.std.proofs.Common.{◌≡◌, ℕ, ◌^◌, ◌<◌, inl, inr, Bool, List, [], ◌∷◌, ◌++◌, length, get_or, flat_map, Some, MatchOption, refl, sym, ap, subst, arith}
use denote.Bor.{Bor}
use Rattle.finite_lists.specs.Members.{In}
use Rattle.finite_lists.proofs.Lists.{In-append_right, In-flat_map}
use Rattle.topos_model.specs.declared.ty.Ty.{Ty, Base, One, Omega, Two', Pow', Fun', more_of-Ty as one, end_of-Ty as none}
use Rattle.topos_model.specs.declared.term.Term.{Term}
use Rattle.topos_model.specs.declared.context.MapTable.{MapTable}
use Rattle.topos_model.specs.formulas.Typing.{typed}
use Rattle.topos_model.specs.formulas.Forcing.{forces, value}
use Rattle.topos_model.specs.statements.Needs.{found, parts, product, subterms, term_needs}
use Rattle.topos_model.specs.statements.Cells.{is_named}
use Rattle.term_typing.proofs.TypingRules.{typed_by_rules}
use Rattle.forcing_laws.proofs.NamedSheaves.{named_sheaves}
use Rattle.functor_store.specs.Faithful.{Holds, IsFaithful}
use Rattle.omega_object.specs.declared.omega.Omega.{Omega as TruthValues}
use Rattle.omega_object.specs.Tables.{IsOmegaOn}
use Rattle.truth_tables.specs.Standing.{IsNumberTable, IsTruthTable}
use Rattle.truth_tables.proofs.Standing.{counts_long}
use Rattle.internal_interp.specs.declared.context.Context.{Context}
use Rattle.internal_interp.specs.declared.interpreter.Interpreter.{Interpreter}
use Rattle.internal_interp.specs.declared.interpreter.Valued.{Valued}
use Rattle.internal_interp.specs.Known.{AreServed, IsScope, IsKnown, IsValued}
use Rattle.element_values.specs.declared.elements.Elements.{Elements}
use Rattle.element_values.specs.Known.{IsReadable}
use Rattle.sealed_world.specs.SealedWorlds.{CountedWorld}
use Rattle.formula_answers.specs.MapTables.{ends_of}
use Rattle.formula_answers.specs.Formulas.{world_of, reading, IsTermOver, Serves}
use Rattle.formula_answers.specs.Stages.{AreCounted, AreTruths, AreSieves}

module _ (w : CountedWorld) (tables : List MapTable) (i : Interpreter) (serves : Serves w tables i) (Γ : List Ty) (t : Term) (U : Ty) (h : IsTermOver w tables Γ t U) where
  held : (P : Ty) → In (term_needs (ends_of tables) Γ t) P → Holds i.store.now P
  unfolding is_named
  held (Base n) m = serves.presheaves n (h.named n m)
  held One m = serves.types One (h.counted One m refl)
  held Omega m = serves.types Omega (h.counted Omega m refl)
  held (Two' a (one S none) b (one T none)) m = serves.types (Two' a (one S none) b (one T none)) (h.counted (Two' a (one S none) b (one T none)) m refl)
  held (Pow' a (one T none)) m = serves.types (Pow' a (one T none)) (h.counted (Pow' a (one T none)) m refl)
  held (Fun' a (one S none) b (one T none)) m = serves.types (Fun' a (one S none) b (one T none)) (h.counted (Fun' a (one S none) b (one T none)) m refl)

  there : In (term_needs (ends_of tables) Γ t) Omega → (Ω : Bor TruthValues) × (i.omega ≡ Some Ω)
  unfolding is_named
  there m = serves.truth_values (h.counted Omega m refl)

  -- the types of a subterm and of its context
  abbrev types_of : List Ty × Term → List Ty
  types_of s = found (typed (ends_of tables) s.0 s.1) ++ product s.0 ∷ s.0

  needed : (s : List Ty × Term) (T P : Ty) → In (subterms Γ t) s → In (types_of s) T → In (parts T) P → In (term_needs (ends_of tables) Γ t) P
  unfolding term_needs
  needed s T P m j p = In-flat_map parts (flat_map types_of (subterms Γ t)) T P (In-flat_map types_of (subterms Γ t) s T m j) p

  served : AreServed (world_of w tables) (ends_of tables) i (subterms Γ t)
  served = record { each = λ s m T j. ((named_sheaves (world_of w tables) (ends_of tables) Γ t h.sheaves).each s m T j, λ P p. held P (needed s T P m j p), λ p. there (needed s T Omega m j p)) }

  pub known : (context : Context) → IsScope (world_of w tables) (ends_of tables) i Γ context → IsKnown (world_of w tables) (ends_of tables) i Γ U context t
  known context scope = record { knows = serves.knows; scope = scope; typing = typed_by_rules (ends_of tables) Γ t U h.typing; served = served }

  in_context : (T : Ty) → In (product Γ ∷ Γ) T → In (types_of (Γ, t)) T
  in_context T m = In-append_right (found (typed (ends_of tables) Γ t)) (product Γ ∷ Γ) T m

  pub product_held : (P : Ty) → In (parts (product Γ)) P → Holds i.store.now P
  product_held P p = held P (needed (Γ, t) (product Γ) P (inl refl) (in_context (product Γ) (inl refl)) p)

  readable : (T : Ty) → In (types_of (Γ, t)) T → IsReadable (reading i) T
  readable T j = record {
    held = λ P p. held P (needed (Γ, t) T P (inl refl) j p);
    omega = λ p.
        let (Ω, e) = there (needed (Γ, t) T Omega (inl refl) j p) in
        subst (λ o. MatchOption o ⊥ (λ Ω. IsOmegaOn i.site.now Ω.now)) (sym e) (subst (λ s. IsOmegaOn s Ω.now) serves.knows.site (serves.knows.omega Ω e));
  }

  module _ (context : Context) (scope : IsScope (world_of w tables) (ends_of tables) i Γ context) where
    pub few_objects : length (get_or context.sizes 0 []) < 2 ^ 32
    few_objects = let few = serves.few in omega (arith, few, ap length scope.known.counted, counts_long (world_of w tables) Γ)

    counted : AreCounted (reading i) (world_of w tables) Γ (get_or context.sizes 0 [])
    counted = record {
      world = record { site = serves.knows.site; faithful = subst (λ s. IsFaithful s w.functors i.store.now) serves.knows.site serves.knows.faithful };
      readable = λ T m. readable T (in_context T (inr m));
      counted = scope.known.counted;
    }

    module _ (e : Elements) (sizes : List ℕ) (read : e ≡ reading i) (sized : sizes ≡ get_or context.sizes 0 []) where
      -- the tuples can be read
      pub given : AreCounted e (world_of w tables) Γ sizes
      given = subst (λ e. AreCounted e (world_of w tables) Γ sizes) (sym read) (subst (AreCounted (reading i) (world_of w tables) Γ) (sym sized) counted)

      pub truths_known : (truths : List (List Bool)) → IsTruthTable (world_of w tables) Γ (forces (world_of w tables) t) truths → AreTruths e (world_of w tables) Γ sizes (forces (world_of w tables) t) truths
      truths_known truths stands = record { tuples = given; stands = stands }

      -- so can its values be
      pub type_readable : IsReadable e U
      type_readable = subst (λ e. IsReadable e U) (sym read) (readable U (subst (λ r. In (found r ++ product Γ ∷ Γ) U) (sym h.typing) (inl refl)))

      pub sieves_known : (v : Valued) → U ≡ Omega → IsValued (world_of w tables) Γ U t v → AreSieves e (world_of w tables) Γ sizes (value (world_of w tables) t) v.numbers
      sieves_known v formula valued = record {
        tuples = given;
        omega = subst (IsReadable e) formula type_readable;
        stands = subst (λ T. IsNumberTable (world_of w tables) Γ T (value (world_of w tables) t) v.numbers) formula valued.stands;
      }

    pub some_sizes : 0 < length context.sizes
    some_sizes = let long = scope.sizes.sizes_long in omega (arith, long)
