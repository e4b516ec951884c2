-- What is known of a term is known of its parts.
use Rattle.std.proofs.Common.{◌≡◌, ℕ, inl, inr, List, ◌∷◌, ◌++◌, refl, subst}
use denote.Hole.Carrier
use Rattle.finite_lists.proofs.Lists.{In-append_right}
use Rattle.topos_model.specs.declared.ty.Ty.{Ty, Omega, Two, Pow, Fun}
use Rattle.topos_model.specs.declared.term.Term.{Term, Pair, Fst, Snd, App, Eval, Lam, Compr, Eq, Member, And, Or, Implies, Not, Forall, Exists, Unique}
use Rattle.topos_model.specs.declared.term.Term.TheBlock.{hidden-the_row-Term-0}
use Rattle.topos_model.specs.declared.context.MapTy.{MapTy}
use Rattle.topos_model.specs.statements.Needs.{found, product, inner, subterms}
use Rattle.topos_model.specs.formulas.Typing.{ends_of, typed, Typed}
use Rattle.topos_model.specs.formulas.Forcing.{World}
use Rattle.internal_interp.specs.declared.context.Context.{Context}
use Rattle.internal_interp.specs.declared.interpreter.Interpreter.{Interpreter}
use Rattle.internal_interp.specs.Known.{Knows, AreServed, IsScope, IsKnown, IsBinding}
use Rattle.forcing_laws.proofs.NamedSheaves.{part_itself}
use Rattle.internal_interp.proofs.TermFacts.{below, left, right}

module _ (w : World) (maps : List MapTy) (i : Interpreter) (Γ : List Ty) (context : Context) where
  -- two formulas under a connective
  pub record AreFormulaParts (U : Ty) (t u : Term) : Type 0 where
    pub first : IsKnown w maps i Γ Omega context t
    pub second : IsKnown w maps i Γ Omega context u
    pub formula : U ≡ Omega

  formula_parts : (U : Ty) (x : List Ty × Term) (t u : Term) → Knows w maps i → IsScope w maps i Γ context → AreServed w maps i (x ∷ subterms Γ t ++ subterms Γ u) → Typed maps Γ t Omega × Typed maps Γ u Omega × (U ≡ Omega) →
      AreFormulaParts U t u
  formula_parts U x t u knows scope served typing = record {
    first = record { knows = knows; scope = scope; typing = typing.0; served = left w maps i (subterms Γ t) (subterms Γ u) served };
    second = record { knows = knows; scope = scope; typing = typing.1; served = right w maps i (subterms Γ t) (subterms Γ u) served };
    formula = typing.2;
  }

  pub and_parts : (U : Ty) (term t u : Term) → term ≡ And t u → IsKnown w maps i Γ U context term → AreFormulaParts U t u
  unfolding inner hidden-the_row-Term-0 Carrier.hidden
  and_parts U term t u e k = at (subst (IsKnown w maps i Γ U context) e k)
    where
      at : IsKnown w maps i Γ U context (And t u) → AreFormulaParts U t u
      at k = formula_parts U _ t u k.knows k.scope k.served k.typing

  pub or_parts : (U : Ty) (term t u : Term) → term ≡ Or t u → IsKnown w maps i Γ U context term → AreFormulaParts U t u
  unfolding inner hidden-the_row-Term-0 Carrier.hidden
  or_parts U term t u e k = at (subst (IsKnown w maps i Γ U context) e k)
    where
      at : IsKnown w maps i Γ U context (Or t u) → AreFormulaParts U t u
      at k = formula_parts U _ t u k.knows k.scope k.served k.typing

  pub implies_parts : (U : Ty) (term t u : Term) → term ≡ Implies t u → IsKnown w maps i Γ U context term → AreFormulaParts U t u
  unfolding inner hidden-the_row-Term-0 Carrier.hidden
  implies_parts U term t u e k = at (subst (IsKnown w maps i Γ U context) e k)
    where
      at : IsKnown w maps i Γ U context (Implies t u) → AreFormulaParts U t u
      at k = formula_parts U _ t u k.knows k.scope k.served k.typing

  -- a formula that is negated
  pub record IsNegated (U : Ty) (t : Term) : Type 0 where
    pub part : IsKnown w maps i Γ Omega context t
    pub formula : U ≡ Omega

  pub not_part : (U : Ty) (term t : Term) → term ≡ Not t → IsKnown w maps i Γ U context term → IsNegated U t
  unfolding inner hidden-the_row-Term-0 Carrier.hidden
  not_part U term t e k = at (subst (IsKnown w maps i Γ U context) e k)
    where
      at : IsKnown w maps i Γ U context (Not t) → IsNegated U t
      at k = record { part = record { knows = k.knows; scope = k.scope; typing = k.typing.0; served = below w maps i (subterms Γ t) k.served }; formula = k.typing.1 }

  -- a formula with one variable more
  pub record IsQuantified (U T : Ty) (t : Term) : Type 0 where
    pub binding : IsBinding w maps i Γ context T
    pub body : (within : Context) → IsScope w maps i (T ∷ Γ) within → IsKnown w maps i (T ∷ Γ) Omega within t
    pub formula : U ≡ Omega

  binding_of : (T : Ty) (t : Term) → Knows w maps i → IsScope w maps i Γ context → AreServed w maps i (subterms (T ∷ Γ) t) → IsBinding w maps i Γ context T
  binding_of T t knows scope s = record {
    knows = knows;
    scope = scope;
    variable = (s.each (T ∷ Γ, t) (inl refl) T (In-append_right (found (typed maps (T ∷ Γ) t)) (product (T ∷ Γ) ∷ T ∷ Γ) T (inr (inl refl)))).1 T (part_itself T);
    whole = (s.each (T ∷ Γ, t) (inl refl) (product (T ∷ Γ)) (In-append_right (found (typed maps (T ∷ Γ) t)) (product (T ∷ Γ) ∷ T ∷ Γ) (product (T ∷ Γ)) (inl refl))).1 (product (T ∷ Γ)) (part_itself (product (T ∷ Γ)));
  }

  quantified_part : (U T : Ty) (x : List Ty × Term) (t : Term) → Knows w maps i → IsScope w maps i Γ context → AreServed w maps i (x ∷ subterms (T ∷ Γ) t) → Typed maps (T ∷ Γ) t Omega × (U ≡ Omega) → IsQuantified U T t
  quantified_part U T x t knows scope served typing =
      let s = below w maps i (subterms (T ∷ Γ) t) served in
      record {
        binding = binding_of T t knows scope s;
        body = λ within h. record { knows = knows; scope = h; typing = typing.0; served = s };
        formula = typing.1;
      }

  pub forall_part : (U T : Ty) (term t : Term) → term ≡ Forall T t → IsKnown w maps i Γ U context term → IsQuantified U T t
  unfolding inner hidden-the_row-Term-0 Carrier.hidden
  forall_part U T term t e k = at (subst (IsKnown w maps i Γ U context) e k)
    where
      at : IsKnown w maps i Γ U context (Forall T t) → IsQuantified U T t
      at k = quantified_part U T _ t k.knows k.scope k.served k.typing

  pub exists_part : (U T : Ty) (term t : Term) → term ≡ Exists T t → IsKnown w maps i Γ U context term → IsQuantified U T t
  unfolding inner hidden-the_row-Term-0 Carrier.hidden
  exists_part U T term t e k = at (subst (IsKnown w maps i Γ U context) e k)
    where
      at : IsKnown w maps i Γ U context (Exists T t) → IsQuantified U T t
      at k = quantified_part U T _ t k.knows k.scope k.served k.typing

  pub unique_part : (U T : Ty) (term t : Term) → term ≡ Unique T t → IsKnown w maps i Γ U context term → IsQuantified U T t
  unfolding inner hidden-the_row-Term-0 Carrier.hidden
  unique_part U T term t e k = at (subst (IsKnown w maps i Γ U context) e k)
    where
      at : IsKnown w maps i Γ U context (Unique T t) → IsQuantified U T t
      at k = quantified_part U T _ t k.knows k.scope k.served k.typing

  -- the two parts of a pair
  pub record ArePairParts (U : Ty) (t u : Term) : Type 0 where
    pub first_type : Ty
    pub second_type : Ty
    pub first : IsKnown w maps i Γ first_type context t
    pub second : IsKnown w maps i Γ second_type context u
    pub type_is : U ≡ Two first_type second_type

  pub pair_parts : (U : Ty) (term t u : Term) → term ≡ Pair t u → IsKnown w maps i Γ U context term → ArePairParts U t u
  unfolding inner hidden-the_row-Term-0 Carrier.hidden
  pair_parts U term t u e k = at (subst (IsKnown w maps i Γ U context) e k)
    where
      at : IsKnown w maps i Γ U context (Pair t u) → ArePairParts U t u
      at k = let (S, T, p, q, e) = k.typing in record { first_type = S; second_type = T; first = record { knows = k.knows; scope = k.scope; typing = p; served = left w maps i (subterms Γ t) (subterms Γ u) k.served }; second = record { knows = k.knows; scope = k.scope; typing = q; served = right w maps i (subterms Γ t) (subterms Γ u) k.served }; type_is = e }

  -- a pair of which a part is taken
  pub record IsFirstOf (U : Ty) (t : Term) : Type 0 where
    pub other : Ty
    pub part : IsKnown w maps i Γ (Two U other) context t

  pub fst_part : (U : Ty) (term t : Term) → term ≡ Fst t → IsKnown w maps i Γ U context term → IsFirstOf U t
  unfolding inner hidden-the_row-Term-0 Carrier.hidden
  fst_part U term t e k = at (subst (IsKnown w maps i Γ U context) e k)
    where
      at : IsKnown w maps i Γ U context (Fst t) → IsFirstOf U t
      at k = let (T, p) = k.typing in record { other = T; part = record { knows = k.knows; scope = k.scope; typing = p; served = below w maps i (subterms Γ t) k.served } }

  pub record IsSecondOf (U : Ty) (t : Term) : Type 0 where
    pub other : Ty
    pub part : IsKnown w maps i Γ (Two other U) context t

  pub snd_part : (U : Ty) (term t : Term) → term ≡ Snd t → IsKnown w maps i Γ U context term → IsSecondOf U t
  unfolding inner hidden-the_row-Term-0 Carrier.hidden
  snd_part U term t e k = at (subst (IsKnown w maps i Γ U context) e k)
    where
      at : IsKnown w maps i Γ U context (Snd t) → IsSecondOf U t
      at k = let (S, p) = k.typing in record { other = S; part = record { knows = k.knows; scope = k.scope; typing = p; served = below w maps i (subterms Γ t) k.served } }

  -- the argument of a map
  pub record IsMapArgument (U : Ty) (m : ℕ) (t : Term) : Type 0 where
    pub part : IsKnown w maps i Γ (ends_of maps m).dom context t
    pub type_is : U ≡ (ends_of maps m).cod

  pub app_part : (U : Ty) (m : ℕ) (term t : Term) → term ≡ App m t → IsKnown w maps i Γ U context term → IsMapArgument U m t
  unfolding inner hidden-the_row-Term-0 Carrier.hidden
  app_part U m term t e k = at (subst (IsKnown w maps i Γ U context) e k)
    where
      at : IsKnown w maps i Γ U context (App m t) → IsMapArgument U m t
      at k = record { part = record { knows = k.knows; scope = k.scope; typing = k.typing.0; served = below w maps i (subterms Γ t) k.served }; type_is = k.typing.1 }

  -- a function and its argument
  pub record AreFunctionParts (U : Ty) (t u : Term) : Type 0 where
    pub domain : Ty
    pub function : IsKnown w maps i Γ (Fun domain U) context t
    pub argument : IsKnown w maps i Γ domain context u

  pub eval_parts : (U : Ty) (term t u : Term) → term ≡ Eval t u → IsKnown w maps i Γ U context term → AreFunctionParts U t u
  unfolding inner hidden-the_row-Term-0 Carrier.hidden
  eval_parts U term t u e k = at (subst (IsKnown w maps i Γ U context) e k)
    where
      at : IsKnown w maps i Γ U context (Eval t u) → AreFunctionParts U t u
      at k = let (S, p, q) = k.typing in record { domain = S; function = record { knows = k.knows; scope = k.scope; typing = p; served = left w maps i (subterms Γ t) (subterms Γ u) k.served }; argument = record { knows = k.knows; scope = k.scope; typing = q; served = right w maps i (subterms Γ t) (subterms Γ u) k.served } }

  -- two terms of one type
  pub record AreEqualParts (U : Ty) (t u : Term) : Type 0 where
    pub common : Ty
    pub first : IsKnown w maps i Γ common context t
    pub second : IsKnown w maps i Γ common context u
    pub formula : U ≡ Omega

  pub eq_parts : (U : Ty) (term t u : Term) → term ≡ Eq t u → IsKnown w maps i Γ U context term → AreEqualParts U t u
  unfolding inner hidden-the_row-Term-0 Carrier.hidden
  eq_parts U term t u e k = at (subst (IsKnown w maps i Γ U context) e k)
    where
      at : IsKnown w maps i Γ U context (Eq t u) → AreEqualParts U t u
      at k = let (T, p, q, e) = k.typing in record { common = T; first = record { knows = k.knows; scope = k.scope; typing = p; served = left w maps i (subterms Γ t) (subterms Γ u) k.served }; second = record { knows = k.knows; scope = k.scope; typing = q; served = right w maps i (subterms Γ t) (subterms Γ u) k.served }; formula = e }

  -- an element and a set
  pub record AreMemberParts (U : Ty) (t u : Term) : Type 0 where
    pub common : Ty
    pub element : IsKnown w maps i Γ common context t
    pub set : IsKnown w maps i Γ (Pow common) context u
    pub formula : U ≡ Omega

  pub member_parts : (U : Ty) (term t u : Term) → term ≡ Member t u → IsKnown w maps i Γ U context term → AreMemberParts U t u
  unfolding inner hidden-the_row-Term-0 Carrier.hidden
  member_parts U term t u e k = at (subst (IsKnown w maps i Γ U context) e k)
    where
      at : IsKnown w maps i Γ U context (Member t u) → AreMemberParts U t u
      at k = let (T, p, q, e) = k.typing in record { common = T; element = record { knows = k.knows; scope = k.scope; typing = p; served = left w maps i (subterms Γ t) (subterms Γ u) k.served }; set = record { knows = k.knows; scope = k.scope; typing = q; served = right w maps i (subterms Γ t) (subterms Γ u) k.served }; formula = e }

  -- a term with one variable more
  pub record IsFunctionBody (U S : Ty) (t : Term) : Type 0 where
    pub codomain : Ty
    pub binding : IsBinding w maps i Γ context S
    pub body : (within : Context) → IsScope w maps i (S ∷ Γ) within → IsKnown w maps i (S ∷ Γ) codomain within t
    pub type_is : U ≡ Fun S codomain

  pub lam_part : (U : Ty) (S : Ty) (term t : Term) → term ≡ Lam S t → IsKnown w maps i Γ U context term → IsFunctionBody U S t
  unfolding inner hidden-the_row-Term-0 Carrier.hidden
  lam_part U S term t e k = at (subst (IsKnown w maps i Γ U context) e k)
    where
      at : IsKnown w maps i Γ U context (Lam S t) → IsFunctionBody U S t
      at k = let (T, p, e) = k.typing in record { codomain = T; binding = binding_of S t k.knows k.scope (below w maps i (subterms (S ∷ Γ) t) k.served); body = λ within h. record { knows = k.knows; scope = h; typing = p; served = below w maps i (subterms (S ∷ Γ) t) k.served }; type_is = e }

  -- a formula with one variable more, that defines a set
  pub record IsSetBody (U S : Ty) (t : Term) : Type 0 where
    pub binding : IsBinding w maps i Γ context S
    pub body : (within : Context) → IsScope w maps i (S ∷ Γ) within → IsKnown w maps i (S ∷ Γ) Omega within t
    pub type_is : U ≡ Pow S

  pub compr_part : (U : Ty) (S : Ty) (term t : Term) → term ≡ Compr S t → IsKnown w maps i Γ U context term → IsSetBody U S t
  unfolding inner hidden-the_row-Term-0 Carrier.hidden
  compr_part U S term t e k = at (subst (IsKnown w maps i Γ U context) e k)
    where
      at : IsKnown w maps i Γ U context (Compr S t) → IsSetBody U S t
      at k = record { binding = binding_of S t k.knows k.scope (below w maps i (subterms (S ∷ Γ) t) k.served); body = λ within h. record { knows = k.knows; scope = h; typing = k.typing.0; served = below w maps i (subterms (S ∷ Γ) t) k.served }; type_is = k.typing.1 }
