-- The types that a term needs are of sheaves: what follows for its subterms.
use Rattle.std.proofs.Common.{inl, inr, List, ◌∷◌, ◌++◌, refl, sym, subst}
use Rattle.finite_lists.specs.Members.{In}
use Rattle.finite_lists.proofs.Lists.{In_Contains, In-append_left, In-append_right, In-flat_map}
use Rattle.topos_model.specs.declared.ty.Ty.{Ty, Base, One, Omega, Two', Pow', Fun', more_of-Ty as one, end_of-Ty as none}
use Rattle.topos_model.specs.declared.term.Term.{Term}
use Rattle.topos_model.specs.declared.context.MapTy.{MapTy}
use Rattle.topos_model.specs.topologies.Sheaves.{OfSheaves}
use Rattle.topos_model.specs.statements.Needs.{parts, product, subterms, found, term_needs}
use Rattle.topos_model.specs.formulas.Typing.{typed, Typed}
use Rattle.topos_model.specs.formulas.Forcing.{World}
use Rattle.topos_model.specs.formulas.TermLaws.{NameSheaves}
use Rattle.term_typing.proofs.TypingRules.{rules_are_typed}

-- a type is one of its parts
pub part_itself : (T : Ty) → In (parts T) T
unfolding parts
part_itself (Base n) = inl refl
part_itself One = inl refl
part_itself Omega = inl refl
part_itself (Two' a (one S none) b (one T none)) = inl refl
part_itself (Pow' a (one T none)) = inl refl
part_itself (Fun' a (one S none) b (one T none)) = inl refl

module _ (w : World) (maps : List MapTy) where
  -- the types of terms and of their contexts are of sheaves
  pub record AreOfSheaves (ts : List (List Ty × Term)) : Type 0 where
    pub each : (s : List Ty × Term) → In ts s → (T : Ty) → In (found (typed maps s.0 s.1) ++ product s.0 ∷ s.0) T → OfSheaves w.site w.functors T

  pub named_sheaves : (Γ : List Ty) (t : Term) → NameSheaves w (term_needs maps Γ t) → AreOfSheaves (subterms Γ t)
  unfolding term_needs
  named_sheaves Γ t h = record {
    each = λ s i T j.
        let m = In-flat_map (λ s. found (typed maps s.0 s.1) ++ product s.0 ∷ s.0) (subterms Γ t) s T i j in
        let p = In_Contains (term_needs maps Γ t) T (In-flat_map parts _ T T m (part_itself T)) in
        subst (λ U. OfSheaves w.site w.functors U) p.2 (h p.0 T p.1);
  }

  -- the part of a term, and its left and its right part
  pub below : {x : List Ty × Term} (Γ : List Ty) (t : Term) → AreOfSheaves (x ∷ subterms Γ t) → AreOfSheaves (subterms Γ t)
  below Γ t h = record { each = λ s i. h.each s (inr i) }

  pub left : {x : List Ty × Term} (Γ : List Ty) (t u : Term) → AreOfSheaves (x ∷ subterms Γ t ++ subterms Γ u) → AreOfSheaves (subterms Γ t)
  left Γ t u h = record { each = λ s i. h.each s (inr (In-append_left (subterms Γ t) (subterms Γ u) s i)) }

  pub right : {x : List Ty × Term} (Γ : List Ty) (t u : Term) → AreOfSheaves (x ∷ subterms Γ t ++ subterms Γ u) → AreOfSheaves (subterms Γ u)
  right Γ t u h = record { each = λ s i. h.each s (inr (In-append_right (subterms Γ t) (subterms Γ u) s i)) }

  pub type_of_sheaves : (Γ : List Ty) (t : Term) (T : Ty) → Typed maps Γ t T → AreOfSheaves (subterms Γ t) → OfSheaves w.site w.functors T
  type_of_sheaves Γ t T typing h =
      h.each (Γ, t) (inl refl) T (subst (λ r. In (found r ++ product Γ ∷ Γ) T) (sym (rules_are_typed maps Γ t T typing)) (inl refl))

  pub binder_of_sheaves : (Γ : List Ty) (T : Ty) (t : Term) → AreOfSheaves (subterms (T ∷ Γ) t) → OfSheaves w.site w.functors T
  binder_of_sheaves Γ T t h = h.each (T ∷ Γ, t) (inl refl) T (In-append_right (found (typed maps (T ∷ Γ) t)) (product (T ∷ Γ) ∷ T ∷ Γ) T (inr (inl refl)))
