-- The elements of a type stand in its order exactly as their numbers do.
use Rattle.std.proofs.Common.{ℕ, ◌<◌, inl, inr, List, [], ◌∷◌, get_or, sym, ap, subst, ◌∙◌, arith}
use Rattle.std.proofs.lemmas.Bool.{cases_lt, cases_eq}
use Rattle.topos_model.specs.declared.ty.Ty.{Ty, Base, One, Omega, Two', Pow', Fun', more_of-Ty as only, end_of-Ty as end}
use Rattle.topos_model.specs.declared.value.Val.{Val, Star, Fn}
use Rattle.topos_model.specs.declared.value.Entry.{Entry}
use Rattle.topos_model.specs.declared.value.Assign.{Assign}
use Rattle.finite_lists.specs.Members.{In}
use Rattle.finite_lists.specs.Rising.{SublistBelow}
use Rattle.finite_lists.proofs.Lists.{In-map_from, In-filter_from}
use Rattle.topos_model.specs.types.Order.{AssignmentBelow, Below}
use Rattle.topos_model.specs.categories.Category.{dom}
use Rattle.topos_model.specs.topologies.Cover.{Site}
use Rattle.topos_model.specs.types.Types.{Presheaf, elements, restr, assignments, places, two_elements, fun_elements, is_natural}
use Rattle.topos_model.specs.types.Values.{first_of, second_of, assigns_of}
use Rattle.topos_model.proofs.ValueEquations.{first_of-Two, second_of-Two, assigns_of-Fn}
use Rattle.functor_store.specs.Faithful.{Stands}
use Rattle.omega_object.proofs.Precedence.{rising_at}
use Rattle.type_laws.proofs.Numbering.{get_In}
use Rattle.type_laws.proofs.Presheaves.{In_two}
use Rattle.type_laws.proofs.RisingTypes.{Rising-elements, Below-irreflexive}
use Rattle.type_laws.proofs.Tables.{assignment_cases}

sublists_apart : {A : Type 0} (l s t : List A) → SublistBelow l s t → SublistBelow l t s → ⊥
sublists_apart [] s t h k = h
sublists_apart (x ∷ l) s t (inl h) (inl k) = h.0 k.1
sublists_apart (x ∷ l) s t (inl h) (inr k) = h.0 (k.0 h.1)
sublists_apart (x ∷ l) s t (inr h) (inl k) = k.0 (h.0 k.1)
sublists_apart (x ∷ l) s t (inr h) (inr k) = sublists_apart l s t h.2 k.2

module _ (values : ℕ → List Val) (below : ℕ → Val → Val → Type 0) (apart : (f : ℕ) (u v : Val) → In (values f) u → In (values f) v → below f u v → below f v u → ⊥) (never : (f : ℕ) (u : Val) → below f u u → ⊥) where
  assignments_apart : (ps : List Entry) (l m : List Assign) → In (assignments values ps) l → In (assignments values ps) m → AssignmentBelow below l m → AssignmentBelow below m l → ⊥
  unfolding assignments
  assignments_apart [] l m (inl e) j h k = subst (λ x. AssignmentBelow below x m) (sym e) h
  assignments_apart [] l m (inr e) j h k = absurd e
  assignments_apart (e ∷ ps) l m i j h k =
      let p = assignment_cases values e ps l i in
      let q = assignment_cases values e ps m j in
      let mark : Val → List Assign → List Assign = λ v rest. record { arrow = e.arrow; val = e.val; to = v } ∷ rest in
      let h' : AssignmentBelow below (mark p.0 p.1) (mark q.0 q.1) = subst (λ x. AssignmentBelow below x (mark q.0 q.1)) (sym p.4) (subst (λ y. AssignmentBelow below l y) (sym q.4) h) in
      let k' : AssignmentBelow below (mark q.0 q.1) (mark p.0 p.1) = subst (λ x. AssignmentBelow below x (mark p.0 p.1)) (sym q.4) (subst (λ y. AssignmentBelow below m y) (sym p.4) k) in
      elim h' [
        | inl a ↦ elim k' [ inl b ↦ apart e.arrow p.0 q.0 p.2 q.2 a b | inr b ↦ never e.arrow p.0 (subst (λ x. below e.arrow p.0 x) b.0 a) ]
        | inr a ↦ elim k' [ inl b ↦ never e.arrow q.0 (subst (λ x. below e.arrow q.0 x) a.0 b) | inr b ↦ assignments_apart ps p.1 q.1 p.3 q.3 a.1 b.1 ]
      ]

module _ (s : Site) (functors : List Presheaf) where
  pub Below-apart : (T : Ty) (c : ℕ) (u v : Val) → In (elements s functors T c) u → In (elements s functors T c) v → Below s functors T c u v → Below s functors T c v u → ⊥
  unfolding elements two_elements fun_elements
  Below-apart (Base n) c u v i j h k = omega (arith, h, k)
  Below-apart One c u v i j h k = h
  Below-apart Omega c u v i j h k = sublists_apart _ _ _ h k
  Below-apart (Two' a (only S end) b (only T end)) c u v i j h k =
      let p = In_two (elements s functors S) (elements s functors T) (restr s functors S) (restr s functors T) c u i in
      let q = In_two (elements s functors S) (elements s functors T) (restr s functors S) (restr s functors T) c v j in
      let first_in : In (elements s functors S c) (first_of u) = subst (λ x. In (elements s functors S c) x) (sym (first_of-Two p.0 p.1) ∙ ap first_of p.4) p.2 in
      let first_in' : In (elements s functors S c) (first_of v) = subst (λ x. In (elements s functors S c) x) (sym (first_of-Two q.0 q.1) ∙ ap first_of q.4) q.2 in
      let second_in : In (elements s functors T c) (second_of u) = subst (λ x. In (elements s functors T c) x) (sym (second_of-Two p.0 p.1) ∙ ap second_of p.4) p.3 in
      let second_in' : In (elements s functors T c) (second_of v) = subst (λ x. In (elements s functors T c) x) (sym (second_of-Two q.0 q.1) ∙ ap second_of q.4) q.3 in
      elim h [
        | inl x ↦ elim k [ inl y ↦ Below-apart S c (first_of u) (first_of v) first_in first_in' x y | inr y ↦ Below-irreflexive s functors S c (first_of u) (subst (λ z. Below s functors S c (first_of u) z) y.0 x) ]
        | inr x ↦ elim k [ inl y ↦ Below-irreflexive s functors S c (first_of v) (subst (λ z. Below s functors S c (first_of v) z) x.0 y) | inr y ↦ Below-apart T c (second_of u) (second_of v) second_in second_in' x.1 y.1 ]
      ]
  Below-apart (Pow' a (only T end)) c u v i j h k = sublists_apart _ _ _ h k
  Below-apart (Fun' a (only S end) b (only T end)) c u v i j h k =
      let choice : ℕ → List Val = λ f. elements s functors T (dom s.category f) in
      let ps = places s (elements s functors S) c in
      let natural = is_natural s (restr s functors S) (restr s functors T) in
      let p = In-map_from Fn _ u i in
      let q = In-map_from Fn _ v j in
      let p' : In (assignments choice ps) (assigns_of u) = subst (λ x. In (assignments choice ps) x) (sym (assigns_of-Fn p.0) ∙ ap assigns_of p.2) (In-filter_from natural (assignments choice ps) p.0 p.1).0 in
      let q' : In (assignments choice ps) (assigns_of v) = subst (λ x. In (assignments choice ps) x) (sym (assigns_of-Fn q.0) ∙ ap assigns_of q.2) (In-filter_from natural (assignments choice ps) q.0 q.1).0 in
      assignments_apart choice (λ f. Below s functors T (dom s.category f)) (λ f. Below-apart T (dom s.category f)) (λ f. Below-irreflexive s functors T (dom s.category f)) ps (assigns_of u) (assigns_of v) p' q' h k

  -- the number of an element that stands before another is lower
  pub below_numbers : (T : Ty) (c m n : ℕ) (u v : Val) → Stands s functors T c m u → Stands s functors T c n v → Below s functors T c u v → m < n
  below_numbers T c m n u v p q h =
      let xs = elements s functors T c in
      let i : In xs u = subst (λ x. In xs x) p.is (get_In xs m Star p.within) in
      let j : In xs v = subst (λ x. In xs x) q.is (get_In xs n Star q.within) in
      elim (cases_lt m n) [
        | inl l ↦ l
        | inr l ↦ absurd (elim (cases_eq m n) [
          | inl e ↦ Below-irreflexive s functors T c u (subst (λ x. Below s functors T c u x) (sym (sym p.is ∙ ap (λ k. get_or xs k Star) e ∙ q.is)) h)
          | inr e ↦ Below-apart T c u v i j h
              (subst (λ x. Below s functors T c x u) q.is (subst (λ x. Below s functors T c (get_or xs n Star) x) p.is (rising_at (Below s functors T c) xs n m Star (Rising-elements s functors T c) (omega (arith, l, e)) p.within)))
        ])
      ]
