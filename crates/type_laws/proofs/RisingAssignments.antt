-- The list of all assignments rises, place by place.
use Rattle.std.proofs.Common.{ℕ, inl, inr, List, [], ◌∷◌, refl, subst}
use Rattle.topos_model.specs.declared.value.Val.{Val}
use Rattle.topos_model.specs.declared.value.Entry.{Entry}
use Rattle.topos_model.specs.declared.value.Assign.{Assign}
use Rattle.finite_lists.specs.Rising.{Rising}
use Rattle.finite_lists.proofs.Lists.{In-map_from}
use Rattle.finite_lists.proofs.RisingLists.{Rising-map, Rising-flat_map}
use Rattle.topos_model.specs.types.Types.{assignments}
use Rattle.topos_model.specs.types.Order.{AssignmentBelow}

pub Rising-assignments : (values : ℕ → List Val) (below : ℕ → Val → Val → Type 0) (ps : List Entry) → ((f : ℕ) → Rising (below f) (values f)) → Rising (AssignmentBelow below) (assignments values ps)
unfolding assignments
Rising-assignments values below [] h = (λ y i. absurd i, tt)
Rising-assignments values below (e ∷ ps) h =
    Rising-flat_map (below e.arrow) (AssignmentBelow below) _ (values e.arrow) (h e.arrow)
    (λ v i. Rising-map (AssignmentBelow below) (AssignmentBelow below) (λ l. mark v ∷ l) (assignments values ps) (λ l m i j r. inr (refl, r)) (Rising-assignments values below ps h))
    (λ u v l m i j r a b.
    let p = In-map_from (λ l. mark u ∷ l) (assignments values ps) l a in
    let q = In-map_from (λ l. mark v ∷ l) (assignments values ps) m b in
    subst (λ l. AssignmentBelow below l m) p.2 (subst (λ m. AssignmentBelow below (mark u ∷ p.0) m) q.2 (inl r)))
  where
    mark : Val → Assign
    mark v = record { arrow = e.arrow; val = e.val; to = v }

pub AssignmentBelow-irreflexive : (below : ℕ → Val → Val → Type 0) → ((f : ℕ) (v : Val) → below f v v → ⊥) → (l : List Assign) → AssignmentBelow below l l → ⊥
AssignmentBelow-irreflexive below never [] h = h
AssignmentBelow-irreflexive below never (a ∷ l) (inl h) = never a.arrow a.to h
AssignmentBelow-irreflexive below never (a ∷ l) (inr h) = AssignmentBelow-irreflexive below never l h.1
