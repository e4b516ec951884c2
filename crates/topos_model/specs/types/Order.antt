-- The orders in which assignments and the elements of a type stand.
use Rattle.std.specs.Prelude.{◌≡◌, ℕ, ◌<◌, ◌⊎◌, List, [], ◌∷◌}
use Rattle.topos_model.specs.declared.ty.Ty.{Ty, Base, One, Omega, Two', Pow', Fun', more_of-Ty as only, end_of-Ty as end}
use Rattle.topos_model.specs.declared.value.Val.{Val}
use Rattle.topos_model.specs.declared.value.Assign.{Assign}
use Rattle.finite_lists.specs.Rising.{SublistBelow}
use Rattle.topos_model.specs.categories.Category.{into, dom}
use Rattle.topos_model.specs.topologies.Cover.{Site}
use Rattle.topos_model.specs.types.Types.{Presheaf, places, elements}
use Rattle.topos_model.specs.types.Values.{number_of, first_of, second_of, arrows_of, entries_of, assigns_of}

-- at the first place with two values, the first has the lower one
abbrev pub AssignmentBelow : (ℕ → Val → Val → Type 0) → List Assign → List Assign → Type 0
AssignmentBelow below [] m = ⊥
AssignmentBelow below (a ∷ l) [] = ⊥
AssignmentBelow below (a ∷ l) (b ∷ m) = below a.arrow a.to b.to ⊎ ((a.to ≡ b.to) × AssignmentBelow below l m)

module _ (s : Site) (functors : List Presheaf) where
  -- u stands before v in the elements of the type at c
  abbrev pub Below : Ty → ℕ → Val → Val → Type 0
  Below (Base n) c u v = number_of u < number_of v
  Below One c u v = ⊥
  Below Omega c u v = SublistBelow (into s.category c) (arrows_of u) (arrows_of v)
  Below (Two' _ (only S end) _ (only T end)) c u v =
      Below S c (first_of u) (first_of v) ⊎ ((first_of u ≡ first_of v) × Below T c (second_of u) (second_of v))
  Below (Pow' _ (only T end)) c u v = SublistBelow (places s (elements s functors T) c) (entries_of u) (entries_of v)
  Below (Fun' _ (only S end) _ (only T end)) c u v = AssignmentBelow (λ f. Below T (dom s.category f)) (assigns_of u) (assigns_of v)
