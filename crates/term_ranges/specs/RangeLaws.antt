-- What follows where the numbers of a term are in range.
use Rattle.std.specs.Prelude.{◌≡◌, ◌<◌, ℕ, Bool, true, ◌&&◌, List, ◌++◌, length, Ok}
use Rattle.std.specs.List.{list_all}
use Rattle.finite_lists.specs.Members.{In}
use Rattle.topos_model.specs.declared.ty.Ty.{Ty, Base}
use Rattle.topos_model.specs.declared.term.Term.{Term}
use Rattle.topos_model.specs.declared.value.Val.{Val}
use Rattle.topos_model.specs.declared.context.MapTy.{MapTy}
use Rattle.topos_model.specs.formulas.Typing.{typed}
use Rattle.topos_model.specs.formulas.Forcing.{World, meaning}
use Rattle.topos_model.specs.statements.Needs.{term_needs}
use Rattle.term_ranges.specs.Ranges.{is_type_in_range, is_term_in_range}

-- the type of a term, or its first fault, is the same with more maps
abbrev pub TypingIsStable : Type 0
TypingIsStable =
    (n : ℕ) (maps more : List MapTy) (Γ : List Ty) (t : Term) →
    is_term_in_range n (length maps) t ≡ true → typed (maps ++ more) Γ t ≡ typed maps Γ t

-- so are the types that it needs
abbrev pub NeedsAreStable : Type 0
NeedsAreStable =
    (n : ℕ) (maps more : List MapTy) (Γ : List Ty) (t : Term) →
    is_term_in_range n (length maps) t ≡ true → term_needs (maps ++ more) Γ t ≡ term_needs maps Γ t

-- both ends of a map are in range
abbrev pub are_ends_in_range : ℕ → MapTy → Bool
are_ends_in_range n ends = is_type_in_range n ends.dom && is_type_in_range n ends.cod

-- the numbers of a term, of its context and of the ends of the maps are in range
abbrev pub AreInRange : ℕ → List MapTy → List Ty → Term → Type 0
AreInRange n maps Γ t =
    (is_term_in_range n (length maps) t ≡ true) × (list_all (is_type_in_range n) Γ ≡ true) × (list_all (are_ends_in_range n) maps ≡ true)

-- then the type that is found for the term is in range
abbrev pub FoundIsInRange : Type 0
FoundIsInRange =
    (n : ℕ) (maps : List MapTy) (Γ : List Ty) (t : Term) (T : Ty) →
    AreInRange n maps Γ t → typed maps Γ t ≡ Ok T → is_type_in_range n T ≡ true

-- and so is each functor that it needs
abbrev pub NamesAreInRange : Type 0
NamesAreInRange =
    (n : ℕ) (maps : List MapTy) (Γ : List Ty) (t : Term) →
    AreInRange n maps Γ t → (m : ℕ) → In (term_needs maps Γ t) (Base m) → m < n

-- the same world with more maps
abbrev pub with_maps : World → List (List (List (Val × Val))) → World
with_maps w more = record w { maps = w.maps ++ more }

-- the value of a term, and where it is forced, are the same with more maps
abbrev pub MeaningIsStable : Type 0
MeaningIsStable =
    (n : ℕ) (w : World) (more : List (List (List (Val × Val)))) (t : Term) →
    is_term_in_range n (length w.maps) t ≡ true → meaning (with_maps w more) t ≡ meaning w t
