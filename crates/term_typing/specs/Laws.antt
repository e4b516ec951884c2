-- The laws of typing.
use Rattle.std.specs.Prelude.{List, ◌∷◌, ◌↔◌}
use Rattle.std.specs.List.{flat_map}
use Rattle.finite_lists.specs.Members.{In}
use Rattle.topos_model.specs.declared.context.MapTy.{MapTy}
use Rattle.topos_model.specs.declared.term.Term.{Term}
use Rattle.topos_model.specs.declared.ty.Ty.{Ty}
use Rattle.topos_model.specs.formulas.Typing.{TypedExactly}
use Rattle.topos_model.specs.statements.Needs.{parts, product, term_needs}
use Rattle.term_typing.specs.Noted.{noted}

-- a type is found for a term exactly if the term has it by the rules
abbrev pub InferredExactly : Type 0
InferredExactly = (maps : List MapTy) → TypedExactly maps

-- what is listed with the product of the context has the parts that the term counts
abbrev pub NotedExactly : Type 0
NotedExactly = (maps : List MapTy) (Γ : List Ty) (t : Term) (T : Ty) → In (flat_map parts (product Γ ∷ noted maps Γ t)) T ↔ In (term_needs maps Γ t) T
