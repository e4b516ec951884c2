-- What is kept is what is shown.
use Rattle.std.proofs.Common.{◌≡◌, true, false, List, map, refl}
use Rattle.topos_model.specs.declared.ty.Ty.{Ty}
use Rattle.topos_model.specs.declared.term.Term.{Term}
use Rattle.topos_model.specs.formulas.Forcing.{World, forces, value, tuples, shown}
use Rattle.topos_model.specs.statements.Answers.{tuple_of, unforced, classified}
use Rattle.topos_model.specs.statements.Cells.{objects_of}
use Rattle.formula_answers.specs.Stages.{kept, with_arrows}

module _ (w : World) (Γ : List Ty) (φ : Term) where
  pub shown_kept : map (λ c. map tuple_of (kept true (forces w φ c) (tuples w Γ c))) (objects_of w.site.category) ≡ map (λ c. map tuple_of (shown w Γ φ c)) (objects_of w.site.category)
  unfolding kept shown
  shown_kept = refl

  pub unforced_kept : map (λ c. map tuple_of (kept false (forces w φ c) (tuples w Γ c))) (objects_of w.site.category) ≡ map (λ c. map tuple_of (unforced w Γ φ c)) (objects_of w.site.category)
  unfolding kept unforced
  unforced_kept = refl

  pub classified_with : map (λ c. with_arrows (value w φ c) (tuples w Γ c)) (objects_of w.site.category) ≡ map (classified w Γ φ) (objects_of w.site.category)
  unfolding with_arrows classified
  classified_with = refl
