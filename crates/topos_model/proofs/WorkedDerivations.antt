-- Worked examples, by computation: lifting, substitution, and steps of derivations.
use Rattle.std.specs.Prelude.{◌≡◌, ℕ, List, [], ◌∷◌, refl, codes, Option, Some, None}
use Rattle.std.proofs.Common.{inl}
use Rattle.topos_model.specs.declared.ty.Ty.{Ty, Base, Omega}
use Rattle.topos_model.specs.declared.term.Term.{Term, Var, Eq, Or, Not, Compr, Forall, Exists, Member}
use Rattle.topos_model.specs.declared.derivation.Step.{Step}
use Rattle.topos_model.specs.formulas.TermChange.{changed, lift, substituted}
use Rattle.topos_model.specs.derivations.Derivations.{Sequent, Hyp, Refl, Subst, Inst, SomeRule, AllRule}
use Rattle.topos_model.specs.derivations.Rules.{Follows, IsStep}
use Rattle.topos_model.specs.declared.term.Term.TheBlock.{hidden-the_row-Term-0}
use denote.Hole.Carrier

opened : Unit {0}
unfolding changed hidden-the_row-Term-0 Carrier.hidden
opened = tt

-- x = y below one more variable, and { z | z = x } with x inside the braces
lifted_equation : lift 0 (Eq (Var 1) (Var 0)) ≡ Eq (Var 2) (Var 1)
unfolding opened
lifted_equation = refl

lifted_set : lift 0 (Compr (Base 0) (Eq (Var 0) (Var 1))) ≡ Compr (Base 0) (Eq (Var 0) (Var 2))
unfolding opened
lifted_set = refl

-- { z | z = x } for S in x in S: the bound variable keeps its place
substituted_set : substituted (Compr (Base 0) (Eq (Var 0) (Var 1))) 0 (Member (Var 1) (Var 0)) ≡ Member (Var 0) (Compr (Base 0) (Eq (Var 0) (Var 1)))
unfolding opened
substituted_set = refl

-- and below a binder it is lifted
substituted_below : substituted (Var 3) 0 (Exists (Base 0) (Eq (Var 0) (Var 1))) ≡ Exists (Base 0) (Eq (Var 0) (Var 4))
unfolding opened
substituted_below = refl

-- x and y of X, of which x = y is assumed
abbrev X : Ty
X = Base 0

abbrev assumed : Term → Sequent
assumed φ = record { context = X ∷ X ∷ []; hyps = Eq (Var 1) (Var 0) ∷ []; concl = φ }

assumption : Follows [] Hyp [] None (assumed (Eq (Var 1) (Var 0)))
assumption = ((refl, refl), inl refl)

reflexivity : Follows [] Refl [] None (assumed (Eq (Var 1) (Var 1)))
reflexivity = (Var 1, (refl, refl), refl)

-- y = x by putting y for z in z = x
symmetry : Follows [] Subst (assumed (Eq (Var 1) (Var 0)) ∷ assumed (Eq (Var 1) (Var 1)) ∷ []) (Some (Compr X (Eq (Var 0) (Var 2)))) (assumed (Eq (Var 0) (Var 1)))
unfolding opened
symmetry = (X, Eq (Var 0) (Var 2), Var 1, Var 0, refl, refl, refl, refl)

-- what is not assumed does not follow as a hypothesis
excluded_middle_not_assumed : Follows [] Hyp [] None (record { context = Omega ∷ []; hyps = []; concl = Or (Var 0) (Not (Var 0)) }) → ⊥
excluded_middle_not_assumed h = h.1

-- the same as listed steps: x = y is assumed, x = x holds, and so y = x
abbrev listed : List ℕ → List ℕ → Term → Option Term → Step
listed rule from φ t = record { rule = rule; from = from; ctx = record { types = X ∷ X ∷ [] }; hyps = Eq (Var 1) (Var 0) ∷ []; concl = φ; with_term = t }

abbrev earlier : List Step
earlier = listed (codes "hyp") [] (Eq (Var 1) (Var 0)) None ∷ listed (codes "refl") [] (Eq (Var 1) (Var 1)) None ∷ []

symmetry_step : IsStep [] earlier (listed (codes "subst") (0 ∷ 1 ∷ []) (Eq (Var 0) (Var 1)) (Some (Compr X (Eq (Var 0) (Var 2)))))
symmetry_step = (Subst, assumed (Eq (Var 1) (Var 0)) ∷ assumed (Eq (Var 1) (Var 1)) ∷ [], refl, refl, symmetry)

-- for all y each y is y, at x
instance : Follows [] Inst (assumed (Forall X (Eq (Var 0) (Var 0))) ∷ []) (Some (Var 1)) (assumed (Eq (Var 1) (Var 1)))
unfolding opened
instance = (X, Eq (Var 0) (Var 0), Var 1, refl, refl, refl, refl)

-- some y is x, by x
witness : Follows [] SomeRule (assumed (Eq (Var 1) (Var 1)) ∷ []) (Some (Var 1)) (assumed (Exists X (Eq (Var 0) (Var 2))))
unfolding opened
witness = (X, Eq (Var 0) (Var 2), Var 1, refl, refl, refl, refl)

-- over one more variable the hypotheses are lifted
generalisation : Follows [] AllRule (record { context = X ∷ X ∷ X ∷ []; hyps = Eq (Var 2) (Var 1) ∷ []; concl = Eq (Var 0) (Var 0) } ∷ []) None (assumed (Forall X (Eq (Var 0) (Var 0))))
unfolding opened
generalisation = (X, Eq (Var 0) (Var 0), (refl, refl), refl)
