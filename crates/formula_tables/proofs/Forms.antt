-- Each form of formulas by the tables of its parts.
use Rattle.std.proofs.Common.{◌≡◌, ℕ, Bool, true, false, List, get_or, refl, sym, ap, subst, ◌∙◌}
use Rattle.topos_model.specs.declared.ty.Ty.{Ty}
use Rattle.topos_model.specs.formulas.Forcing.{World, Property, falsity_forced, and_forced, or_forced, implies_forced, not_forced, exists_forced, forall_forced, unique_forced, locally, always}
use Rattle.topos_model.specs.certificates.CertificateNodes.{same_truth}
use Rattle.topologies.proofs.SomeCovers.{some_cover}
use Rattle.functor_store.specs.Store.{Store}
use Rattle.truth_tables.specs.declared.connectives.Connective.{Connective}
use Rattle.truth_tables.specs.declared.connectives.Connective.TheVariants.{And, Or, Implies}
use Rattle.truth_tables.specs.declared.quantifiers.Quantifier.{Quantifier}
use Rattle.truth_tables.specs.declared.quantifiers.Quantifier.TheVariants.{Some, Every, One}
use Rattle.truth_tables.specs.Tables.{table, bit, connected}
use Rattle.truth_tables.specs.Standing.{counts, IsTruthTable}
use Rattle.truth_tables.proofs.Standing.{truth_table}
use Rattle.site_stages.specs.declared.stages.Stages.{Stages}
use Rattle.formula_tables.specs.Formulas.{IsContext, AreFormulas, connected_at, agreeing_at, equivalent_forced, quantified_at, connected_forced, quantified_forced}

module _ (w : World) (Γ : List Ty) where
  pub truth_stands : (sizes : List ℕ) (out : List (List Bool)) → sizes ≡ counts w Γ → out ≡ table sizes (λ c i. true) → IsTruthTable w Γ (λ c a. true) out
  truth_stands sizes out counted is = truth_table w Γ sizes counted (λ c a. true) _ out is (λ c i low inside. refl)

  module _ (stages : Stages) (store : Store) (id : ℕ) (sizes : List ℕ) where
    pub falsity_stands : IsContext w Γ stages store id sizes → (empty : List Bool) (out : List (List Bool)) → empty ≡ stages.empty → out ≡ table sizes (λ c i. get_or empty c false) →
        IsTruthTable w Γ (falsity_forced w) out
    unfolding falsity_forced locally
    falsity_stands known empty out e is =
        truth_table w Γ sizes known.counted (falsity_forced w) _ out is
        (λ c i low inside.
        ap (λ l. get_or l c false) e ∙ known.stands.empty c low ∙ sym (some_cover w.site c (λ f. false) known.lawful.1.category known.lawful.1.topology low))

    pub connected_stands : (φ ψ : Property) (left right : List (List Bool)) → AreFormulas w Γ φ ψ stages store id sizes left right → (k : Connective) (out : List (List Bool)) →
        out ≡ table sizes (λ c i. connected k (bit left c i) (bit right c i)) → IsTruthTable w Γ (connected_at k φ ψ) out
    unfolding connected_at
    connected_stands φ ψ left right h k out is =
        truth_table w Γ sizes h.known.counted (connected_at k φ ψ) _ out is
        (λ c i low inside. ap (λ b. connected k b (bit right c i)) (h.left_stands.truths c i low inside) ∙ ap (connected k _) (h.right_stands.truths c i low inside))

    pub agreeing_stands : (φ ψ : Property) (left right : List (List Bool)) → AreFormulas w Γ φ ψ stages store id sizes left right → (out : List (List Bool)) →
        out ≡ table sizes (λ c i. same_truth (bit left c i) (bit right c i)) → IsTruthTable w Γ (agreeing_at φ ψ) out
    unfolding agreeing_at
    agreeing_stands φ ψ left right h out is =
        truth_table w Γ sizes h.known.counted (agreeing_at φ ψ) _ out is
        (λ c i low inside. ap (λ b. same_truth b (bit right c i)) (h.left_stands.truths c i low inside) ∙ ap (same_truth _) (h.right_stands.truths c i low inside))

-- the rows of the forcing table
module _ (w : World) (Γ : List Ty) (out : List (List Bool)) where
  pub and_row : (k : Connective) (φ ψ : Property) → k ≡ And → IsTruthTable w Γ (connected_at k φ ψ) out → IsTruthTable w Γ (connected_forced w k φ ψ) out
  unfolding connected_at connected_forced and_forced
  and_row k φ ψ e h = subst (λ k. IsTruthTable w Γ (connected_forced w k φ ψ) out) (sym e) (subst (λ k. IsTruthTable w Γ (connected_at k φ ψ) out) e h)

  pub or_row : (k : Connective) (φ ψ : Property) → k ≡ Or → IsTruthTable w Γ (locally w (connected_at k φ ψ)) out → IsTruthTable w Γ (connected_forced w k φ ψ) out
  unfolding connected_at connected_forced or_forced
  or_row k φ ψ e h = subst (λ k. IsTruthTable w Γ (connected_forced w k φ ψ) out) (sym e) (subst (λ k. IsTruthTable w Γ (locally w (connected_at k φ ψ)) out) e h)

  pub implies_row : (k : Connective) (φ ψ : Property) → k ≡ Implies → IsTruthTable w Γ (always w (connected_at k φ ψ)) out → IsTruthTable w Γ (connected_forced w k φ ψ) out
  unfolding connected_at connected_forced implies_forced
  implies_row k φ ψ e h = subst (λ k. IsTruthTable w Γ (connected_forced w k φ ψ) out) (sym e) (subst (λ k. IsTruthTable w Γ (always w (connected_at k φ ψ)) out) e h)

  pub equivalent_row : (φ ψ : Property) → IsTruthTable w Γ (always w (agreeing_at φ ψ)) out → IsTruthTable w Γ (equivalent_forced w φ ψ) out
  unfolding equivalent_forced
  equivalent_row φ ψ h = h

  pub not_row : (φ : Property) → IsTruthTable w Γ (connected_forced w Implies φ (falsity_forced w)) out → IsTruthTable w Γ (not_forced w φ) out
  unfolding connected_forced implies_forced not_forced
  not_row φ h = h

  pub exists_row : (q : Quantifier) (T : Ty) (φ : Property) → q ≡ Some → IsTruthTable w Γ (locally w (quantified_at w q T φ)) out → IsTruthTable w Γ (quantified_forced w q T φ) out
  unfolding quantified_at quantified_forced exists_forced
  exists_row q T φ e h = subst (λ q. IsTruthTable w Γ (quantified_forced w q T φ) out) (sym e) (subst (λ q. IsTruthTable w Γ (locally w (quantified_at w q T φ)) out) e h)

  pub forall_row : (q : Quantifier) (T : Ty) (φ : Property) → q ≡ Every → IsTruthTable w Γ (always w (quantified_at w q T φ)) out → IsTruthTable w Γ (quantified_forced w q T φ) out
  unfolding quantified_at quantified_forced forall_forced
  forall_row q T φ e h = subst (λ q. IsTruthTable w Γ (quantified_forced w q T φ) out) (sym e) (subst (λ q. IsTruthTable w Γ (always w (quantified_at w q T φ)) out) e h)

  pub unique_row : (q : Quantifier) (T : Ty) (φ : Property) → q ≡ One → IsTruthTable w Γ (always w (quantified_at w q T φ)) out → IsTruthTable w Γ (quantified_forced w q T φ) out
  unfolding quantified_at quantified_forced unique_forced
  unique_row q T φ e h = subst (λ q. IsTruthTable w Γ (quantified_forced w q T φ) out) (sym e) (subst (λ q. IsTruthTable w Γ (always w (quantified_at w q T φ)) out) e h)
