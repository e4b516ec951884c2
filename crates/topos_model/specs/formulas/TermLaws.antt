-- What lifting, substitution and the rules keep: values, forcing and truth (VI.5 to VI.7).
use Rattle.std.specs.Prelude.{◌≡◌, ℕ, ◌<◌, List, [], ◌∷◌, ◌++◌, length, get_or, flat_map}
use Rattle.std.specs.List.{All}
use Rattle.finite_lists.specs.Members.{In}
use Rattle.topos_model.specs.declared.ty.Ty.{Ty}
use Rattle.topos_model.specs.declared.term.Term.{Term}
use Rattle.topos_model.specs.declared.value.Val.{Val}
use Rattle.topos_model.specs.declared.context.MapTy.{MapTy}
use Rattle.topos_model.specs.declared.derivation.Derivation.{Derivation}
use Rattle.topos_model.specs.categories.Category.{dom}
use Rattle.topos_model.specs.Laws.{IsCategory, IsTopology, IsFunctor, IsInto}
use Rattle.topos_model.specs.types.Types.{restr}
use Rattle.topos_model.specs.topologies.Sheaves.{OfSheaves}
use Rattle.topos_model.specs.formulas.Typing.{ends_of, Typed}
use Rattle.topos_model.specs.statements.Needs.{step_terms, term_needs}
use Rattle.topos_model.specs.formulas.TermChange.{lift, substituted}
use Rattle.topos_model.specs.derivations.Derivations.{Holds, sequent_of}
use Rattle.topos_model.specs.derivations.Rules.{IsDerivation}
use Rattle.topos_model.specs.formulas.Forcing.{World, Assigned, values, value, forces, tuples, image_of}

abbrev pub image : World → ℕ → ℕ → Val → Val
image w m c v = image_of v (get_or (get_or w.maps m []) c [])

-- a site, functors and natural maps with these ends
pub record IsWorld (w : World) (maps : List MapTy) : Type 0 where
  pub category : IsCategory w.site.category
  pub topology : IsTopology w.site
  pub functors : All (IsFunctor w.site.category) w.functors
  pub within : (m c : ℕ) (v : Val) → c < w.site.category.objects → In (values w (ends_of maps m).dom c) v → In (values w (ends_of maps m).cod c) (image w m c v)
  pub natural : (m c f : ℕ) (v : Val) → IsInto w.site.category c f → In (values w (ends_of maps m).dom c) v →
      image w m (dom w.site.category f) (restr w.site w.functors (ends_of maps m).dom f v) ≡ restr w.site w.functors (ends_of maps m).cod f (image w m c v)

-- the functors that the types name are sheaves
abbrev pub NameSheaves : World → List Ty → Type 0
NameSheaves w types = All (OfSheaves w.site w.functors) types

module _ (w : World) (maps : List MapTy) where
  -- one more variable changes neither value nor forcing
  abbrev pub LiftedTermsMean : Type 0
  LiftedTermsMean =
      (t : Term) (c : ℕ) (x : Ty × Val) (a b : Assigned) →
      (value w (lift (length b) t) c (b ++ x ∷ a) ≡ value w t c (b ++ a)) × (forces w (lift (length b) t) c (b ++ x ∷ a) ≡ forces w t c (b ++ a))

  -- a term put for a variable is its value for the variable
  abbrev pub SubstitutedTermsMean : Type 0
  SubstitutedTermsMean =
      (Γ Δ : List Ty) (S : Ty) (s t : Term) (c : ℕ) (a b : Assigned) → IsWorld w maps → Typed maps Γ s S → NameSheaves w (term_needs maps Γ s) → c < w.site.category.objects →
      In (tuples w Γ c) a → In (tuples w (Δ ++ Γ) c) (b ++ a) → length b ≡ length Δ →
      (value w (substituted s (length b) t) c (b ++ a) ≡ value w t c (b ++ (S, value w s c a) ∷ a)) ×
      (forces w (substituted s (length b) t) c (b ++ a) ≡ forces w t c (b ++ (S, value w s c a) ∷ a))

  -- each step of a derivation holds
  abbrev pub DerivationsHold : Type 0
  DerivationsHold =
      (d : Derivation) → IsWorld w maps → IsDerivation maps d →
      NameSheaves w (flat_map (λ s. term_needs maps s.0 s.1) (flat_map step_terms d.steps)) → All (λ step. Holds w (sequent_of step)) d.steps
