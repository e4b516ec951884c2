-- What is given to the forms of formulas: tables of their parts, and a sealed context.
use Rattle.std.specs.Prelude.{◌≡◌, ℕ, ◌<◌, Bool, eqb, List, ◌∷◌, map, filter, length}
use Rattle.std.specs.List.{list_any, list_all, range_with_len}
use Rattle.topos_model.specs.declared.ty.Ty.{Ty}
use Rattle.topos_model.specs.declared.context.MapTy.{MapTy}
use Rattle.topos_model.specs.statements.Needs.{product}
use Rattle.topos_model.specs.certificates.CertificateNodes.{same_truth}
use Rattle.topos_model.specs.formulas.Forcing.{World, Property, values, always, and_forced, or_forced, implies_forced, exists_forced, forall_forced, unique_forced}
use Rattle.topos_model.specs.formulas.TermLaws.{IsWorld}
use Rattle.functor_store.specs.Store.{Store, functor_at}
use Rattle.functor_store.specs.Faithful.{IsFaithful}
use Rattle.truth_tables.specs.declared.connectives.Connective.{Connective}
use Rattle.truth_tables.specs.declared.connectives.Connective.TheVariants.{And, Or, Implies}
use Rattle.truth_tables.specs.declared.quantifiers.Quantifier.{Quantifier}
use Rattle.truth_tables.specs.declared.quantifiers.Quantifier.TheVariants.{Some, Every, One}
use Rattle.truth_tables.specs.Tables.{connected}
use Rattle.truth_tables.specs.Standing.{counts, IsTruthTable}
use Rattle.site_stages.specs.declared.stages.Stages.{Stages}
use Rattle.site_stages.specs.Stages.{AreStages}

module _ (w : World) (Γ : List Ty) where
  -- a lawful world, a store that is faithful to its site and its functors, the product of a context that is sealed there, and the numbers of tuples
  pub record IsContext (stages : Stages) (store : Store) (context : ℕ) (sizes : List ℕ) : Type 0 where
    pub lawful : (maps : List MapTy) × IsWorld w maps
    pub stands : AreStages w.site stages
    pub faithful : IsFaithful w.site w.functors store
    pub sealed : context < length store.sealed
    pub key : (functor_at store.sealed context).key ≡ product Γ
    pub counted : sizes ≡ counts w Γ

  -- two formulas
  pub record AreFormulas (φ ψ : Property) (stages : Stages) (store : Store) (context : ℕ) (sizes : List ℕ) (left right : List (List Bool)) : Type 0 where
    pub known : IsContext stages store context sizes
    pub left_stands : IsTruthTable w Γ φ left
    pub right_stands : IsTruthTable w Γ ψ right

  -- a formula
  pub record IsFormula (φ : Property) (stages : Stages) (store : Store) (context : ℕ) (sizes : List ℕ) (truths : List (List Bool)) : Type 0 where
    pub known : IsContext stages store context sizes
    pub stands : IsTruthTable w Γ φ truths

  -- a formula with one more variable, and the numbers of its values
  pub record IsBody (T : Ty) (φ : Property) (stages : Stages) (store : Store) (context : ℕ) (sizes widths : List ℕ) (body : List (List Bool)) : Type 0 where
    pub known : IsContext stages store context sizes
    pub widths_are : widths ≡ map (λ c. length (values w T c)) (range_with_len 0 w.site.category.objects)
    pub stands : IsTruthTable w (T ∷ Γ) φ body

-- whether two formulas agree at a tuple, and whether they agree along all arrows
unfoldable pub agreeing_at : Property → Property → Property
agreeing_at φ ψ c a = same_truth (φ c a) (ψ c a)

unfoldable pub equivalent_forced : World → Property → Property → Property
equivalent_forced w φ ψ = always w (agreeing_at φ ψ)

-- a connective at a tuple, and a quantifier over the values there
unfoldable pub connected_at : Connective → Property → Property → Property
connected_at k φ ψ c a = connected k (φ c a) (ψ c a)

unfoldable pub quantified_at : World → Quantifier → Ty → Property → Property
quantified_at w Some T φ c a = list_any (λ b. φ c ((T, b) ∷ a)) (values w T c)
quantified_at w Every T φ c a = list_all (λ b. φ c ((T, b) ∷ a)) (values w T c)
quantified_at w One T φ c a = eqb (length (filter (λ b. φ c ((T, b) ∷ a)) (values w T c))) 1

-- what is forced under a connective, and under a quantifier
unfoldable pub connected_forced : World → Connective → Property → Property → Property
connected_forced w And φ ψ = and_forced w φ ψ
connected_forced w Or φ ψ = or_forced w φ ψ
connected_forced w Implies φ ψ = implies_forced w φ ψ

unfoldable pub quantified_forced : World → Quantifier → Ty → Property → Property
quantified_forced w Some T φ = exists_forced w T φ
quantified_forced w Every T φ = forall_forced w T φ
quantified_forced w One T φ = unique_forced w T φ
