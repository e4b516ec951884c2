-- What is known of an interpreter, a context and a term.
use Rattle.std.specs.Prelude.{◌≡◌, ℕ, ◌<◌, List, [], ◌∷◌, ◌++◌, length, get_or, Bool, Some}
use denote.Bor.{Bor}
use Rattle.finite_lists.specs.Members.{In}
use Rattle.topos_model.specs.declared.ty.Ty.{Ty, Omega, Two}
use Rattle.topos_model.specs.declared.term.Term.{Term}
use Rattle.topos_model.specs.declared.context.MapTy.{MapTy}
use Rattle.topos_model.specs.topologies.Sheaves.{OfSheaves}
use Rattle.topos_model.specs.statements.Needs.{found, parts, product, subterms}
use Rattle.topos_model.specs.formulas.Typing.{ends_of, typed, Typed}
use Rattle.topos_model.specs.formulas.Forcing.{World, value, forces}
use Rattle.topos_model.specs.formulas.TermLaws.{IsWorld}
use Rattle.functor_store.specs.Faithful.{Holds, IsFaithful}
use Rattle.omega_object.specs.declared.omega.Omega.{Omega as OmegaTables}
use Rattle.omega_object.specs.Tables.{IsOmegaOn}
use Rattle.truth_tables.specs.Standing.{IsNumberTable, IsTruthTable}
use Rattle.formula_tables.specs.Formulas.{IsContext}
use Rattle.site_stages.specs.Stages.{AreStages}
use Rattle.term_tables.specs.Parts.{AreImages}
use Rattle.internal_interp.specs.declared.context.Context.{Context}
use Rattle.internal_interp.specs.declared.interpreter.Interpreter.{Interpreter}
use Rattle.internal_interp.specs.declared.interpreter.Valued.{Valued}
use Rattle.internal_interp.specs.declared.interpreter.Interpreted.{Interpreted}
use Rattle.internal_interp.specs.declared.interpreter.Interpreted.TheVariants.{Formula, Value}
use Rattle.internal_interp.specs.Contexts.{HasSizes}

module _ (w : World) (maps : List MapTy) (i : Interpreter) where
  -- a lawful world, its stages and truth values, a store that is faithful to its site and functors, and its maps by their tables
  pub record Knows : Type 0 where
    pub lawful : IsWorld w maps
    pub site : w.site ≡ i.site.now
    pub stages : AreStages w.site i.stages.now
    pub faithful : IsFaithful w.site w.functors i.store.now
    pub omega : (Ω : Bor OmegaTables) → i.omega ≡ Some Ω → IsOmegaOn w.site Ω.now
    pub world_maps : length w.maps ≡ length maps
    pub maps_long : length i.maps.now ≡ length maps
    pub ends : (m : ℕ) → m < length maps → (get_or i.maps.now m (record { ends = record { dom = Omega; cod = Omega }; rows = [] })).ends ≡ ends_of maps m
    pub images : (m : ℕ) → m < length maps → AreImages w m (ends_of maps m).dom (ends_of maps m).cod (get_or i.maps.now m (record { ends = record { dom = Omega; cod = Omega }; rows = [] })).rows

  -- the types of terms and of their contexts are of sheaves, they and their parts are sealed, and the truth values are there where one of these is their type
  pub record AreServed (ts : List (List Ty × Term)) : Type 0 where
    pub each : (s : List Ty × Term) → In ts s → (T : Ty) → In (found (typed maps s.0 s.1) ++ product s.0 ∷ s.0) T →
        OfSheaves w.site w.functors T × ((P : Ty) → In (parts T) P → Holds i.store.now P) × (In (parts T) Omega → (Ω : Bor OmegaTables) × (i.omega ≡ Some Ω))

  -- the context is that of the variables, and its product is sealed
  pub record IsScope (Γ : List Ty) (context : Context) : Type 0 where
    pub known : IsContext w Γ i.stages.now i.store.now context.place (get_or context.sizes 0 [])
    pub sizes : HasSizes w Γ context
    pub product_is : context.product ≡ product Γ

  -- a term with its type, and all that it needs
  pub record IsKnown (Γ : List Ty) (U : Ty) (context : Context) (t : Term) : Type 0 where
    pub knows : Knows
    pub scope : IsScope Γ context
    pub typing : Typed maps Γ t U
    pub served : AreServed (subterms Γ t)

module _ (w : World) (Γ : List Ty) (U : Ty) (t : Term) where
  pub record IsValued (v : Valued) : Type 0 where
    pub type_is : v.ty ≡ U
    pub stands : IsNumberTable w Γ U (value w t) v.numbers

  pub record IsForced (truths : List (List Bool)) : Type 0 where
    pub formula : U ≡ Omega
    pub stands : IsTruthTable w Γ (forces w t) truths

  abbrev pub IsInterpreted : Interpreted → Type 0
  IsInterpreted (Formula truths) = IsForced truths
  IsInterpreted (Value v) = IsValued v

-- two terms, with the product of their types
pub record ArePair (w : World) (maps : List MapTy) (i : Interpreter) (Γ : List Ty) (S T : Ty) (context : Context) (t u : Term) (left right : Valued) : Type 0 where
  pub first_known : IsKnown w maps i Γ S context t
  pub second_known : IsKnown w maps i Γ T context u
  pub product : Holds i.store.now (Two S T)
  pub first : IsValued w Γ S t left
  pub second : IsValued w Γ T u right

-- a context, and the type of one variable more, which is sealed with the product
pub record IsBinding (w : World) (maps : List MapTy) (i : Interpreter) (Γ : List Ty) (context : Context) (T : Ty) : Type 0 where
  pub knows : Knows w maps i
  pub scope : IsScope w maps i Γ context
  pub variable : Holds i.store.now T
  pub whole : Holds i.store.now (product (T ∷ Γ))
