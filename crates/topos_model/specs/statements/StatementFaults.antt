-- Why a statement with a term is refused for its term alone.
use Rattle.std.specs.Prelude.{ℕ, Bool, true, false, ◌&&◌, ◌||◌, not, List, [], ◌∷◌, ◌++◌, reverse, get_or, eqb, ltb, flat_map, Option, Some, None, Ok, Err}
use Rattle.finite_lists.specs.First.{first, or_else, some_if}
use Rattle.topos_model.specs.declared.ty.Ty.{Ty, One, Omega, Two', Pow', Fun', more_of-Ty as one, end_of-Ty as none}
use Rattle.topos_model.specs.declared.term.Term.{Term, Pair', Fst', Snd', App', Eval', Lam', Compr', Eq', Member', And', Or', Implies', Not', Forall', Exists', Unique', more_of-Term as only, end_of-Term as end}
use Rattle.topos_model.specs.declared.context.MapTy.{MapTy}
use Rattle.topos_model.specs.declared.derivation.Step.{Step}
use Rattle.topos_model.specs.declared.stmt.Stmt.{Stmt}
use Rattle.topos_model.specs.declared.stmt.Stmt.TheVariants.{Let, Derive}
use Rattle.topos_model.specs.declared.fault.Fault.{Fault}
use Rattle.topos_model.specs.declared.fault.Fault.TheVariants.{WrongTopology, TypeTooLarge}
use Rattle.topos_model.specs.types.Nodes.{nodes}
use Rattle.topos_model.specs.formulas.Typing.{Typing, typed, formula}
use Rattle.topos_model.specs.statements.Needs.{terms_of, with_terms, under}

-- the maps that a term applies, in the order of the text
unfoldable pub applied : Term → List ℕ
applied (Pair' _ (only t end) _ (only u end)) = applied t ++ applied u
applied (Fst' _ (only t end)) = applied t
applied (Snd' _ (only t end)) = applied t
applied (App' m _ (only t end)) = m ∷ applied t
applied (Eval' _ (only t end) _ (only u end)) = applied t ++ applied u
applied (Lam' T _ (only t end)) = applied t
applied (Compr' T _ (only φ end)) = applied φ
applied (Eq' _ (only t end) _ (only u end)) = applied t ++ applied u
applied (Member' _ (only t end) _ (only u end)) = applied t ++ applied u
applied (And' _ (only φ end) _ (only ψ end)) = applied φ ++ applied ψ
applied (Or' _ (only φ end) _ (only ψ end)) = applied φ ++ applied ψ
applied (Implies' _ (only φ end) _ (only ψ end)) = applied φ ++ applied ψ
applied (Not' _ (only φ end)) = applied φ
applied (Forall' T _ (only φ end)) = applied φ
applied (Exists' T _ (only φ end)) = applied φ
applied (Unique' T _ (only φ end)) = applied φ
applied _ = []

-- whether the elements of a type depend on the covers: truth values or subsets occur in it
unfoldable pub depends_on_covers : Ty → Bool
depends_on_covers Omega = true
depends_on_covers (Pow' _ (one T none)) = true
depends_on_covers (Two' _ (one S none) _ (one T none)) = depends_on_covers S || depends_on_covers T
depends_on_covers (Fun' _ (one S none) _ (one T none)) = depends_on_covers S || depends_on_covers T
depends_on_covers _ = false

-- a map, and the topology in force where it was made
pub record MadeMap : Type 0 where
  pub ends : MapTy
  pub under : ℕ

-- the map was made under another topology, and depends on it
abbrev pub is_foreign : List MadeMap → ℕ → ℕ → Bool
is_foreign made j m =
    let map = get_or made m (record { ends = record { dom = One; cod = One }; under = 0 }) in
    not (eqb map.under j) && (depends_on_covers map.ends.dom || depends_on_covers map.ends.cod)

-- the first map of another topology that the statement applies
unfoldable pub foreign_map_fault : List MadeMap → Stmt → Option Fault
foreign_map_fault made stmt =
    first (λ m. some_if (is_foreign made (under stmt) m) (WrongTopology m)) (flat_map (λ s. applied s.1) (terms_of stmt))

abbrev pub fault_of : Typing → Option Fault
fault_of (Ok T) = None
fault_of (Err fault) = Some fault

abbrev pub max_nodes : ℕ
max_nodes = 256

-- a type with more nodes than the greatest number
abbrev pub size_fault : Typing → Option Fault
size_fault (Ok T) = some_if (ltb max_nodes (nodes T)) (TypeTooLarge (nodes T))
size_fault (Err fault) = None

module _ (maps : List MapTy) where
  -- the first fault of a term that is to be a formula, and of a term of any type
  unfoldable pub formula_fault : List Ty × Term → Option Fault
  formula_fault s = fault_of (formula (typed maps s.0 s.1) (Ok Omega))

  unfoldable pub term_fault : List Ty × Term → Option Fault
  term_fault s = fault_of (typed maps s.0 s.1)

  -- of a step of a derivation: hypotheses, conclusion, and the term
  unfoldable pub step_fault : Step → Option Fault
  step_fault step =
      or_else (first (λ φ. formula_fault (reverse step.ctx.types, φ)) (step.hyps ++ step.concl ∷ []))
      (first (λ t. term_fault (reverse step.ctx.types, t)) (with_terms step.with_term))

  -- of a statement other than a derivation, whose rules are tested step by step; a map has a type that is not too large
  unfoldable pub typing_fault : Stmt → Option Fault
  typing_fault (Let j m T t) = or_else (term_fault (T ∷ [], t)) (size_fault (typed maps (T ∷ []) t))
  typing_fault (Derive j d) = None
  typing_fault stmt = first formula_fault (terms_of stmt)
