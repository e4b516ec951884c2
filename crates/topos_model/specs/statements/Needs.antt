-- The types whose elements the statements of a document speak of, each of which is counted.
use Rattle.std.specs.Prelude.{ℕ, Bool, false, ◌&&◌, not, List, [], ◌∷◌, ◌++◌, map, reverse, eqb, flat_map, Option, Some, None, Ok, Err}
use Rattle.std.specs.List.{list_any, range_with_len}
use Rattle.topos_model.specs.declared.ty.Ty.{Ty, Base, One, Omega, Two, Two', Pow', Fun', more_of-Ty as one, end_of-Ty as none}
use Rattle.topos_model.specs.declared.term.Term.{Term, Pair', Fst', Snd', App', Eval', Lam', Compr', Eq', Member', And', Or', Implies', Not', Forall', Exists', Unique', more_of-Term as only, end_of-Term as end}
use Rattle.topos_model.specs.declared.context.MapTy.{MapTy}
use Rattle.topos_model.specs.declared.derivation.Step.{Step}
use Rattle.topos_model.specs.declared.stmt.Stmt.{Stmt}
use Rattle.topos_model.specs.declared.stmt.Stmt.TheVariants.{Sheafify, Sheaf, Build, Sub, Let, Show, Classify, Valid, Why, Derive, Local, LocalAs}
use Rattle.topos_model.specs.declared.fault.Fault.{Fault}
use Rattle.topos_model.specs.declared.fault.Fault.TheVariants.{NotASheaf}
use Rattle.topos_model.specs.formulas.Typing.{Typing, typed}
use Rattle.finite_lists.specs.First.{first, some_if}

-- all parts of a type, itself first
unfoldable pub parts : Ty → List Ty
parts (Base n) = Base n ∷ []
parts One = One ∷ []
parts Omega = Omega ∷ []
parts (Two' m (one S none) n (one T none)) = Two' m (one S none) n (one T none) ∷ parts S ++ parts T
parts (Pow' m (one T none)) = Pow' m (one T none) ∷ parts T
parts (Fun' m (one S none) n (one T none)) = Fun' m (one S none) n (one T none) ∷ parts S ++ parts T

-- the product of a context, the innermost variable first, nested to the left
abbrev pub product : List Ty → Ty
product [] = One
product (T ∷ []) = T
product (T ∷ U ∷ Γ) = Two (product (U ∷ Γ)) T

-- the proper subterms of a term, each with its context
unfoldable pub inner : List Ty → Term → List (List Ty × Term)
inner Γ (Pair' _ (only t end) _ (only u end)) = (Γ, t) ∷ inner Γ t ++ (Γ, u) ∷ inner Γ u
inner Γ (Fst' _ (only t end)) = (Γ, t) ∷ inner Γ t
inner Γ (Snd' _ (only t end)) = (Γ, t) ∷ inner Γ t
inner Γ (App' m _ (only t end)) = (Γ, t) ∷ inner Γ t
inner Γ (Eval' _ (only t end) _ (only u end)) = (Γ, t) ∷ inner Γ t ++ (Γ, u) ∷ inner Γ u
inner Γ (Lam' T _ (only t end)) = (T ∷ Γ, t) ∷ inner (T ∷ Γ) t
inner Γ (Compr' T _ (only φ end)) = (T ∷ Γ, φ) ∷ inner (T ∷ Γ) φ
inner Γ (Eq' _ (only t end) _ (only u end)) = (Γ, t) ∷ inner Γ t ++ (Γ, u) ∷ inner Γ u
inner Γ (Member' _ (only t end) _ (only u end)) = (Γ, t) ∷ inner Γ t ++ (Γ, u) ∷ inner Γ u
inner Γ (And' _ (only φ end) _ (only ψ end)) = (Γ, φ) ∷ inner Γ φ ++ (Γ, ψ) ∷ inner Γ ψ
inner Γ (Or' _ (only φ end) _ (only ψ end)) = (Γ, φ) ∷ inner Γ φ ++ (Γ, ψ) ∷ inner Γ ψ
inner Γ (Implies' _ (only φ end) _ (only ψ end)) = (Γ, φ) ∷ inner Γ φ ++ (Γ, ψ) ∷ inner Γ ψ
inner Γ (Not' _ (only φ end)) = (Γ, φ) ∷ inner Γ φ
inner Γ (Forall' T _ (only φ end)) = (T ∷ Γ, φ) ∷ inner (T ∷ Γ) φ
inner Γ (Exists' T _ (only φ end)) = (T ∷ Γ, φ) ∷ inner (T ∷ Γ) φ
inner Γ (Unique' T _ (only φ end)) = (T ∷ Γ, φ) ∷ inner (T ∷ Γ) φ
inner Γ _ = []

abbrev pub subterms : List Ty → Term → List (List Ty × Term)
subterms Γ t = (Γ, t) ∷ inner Γ t

-- the type, where there is one
abbrev pub found : Typing → List Ty
found (Ok T) = T ∷ []
found (Err fault) = []

-- the topology in force for a statement
unfoldable pub under : Stmt → ℕ
under (Sheafify j x functor m) = j
under (Sheaf j x) = j
under (Build j functor T u v) = j
under (Sub j functor T φ m) = j
under (Let j m T t) = j
under (Show j ctx φ) = j
under (Classify j ctx φ) = j
under (Valid j ctx φ) = j
under (Why j at k ctx φ) = j
under (Derive j d) = j
under _ = 0

abbrev pub with_terms : Option Term → List Term
with_terms (Some t) = t ∷ []
with_terms None = []

-- the terms of a step of a derivation, each with its context, in the order of the text
unfoldable pub step_terms : Step → List (List Ty × Term)
step_terms step = map (λ t. (reverse step.ctx.types, t)) (step.hyps ++ step.concl ∷ with_terms step.with_term)

-- the terms of a statement
unfoldable pub terms_of : Stmt → List (List Ty × Term)
terms_of (Sub j functor T φ m) = (T ∷ [], φ) ∷ []
terms_of (Let j m T t) = (T ∷ [], t) ∷ []
terms_of (Show j ctx φ) = (reverse ctx.types, φ) ∷ []
terms_of (Classify j ctx φ) = (reverse ctx.types, φ) ∷ []
terms_of (Valid j ctx φ) = (reverse ctx.types, φ) ∷ []
terms_of (Why j at k ctx φ) = (reverse ctx.types, φ) ∷ []
terms_of (Derive j d) = flat_map step_terms d.steps
terms_of _ = []

module _ (maps : List MapTy) where
  -- of each subterm the type, the product of the context, and the types of the context, binders among them; and all parts of these
  unfoldable pub term_needs : List Ty → Term → List Ty
  term_needs Γ t = flat_map parts (flat_map (λ s. found (typed maps s.0 s.1) ++ product s.0 ∷ s.0) (subterms Γ t))

  -- the types that a statement speaks of, with repetitions; of these the functors must be sheaves
  unfoldable pub types_of : Stmt → List Ty
  types_of (Build j functor T u v) = parts T
  types_of stmt = flat_map (λ s. term_needs s.0 s.1) (terms_of stmt)

  -- the types that a statement counts
  unfoldable pub needs : Stmt → List Ty
  needs (Derive j d) = []
  needs (Local m) = Omega ∷ []
  needs (LocalAs top m) = Omega ∷ []
  needs stmt = types_of stmt

-- the functor that a type names
unfoldable pub named : Ty → ℕ
named (Base m) = m
named _ = 0

-- whether a type is the functor number n
abbrev pub is_functor : ℕ → Ty → Bool
is_functor n (Base m) = eqb m n
is_functor n _ = false

-- the first of the declared functors that occurs there and is not a sheaf
abbrev pub first_no_sheaf : (ℕ → Bool) → ℕ → List Ty → Option Fault
first_no_sheaf is_sheaf declared types = first (λ n. some_if (list_any (is_functor n) types && not (is_sheaf n)) (NotASheaf n)) (range_with_len 0 declared)
