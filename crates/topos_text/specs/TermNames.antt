-- Types and terms from their trees. A variable hides maps and outer variables of its name.
use Rattle.std.specs.Prelude.{ℕ, List, [], ◌∷◌, map, reverse, Option, Some, None, Ok}
use Rattle.topos_model.specs.declared.ty.Ty.{Ty, Base, One, Omega, Two, Pow, Fun}
use Rattle.topos_model.specs.declared.term.Term.{Term, Var, Star, Pair, Fst, Snd, App, Eval, Lam, Compr, Eq, Member, Truth, Falsity, And, Or, Implies, Not, Forall, Exists, Unique}
use Rattle.topos_text.specs.Tokens.{Written}
use Rattle.topos_text.specs.Trees as tree
use Rattle.topos_text.specs.Trees.{TypeTree, TermTree, Binding, Binder}
use Rattle.topos_text.specs.Names.{Name, Checked, ◌>>=◌, ◌>>◌, Scope, number_in, look_up, twice_fault, functor_of, map_of}

module _ (s : Scope) where
  unfoldable pub type_of : TypeTree → Checked Ty
  type_of (tree.Functor x) = do
    k ← functor_of s x
    Ok (Base k)
  type_of tree.One = Ok One
  type_of tree.Omega = Ok Omega
  type_of (tree.Power T) = do
    S ← type_of T
    Ok (Pow S)
  type_of (tree.Product S T) = do
    U ← type_of S
    V ← type_of T
    Ok (Two U V)
  type_of (tree.Function S T) = do
    U ← type_of S
    V ← type_of T
    Ok (Fun U V)

  abbrev pub bound : Binder → Ty → Term → Term
  bound tree.Forall T t = Forall T t
  bound tree.Exists T t = Exists T t
  bound tree.Unique T t = Unique T t
  bound tree.Fun T t = Lam T t

  -- a name before `(`: a variable, or else a map
  abbrev pub called : Written → Option ℕ → Checked (Term → Term)
  called x (Some k) = Ok (λ t. Eval (Var k) t)
  called x None = do
    m ← map_of s x
    Ok (λ t. App m t)

  abbrev pub both : Checked Term → Checked Term → (Term → Term → Term) → Checked Term
  both left right of = do
    t ← left
    u ← right
    Ok (of t u)

  -- a term, the names of the variables in scope being listed from the innermost on
  unfoldable pub term_of : List Name → TermTree → Checked Term
  term_of Γ (tree.Named x) = do
    k ← look_up Γ x
    Ok (Var k)
  term_of Γ tree.Truth = Ok Truth
  term_of Γ tree.Falsity = Ok Falsity
  term_of Γ tree.Unit = Ok Star
  term_of Γ (tree.Grouped t) = term_of Γ t
  term_of Γ (tree.Paired t u) = both (term_of Γ t) (term_of Γ u) Pair
  term_of Γ (tree.First t) = do
    u ← term_of Γ t
    Ok (Fst u)
  term_of Γ (tree.Second t) = do
    u ← term_of Γ t
    Ok (Snd u)
  term_of Γ (tree.Applied (tree.Named x) t) = do
    head ← called x (number_in Γ x.text)
    u ← term_of Γ t
    Ok (head u)
  term_of Γ (tree.Applied h t) = both (term_of Γ h) (term_of Γ t) Eval
  term_of Γ (tree.Subset b t) = do
    T ← type_of b.type
    φ ← term_of (b.variable.text ∷ Γ) t
    Ok (Compr T φ)
  term_of Γ (tree.Equal t u) = both (term_of Γ t) (term_of Γ u) Eq
  term_of Γ (tree.Member t u) = both (term_of Γ t) (term_of Γ u) Member
  term_of Γ (tree.Not t) = do
    φ ← term_of Γ t
    Ok (Not φ)
  term_of Γ (tree.And t u) = both (term_of Γ t) (term_of Γ u) And
  term_of Γ (tree.Or t u) = both (term_of Γ t) (term_of Γ u) Or
  term_of Γ (tree.Implies t u) = both (term_of Γ t) (term_of Γ u) Implies
  term_of Γ (tree.Bound binder b t) = do
    T ← type_of b.type
    u ← term_of (b.variable.text ∷ Γ) t
    Ok (bound binder T u)

  -- the types of a context, in which no variable stands twice; the names are those that stand before
  unfoldable pub context_of : List Name → List Binding → Checked (List Ty)
  context_of names [] = Ok []
  context_of names (b ∷ bs) = do
    twice_fault names b.variable
    T ← type_of b.type
    Ts ← context_of (b.variable.text ∷ names) bs
    Ok (T ∷ Ts)

-- the names of a context's variables, from the innermost on
abbrev pub variables : List Binding → List Name
variables bs = reverse (map (λ b. b.variable.text) bs)
