-- Statements in turn, each with the number of those before it.
use Rattle.std.proofs.Common.{◌≡◌, ℕ, Bool, true, false, leb, ◌+◌, ◌<◌, ◌≤◌, List, [], ◌∷◌, ◌++◌, map, length, get_or, drop, Some, None, Ok, Err, refl, sym, ap, ◌∙◌, add-zero, add_assoc}
use Rattle.std.proofs.lemmas.List.{at_drop_more, at_drop_all}
use Rattle.topos_model.specs.declared.fault.Fault.{Fault}
use Rattle.topos_model.specs.declared.fault.Fault.TheVariants.{TooMany}
use Rattle.finite_lists.specs.First.{some_if}
use Rattle.std.proofs.lemmas.Bool.{leb-false}
use Rattle.topos_model.specs.declared.fault.Kind.TheVariants as kind
use Rattle.topos_text.specs.Names.{Scope, Checked, change_by, limit_fault}
use Rattle.topos_text.specs.Resolving.{in_turn, numbered, with_statement}
use Rattle.topos_text.specs.Trees.{StatementTree}
use Rattle.topos_text.specs.StatementNames.{statement_of}
use Rattle.topos_model.specs.declared.stmt.Stmt.{Stmt}
use Rattle.topos_names.specs.Spaces.{limits}

module _ {S A B : Type 0} (change : S → A → Checked S) (view : B → A) (n : ℕ) where
  -- what is left at the place i
  abbrev pub turned : S → List B → ℕ → Checked S
  turned s xs i = in_turn limits change (n + i) s (map view (drop i xs))

  pub turned-begins : (s : S) (xs : List B) → in_turn limits change n s (map view xs) ≡ turned s xs 0
  turned-begins s xs = ap (λ m. in_turn limits change m s (map view xs)) (sym (add-zero n))

  pub turned-ends : (s : S) (xs : List B) (i : ℕ) → length xs ≤ i → turned s xs i ≡ Ok s
  unfolding in_turn numbered change_by
  turned-ends s xs i high = at_drop_all (λ ys. in_turn limits change (n + i) s (map view ys)) xs i high

  module _ (s : S) (xs : List B) (i : ℕ) (x : B) (low : i < length xs) (is : x ≡ get_or xs i x) where
    here : turned s xs i ≡ in_turn limits change (n + i) s (view x ∷ map view (drop (i + 1) xs))
    here = at_drop_more (λ ys. in_turn limits change (n + i) s (map view ys)) xs i x low ∙ ap (λ y. in_turn limits change (n + i) s (view y ∷ map view (drop (i + 1) xs))) (sym is)

    pub turned-over : (fault : Fault) → limit_fault kind.Statements (limits kind.Statements) (n + i) ≡ Some fault → turned s xs i ≡ Err fault
    unfolding in_turn numbered change_by
    turned-over fault over = here ∙ rw over

    pub turned-stops : (fault : Fault) → limit_fault kind.Statements (limits kind.Statements) (n + i) ≡ None → change s (view x) ≡ Err fault → turned s xs i ≡ Err fault
    unfolding in_turn numbered change_by
    turned-stops fault within step = here ∙ rw (within, step)

    pub turned-goes_on : (t : S) → limit_fault kind.Statements (limits kind.Statements) (n + i) ≡ None → change s (view x) ≡ Ok t → turned s xs i ≡ turned t xs (i + 1)
    unfolding in_turn numbered change_by
    turned-goes_on t within step = here ∙ rw (within, step) (ap (λ m. in_turn limits change m t (map view (drop (i + 1) xs))) (add_assoc n i 1))

-- one statement behind others
module _ (s : Scope) (stmts : List Stmt) (x : StatementTree) where
  pub statement_stops : (fault : Fault) → statement_of limits s x ≡ Err fault → with_statement limits (s, stmts) x ≡ Err fault
  unfolding with_statement
  statement_stops fault e = rw e

  pub statement_taken : (t : Scope) (made : Stmt) → statement_of limits s x ≡ Ok (t, made) → with_statement limits (s, stmts) x ≡ Ok (t, stmts ++ made ∷ [])
  unfolding with_statement
  statement_taken t made e = rw e

-- there are not yet too many statements
pub few_statements : (n : ℕ) → limit_fault kind.Statements (limits kind.Statements) n ≡ None → n < 10000
unfolding limit_fault
few_statements n within = by (leb 10000 n) refl within
  where
    by : (b : Bool) → leb 10000 n ≡ b → some_if b (TooMany kind.Statements 10000) ≡ None → n < 10000
    by true e h = cc
    by false e h = leb-false 10000 n e
