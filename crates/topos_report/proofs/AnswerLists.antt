-- The lines of answers, where no statement or no answer is left.
use Rattle.std.proofs.Common.{◌≡◌, ◌⊎◌, ℕ, ◌≤◌, List, [], ◌∷◌, length, drop, min, refl, ap, ◌∙◌, inl, inr, arith}
use Rattle.std.specs.Prelude.{ltb}
use Rattle.std.proofs.lemmas.Bool.{cases_Bool, ltb-true, ltb-false}
use Rattle.std.proofs.lemmas.List.{drop_all}
use Rattle.topos_model.specs.declared.doc.Doc.{Doc}
use Rattle.topos_model.specs.declared.stmt.Stmt.{Stmt}
use Rattle.topos_model.specs.declared.answer.Answer.{Answer}
use Rattle.topos_report.specs.Report.{lines_from}

no_statement : (doc : Doc) (k : ℕ) (answers : List Answer) → lines_from doc k [] answers ≡ []
unfolding lines_from
no_statement doc k answers = refl

no_answer : (doc : Doc) (k : ℕ) (stmts : List Stmt) → lines_from doc k stmts [] ≡ []
unfolding lines_from
no_answer doc k [] = refl
no_answer doc k (stmt ∷ rest) = refl

pub none_left : (doc : Doc) (k : ℕ) (stmts : List Stmt) (answers : List Answer) (i : ℕ) → min (length stmts) (length answers) ≤ i → lines_from doc k (drop i stmts) (drop i answers) ≡ []
none_left doc k stmts answers i past =
    elim (either (length stmts) (length answers) i past) [
      | inl few ↦ ap (λ (l : List Stmt). lines_from doc k l (drop i answers)) (drop_all i stmts few) ∙ no_statement doc k (drop i answers)
      | inr few ↦ ap (lines_from doc k (drop i stmts)) (drop_all i answers few) ∙ no_answer doc k (drop i stmts)
    ]
  where
    either : (a b i : ℕ) → min a b ≤ i → ◌⊎◌ (a ≤ i) (b ≤ i)
    either a b i past =
        elim (cases_Bool (ltb a b)) [
          | inl less ↦ let low = ltb-true a b less in inl (omega arith)
          | inr more ↦ let high = ltb-false a b more in inr (omega arith)
        ]
