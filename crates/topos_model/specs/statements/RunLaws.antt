-- Each document that a text spells has exactly one run and one check.
use Rattle.std.specs.Prelude.{◌≡◌, ℕ, List}
use Rattle.topos_model.specs.declared.doc.Doc.{Doc}
use Rattle.topos_model.specs.declared.answer.Answer.{Answer}
use Rattle.topos_model.specs.declared.answer.End.{End}
use Rattle.topos_model.specs.statements.Run.{RunOf}
use Rattle.topos_model.specs.statements.Check.{CheckOf}

module _ (IsSpelled : Doc → Type 0) where
  abbrev pub DocumentsHaveOneRun : Type 0
  DocumentsHaveOneRun =
      (doc : Doc) (budget : ℕ) → IsSpelled doc →
      (answers : List Answer) × (end : End) × RunOf doc budget answers end
      × ((others : List Answer) (other : End) → RunOf doc budget others other → (others ≡ answers) × (other ≡ end))

  abbrev pub DocumentsHaveOneCheck : Type 0
  DocumentsHaveOneCheck =
      (doc : Doc) (budget : ℕ) → IsSpelled doc →
      (end : End) × CheckOf doc budget end × ((other : End) → CheckOf doc budget other → other ≡ end)
