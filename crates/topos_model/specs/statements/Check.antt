-- The check of a document: its run, up to the last of the presheaves and maps that follow the site.
use Rattle.std.specs.Prelude.{◌≡◌, ℕ, ◌+◌, Bool, true, false, List, [], ◌∷◌, length}
use Rattle.topos_model.specs.declared.doc.Doc.{Doc}
use Rattle.topos_model.specs.declared.stmt.Stmt.{Stmt}
use Rattle.topos_model.specs.declared.stmt.Stmt.TheVariants.{Presheaf, Map}
use Rattle.topos_model.specs.declared.answer.Answer.{Answer}
use Rattle.topos_model.specs.declared.answer.End.{End}
use Rattle.topos_model.specs.declared.answer.End.TheVariants.{Whole, Checked}
use Rattle.topos_model.specs.statements.Run.{Extent, everything, RunsWith}

-- the longest list of presheaves and maps at the front
unfoldable pub leading : List Stmt → List Stmt
leading (Presheaf functor raw ∷ rest) = Presheaf functor raw ∷ leading rest
leading (Map m x y raw ∷ rest) = Map m x y raw ∷ leading rest
leading _ = []

-- a document without the statements behind them
unfoldable pub checked_part : Doc → Doc
checked_part doc = record doc { stmts = leading doc.stmts }

-- the end of a check, n statements being checked
abbrev pub checked_end : ℕ → End → End
checked_end n (Whole cells) = Checked n cells
checked_end n end = end

-- the end of a check, by how much of the language is run
abbrev pub ChecksWith : Extent → Doc → ℕ → End → Type 0
ChecksWith extent doc budget end =
    (answers : List Answer) × (ran : End) × RunsWith extent (checked_part doc) budget answers ran × (end ≡ checked_end (doc.site_len + length (leading doc.stmts)) ran)

-- the check of a document
abbrev pub CheckOf : Doc → ℕ → End → Type 0
CheckOf doc budget end = ChecksWith everything doc budget end
