use Rattle.std.proofs.Common.{ℕ, List, subst}
use Rattle.natural_search.specs.Rows.{AreFirst}
use Rattle.natural_search.proofs.RowsSoFar.{no_places}
use Rattle.natural_search.proofs.search.first_rows.Goals as goal

pub returns-then-bounds-eq0 : goal.returns-then-bounds-eq0
returns-then-bounds-eq0 c =
    subst (λ (all : List (List ℕ)). AreFirst c.args.room all c.first_empty_rows.result) (no_places c.args.along.now c.args.squares.now c.args.bounds.now c.if-bounds-eq0.true c.requires.squares) c.first_empty_rows.ensures
