use Rattle.std.proofs.Common.{ℕ, List, length, subst}
use Rattle.natural_search.specs.Rows.{AreFirst}
use Rattle.natural_search.specs.Search.{fitting}
use Rattle.natural_search.specs.FreePlaces.{free_choices}
use Rattle.natural_search.proofs.RowsSoFar.{no_places}
use Rattle.natural_search.proofs.FreeCounts.{many_fitting, all_within}
use Rattle.natural_search.proofs.search.all_rows.Goals as goal

pub returns-then-bounds-eq0 : goal.returns-then-bounds-eq0
returns-then-bounds-eq0 c =
    c.if_whole.ensures c.args.room (fitting c.args.along.now c.args.squares.now c.args.bounds.now)
    (subst (λ (all : List (List ℕ)). AreFirst c.args.room all c.first_empty_rows.result) (no_places c.args.along.now c.args.squares.now c.args.bounds.now c.if-bounds-eq0.true c.requires.squares) c.first_empty_rows.ensures)

pub returns : goal.returns
returns c =
    let all = fitting c.args.along.now c.args.squares.now c.args.bounds.now in
    all_within c.args.room (free_choices c.args.squares.now c.args.bounds.now 0 (length c.args.bounds.now)) c.search_room-narrowed.result all c.if_whole-2.result c.search_room-narrowed.ensures
    (many_fitting c.args.along.now c.args.squares.now c.args.bounds.now c.requires.squares c.requires.bounded)
    (c.if_whole-2.ensures c.search_room-narrowed.result all c.in_ok-first.ensures)
