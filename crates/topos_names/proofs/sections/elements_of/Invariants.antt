use Rattle.std.proofs.Common.{◌≡◌, [], map}
use Rattle.topos_text.specs.Names as space
use Rattle.topos_text.specs.Names.{change_by}
use Rattle.topos_text.specs.StatementNames as names
use Rattle.topos_text.specs.Tokens.{written}
use Rattle.topos_names.specs.Spaces.{limits}
use Rattle.topos_names.proofs.Changes.{left}
use Rattle.topos_names.proofs.sections.elements_of.Given as goal

abbrev pub invariant-loop-x : goal.invariant-loop-x
invariant-loop-x l = (s : space.Space) → change_by (names.with_element limits s) [] (map written l.xs) ≡ left (names.with_element limits s) written l.names l.xs l.x-index
