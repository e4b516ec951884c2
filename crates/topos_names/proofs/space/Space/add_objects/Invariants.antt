use Rattle.std.proofs.Common.{◌≡◌, map}
use Rattle.topos_text.specs.Names.{change_by}
use Rattle.topos_text.specs.SiteNames as names
use Rattle.topos_text.specs.Tokens.{written}
use Rattle.topos_names.specs.Spaces.{space_of, limits}
use Rattle.topos_names.proofs.Changes.{left}
use Rattle.topos_names.proofs.space.Space.add_objects.Given as goal

abbrev pub invariant-loop-x : goal.invariant-loop-x
invariant-loop-x l = change_by (names.with_object limits) (space_of l.initial.self) (map written l.xs) ≡ left (names.with_object limits) written (space_of l.self) l.xs l.x-index
