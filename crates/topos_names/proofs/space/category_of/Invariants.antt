use Rattle.std.proofs.Common.{◌≡◌, map}
use Rattle.topos_text.specs.Names.{change_by}
use Rattle.topos_text.specs.SiteNames as names
use Rattle.topos_text.specs.Views.{site_of}
use Rattle.topos_names.specs.Spaces.{space_of, limits}
use Rattle.topos_names.proofs.Changes.{left}
use Rattle.topos_names.proofs.space.category_of.Given as goal

abbrev pub invariant-loop-statement : goal.invariant-loop-statement
invariant-loop-statement l = change_by (names.site_statement limits) (names.empty_space (map site_of l.statements)) (map site_of l.statements) ≡ left (names.site_statement limits) site_of (space_of l.space) l.statements l.statement-index
