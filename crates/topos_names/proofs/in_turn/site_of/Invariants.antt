use Rattle.std.proofs.Common.{◌≡◌, ◌+◌, map}
use Rattle.topos_text.specs.Resolving as spec
use Rattle.topos_text.specs.SiteNames.{site_statement}
use Rattle.topos_text.specs.Views as view
use Rattle.topos_names.specs.Spaces.{space_of, limits}
use Rattle.topos_names.proofs.Turns.{turned}
use Rattle.topos_names.proofs.in_turn.site_of.Given as goal

abbrev pub invariant-loop-statement : goal.invariant-loop-statement
invariant-loop-statement l = record {
  left : spec.site_of limits l.before (map view.site_of l.statements) ≡ turned (site_statement limits) view.site_of l.before (space_of l.space) l.statements l.statement-index;
  count : l.count ≡ l.before + l.statement-index;
}
