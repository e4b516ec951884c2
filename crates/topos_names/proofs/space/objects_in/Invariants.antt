use Rattle.std.proofs.Common.{◌≡◌, ◌+◌, map, drop}
use Rattle.topos_text.specs.SiteNames.{objects_in}
use Rattle.topos_text.specs.Views.{site_of}
use Rattle.topos_names.proofs.space.objects_in.Given as goal

abbrev pub invariant-loop-statement : goal.invariant-loop-statement
invariant-loop-statement l = l.objects + objects_in (map site_of (drop l.statement-index l.statements)) ≡ objects_in (map site_of l.statements)
