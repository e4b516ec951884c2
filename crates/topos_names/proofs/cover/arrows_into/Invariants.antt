use Rattle.std.proofs.Common.{◌≡◌, map}
use Rattle.topos_text.specs.Names.{for_each}
use Rattle.topos_text.specs.SiteNames as spec
use Rattle.topos_text.specs.Views as view
use Rattle.topos_names.specs.Spaces.{space_of}
use Rattle.topos_names.proofs.Gathering.{gathered}
use Rattle.topos_names.proofs.cover.arrows_into.Given as goal

abbrev pub invariant-loop-f : goal.invariant-loop-f
invariant-loop-f l = for_each (spec.arrow_into (space_of l.space) l.object) (map view.arrow_of l.fs) ≡ gathered (spec.arrow_into (space_of l.space) l.object) view.arrow_of l.arrows l.fs l.f-index
