use Rattle.std.proofs.Common.{◌≡◌, [], map}
use Rattle.topos_text.specs.Names.{change_by}
use Rattle.topos_text.specs.StatementNames as spec
use Rattle.topos_text.specs.Views.{map_at_of}
use Rattle.topos_names.proofs.Changes.{left}
use Rattle.topos_names.proofs.mappings.entries_of.Given as goal

abbrev pub invariant-loop-part : goal.invariant-loop-part
invariant-loop-part l = change_by (spec.with_map_at l.scope l.dom l.cod) ([], []) (map map_at_of l.parts) ≡ left (spec.with_map_at l.scope l.dom l.cod) map_at_of (l.objects, l.entries) l.parts l.part-index
