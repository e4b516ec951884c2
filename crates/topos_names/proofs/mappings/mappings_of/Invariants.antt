use Rattle.std.proofs.Common.{◌≡◌, [], map, unwrap_or}
use Rattle.std.specs.Option.{option_copied}
use Rattle.topos_text.specs.Names as space
use Rattle.topos_text.specs.Names.{change_by}
use Rattle.topos_text.specs.StatementNames as spec
use Rattle.topos_text.specs.Views.{mapping_of}
use Rattle.topos_names.proofs.Changes.{left}
use Rattle.topos_names.proofs.mappings.mappings_of.Given as goal

abbrev pub invariant-loop-e : goal.invariant-loop-e
invariant-loop-e l = record {
  left : (s : space.Scope) → change_by (spec.with_mapping s l.at (unwrap_or (option_copied l.dom) []) (unwrap_or (option_copied l.cod) [])) [] (map mapping_of l.es) ≡ left (spec.with_mapping s l.at (unwrap_or (option_copied l.dom) []) (unwrap_or (option_copied l.cod) [])) mapping_of l.entries l.es l.e-index;
  seen : l.seen ≡ map (λ r. r.from) l.entries;
}
