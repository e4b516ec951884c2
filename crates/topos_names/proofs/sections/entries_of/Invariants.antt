use Rattle.std.proofs.Common.{◌≡◌, [], map, unwrap_or}
use Rattle.std.specs.Option.{option_copied}
use Rattle.topos_text.specs.Names as space
use Rattle.topos_text.specs.Names.{change_by}
use Rattle.topos_text.specs.StatementNames as names
use Rattle.topos_text.specs.Views.{entry_of}
use Rattle.topos_names.specs.Spaces.{limits}
use Rattle.topos_names.proofs.Changes.{left}
use Rattle.topos_names.proofs.sections.entries_of.Given as goal

abbrev pub invariant-loop-e : goal.invariant-loop-e
invariant-loop-e l = record {
  left : (s : space.Space) → change_by (names.with_entry limits s (unwrap_or (option_copied l.cod) []) (unwrap_or (option_copied l.dom) [])) [] (map entry_of l.es) ≡ left (names.with_entry limits s (unwrap_or (option_copied l.cod) []) (unwrap_or (option_copied l.dom) [])) entry_of l.entries l.es l.e-index;
  seen : l.seen ≡ map (λ p. p.0) l.entries;
}
