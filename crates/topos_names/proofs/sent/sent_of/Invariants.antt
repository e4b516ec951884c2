use Rattle.std.proofs.Common.{◌≡◌, [], map}
use Rattle.topos_text.specs.Names.{change_by}
use Rattle.topos_text.specs.StatementNames as spec
use Rattle.topos_text.specs.Views as view
use Rattle.topos_names.specs.Parts.{sent}
use Rattle.topos_names.specs.Spaces.{space_of}
use Rattle.topos_names.proofs.Changes.{left}
use Rattle.topos_names.proofs.sent.sent_of.Given as goal

abbrev pub invariant-loop-part : goal.invariant-loop-part
invariant-loop-part l = record {
  left : change_by (spec.with_sent l.scope (space_of l.space)) (record { at = []; along = [] }) (map view.sent_of l.parts) ≡ left (spec.with_sent l.scope (space_of l.space)) view.sent_of (sent l.so_far) l.parts l.part-index;
  objects : l.so_far.objects ≡ map (λ p. p.0) l.so_far.at;
  arrows : l.so_far.arrows ≡ map (λ p. p.0) l.so_far.along;
}
