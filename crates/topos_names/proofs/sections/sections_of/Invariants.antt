use Rattle.std.proofs.Common.{◌≡◌, map}
use Rattle.topos_text.specs.StatementNames as spec
use Rattle.topos_text.specs.Views.{section_of}
use Rattle.topos_names.specs.Parts.{sections}
use Rattle.topos_names.specs.Spaces.{space_of, limits}
use Rattle.topos_names.proofs.Changes.{left}
use Rattle.topos_names.proofs.sections.sections_of.Given as goal

abbrev pub invariant-loop-part : goal.invariant-loop-part
invariant-loop-part l = record {
  left : spec.sections_of limits (space_of l.space) (map section_of l.parts) ≡ left (spec.with_section limits (space_of l.space)) section_of (sections l.found) l.parts l.part-index;
  arrows : l.found.arrows ≡ map (λ a. a.arrow) l.found.along;
}
