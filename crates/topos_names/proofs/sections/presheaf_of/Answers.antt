use Rattle.std.proofs.Common.{map}
use Rattle.topos_text.specs.Views.{section_of}
use Rattle.topos_names.specs.Parts.{sections}
use Rattle.topos_names.specs.Spaces.{space_of}
use Rattle.topos_names.proofs.PresheafParts.{presheaf_found}
use Rattle.topos_names.proofs.sections.presheaf_of.Goals as goal

pub returns-clause-ok : goal.returns-clause-ok
returns-clause-ok c = presheaf_found (space_of c.args.space.now) (map section_of c.args.parts.now) (sections c.in_ok-at.field-0) c.new-stages.result c.in_ok-sizes.sizes c.in_ok-at.ensures.ok c.new-stages.ensures c.in_ok-sizes.ensures
