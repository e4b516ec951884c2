-- What contracts see of the names of a category, and the limits.
use Rattle.std.specs.Prelude.{Some}
use Rattle.topos_text.specs.Names.{Limits, Space}
use Rattle.topos_text.specs.Limits.{most}
use Rattle.topos_names.specs.declared.space.Space as held

-- the limits of a text
abbrev pub limits : Limits
limits kind = Some (most kind)

abbrev pub space_of : held.Space → Space
space_of s = record { total = s.total; objects = s.objects; arrows = s.arrows; ends = s.ends; listed = s.listed }
