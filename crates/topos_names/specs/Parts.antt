-- Parts of statements.
use Rattle.std.specs.Prelude.{List, Ok}
use Rattle.topos_model.specs.declared.raw.RawFunctor.{RawFunctor}
use Rattle.topos_text.specs.Trees.{SectionTree}
use Rattle.topos_text.specs.Names.{Name, Checked, ◌>>=◌, Space}
use Rattle.topos_text.specs.StatementNames as names
use Rattle.topos_names.specs.Spaces.{limits}
use Rattle.topos_names.specs.declared.sections.Sections as held
use Rattle.topos_names.specs.declared.sent.Sent as sending
use Rattle.topos_model.specs.declared.raw.RawCatFunctor.{RawCatFunctor}

abbrev pub sections : held.Sections → names.Sections
sections s = record { at = s.at; along = s.along }

-- the names of a presheaf's elements at each object, and what is listed of it
abbrev pub presheaf_of : Space → List SectionTree → Checked (List (List Name) × RawFunctor)
presheaf_of s parts = do
  found ← names.sections_of limits s parts
  Ok (names.stages_of limits s found, names.raw_functor limits s found)

-- where a functor of categories sends objects and arrows so far
abbrev pub sent : sending.Sent → RawCatFunctor
sent x = record { at = x.at; along = x.along }
