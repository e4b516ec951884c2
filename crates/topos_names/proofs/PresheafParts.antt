-- What the sections of a presheaf come to.
use Rattle.std.proofs.Common.{◌≡◌, ℕ, List, map, length, Ok}
use Rattle.std.specs.List.{range_with_len}
use Rattle.topos_text.specs.Trees.{SectionTree}
use Rattle.topos_text.specs.Names.{Name, Space}
use Rattle.topos_text.specs.StatementNames.{Sections, sections_of, stages_of, raw_functor, elements_at}
use Rattle.topos_names.specs.Spaces.{limits}
use Rattle.topos_names.specs.Parts.{presheaf_of}

pub presheaf_found : (s : Space) (parts : List SectionTree) (found : Sections) (stages : List (List Name)) (sizes : List ℕ) → sections_of limits s parts ≡ Ok found → stages ≡ map (elements_at found.at) (range_with_len 0 s.total) → sizes ≡ map length stages
    → presheaf_of s parts ≡ Ok (stages, record { sizes = sizes; along = found.along })
unfolding stages_of raw_functor
presheaf_found s parts found stages sizes e is lens = rw (e, lens, is)
