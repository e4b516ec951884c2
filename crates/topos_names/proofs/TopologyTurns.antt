-- One cover behind others.
use Rattle.std.proofs.Common.{◌≡◌, List, [], ◌∷◌, ◌++◌, Ok, Err}
use Rattle.topos_model.specs.declared.fault.Fault.{Fault}
use Rattle.topos_model.specs.declared.raw.Family.{Family}
use Rattle.topos_text.specs.Names.{Space}
use Rattle.topos_text.specs.Resolving.{with_cover}
use Rattle.topos_text.specs.SiteNames.{cover_of}
use Rattle.topos_text.specs.Trees.{CoverTree}
use Rattle.topos_names.specs.Spaces.{limits}

module _ (s : Space) (covers : List Family) (x : CoverTree) where
  pub cover_stops : (fault : Fault) → cover_of s x ≡ Err fault → with_cover limits s covers x ≡ Err fault
  unfolding with_cover
  cover_stops fault e = rw e

  pub cover_taken : (made : Family) → cover_of s x ≡ Ok made → with_cover limits s covers x ≡ Ok (covers ++ made ∷ [])
  unfolding with_cover
  cover_taken made e = rw e
