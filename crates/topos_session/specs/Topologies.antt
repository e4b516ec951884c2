-- The topology that a document declares.
use Rattle.std.specs.Prelude.{◌≡◌, true, []}
use Rattle.topos_model.specs.declared.doc.TopDecl.{TopDecl}
use Rattle.topos_model.specs.categories.Category.{Category}
use Rattle.topos_model.specs.topologies.Cover.{Site}
use Rattle.topos_model.specs.topologies.TopologyFaults.{IsListed}

abbrev pub declared_site : Category → TopDecl → Site
declared_site k top = record { category = k; dense = top.dense; families = top.covers }

-- the families are of arrows into their objects, and beside the dense topology none is listed
pub record IsTopologyListing (k : Category) (top : TopDecl) : Type 0 where
  pub dense : top.dense ≡ true → top.covers ≡ []
  pub listed : IsListed (declared_site k top)
