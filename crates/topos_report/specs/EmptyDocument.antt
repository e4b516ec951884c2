-- The document with nothing in it.
use Rattle.std.specs.Prelude.{[], ◌∷◌, None, false}
use Rattle.topos_model.specs.declared.raw.RawCat.{RawCat}
use Rattle.topos_model.specs.declared.doc.TopDecl.{TopDecl}
use Rattle.topos_model.specs.declared.doc.Doc.{Doc}

abbrev pub no_category : RawCat
no_category = record { objects = 0; ends = []; listed = [] }

abbrev pub only_topology : TopDecl
only_topology = record { name = None; dense = false; covers = [] }

unfoldable pub empty_document : Doc
empty_document = record {
  version = 1;
  objects = [];
  arrows = [];
  cat = no_category;
  tops = only_topology ∷ [];
  site_len = 0;
  functors = [];
  maps = [];
  stmts = [];
  cats = [];
  cat_functors = [];
  on_functors = [];
  on_maps = [];
}
