-- The law of limits.
use Rattle.std.specs.Prelude.{◌≡◌, ◌↔◌, Some, Ok}
use Rattle.topos_model.specs.declared.doc.Doc.{Doc}
use Rattle.topos_text.specs.Trees.{DocumentTree}
use Rattle.topos_text.specs.Names.{Limits}
use Rattle.topos_text.specs.Limits.{most, Fits}
use Rattle.topos_text.specs.Resolving.{resolved, Resolves}

-- the limits of a text
abbrev pub text_limits : Limits
text_limits kind = Some (most kind)

-- within the limits a tree has the document that it has without them, exactly if that document fits
abbrev pub LimitedDocumentsFit : Type 0
LimitedDocumentsFit = (tree : DocumentTree) (doc : Doc) → (resolved text_limits tree ≡ Ok doc) ↔ (Resolves tree doc × Fits doc)
