-- Why tokens are no document.
use Rattle.std.specs.Prelude.{List}
use Rattle.topos_text.specs.Tokens.{Token}
use Rattle.topos_text.specs.Places.{IsSyntaxPlace}
use Rattle.topos_statements.specs.declared.documents.NoDocument.{NoDocument}
use Rattle.topos_statements.specs.declared.documents.NoDocument.TheVariants.{NoMemory, At}

abbrev pub IsNoDocument : List Token → NoDocument → Type 0
IsNoDocument toks NoMemory = Unit {0}
IsNoDocument toks (At place) = IsSyntaxPlace toks place
