-- Why tokens have no tree, and a tree has no document.
use Rattle.std.specs.Prelude.{◌≡◌, List, Err}
use Rattle.topos_model.specs.declared.fault.Fault.TheVariants.{Syntax}
use Rattle.topos_model.specs.declared.doc.Doc.{Doc}
use Rattle.topos_text.specs.Tokens.{Token}
use Rattle.topos_text.specs.Names.{Checked}
use Rattle.topos_text.specs.Places.{IsSyntaxPlace}
use Rattle.topos_tokens.specs.declared.fault.ReadFault.{ReadFault}
use Rattle.topos_tokens.specs.declared.fault.ReadFault.TheVariants.{NoMemory, Refused}

-- memory may run out, and tokens cease to be a document at a place
abbrev pub HasNoTree : List Token → ReadFault → Type 0
HasNoTree toks NoMemory = Unit {0}
HasNoTree toks (Refused (Syntax place)) = IsSyntaxPlace toks place
HasNoTree toks (Refused fault) = ⊥

-- memory may run out, and a tree's document is not found for a fault
abbrev pub HasNoDocument : Checked Doc → ReadFault → Type 0
HasNoDocument found NoMemory = Unit {0}
HasNoDocument found (Refused fault) = found ≡ Err fault
