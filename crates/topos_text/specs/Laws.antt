-- The laws of texts.
use Rattle.std.specs.Prelude.{◌≡◌, ◌⊎◌, ◌↔◌, ℕ, List}
use Rattle.topos_model.specs.declared.doc.Doc.{Doc}
use Rattle.topos_model.specs.declared.fault.Fault.{Fault}
use Rattle.topos_text.specs.Tokens.{Token}
use Rattle.topos_text.specs.Trees.{DocumentTree}
use Rattle.topos_text.specs.Lexing.{Lex}
use Rattle.topos_text.specs.Documents.{IsDocument}
use Rattle.topos_text.specs.Places.{Begins, IsSyntaxPlace, IsPrefix, IsFirstOutside}
use Rattle.topos_text.specs.TextFaults.{Spells, SpellsWithin, TextFault}

-- the text has one list of tokens
abbrev pub TokensAreUnique : Type 0
TokensAreUnique = (bytes : List ℕ) (xs ys : List Token) → Lex bytes xs → Lex bytes ys → xs ≡ ys

-- the grammar is unambiguous
abbrev pub TreesAreUnique : Type 0
TreesAreUnique = (toks : List Token) (s t : DocumentTree) → IsDocument toks s → IsDocument toks t → s ≡ t

-- There is no fault, and the text spells one document.
pub record IsRead (bytes : List ℕ) : Type 0 where
  pub no_fault : (fault : Fault) → TextFault bytes fault → ⊥
  pub doc : Doc
  pub spells : SpellsWithin bytes doc
  pub only : (other : Doc) → Spells bytes other → other ≡ doc

-- There is one fault, and the text spells no document within the limits.
pub record IsRefused (bytes : List ℕ) : Type 0 where
  pub fault : Fault
  pub is_fault : TextFault bytes fault
  pub only : (other : Fault) → TextFault bytes other → other ≡ fault
  pub no_document : (doc : Doc) → SpellsWithin bytes doc → ⊥

-- each list of bytes spells one document, or has one fault
abbrev pub EachTextIsReadOrRefused : Type 0
EachTextIsReadOrRefused = (bytes : List ℕ) → IsRead bytes ⊎ IsRefused bytes

-- tokens are a front of a document, read off the grammar, exactly if some document begins with them
abbrev pub PrefixesBegin : Type 0
PrefixesBegin = (toks : List Token) → IsPrefix toks ↔ Begins toks

-- and so both readings give one place
abbrev pub PlacesAgree : Type 0
PlacesAgree = (toks : List Token) (place : ℕ) → ((tree : DocumentTree) → IsDocument toks tree → ⊥) → IsSyntaxPlace toks place ↔ IsFirstOutside toks place
