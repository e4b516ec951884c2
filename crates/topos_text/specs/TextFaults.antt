-- The document that a text spells, and why a text spells none.
use Rattle.std.specs.Prelude.{◌≡◌, ◌≤◌, ◌<◌, ℕ, List, [], length, Some, None, Err, IsUtf8}
use Rattle.std.specs.Str.{IsValidUpTo}
use Rattle.topos_model.specs.declared.doc.Doc.{Doc}
use Rattle.topos_model.specs.declared.fault.Fault.{Fault}
use Rattle.topos_model.specs.declared.fault.Fault.TheVariants.{NotText, BadToken, Syntax, TooMany}
use Rattle.topos_model.specs.declared.fault.Kind.TheVariants as kind
use Rattle.topos_text.specs.Tokens.{Token}
use Rattle.topos_text.specs.Lexing.{Lex, IsBadToken}
use Rattle.topos_text.specs.Trees.{DocumentTree}
use Rattle.topos_text.specs.Documents.{IsDocument}
use Rattle.topos_text.specs.Resolving.{resolved, Resolves}
use Rattle.topos_text.specs.Limits.{most, token_fault, Fits}
use Rattle.topos_text.specs.Places.{IsSyntaxPlace}

-- The bytes spell the document.
pub record Spells (bytes : List ℕ) (doc : Doc) : Type 0 where
  pub tokens : List Token
  pub tree : DocumentTree
  pub lex : Lex bytes tokens
  pub derives : IsDocument tokens tree
  pub resolves : Resolves tree doc

-- The bytes spell the document, and all are within the limits.
pub record SpellsWithin (bytes : List ℕ) (doc : Doc) : Type 0 where
  pub spells : Spells bytes doc
  pub len : length bytes ≤ most kind.Document
  pub tokens : token_fault [] spells.tokens ≡ None
  pub fits : Fits doc

abbrev pub IsShort : List ℕ → Type 0
IsShort bytes = length bytes ≤ most kind.Document

-- The first fault of a text. Its length comes first, then the bytes that are no text, then what is no token, then names and runs that are too long, then what is no document,
-- and last the other limits and the names, at the first token.
pub data TextFault : List ℕ → Fault → Type 0 where
  too_long : {bytes : List ℕ} → most kind.Document < length bytes → TextFault bytes (TooMany kind.Document (most kind.Document))
  not_text : {bytes : List ℕ} {n : ℕ} → IsShort bytes → IsValidUpTo bytes n → TextFault bytes (NotText n)
  bad_token : {bytes : List ℕ} {n : ℕ} → IsShort bytes → IsUtf8 bytes → IsBadToken bytes n → TextFault bytes (BadToken n)
  too_many_in_tokens : {bytes : List ℕ} {toks : List Token} {fault : Fault} → IsShort bytes → Lex bytes toks → token_fault [] toks ≡ Some fault → TextFault bytes fault
  no_document : {bytes : List ℕ} {toks : List Token} {place : ℕ} → IsShort bytes → Lex bytes toks → token_fault [] toks ≡ None → IsSyntaxPlace toks place → TextFault bytes (Syntax place)
  at_name : {bytes : List ℕ} {toks : List Token} {tree : DocumentTree} {fault : Fault}
      → IsShort bytes → Lex bytes toks → token_fault [] toks ≡ None → IsDocument toks tree → resolved (λ k. Some (most k)) tree ≡ Err fault → TextFault bytes fault
