-- From tokens, tree and names to the document of a text, or its fault.
use Rattle.std.proofs.Common.{◌≡◌, ◌≤◌, ℕ, List, [], length, Option, None, refl, sym, ap, ◌∙◌, subst, arith}
use Rattle.std.specs.Prelude.{Result, Ok, Err, IfOk, IfErr, MatchResult}
use Rattle.topos_model.specs.declared.doc.Doc.{Doc}
use Rattle.topos_model.specs.declared.fault.Fault.TheVariants.{Syntax}
use Rattle.topos_text.specs.Tokens.{Token}
use Rattle.topos_text.specs.Trees.{DocumentTree}
use Rattle.topos_text.specs.Names.{Checked}
use Rattle.topos_text.specs.Limits.{Fits}
use Rattle.topos_text.specs.Documents.{IsDocument}
use Rattle.topos_text.specs.Resolving.{resolved}
use Rattle.topos_text.specs.TextFaults.{SpellsWithin, TextFault, no_document, at_name}
use Rattle.topos_tokens.specs.TokenFaults.{HasTokens, IsRefused}
use Rattle.topos_tokens.specs.declared.fault.ReadFault.{ReadFault}
use Rattle.topos_tokens.specs.declared.fault.ReadFault.TheVariants.{NoMemory, Refused}
use Rattle.topos_tokens.proofs.Blanks.{lexes_len, chars_len}
use Rattle.topos_tokens.proofs.Uniqueness.{tokens_are_unique}
use Rattle.document_limits.specs.Laws.{text_limits, LimitedDocumentsFit}
use Rattle.topos_reader.specs.Answers.{HasNoTree, HasNoDocument}

-- a text has no more tokens than bytes
pub few_tokens : (bytes : List ℕ) (toks : List Token) → HasTokens bytes toks → length toks ≤ 1048576
few_tokens bytes toks h = omega (arith, lexes_len h.lex.1, chars_len bytes h.lex.0, h.short)

-- where the tokens are no document
pub refused_for_tokens : (bytes : List ℕ) (toks : List Token) (fault : ReadFault) → HasTokens bytes toks → HasNoTree toks fault → IsRefused bytes fault
refused_for_tokens bytes toks NoMemory h k = tt
refused_for_tokens bytes toks (Refused (Syntax place)) h k = no_document h.short h.lex h.fits k
refused_for_tokens bytes toks (Refused fault) h k = absurd k

-- where a name or a limit is at fault
pub refused_for_names : (bytes : List ℕ) (toks : List Token) (tree : DocumentTree) (found : Result Doc ReadFault) → HasTokens bytes toks → IsDocument toks tree → IfErr found (HasNoDocument (resolved text_limits tree)) → IfErr found (IsRefused bytes)
refused_for_names bytes toks tree (Ok doc) h d k = k
refused_for_names bytes toks tree (Err NoMemory) h d k = tt
refused_for_names bytes toks tree (Err (Refused fault)) h d k = at_name h.short h.lex h.fits d k

-- the document that is found
pub spelled : (bytes : List ℕ) (toks : List Token) (tree : DocumentTree) (found : Result Doc ReadFault) → LimitedDocumentsFit → HasTokens bytes toks → IsDocument toks tree → IfOk found (λ doc. resolved text_limits tree ≡ Ok doc) → IfOk found (SpellsWithin bytes)
spelled bytes toks tree (Ok doc) law h d k =
    let p = (law tree doc).0 k in
    record { spells = record { tokens = toks; tree = tree; lex = h.lex; derives = d; resolves = p.0 }; len = h.short; tokens = h.fits; fits = p.1 }
spelled bytes toks tree (Err fault) law h d k = k

-- the tokens of a text that spells a document within the limits
pub tokens_of : (bytes : List ℕ) (doc : Doc) (h : SpellsWithin bytes doc) → HasTokens bytes h.spells.tokens
tokens_of bytes doc h = record { short = h.len; lex = h.spells.lex; fits = h.tokens }

-- and its tree is the tree of all tokens of the text
pub tree_of_tokens : (bytes : List ℕ) (toks : List Token) (doc : Doc) (h : SpellsWithin bytes doc) → HasTokens bytes toks → IsDocument toks h.spells.tree
tree_of_tokens bytes toks doc h k = subst (λ ts. IsDocument ts h.spells.tree) (tokens_are_unique bytes h.spells.tokens toks h.spells.lex k.lex) h.spells.derives

-- no other document is found
only_found : (tree : DocumentTree) (doc : Doc) (found : Result Doc ReadFault) → resolved text_limits tree ≡ Ok doc → IfOk found (λ other. resolved text_limits tree ≡ Ok other) → IfErr found (HasNoDocument (resolved text_limits tree)) → MatchResult found (λ other. other ≡ doc) (λ fault. fault ≡ NoMemory)
only_found tree doc (Ok other) e k n = same other doc (sym k ∙ e)
  where
    same : (a b : Doc) → ◌≡◌ {A = Checked Doc} (Ok a) (Ok b) → a ≡ b
    same a b p = cc
only_found tree doc (Err NoMemory) e k n = refl
only_found tree doc (Err (Refused fault)) e k n = absurd (other (sym e ∙ n))
  where
    other : ◌≡◌ {A = Checked Doc} (Ok doc) (Err fault) → ⊥
    other p = cc

pub only_spelled : (bytes : List ℕ) (toks : List Token) (tree : DocumentTree) (found : Result Doc ReadFault) (doc : Doc) (h : SpellsWithin bytes doc) → LimitedDocumentsFit → tree ≡ h.spells.tree
    → IfOk found (λ other. resolved text_limits tree ≡ Ok other) → IfErr found (HasNoDocument (resolved text_limits tree)) → MatchResult found (λ other. other ≡ doc) (λ fault. fault ≡ NoMemory)
only_spelled bytes toks tree found doc h law same k n = only_found tree doc found (ap (resolved text_limits) same ∙ (law h.spells.tree doc).1 (h.spells.resolves, h.fits)) k n
