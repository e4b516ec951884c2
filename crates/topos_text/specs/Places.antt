-- Where tokens that are no document cease to be one.
use Rattle.std.specs.Prelude.{◌≡◌, ◌≤◌, ◌<◌, ◌+◌, ℕ, List, [], ◌∷◌, ◌++◌, length, take}
use Rattle.topos_text.specs.Tokens.{Token}
use Rattle.topos_text.specs.Trees.{DocumentTree}
use Rattle.topos_text.specs.Phrases.{Part, TypePhrase, TermPhrase, SitePhrase, StatementPhrase, token, type, term, site, statement}
use Rattle.topos_text.specs.Types.{TypeSide}
use Rattle.topos_text.specs.Terms.{TermSide}
use Rattle.topos_text.specs.SiteStatements.{SiteSide}
use Rattle.topos_text.specs.Statements.{StatementSide}
use Rattle.topos_text.specs.Documents.{DocumentSide, Derives, IsDocument}

-- Some document begins with the tokens.
pub record Begins (front : List Token) : Type 0 where
  pub more : List Token
  pub tree : DocumentTree
  pub is_document : IsDocument (front ++ more) tree

-- The tokens are no document, and the place, from 1, is that of the first token such that no document begins with the tokens up to it. Where some document begins with all of
-- them it is the number of tokens plus 1.
pub record IsSyntaxPlace (toks : List Token) (place : ℕ) : Type 0 where
  pub front : List Token
  pub rest : List Token
  pub parts : toks ≡ front ++ rest
  pub number : place ≡ length front + 1
  pub begins : Begins front
  pub first : (t : Token) (behind : List Token) → rest ≡ t ∷ behind → Begins (front ++ t ∷ []) → ⊥
  pub none : (tree : DocumentTree) → IsDocument toks tree → ⊥

-- The tokens are a front of the parts, read off the grammar: the empty list is one, and else some parts stand whole before a part of which the others are a front.
pub data Prefix : List Part → List Token → Type 0 where
  empty : {parts : List Part} → Prefix parts []
  behind_token : {t : Token} {parts : List Part} {toks : List Token} → Prefix parts toks → Prefix (token t ∷ parts) (t ∷ toks)
  in_type : {N : TypePhrase} {side parts : List Part} {toks : List Token} → TypeSide N side → Prefix side toks → Prefix (type N ∷ parts) toks
  in_term : {N : TermPhrase} {side parts : List Part} {toks : List Token} → TermSide N side → Prefix side toks → Prefix (term N ∷ parts) toks
  in_site : {N : SitePhrase} {side parts : List Part} {toks : List Token} → SiteSide N side → Prefix side toks → Prefix (site N ∷ parts) toks
  in_statement : {N : StatementPhrase} {side parts : List Part} {toks : List Token} → StatementSide N side → Prefix side toks → Prefix (statement N ∷ parts) toks
  behind_phrase : {N : Part} {parts : List Part} {xs ys : List Token} → Derives (N ∷ []) xs → Prefix parts ys → Prefix (N ∷ parts) (xs ++ ys)

-- a front of a document, read off the grammar
pub record IsPrefix (toks : List Token) : Type 0 where
  pub tree : DocumentTree
  pub side : List Part
  pub right_side : DocumentSide tree side
  pub prefix : Prefix side toks

-- The place is the least number k such that the first k tokens are no front of a document, or the number of tokens plus 1.
pub record IsFirstOutside (toks : List Token) (place : ℕ) : Type 0 where
  pub range : place ≤ length toks + 1
  pub inside : (k : ℕ) → k < place → IsPrefix (take k toks)
  pub outside : place ≤ length toks → IsPrefix (take place toks) → ⊥
