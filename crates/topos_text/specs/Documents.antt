-- The grammar of documents, and what it is for tokens to derive from it.
use Rattle.std.specs.Prelude.{List, [], ◌∷◌, ◌++◌}
use Rattle.topos_text.specs.declared.word.Word.TheVariants as word
use Rattle.topos_text.specs.declared.symbol.Symbol.TheVariants as symbol
use Rattle.topos_text.specs.Tokens.{Token, Written}
use Rattle.topos_text.specs.Trees.{SiteTree, CoversTree, TopologyTree, StatementTree, DocumentTree, FirstVersion, SecondVersion}
use Rattle.topos_text.specs.Phrases.{Part, TypePhrase, TermPhrase, SitePhrase, StatementPhrase, token, type, term, site, statement, SiteStatement, Covers, Topology, Statement, the, sign, place, each}
use Rattle.topos_text.specs.Types.{TypeSide}
use Rattle.topos_text.specs.Terms.{TermSide}
use Rattle.topos_text.specs.SiteStatements.{SiteSide}
use Rattle.topos_text.specs.Statements.{StatementSide}

-- A right side of a document.
pub data DocumentSide : DocumentTree → List Part → Type 0 where
  -- document = {{ (objects | arrows | composite) ";" }} covers {{ statement ";" }}
  first_version : {statements : List SiteTree} {covers : CoversTree} {rest : List StatementTree}
      → DocumentSide (FirstVersion statements covers rest) (each (λ x. site (SiteStatement x)) statements ++ site (Covers covers) ∷ each (λ x. statement (Statement 1 x)) rest)
  -- | "version" PLACE ";" {{ (objects | arrows | composite) ";" }} {{ topology ";" }} {{ statement ";" }}, the place standing for 2
  second_version : {version : Written} {statements : List SiteTree} {tops : List TopologyTree} {rest : List StatementTree}
      → DocumentSide (SecondVersion statements tops rest)
      (the word.Version ∷ place 2 version ∷ sign symbol.Semicolon ∷ each (λ x. site (SiteStatement x)) statements ++ (each (λ x. site (Topology x)) tops ++ each (λ x. statement (Statement 2 x)) rest))

-- The tokens are the parts, one behind the other: a token is itself, and a phrase is one of its right sides.
pub data Derives : List Part → List Token → Type 0 where
  nothing : Derives [] []
  this : {t : Token} {parts : List Part} {toks : List Token} → Derives parts toks → Derives (token t ∷ parts) (t ∷ toks)
  by_type : {N : TypePhrase} {side parts : List Part} {xs ys : List Token} → TypeSide N side → Derives side xs → Derives parts ys → Derives (type N ∷ parts) (xs ++ ys)
  by_term : {N : TermPhrase} {side parts : List Part} {xs ys : List Token} → TermSide N side → Derives side xs → Derives parts ys → Derives (term N ∷ parts) (xs ++ ys)
  by_site : {N : SitePhrase} {side parts : List Part} {xs ys : List Token} → SiteSide N side → Derives side xs → Derives parts ys → Derives (site N ∷ parts) (xs ++ ys)
  by_statement : {N : StatementPhrase} {side parts : List Part} {xs ys : List Token} → StatementSide N side → Derives side xs → Derives parts ys → Derives (statement N ∷ parts) (xs ++ ys)

-- the tokens are a document
pub record IsDocument (toks : List Token) (tree : DocumentTree) : Type 0 where
  pub side : List Part
  pub right_side : DocumentSide tree side
  pub derives : Derives side toks
