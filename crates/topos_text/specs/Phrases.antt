-- The phrases of the grammar, each with its tree, and what its right sides are made of. Beside each right side stands the grammar's line: there `[ ]` is optional, `{{ }}` is any number of
-- times, and quoted parts are tokens. A right side has each option taken or left out and each repetition written out.
use Rattle.std.specs.Prelude.{ℕ, List, [], ◌∷◌, ◌++◌, Option}
use Rattle.topos_text.specs.declared.word.Word.{Word}
use Rattle.topos_text.specs.declared.symbol.Symbol.{Symbol}
use Rattle.topos_text.specs.declared.symbol.Symbol.TheVariants.{Comma, Semicolon, Colon}
use Rattle.topos_text.specs.Tokens.{Token, Written, Name, Place, Reserved, Sign}
use Rattle.topos_text.specs.Trees.{TypeTree, Binding, TermTree, ArrowTree, SiteTree, CoverTree, CoversTree, TopologyTree, SectionTree, ElementTree, MapAtTree, SentTree, StepTree, StatementTree}

-- The phrases, by what they are of, each with its tree. What goes on from a tree, as `{{ "or" conjunction }}` does, has the tree so far and the whole tree.
pub data TypePhrase : Type 0 where
  AnyType : TypeTree → TypePhrase
  ProductType : TypeTree → TypePhrase
  MoreFactors : TypeTree → TypeTree → TypePhrase
  PrefixType : TypeTree → TypePhrase

pub data TermPhrase : Type 0 where
  AnyTerm : TermTree → TermPhrase
  Disjunction : TermTree → TermPhrase
  MoreDisjuncts : TermTree → TermTree → TermPhrase
  Conjunction : TermTree → TermPhrase
  MoreConjuncts : TermTree → TermTree → TermPhrase
  Negation : TermTree → TermPhrase
  BinderTerm : TermTree → TermPhrase
  Comparison : TermTree → TermPhrase
  Application : TermTree → TermPhrase
  MoreArguments : TermTree → TermTree → TermPhrase
  Atom : TermTree → TermPhrase
  Parentheses : TermTree → TermPhrase
  Context : List Binding → TermPhrase

pub data SitePhrase : Type 0 where
  SiteStatement : SiteTree → SitePhrase
  ArrowName : ArrowTree → SitePhrase
  Cover : CoverTree → SitePhrase
  Covers : CoversTree → SitePhrase
  Topology : TopologyTree → SitePhrase

-- A statement, and what may stand behind its first word, have the version of the document.
pub data StatementPhrase : Type 0 where
  Section : SectionTree → StatementPhrase
  Element : ElementTree → StatementPhrase
  MapAt : MapAtTree → StatementPhrase
  Under : ℕ → Option Written → StatementPhrase
  Step : StepTree → StatementPhrase
  Sent : SentTree → StatementPhrase
  Statement : ℕ → StatementTree → StatementPhrase

-- A part of a right side of the grammar.
pub data Part : Type 0 where
  token : Token → Part
  type : TypePhrase → Part
  term : TermPhrase → Part
  site : SitePhrase → Part
  statement : StatementPhrase → Part

abbrev pub the : Word → Part
the w = token (Reserved w)

abbrev pub sign : Symbol → Part
sign s = token (Sign s)

abbrev pub name : Written → Part
name x = token (Name x)

abbrev pub place : ℕ → Written → Part
place n x = token (Place n x)

-- X {{ "," X }}
unfoldable pub commas : {A : Type 0} → (A → List Part) → A → List A → List Part
commas X a [] = X a
commas X a (b ∷ bs) = X a ++ sign Comma ∷ commas X b bs

-- NAME {{ "," NAME }}
abbrev pub names : Written → List Written → List Part
names = commas (λ x. name x ∷ [])

-- {{ X ";" }}
unfoldable pub each : {A : Type 0} → (A → Part) → List A → List Part
each X [] = []
each X (a ∷ rest) = X a ∷ sign Semicolon ∷ each X rest

-- NAME ":" type
abbrev pub binding : Binding → List Part
binding b = name b.variable ∷ sign Colon ∷ type (AnyType b.type) ∷ []
