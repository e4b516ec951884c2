-- The kinds of phrases, without their trees.
use Rattle.std.specs.Prelude.{ℕ, List, Option}
use Rattle.topos_text.specs.Tokens.{Written}
use Rattle.topos_text.specs.Trees.{TypeTree, TermTree, Binding, ArrowTree, SiteTree, CoverTree, CoversTree, TopologyTree, EntryTree, SectionTree, ElementTree, MappingTree, MapAtTree, SentTree, PlaceTree, StepTree, StatementTree, DocumentTree}
use Rattle.topos_text.specs.Phrases.{Part, type, term, site, statement}
use Rattle.topos_text.specs.Phrases as phrase
use Rattle.topos_text.specs.Types.{TypeSide}
use Rattle.topos_text.specs.Terms.{TermSide}
use Rattle.topos_text.specs.SiteStatements.{SiteSide}
use Rattle.topos_text.specs.Statements.{StatementSide}

-- what the trees of a phrase are
pub data Sort : Type 0 where
  OfType : Sort
  OfTerm : Sort
  OfContext : Sort
  OfBinding : Sort
  OfName : Sort
  OfArrow : Sort
  OfSite : Sort
  OfCover : Sort
  OfCovers : Sort
  OfTopology : Sort
  OfEntry : Sort
  OfSection : Sort
  OfElement : Sort
  OfMapping : Sort
  OfMapAt : Sort
  OfSent : Sort
  OfUnder : Sort
  OfPlace : Sort
  OfStep : Sort
  OfStatement : Sort
  OfDocument : Sort

abbrev pub Tree : Sort → Type 0
Tree OfType = TypeTree
Tree OfTerm = TermTree
Tree OfContext = List Binding
Tree OfBinding = Binding
Tree OfName = Written
Tree OfArrow = ArrowTree
Tree OfSite = SiteTree
Tree OfCover = CoverTree
Tree OfCovers = CoversTree
Tree OfTopology = TopologyTree
Tree OfEntry = EntryTree
Tree OfSection = SectionTree
Tree OfElement = ElementTree
Tree OfMapping = MappingTree
Tree OfMapAt = MapAtTree
Tree OfSent = SentTree
Tree OfUnder = Option Written
Tree OfPlace = PlaceTree
Tree OfStep = StepTree
Tree OfStatement = StatementTree
Tree OfDocument = DocumentTree

-- the version of a document
pub data Version : Type 0 where
  First : Version
  Second : Version

abbrev pub version_number : Version → ℕ
version_number First = 1
version_number Second = 2

-- A kind of phrases. One that goes on from a tree has that tree.
pub data Kind : Sort → Type 0 where
  AnyType : Kind OfType
  ProductType : Kind OfType
  MoreFactors : TypeTree → Kind OfType
  PrefixType : Kind OfType
  AnyTerm : Kind OfTerm
  Disjunction : Kind OfTerm
  MoreDisjuncts : TermTree → Kind OfTerm
  Conjunction : Kind OfTerm
  MoreConjuncts : TermTree → Kind OfTerm
  Negation : Kind OfTerm
  BinderTerm : Kind OfTerm
  Comparison : Kind OfTerm
  Application : Kind OfTerm
  MoreArguments : TermTree → Kind OfTerm
  Atom : Kind OfTerm
  Parentheses : Kind OfTerm
  Context : Kind OfContext
  ArrowName : Kind OfArrow
  SiteStatement : Kind OfSite
  Cover : Kind OfCover
  Covers : Kind OfCovers
  Topology : Kind OfTopology
  Section : Kind OfSection
  Element : Kind OfElement
  MapAt : Kind OfMapAt
  Sent : Kind OfSent
  Under : Version → Kind OfUnder
  Step : Kind OfStep
  Statement : Version → Kind OfStatement

-- the phrase of the kind with the tree
abbrev pub part : {s : Sort} → Kind s → Tree s → Part
part AnyType t = type (phrase.AnyType t)
part ProductType t = type (phrase.ProductType t)
part (MoreFactors r) t = type (phrase.MoreFactors r t)
part PrefixType t = type (phrase.PrefixType t)
part AnyTerm t = term (phrase.AnyTerm t)
part Disjunction t = term (phrase.Disjunction t)
part (MoreDisjuncts r) t = term (phrase.MoreDisjuncts r t)
part Conjunction t = term (phrase.Conjunction t)
part (MoreConjuncts r) t = term (phrase.MoreConjuncts r t)
part Negation t = term (phrase.Negation t)
part BinderTerm t = term (phrase.BinderTerm t)
part Comparison t = term (phrase.Comparison t)
part Application t = term (phrase.Application t)
part (MoreArguments r) t = term (phrase.MoreArguments r t)
part Atom t = term (phrase.Atom t)
part Parentheses t = term (phrase.Parentheses t)
part Context t = term (phrase.Context t)
part ArrowName t = site (phrase.ArrowName t)
part SiteStatement t = site (phrase.SiteStatement t)
part Cover t = site (phrase.Cover t)
part Covers t = site (phrase.Covers t)
part Topology t = site (phrase.Topology t)
part Section t = statement (phrase.Section t)
part Element t = statement (phrase.Element t)
part MapAt t = statement (phrase.MapAt t)
part Sent t = statement (phrase.Sent t)
part (Under v) t = statement (phrase.Under (version_number v) t)
part Step t = statement (phrase.Step t)
part (Statement v) t = statement (phrase.Statement (version_number v) t)

-- a right side of that phrase
abbrev pub Side : {s : Sort} → Kind s → Tree s → List Part → Type 0
Side AnyType t side = TypeSide (phrase.AnyType t) side
Side ProductType t side = TypeSide (phrase.ProductType t) side
Side (MoreFactors r) t side = TypeSide (phrase.MoreFactors r t) side
Side PrefixType t side = TypeSide (phrase.PrefixType t) side
Side AnyTerm t side = TermSide (phrase.AnyTerm t) side
Side Disjunction t side = TermSide (phrase.Disjunction t) side
Side (MoreDisjuncts r) t side = TermSide (phrase.MoreDisjuncts r t) side
Side Conjunction t side = TermSide (phrase.Conjunction t) side
Side (MoreConjuncts r) t side = TermSide (phrase.MoreConjuncts r t) side
Side Negation t side = TermSide (phrase.Negation t) side
Side BinderTerm t side = TermSide (phrase.BinderTerm t) side
Side Comparison t side = TermSide (phrase.Comparison t) side
Side Application t side = TermSide (phrase.Application t) side
Side (MoreArguments r) t side = TermSide (phrase.MoreArguments r t) side
Side Atom t side = TermSide (phrase.Atom t) side
Side Parentheses t side = TermSide (phrase.Parentheses t) side
Side Context t side = TermSide (phrase.Context t) side
Side ArrowName t side = SiteSide (phrase.ArrowName t) side
Side SiteStatement t side = SiteSide (phrase.SiteStatement t) side
Side Cover t side = SiteSide (phrase.Cover t) side
Side Covers t side = SiteSide (phrase.Covers t) side
Side Topology t side = SiteSide (phrase.Topology t) side
Side Section t side = StatementSide (phrase.Section t) side
Side Element t side = StatementSide (phrase.Element t) side
Side MapAt t side = StatementSide (phrase.MapAt t) side
Side Sent t side = StatementSide (phrase.Sent t) side
Side (Under v) t side = StatementSide (phrase.Under (version_number v) t) side
Side Step t side = StatementSide (phrase.Step t) side
Side (Statement v) t side = StatementSide (phrase.Statement (version_number v) t) side
