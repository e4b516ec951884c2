-- Syntax trees. Names stand in them as they were written, each with the number of its token.
use Rattle.std.specs.Prelude.{ℕ, List, Option}
use Rattle.topos_text.specs.Tokens.{Written}

-- types

pub data TypeTree : Type 0 where
  Functor : Written → TypeTree
  One : TypeTree
  Omega : TypeTree
  Power : TypeTree → TypeTree
  Product : TypeTree → TypeTree → TypeTree
  Function : TypeTree → TypeTree → TypeTree

-- a variable and its type
pub record Binding : Type 0 where
  pub variable : Written
  pub type : TypeTree

-- terms

pub data Binder : Type 0 where
  Forall : Binder
  Exists : Binder
  Unique : Binder
  Fun : Binder

pub data TermTree : Type 0 where
  Named : Written → TermTree
  Truth : TermTree
  Falsity : TermTree
  -- `()`
  Unit : TermTree
  -- a term in parentheses
  Grouped : TermTree → TermTree
  Paired : TermTree → TermTree → TermTree
  First : TermTree → TermTree
  Second : TermTree → TermTree
  Applied : TermTree → TermTree → TermTree
  Subset : Binding → TermTree → TermTree
  Equal : TermTree → TermTree → TermTree
  Member : TermTree → TermTree → TermTree
  Not : TermTree → TermTree
  And : TermTree → TermTree → TermTree
  Or : TermTree → TermTree → TermTree
  Implies : TermTree → TermTree → TermTree
  Bound : Binder → Binding → TermTree → TermTree

-- the site

-- a declared arrow, or the identity of an object
pub data ArrowTree : Type 0 where
  Declared : Written → ArrowTree
  Identity : Written → ArrowTree

pub data SiteTree : Type 0 where
  Objects : List Written → SiteTree
  -- names, domain, codomain
  Arrows : List Written → Written → Written → SiteTree
  -- g, f and g.f
  Composite : Written → Written → ArrowTree → SiteTree

-- an object, and the arrows that cover it
pub record CoverTree : Type 0 where
  pub object : Written
  pub arrows : List ArrowTree

pub data CoversTree : Type 0 where
  Dense : CoversTree
  Listed : List CoverTree → CoversTree

pub record TopologyTree : Type 0 where
  pub name : Written
  pub covers : CoversTree

-- the statements behind the site

-- x -> y
pub record EntryTree : Type 0 where
  pub from : Written
  pub to : Written

pub data SectionTree : Type 0 where
  At : Written → List Written → SectionTree
  Along : Written → List EntryTree → SectionTree

-- an element by its name, or by its number
pub data ElementTree : Type 0 where
  ByName : Written → ElementTree
  ByPlace : ℕ → Written → ElementTree

-- x -> y, in a map
pub record MappingTree : Type 0 where
  pub from : ElementTree
  pub to : ElementTree

-- a map's entries at an object
pub record MapAtTree : Type 0 where
  pub object : Written
  pub entries : List MappingTree

-- where a functor of categories sends an object or an arrow
pub data SentTree : Type 0 where
  ObjectTo : Written → Written → SentTree
  ArrowTo : Written → ArrowTree → SentTree

-- a place that names an earlier step
pub record PlaceTree : Type 0 where
  pub number : ℕ
  pub written : Written

-- a step of a derivation
pub record StepTree : Type 0 where
  pub rule : Written
  pub from : List PlaceTree
  pub context : List Binding
  pub hypotheses : List TermTree
  pub conclusion : TermTree
  pub with_term : Option TermTree

-- the constructions with two maps: the first two are of two functors, the others of two maps
pub data Construction : Type 0 where
  ProductOf : Construction
  CoproductOf : Construction
  PullbackOf : Construction
  PushoutOf : Construction

-- the constructions with one map
pub data Fork : Type 0 where
  EqualizerOf : Fork
  CoequalizerOf : Fork

pub data Question : Type 0 where
  Show : Question
  Classify : Question
  Valid : Question

pub data Extension : Type 0 where
  Lan : Extension
  Ran : Extension

pub data StatementTree : Type 0 where
  Presheaf : Written → List SectionTree → StatementTree
  -- the map, its domain, its codomain
  Map : Written → Written → Written → List MapAtTree → StatementTree
  -- of which two, and the names of the functor and of the two maps
  Construct : Construction → Written → Written → Written → Written → Written → StatementTree
  Forked : Fork → Written → Written → Written → Written → StatementTree
  Image : Written → Written → Written → Written → StatementTree
  Empty : Written → StatementTree
  -- what stands first here and below is the topology that is named behind `under`
  Sheafify : Option Written → Written → Written → Written → StatementTree
  Sheaf : Option Written → Written → StatementTree
  Hom : Written → Written → StatementTree
  Build : Option Written → Written → TypeTree → Written → Written → StatementTree
  Sub : Option Written → Written → Binding → TermTree → Written → StatementTree
  Let : Option Written → Written → Binding → TermTree → StatementTree
  Ask : Question → Option Written → List Binding → TermTree → StatementTree
  -- an object and the number of a tuple
  Why : Option Written → Written → PlaceTree → List Binding → TermTree → StatementTree
  Derive : Option Written → List StepTree → StatementTree
  Local : Written → StatementTree
  LocalAs : Written → Written → StatementTree
  Category : Written → List SiteTree → StatementTree
  -- the functor of categories, and the category that it goes from
  CategoryFunctor : Written → Written → List SentTree → StatementTree
  -- F, X and the presheaf X restricted along F
  Restricted : Written → Written → Written → StatementTree
  PresheafOn : Written → Written → List SectionTree → StatementTree
  -- F, P, the extension and its map
  Extended : Extension → Written → Written → Written → Written → StatementTree

-- documents

pub data DocumentTree : Type 0 where
  FirstVersion : List SiteTree → CoversTree → List StatementTree → DocumentTree
  SecondVersion : List SiteTree → List TopologyTree → List StatementTree → DocumentTree
