-- The lines of refusals.
use Rattle.std.specs.Prelude.{ℕ, ◌-◌, false, List, [], ◌∷◌, ◌++◌, get_or, Option, Some, None, codes, decimal}
use Rattle.std.specs.List.{slice_get}
use Rattle.topos_model.specs.declared.stmt.Stmt.{Stmt}
use Rattle.topos_model.specs.declared.stmt.Stmt.TheVariants.{Presheaf, Map}
use Rattle.topos_model.specs.declared.fault.Kind.{Kind}
use Rattle.topos_model.specs.declared.fault.Kind.TheVariants as kind
use Rattle.topos_model.specs.declared.fault.Fault.{Fault}
use Rattle.topos_model.specs.declared.fault.Fault.TheVariants.{NotText, NotBuilt, BadToken, Syntax, TooMany, NameTwice, NameUnknown, CompositeMissing, CompositeTwice, CompositeEnds, NotAssociative, NotStable, NotTransitive, RestrictionMissing, NotTotal, NotFunctorial, MapNotTotal, NotNatural, NoElement, Expected, TypeTooLarge, NotASheaf, NotAFunction, NotAPower, NotAPair, NotParallel}
use Rattle.topos_model.specs.declared.doc.Doc.{Doc}
use Rattle.topos_report.specs.Lists.{comma_separated}
use Rattle.topos_report.specs.Names.{arrow_name, element_name, object_name, place_text, functor_name, map_name}
use Rattle.topos_report.specs.Values.{ends_of, sieve_text}
use Rattle.topos_report.specs.TypeTexts.{type_text}
use Rattle.topos_report.specs.Statements.{tested_maps}

-- what a limit counts
unfoldable pub kind_text : Kind → List ℕ
kind_text kind.Document = codes "document"
kind_text kind.Name = codes "name"
kind_text kind.Term = codes "term"
kind_text kind.Statements = codes "statements"
kind_text kind.Objects = codes "objects"
kind_text kind.Arrows = codes "arrows"
kind_text kind.Elements = codes "elements"
kind_text kind.Topologies = codes "topologies"

-- a token and its text
unfoldable pub token_text : ℕ → List ℕ → List ℕ
token_text token text = codes "token " ++ decimal token ++ codes " " ++ text

-- the functor whose elements the faults of a statement speak of: the one that it declares, or the domain of its map
unfoldable pub functor_of : Option Stmt → Option ℕ
functor_of (Some (Presheaf functor raw)) = Some functor
functor_of (Some (Map m x y raw)) = Some x
functor_of _ = None

-- the maps whose ends a statement tests
unfoldable pub tested_of : Option Stmt → List ℕ
tested_of (Some stmt) = tested_maps stmt
tested_of None = []

-- where the refusal is one of a statement, its number
unfoldable pub number_prefix : Option ℕ → List ℕ
number_prefix None = []
number_prefix (Some k) = decimal k ++ codes " "

-- the name of a topology that has one, and a comma
unfoldable pub topology_prefix : Option (List ℕ) → List ℕ
topology_prefix None = []
topology_prefix (Some name) = name ++ codes ", "

abbrev pub refused : Option ℕ → List ℕ → List ℕ
refused at text = number_prefix at ++ codes "refused " ++ text ++ codes "\n"

module _ (doc : Doc) where
  -- the topology that a fault is of
  unfoldable pub topology_text : ℕ → List ℕ
  topology_text j = topology_prefix (get_or doc.tops j (record { name = None; dense = false; covers = [] })).name

  -- the functor whose elements the faults of statement number k speak of
  unfoldable pub declared_functor : Option ℕ → Option ℕ
  declared_functor None = None
  declared_functor (Some k) = functor_of (slice_get doc.stmts (k - doc.site_len - 1))

  -- the maps whose ends statement number k tests
  unfoldable pub tested_at : Option ℕ → List ℕ
  tested_at None = []
  tested_at (Some k) = tested_of (slice_get doc.stmts (k - doc.site_len - 1))

  unfoldable pub element_of : Option ℕ → ℕ → ℕ → List ℕ
  element_of None c x = []
  element_of (Some functor) c x = element_name doc functor c x

  -- the element x, at the codomain of f, of the functor that the statement's faults speak of
  unfoldable pub element_along_text : Option ℕ → ℕ → ℕ → List ℕ
  element_along_text at f x = element_of (declared_functor at) (ends_of doc f).1 x

  -- other refusals come with their statements, and have no line yet
  unfoldable pub refusal_line : Option ℕ → Fault → List ℕ
  refusal_line at (NotText n) = refused at (codes "10 not text: byte " ++ decimal n)
  refusal_line at NotBuilt = refused at (codes "11 not built")
  refusal_line at (BadToken n) = refused at (codes "12 bad token: byte " ++ decimal n)
  refusal_line at (Syntax n) = refused at (codes "13 syntax: token " ++ decimal n)
  refusal_line at (TooMany kind limit) = refused at (codes "14 too many: " ++ kind_text kind ++ codes " " ++ decimal limit)
  refusal_line at (NameTwice token text) = refused at (codes "20 name twice: " ++ token_text token text)
  refusal_line at (NameUnknown token text) = refused at (codes "21 name unknown: " ++ token_text token text)
  refusal_line at (CompositeMissing g f) = refused at (codes "30 composite missing: " ++ comma_separated (arrow_name doc) (g ∷ f ∷ []))
  refusal_line at (CompositeTwice g f) = refused at (codes "31 composite twice: " ++ comma_separated (arrow_name doc) (g ∷ f ∷ []))
  refusal_line at (CompositeEnds g f h) = refused at (codes "32 composite ends: " ++ comma_separated (arrow_name doc) (g ∷ f ∷ h ∷ []))
  refusal_line at (NotAssociative h g f) = refused at (codes "33 not associative: " ++ comma_separated (arrow_name doc) (h ∷ g ∷ f ∷ []))
  refusal_line at (NotStable under c S f) =
      refused at (codes "40 not stable: " ++ topology_text under ++ object_name doc c ++ codes ", " ++ sieve_text doc S ++ codes ", " ++ arrow_name doc f)
  refusal_line at (NotTransitive under c S R) =
      refused at (codes "41 not transitive: " ++ topology_text under ++ object_name doc c ++ codes ", " ++ sieve_text doc S ++ codes ", " ++ sieve_text doc R)
  refusal_line at (RestrictionMissing f) = refused at (codes "50 restriction missing: " ++ arrow_name doc f)
  refusal_line at (NotTotal f x) = refused at (codes "51 not total: " ++ arrow_name doc f ++ codes ", " ++ element_along_text at f x)
  refusal_line at (NotFunctorial g f x) = refused at (codes "52 not functorial: " ++ comma_separated (arrow_name doc) (g ∷ f ∷ []) ++ codes ", " ++ element_along_text at g x)
  refusal_line at (MapNotTotal c x) = refused at (codes "53 map not total: " ++ object_name doc c ++ codes ", " ++ element_of (declared_functor at) c x)
  refusal_line at (NotNatural f x) = refused at (codes "54 not natural: " ++ arrow_name doc f ++ codes ", " ++ element_along_text at f x)
  refusal_line at (NoElement c n) = refused at (codes "55 no such element: " ++ object_name doc c ++ codes ", " ++ place_text n)
  refusal_line at (Expected needed found) = refused at (codes "60 expected: " ++ type_text doc needed ++ codes ", found: " ++ type_text doc found)
  refusal_line at (TypeTooLarge n) = refused at (codes "61 type too large: " ++ decimal n)
  refusal_line at (NotASheaf functor) = refused at (codes "62 not a sheaf: " ++ functor_name doc functor)
  refusal_line at (NotAFunction found) = refused at (codes "63 not a function: " ++ type_text doc found)
  refusal_line at (NotAPower found) = refused at (codes "64 not a power: " ++ type_text doc found)
  refusal_line at (NotAPair found) = refused at (codes "65 not a pair: " ++ type_text doc found)
  refusal_line at NotParallel = refused at (codes "70 ends: " ++ comma_separated (map_name doc) (tested_at at))
  refusal_line at _ = []
