-- The text of each fault, behind its number.
use Rattle.std.specs.Prelude.{ℕ, Bool, true, false, List, [], ◌∷◌, ◌++◌, get_or, codes, decimal, Option, Some, None}
use Rattle.topos_model.specs.declared.fault.Fault.{Fault}
use Rattle.topos_model.specs.declared.fault.Fault.TheVariants.{NotText, NotBuilt, BadToken, Syntax, TooMany, NameTwice, NameUnknown, CompositeMissing, CompositeTwice, CompositeEnds, NotAssociative, NotStable, NotTransitive, RestrictionMissing, NotTotal, NotFunctorial, MapNotTotal, NotNatural, NoElement, NoTuple, Expected, TypeTooLarge, NotASheaf, NotAFunction, NotAPower, NotAPair, WrongTopology, NotPlain, NotPresheaves, NotParallel, BadStep, NotSent, FunctorEnds, FunctorLaw}
use Rattle.topos_model.specs.declared.doc.Doc.{Doc}
use Rattle.topos_model.specs.declared.stmt.Stmt.{Stmt}
use Rattle.topos_model.specs.categories.Listed.{all_ends}
use Rattle.topos_report.specs.Lists.{comma_separated}
use Rattle.topos_report.specs.Names.{Naming, object_in, arrow_in, place_text, name_or_number, naming, functor_name, map_name}
use Rattle.topos_report.specs.Values.{sieve_text}
use Rattle.topos_report.specs.TypeTexts.{type_text}
use Rattle.topos_report.specs.Statements.{tested_maps, statement_at, naming_of, elements_of}
use Rattle.topos_report.specs.Refusals.{refused, kind_text, token_text, topology_text}

-- what a fault of the text or the site, or of a statement, speaks of: a category, elements and maps
pub record Subject : Type 0 where
  pub names : Naming
  pub elements : Option (List (List (List ℕ)))
  pub maps : List ℕ

module _ (doc : Doc) where
  -- by the statement, where there is one
  unfoldable pub subject_of : Option Stmt → Subject
  subject_of None = record { names = naming doc; elements = Some []; maps = [] }
  subject_of (Some stmt) = record { names = naming_of doc stmt; elements = elements_of doc stmt; maps = tested_maps stmt }

  unfoldable pub subject_at : Option ℕ → Subject
  subject_at None = subject_of None
  subject_at (Some k) = subject_of (statement_at doc k)

  module _ (s : Subject) where
    -- arrows, with commas between them
    abbrev pub arrows_text : List ℕ → List ℕ
    arrows_text fs = comma_separated (arrow_in s.names) fs

    -- the element x at c
    abbrev pub element_text : ℕ → ℕ → List ℕ
    element_text c x = name_or_number s.elements c x

    -- the element x at the codomain of f
    unfoldable pub element_along_text : ℕ → ℕ → List ℕ
    element_along_text f x = element_text (get_or (all_ends s.names.cat) f (0, 0)).1 x

    -- an arrow or an object
    unfoldable pub sent_text : Bool → ℕ → List ℕ
    sent_text true u = arrow_in s.names u
    sent_text false d = object_in s.names d

    -- the number and the text
    unfoldable pub fault_text : Fault → List ℕ
    fault_text (NotText n) = codes "10 not text: byte " ++ decimal n
    fault_text NotBuilt = codes "11 not built"
    fault_text (BadToken n) = codes "12 bad token: byte " ++ decimal n
    fault_text (Syntax n) = codes "13 syntax: token " ++ decimal n
    fault_text (TooMany kind limit) = codes "14 too many: " ++ kind_text kind ++ codes " " ++ decimal limit
    fault_text (NameTwice token text) = codes "20 name twice: " ++ token_text token text
    fault_text (NameUnknown token text) = codes "21 name unknown: " ++ token_text token text
    fault_text (CompositeMissing g f) = codes "30 composite missing: " ++ arrows_text (g ∷ f ∷ [])
    fault_text (CompositeTwice g f) = codes "31 composite twice: " ++ arrows_text (g ∷ f ∷ [])
    fault_text (CompositeEnds g f h) = codes "32 composite ends: " ++ arrows_text (g ∷ f ∷ h ∷ [])
    fault_text (NotAssociative h g f) = codes "33 not associative: " ++ arrows_text (h ∷ g ∷ f ∷ [])
    fault_text (NotStable under c S f) =
        codes "40 not stable: " ++ topology_text doc under ++ object_in s.names c ++ codes ", " ++ sieve_text doc S ++ codes ", " ++ arrow_in s.names f
    fault_text (NotTransitive under c S R) =
        codes "41 not transitive: " ++ topology_text doc under ++ object_in s.names c ++ codes ", " ++ sieve_text doc S ++ codes ", " ++ sieve_text doc R
    fault_text (RestrictionMissing f) = codes "50 restriction missing: " ++ arrow_in s.names f
    fault_text (NotTotal f x) = codes "51 not total: " ++ arrow_in s.names f ++ codes ", " ++ element_along_text f x
    fault_text (NotFunctorial g f x) = codes "52 not functorial: " ++ arrows_text (g ∷ f ∷ []) ++ codes ", " ++ element_along_text g x
    fault_text (MapNotTotal c x) = codes "53 map not total: " ++ object_in s.names c ++ codes ", " ++ element_text c x
    fault_text (NotNatural f x) = codes "54 not natural: " ++ arrow_in s.names f ++ codes ", " ++ element_along_text f x
    fault_text (NoElement c n) = codes "55 no such element: " ++ object_in s.names c ++ codes ", " ++ place_text n
    fault_text (NoTuple c n) = codes "56 no such tuple: " ++ object_in s.names c ++ codes ", " ++ place_text n
    fault_text (Expected needed found) = codes "60 expected: " ++ type_text doc needed ++ codes ", found: " ++ type_text doc found
    fault_text (TypeTooLarge n) = codes "61 type too large: " ++ decimal n
    fault_text (NotASheaf functor) = codes "62 not a sheaf: " ++ functor_name doc functor
    fault_text (NotAFunction found) = codes "63 not a function: " ++ type_text doc found
    fault_text (NotAPower found) = codes "64 not a power: " ++ type_text doc found
    fault_text (NotAPair found) = codes "65 not a pair: " ++ type_text doc found
    fault_text (WrongTopology m) = codes "66 wrong topology: " ++ map_name doc m
    fault_text NotPlain = codes "67 not plain"
    fault_text NotPresheaves = codes "68 not presheaves"
    fault_text NotParallel = codes "70 ends: " ++ comma_separated (map_name doc) s.maps
    fault_text (BadStep step) = codes "80 bad step: " ++ place_text step
    fault_text (NotSent is_arrow n) = codes "81 not sent: " ++ sent_text is_arrow n
    fault_text (FunctorEnds u) = codes "82 functor ends: " ++ arrow_in s.names u
    fault_text (FunctorLaw v u) = codes "83 functor law: " ++ arrows_text (v ∷ u ∷ [])

  -- the line of a refusal, at a statement or before all of them
  unfoldable pub fault_line : Option ℕ → Fault → List ℕ
  fault_line at fault = refused at (fault_text (subject_at at) fault)
