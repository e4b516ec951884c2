-- Why a site and a statement are refused.
use Rattle.std.specs.Prelude.{◌≡◌, ℕ, Bool, true, false, ◌&&◌, ◌||◌, not, List, [], ◌∷◌, length, reverse, get_or, eqb, leb, map, is_none, Option, Some, None}
use Rattle.finite_lists.specs.First.{or_else, some_if}
use Rattle.topos_model.specs.declared.ty.Ty.{Ty, Omega}
use Rattle.topos_model.specs.declared.context.MapTy.{MapTy}
use Rattle.topos_model.specs.declared.derivation.Derivation.{Derivation}
use Rattle.topos_model.specs.declared.doc.Doc.{Doc}
use Rattle.topos_model.specs.declared.stmt.Stmt.{Stmt}
use Rattle.topos_model.specs.declared.stmt.Stmt.TheVariants.{Presheaf, Map, Equalizer, Coequalizer, Pullback, Pushout, Image, Why, Derive, Local, LocalAs, Category, CatFunctor, PresheafOf}
use Rattle.topos_model.specs.declared.fault.Fault.{Fault}
use Rattle.topos_model.specs.declared.fault.Fault.TheVariants.{NotParallel, NotPlain, NotPresheaves, NoTuple, WrongTopology}
use Rattle.topos_model.specs.categories.CategoryFaults.{category_fault}
use Rattle.topos_model.specs.presheaves.PresheafFaults.{presheaf_fault}
use Rattle.topos_model.specs.presheaves.MapFaults.{map_fault}
use Rattle.topos_model.specs.topologies.TopologyFaults.{first_topology_fault}
use Rattle.topos_model.specs.categories.CategoryFunctors.{functor_fault}
use Rattle.topos_model.specs.topologies.Sheaves.{sheaf_fault}
use Rattle.topos_model.specs.formulas.Plain.{is_plain}
use Rattle.topos_model.specs.derivations.Rules.{IsDerivation, IsDerivationFault}
use Rattle.topos_model.specs.types.SameType.{same_type}
use Rattle.topos_model.specs.statements.Needs.{under, types_of, first_no_sheaf}
use Rattle.topos_model.specs.statements.StatementFaults.{foreign_map_fault, typing_fault}
use Rattle.topos_model.specs.statements.Cells.{is_named}
use Rattle.topos_model.specs.formulas.Forcing.{tuples}
use Rattle.topos_model.specs.statements.Declarations.{Declared, category_of, category_listing, second_category, site_of, world_under, functor_at, cat_functor_at, map_at, ends_at, map_ends}

-- the first fault of the first topology that has one
unfoldable pub topologies_fault : Doc → Option Fault
topologies_fault doc = first_topology_fault (site_of doc) (length doc.tops)

module _ (doc : Doc) (d : Declared) where
  -- the first functor that the statement's types name and that is no sheaf for the topology in force
  unfoldable pub sheaf_refusal : Stmt → Option Fault
  sheaf_refusal stmt =
      first_no_sheaf (λ n. is_none (sheaf_fault (site_of doc (under stmt)) (functor_at d n))) (length d.functors) (types_of (map_ends d) stmt)

  -- the first map of another topology
  unfoldable pub foreign_refusal : Stmt → Option Fault
  foreign_refusal stmt = foreign_map_fault (map (λ m. m.made) d.maps) stmt

  -- a statement with a term: foreign maps, then types, then sheaves
  unfoldable pub term_refusal : Stmt → Option Fault
  term_refusal stmt = or_else (foreign_refusal stmt) (or_else (typing_fault (map_ends d) stmt) (sheaf_refusal stmt))

  -- whether maps go between functors, and from the same one or to the same one
  abbrev pub is_between : ℕ → Bool
  is_between m = is_named (ends_at d m).dom && is_named (ends_at d m).cod

  abbrev pub same_domains : ℕ → ℕ → Bool
  same_domains m n = same_type (ends_at d m).dom (ends_at d n).dom

  abbrev pub same_codomains : ℕ → ℕ → Bool
  same_codomains m n = same_type (ends_at d m).cod (ends_at d n).cod

  -- whether the ends of the statement's maps fit
  unfoldable pub ends_fit : Stmt → Bool
  ends_fit (Equalizer m n z i) = is_between m && is_between n && same_domains m n && same_codomains m n
  ends_fit (Coequalizer m n z q) = is_between m && is_between n && same_domains m n && same_codomains m n
  ends_fit (Pullback m n z p q) = is_between m && is_between n && same_codomains m n
  ends_fit (Pushout m n z i j) = is_between m && is_between n && same_domains m n
  ends_fit (Image m z e j) = is_between m
  ends_fit (Local m) = same_type (ends_at d m).dom Omega && same_type (ends_at d m).cod Omega
  ends_fit _ = true

  -- statements on local operators speak of presheaves: the topology number 0 has the maximal sieves alone
  unfoldable pub presheaves_refusal : Option Fault
  presheaves_refusal = some_if ((site_of doc 0).dense || not (eqb (length (site_of doc 0).families) 0)) NotPresheaves

  -- why a statement is refused, where it is no derivation
  unfoldable pub refusal : Stmt → Option Fault
  refusal (Presheaf functor raw) = presheaf_fault (category_of doc) raw
  refusal (Map m x y raw) = map_fault (category_of doc) (functor_at d x) (functor_at d y) raw
  refusal (Local m) =
      or_else presheaves_refusal (or_else (some_if (not (ends_fit (Local m))) NotParallel)
      (some_if (not (eqb (map_at d m).made.under 0)) (WrongTopology m)))
  refusal (LocalAs top m) = presheaves_refusal
  refusal (Category cat) = category_fault (category_listing doc cat)
  refusal (CatFunctor f cat raw) = functor_fault (second_category doc cat) (category_of doc) raw
  refusal (PresheafOf cat on raw) = presheaf_fault (second_category doc cat) raw
  refusal (Why j at n ctx φ) = or_else (term_refusal (Why j at n ctx φ)) (some_if (not (is_plain φ)) NotPlain)
  refusal stmt = or_else (some_if (not (ends_fit stmt)) NotParallel) (term_refusal stmt)

  -- the first fault of the steps of a derivation, or none
  abbrev pub IsStepsFault : Derivation → Option Fault → Type 0
  IsStepsFault derivation (Some fault) = IsDerivationFault (map_ends d) derivation fault
  IsStepsFault derivation None = IsDerivation (map_ends d) derivation

  -- a derivation is refused for maps of another topology, then for its steps, then for functors that are no sheaves
  abbrev pub IsRefusal : Stmt → Option Fault → Type 0
  IsRefusal (Derive j derivation) o =
      (steps : Option Fault) × IsStepsFault derivation steps
      × (o ≡ or_else (foreign_refusal (Derive j derivation)) (or_else steps (sheaf_refusal (Derive j derivation))))
  IsRefusal stmt o = o ≡ refusal stmt

  -- a refusal that waits until the types are counted: there are not so many tuples
  unfoldable pub late_refusal : Stmt → Option Fault
  late_refusal (Why j at n ctx φ) = some_if (leb (length (tuples (world_under doc d j) (reverse ctx.types) at)) n) (NoTuple at n)
  late_refusal _ = None
