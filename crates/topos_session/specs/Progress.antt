-- A run that is under way.
use Rattle.std.specs.Prelude.{◌≡◌, ℕ, ◌≤◌, Bool, true, false, List, ◌++◌, map, length, take, drop, None}
use Rattle.finite_lists.specs.Members.{In}
use Rattle.topos_model.specs.declared.ty.Ty.{Ty}
use Rattle.topos_model.specs.declared.context.MapTy.{MapTy}
use Rattle.topos_model.specs.declared.doc.Doc.{Doc}
use Rattle.topos_model.specs.categories.Listed.{all_ends}
use Rattle.topos_model.specs.categories.CategoryFaults.{category_fault}
use Rattle.topos_model.specs.statements.Needs.{under, needs}
use Rattle.topos_model.specs.statements.Cells.{is_named, types_under}
use Rattle.topos_model.specs.statements.Declarations.{Declared, site_of}
use Rattle.formula_answers.specs.MapTables.{ends_of}
use Rattle.topos_session.specs.Ranges.{are_in_range, has_range, is_single}
use Rattle.sealed_world.specs.SealedWorlds.{CountedWorld, world_cells}
use Rattle.topos_session.specs.declared.declarations.Declarations.{Declarations}
use Rattle.topos_session.specs.Declarations.{with_counted, AreLawful}

-- the document, the budget, what is declared so far, how many statements were answered, and whether the run goes on
pub record Progress : Type 0 where
  pub doc : Doc
  pub budget : ℕ
  pub declared : Declared
  pub answered : ℕ
  pub live : Bool

-- the types that the first n statements count, where maps with these ends are declared
abbrev pub types_by : Doc → List MapTy → ℕ → List (ℕ × List Ty)
types_by doc maps n = map (λ stmt. (under stmt, needs maps stmt)) (take n doc.stmts)

-- what the first n statements declare and count
abbrev pub declared_by : Doc → Declarations → ℕ → Declared
declared_by doc so n = with_counted so (types_by doc (ends_of so.maps) n)

-- beside presheaves, exactly the types that are counted are sealed
pub record AreCounted (types : List Ty) (w : CountedWorld) : Type 0 where
  pub sealed : (T : Ty) → In types T → is_named T ≡ false → In w.types T
  pub only : (T : Ty) → In w.types T → In types T

-- what holds at each statement
pub record IsUnderWay (doc : Doc) (so : Declarations) (answered : ℕ) (live : Bool) : Type 0 where
  pub range : has_range doc ≡ true
  pub faultless : category_fault doc.cat ≡ None
  pub single : is_single doc.tops ≡ true
  pub site : so.world.site ≡ site_of doc 0
  pub lawful : AreLawful so.world.site.category so
  pub within : answered ≤ length doc.stmts
  pub few : length so.world.functors ≤ answered
  pub fits : live ≡ true → world_cells so.world ≤ so.world.budget
  pub counted : live ≡ true → AreCounted (types_under 0 (types_by doc (ends_of so.maps) answered)) so.world
  -- maps that are declared later change nothing
  pub settled : (more : List MapTy) → types_by doc (ends_of so.maps ++ more) answered ≡ types_by doc (ends_of so.maps) answered
  pub rest : are_in_range doc.cat.objects (all_ends doc.cat) (length so.world.functors) (length so.maps) (drop answered doc.stmts) ≡ true
