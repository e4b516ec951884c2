-- The statements that make a functor by its universal property.
use Rattle.std.specs.Prelude.{◌≡◌, ℕ, ◌<◌, ◌≤◌, Bool, true, false, ◌&&◌, eqb, length, List, [], ◌∷◌, ⊤}
use Rattle.topos_model.specs.declared.stmt.Stmt.{Stmt}
use Rattle.topos_model.specs.declared.stmt.Stmt.TheVariants.{Product, Coproduct, Equalizer, Coequalizer, Pullback, Pushout, Image, Empty}
use Rattle.topos_model.specs.declared.fault.Fault.TheVariants as refused
use Rattle.topos_model.specs.declared.ty.Ty.{Base}
use Rattle.topos_model.specs.declared.context.MapTable.{MapTable}
use Rattle.topos_model.specs.categories.Category.{Category}
use Rattle.topos_model.specs.types.Types.{Presheaf}
use Rattle.topos_model.specs.presheaves.Maps.{Components, IsNatural}
use Rattle.topos_model.specs.presheaves.Limits.{IsProduct, IsEqualizer, IsPullback, IsImage}
use Rattle.topos_model.specs.presheaves.Colimits.{IsInitial, IsCoproduct, IsCoequalizer, IsPushout}
use Rattle.topos_model.specs.statements.Needs.{named}
use Rattle.topos_model.specs.statements.Cells.{presheaf_cells}
use Rattle.formula_answers.specs.MapTables.{table_at}
use Rattle.topos_session.specs.declared.stop.Stop.{Stop}
use Rattle.topos_session.specs.declared.stop.Stop.TheVariants as stop
use Rattle.topos_session.specs.declared.declarations.FunctorMap.{FunctorMap}
use Rattle.topos_session.specs.declared.declarations.Declarations.{Declarations}
use Rattle.topos_session.specs.declared.constructions.Construction.{Construction}
use Rattle.topos_session.specs.Functors.{functor_at}
use Rattle.topos_session.specs.Declarations.{is_between}

-- whether a statement makes a functor by its universal property
unfoldable pub is_construction : Stmt → Bool
is_construction (Product x y z p q) = true
is_construction (Coproduct x y z p q) = true
is_construction (Equalizer m n z i) = true
is_construction (Coequalizer m n z q) = true
is_construction (Pullback m n z p q) = true
is_construction (Pushout m n z i j) = true
is_construction (Image m z e j) = true
is_construction (Empty z) = true
is_construction _ = false

-- the map with these components between the functors of these numbers
abbrev pub between : ℕ → ℕ → Components → MapTable
between x y m = record { ends = record { dom = Base x; cod = Base y }; rows = m }

module _ (tables : List MapTable) where
  -- of a map between functors: its ends, and where the elements go
  abbrev pub from : ℕ → ℕ
  from m = named (table_at tables m).ends.dom

  abbrev pub to : ℕ → ℕ
  to m = named (table_at tables m).ends.cod

  abbrev pub table : ℕ → Components
  table m = (table_at tables m).rows

  abbrev pub functor_map_at : ℕ → FunctorMap
  functor_map_at m = record { dom = from m; cod = to m; map = table m }

  -- whether maps go between functors, and from the same one or to the same one
  abbrev pub between_functors : ℕ → Bool
  between_functors m = is_between (table_at tables m)

  abbrev pub same_domain : ℕ → ℕ → Bool
  same_domain m n = eqb (from m) (from n)

  abbrev pub same_codomain : ℕ → ℕ → Bool
  same_codomain m n = eqb (to m) (to n)

  -- two maps between functors with the same ends, or with one end in common
  abbrev pub parallel_maps : ℕ → ℕ → Bool
  parallel_maps m n = between_functors m && between_functors n && (same_domain m n && same_codomain m n)

  abbrev pub maps_with_domain : ℕ → ℕ → Bool
  maps_with_domain m n = between_functors m && between_functors n && same_domain m n

  abbrev pub maps_with_codomain : ℕ → ℕ → Bool
  maps_with_codomain m n = between_functors m && between_functors n && same_codomain m n

  -- whether the ends of the statement's maps fit
  abbrev pub fit : Stmt → Bool
  fit (Equalizer m n z i) = parallel_maps m n
  fit (Coequalizer m n z q) = parallel_maps m n
  fit (Pullback m n z p q) = maps_with_codomain m n
  fit (Pushout m n z i j) = maps_with_domain m n
  fit (Image m z e j) = between_functors m
  fit _ = true

-- a natural map between functors, by its numbers and components
pub record IsFunctorMap (k : Category) (functors : List Presheaf) (m : FunctorMap) : Type 0 where
  pub dom : m.dom < length functors
  pub cod : m.cod < length functors
  pub natural : IsNatural k (functor_at functors m.dom) (functor_at functors m.cod) m.map

-- maps that do not both go between functors
abbrev pub IsUnfit : Bool → Stop → Type 0
IsUnfit both (stop.Refused fault) = (fault ≡ refused.NotParallel) × (both ≡ false)
IsUnfit both stop.Budget = ⊥
IsUnfit both stop.NoMemory = ⊤

-- what a functor and its maps are to have
abbrev pub Property : Type 1
Property = Presheaf → List MapTable → Type 0

module _ (k : Category) (so : Declarations) where
  abbrev X : ℕ → Presheaf
  X n = functor_at so.world.functors n

  -- the functor number z, with its maps, is the product of x and y, and so on
  abbrev pub AsProduct : ℕ → ℕ → ℕ → Property
  AsProduct x y z Z maps = (l : Components) × (r : Components) × IsProduct k (X x) (X y) Z l r × (maps ≡ between z x l ∷ between z y r ∷ [])

  abbrev pub AsCoproduct : ℕ → ℕ → ℕ → Property
  AsCoproduct x y z Z maps = (l : Components) × (r : Components) × IsCoproduct k (X x) (X y) Z l r × (maps ≡ between x z l ∷ between y z r ∷ [])

  abbrev pub AsEqualizer : ℕ → ℕ → ℕ → Property
  AsEqualizer m n z Z maps =
      (l : Components) × IsEqualizer k (X (from so.maps m)) (X (to so.maps m)) (table so.maps m) (table so.maps n) Z l × (maps ≡ between z (from so.maps m) l ∷ [])

  abbrev pub AsCoequalizer : ℕ → ℕ → ℕ → Property
  AsCoequalizer m n z Z maps =
      (r : Components) × IsCoequalizer k (X (from so.maps m)) (X (to so.maps m)) (table so.maps m) (table so.maps n) Z r × (maps ≡ between (to so.maps m) z r ∷ [])

  abbrev pub AsPullback : ℕ → ℕ → ℕ → Property
  AsPullback m n z Z maps =
      (l : Components) × (r : Components) × IsPullback k (X (from so.maps m)) (X (from so.maps n)) (X (to so.maps m)) (table so.maps m) (table so.maps n) Z l r
      × (maps ≡ between z (from so.maps m) l ∷ between z (from so.maps n) r ∷ [])

  abbrev pub AsPushout : ℕ → ℕ → ℕ → Property
  AsPushout m n z Z maps =
      (l : Components) × (r : Components) × IsPushout k (X (from so.maps m)) (X (to so.maps m)) (X (to so.maps n)) (table so.maps m) (table so.maps n) Z l r
      × (maps ≡ between (to so.maps m) z l ∷ between (to so.maps n) z r ∷ [])

  abbrev pub AsImage : ℕ → ℕ → Property
  AsImage m z Z maps =
      (l : Components) × (r : Components) × IsImage k (X (from so.maps m)) (X (to so.maps m)) (table so.maps m) Z l r
      × (maps ≡ between (from so.maps m) z l ∷ between z (to so.maps m) r ∷ [])

  abbrev pub AsInitial : Property
  AsInitial Z maps = IsInitial k Z × (maps ≡ [])

  -- the property that a statement names
  abbrev pub property : Stmt → Property
  property (Product x y z p q) = AsProduct x y z
  property (Coproduct x y z p q) = AsCoproduct x y z
  property (Equalizer m n z i) = AsEqualizer m n z
  property (Coequalizer m n z q) = AsCoequalizer m n z
  property (Pullback m n z p q) = AsPullback m n z
  property (Pushout m n z i j) = AsPushout m n z
  property (Image m z e j) = AsImage m z
  property (Empty z) = AsInitial
  property _ = λ Z maps. ⊥

module _ (k : Category) (budget : ℕ) (fits : Bool) (P : Property) where
  -- this functor with these maps has the property, and is within the budget
  pub record IsMade (made : Construction) : Type 0 where
    pub parallel : fits ≡ true
    pub property : P made.functor made.maps
    pub within : presheaf_cells k made.functor ≤ budget

  -- what has the property has more cells than the budget
  pub record IsTooLarge : Type 0 where
    pub parallel : fits ≡ true
    pub functor : Presheaf
    pub maps : List MapTable
    pub property : P functor maps
    pub over : budget < presheaf_cells k functor

  -- nothing is made
  abbrev pub IsUnmade : Stop → Type 0
  IsUnmade (stop.Refused fault) = (fault ≡ refused.NotParallel) × (fits ≡ false)
  IsUnmade stop.Budget = IsTooLarge
  IsUnmade stop.NoMemory = ⊤
