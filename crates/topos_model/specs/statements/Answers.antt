-- What each statement answers, and what is declared behind it.
use Rattle.std.specs.Prelude.{◌≡◌, ℕ, ◌+◌, List, [], ◌∷◌, ◌++◌, map, filter, not, reverse, length, get_or, drop, cond, suc, sum, Option, Some, None, Ok, Err}
use Rattle.std.specs.List.{range_with_len}
use Rattle.topos_model.specs.declared.ty.Ty.{Ty, Base, One, Omega}
use Rattle.topos_model.specs.declared.term.Term.{Term}
use Rattle.topos_model.specs.declared.value.Val.{Val, El, Star}
use Rattle.topos_model.specs.declared.doc.Doc.{Doc}
use Rattle.topos_model.specs.declared.stmt.Stmt.{Stmt}
use Rattle.topos_model.specs.declared.stmt.Stmt.TheVariants as statement
use Rattle.topos_model.specs.declared.answer.Answer.{Answer}
use Rattle.topos_model.specs.declared.answer.Answer.TheVariants.{Quiet, Built, Shown, Classified, Verdict, Sheaf, NotSheaf, Maps, Why, Derived, Local, Kan}
use Rattle.topos_model.specs.declared.answer.Shape.{Shape}
use Rattle.topos_model.specs.declared.answer.MapShape.{MapShape}
use Rattle.topos_model.specs.declared.answer.Tuple.{Tuple}
use Rattle.topos_model.specs.categories.Category.{Category, dom, cod, arrows}
use Rattle.topos_model.specs.types.Types.{Presheaf, restr}
use Rattle.topos_model.specs.types.Values.{same, arrows_of}
use Rattle.topos_model.specs.presheaves.Maps.{Components}
use Rattle.topos_model.specs.presheaves.NaturalMaps.{maps}
use Rattle.topos_model.specs.presheaves.MapFaults.{listed_map}
use Rattle.topos_model.specs.categories.Filling.{filled_presheaf}
use Rattle.topos_model.specs.presheaves.Limits.{IsProduct, IsEqualizer, IsPullback, IsImage}
use Rattle.topos_model.specs.presheaves.Colimits.{IsInitial, IsCoproduct, IsCoequalizer, IsPushout}
use Rattle.topos_model.specs.topologies.LeastCovers.{least}
use Rattle.topos_model.specs.topologies.Sheaves.{SheafFault, sheaf_fault}
use Rattle.topos_model.specs.topologies.PlusConstruction.{IsAssociated}
use Rattle.topos_model.specs.categories.CategoryFunctors.{CatFunctor, listed_functor, restricted}
use Rattle.topos_model.specs.presheaves.KanExtensions.{IsLan, IsRan}
use Rattle.topos_model.specs.topologies.LocalOperators.{Operator, local_fault, top_of, op_of}
use Rattle.topos_model.specs.certificates.FirstCertificate.{count_nodes, first_cert}
use Rattle.topos_model.specs.formulas.Typing.{Typing, typed}
use Rattle.topos_model.specs.statements.Cells.{objects_of, hom_cells}
use Rattle.topos_model.specs.formulas.Forcing.{World, Assigned, values, value, forces, tuples, shown}
use Rattle.topos_model.specs.statements.Declarations.{Declared, DeclaredMap, category_of, second_category, site_of, world_under, functor_at, on_functor_at, cat_functor_at, map_at, domain_at, codomain_at, components_at, map_ends, with_functor, with_maps, with_others, with_on_functor}

-- the tuple of the values of an assignment, the outermost variable first
abbrev pub tuple_of : Assigned → Tuple
tuple_of a = record { vals = map (λ x. x.1) (reverse a) }

-- a presheaf as it is shown: its sizes, and the restrictions along the declared arrows
unfoldable pub shape_of : Category → Presheaf → Shape
shape_of k X = record { sizes = X.sizes; along = drop k.objects X.along }

-- a map as it is shown
abbrev pub map_shape : DeclaredMap → MapShape
map_shape m = record { ends = m.made.ends; stages = m.pairs }

-- elements, with where they go
unfoldable pub element_pairs : List ℕ → List (Val × Val)
element_pairs component = map (λ x. (El x, El (get_or component x 0))) (range_with_len 0 (length component))

-- a map from S to T that is made under the topology number j
abbrev pub map_under : ℕ → Ty → Ty → List (List (Val × Val)) → DeclaredMap
map_under j S T pairs = record { made = record { ends = record { dom = S; cod = T }; under = j }; pairs = pairs }

-- a map from the functor number x to the functor number y
unfoldable pub functor_map : ℕ → ℕ → Components → DeclaredMap
functor_map x y m = map_under 0 (Base x) (Base y) (map element_pairs m)

-- the place of a value in a list
abbrev pub place_in : Val → List Val → ℕ
place_in v [] = 0
place_in v (u ∷ rest) = cond (same u v) 0 (suc (place_in v rest))

-- the presheaf whose element number n at c is the n-th of these values
unfoldable pub numbered : Category → (ℕ → List Val) → (ℕ → Val → Val) → Presheaf
numbered k values restrict = record {
  sizes = map (λ c. length (values c)) (objects_of k);
  along = map (λ f. map (λ v. place_in (restrict f v) (values (dom k f))) (values (cod k f))) (arrows k);
}

-- numbers with their values, and values with their numbers
unfoldable pub numbers_with : List Val → List (Val × Val)
numbers_with values = map (λ n. (El n, get_or values n Star)) (range_with_len 0 (length values))

unfoldable pub with_numbers : List Val → List (Val × Val)
with_numbers values = map (λ n. (get_or values n Star, El n)) (range_with_len 0 (length values))

-- the type of a term that has one
abbrev pub type_found : Typing → Ty
type_found (Ok T) = T
type_found (Err fault) = One

-- the elements of a type that satisfy a formula
unfoldable pub satisfying : World → Ty → Term → ℕ → List Val
satisfying w T φ c = filter (λ v. forces w φ c ((T, v) ∷ [])) (values w T c)

-- elements with the values of a term
unfoldable pub values_of : World → Ty → Term → ℕ → List (Val × Val)
values_of w T t c = map (λ v. (v, value w t c ((T, v) ∷ []))) (values w T c)

-- the tuples for which the formula is not forced
unfoldable pub unforced : World → List Ty → Term → ℕ → List Assigned
unforced w context φ c = filter (λ a. not (forces w φ c a)) (tuples w context c)

-- each tuple with the arrows along which the formula is forced
unfoldable pub classified : World → List Ty → Term → ℕ → List (Tuple × List ℕ)
classified w context φ c = map (λ a. (tuple_of a, arrows_of (value w φ c a))) (tuples w context c)

-- what a test of sheaves and a test of local operators answer
abbrev pub sheaf_answer : ℕ → Option SheafFault → Answer
sheaf_answer x None = Sheaf
sheaf_answer x (Some fault) = NotSheaf x fault.at fault.cover fault.family fault.found

unfoldable pub local_answer : Category → Operator → Answer
local_answer k m = elim (local_fault k m) [ Some fault ↦ fault | None ↦ Local (map (least (top_of k m)) (objects_of k)) ]

-- a functor on the document's category is shown with its maps, and declared with them
abbrev pub Makes : Doc → Declared → Presheaf → List DeclaredMap → Answer → Declared → Type 0
Makes doc d Z maps answer next = (answer ≡ Built (shape_of (category_of doc) Z) (map map_shape maps)) × (next ≡ with_maps (with_functor d Z) maps)

-- the answer is this, and nothing is declared
abbrev pub Says : Declared → Answer → Answer → Declared → Type 0
Says d said answer next = (answer ≡ said) × (next ≡ d)

-- nothing is shown, and this is declared
abbrev pub Declares : Declared → Answer → Declared → Type 0
Declares declared answer next = (answer ≡ Quiet) × (next ≡ declared)

module _ (doc : Doc) (d : Declared) where
  -- the document's category, and its functors so far
  abbrev k : Category
  k = category_of doc

  abbrev X : ℕ → Presheaf
  X n = functor_at d n

  -- of a map between functors: its ends, and where the elements go
  abbrev from : ℕ → ℕ
  from m = domain_at d m

  abbrev to : ℕ → ℕ
  to m = codomain_at d m

  abbrev table : ℕ → Components
  table m = components_at d m

  -- a functor from a second category, and its category
  abbrev F : ℕ → CatFunctor
  F f = (cat_functor_at d f).functor

  abbrev D : ℕ → Category
  D f = second_category doc (cat_functor_at d f).cat

  -- the answer to a statement, and what is declared behind it
  abbrev pub Answers : Stmt → Answer → Declared → Type 0
  Answers (statement.Presheaf functor raw) answer next = Declares (with_functor d (filled_presheaf k raw)) answer next
  Answers (statement.Map m x y raw) answer next = Declares (with_maps d (functor_map x y (listed_map k (X x) raw) ∷ [])) answer next
  Answers (statement.Product x y z p q) answer next =
      (Z : Presheaf) × (l : Components) × (r : Components) × IsProduct k (X x) (X y) Z l r
      × Makes doc d Z (functor_map z x l ∷ functor_map z y r ∷ []) answer next
  Answers (statement.Coproduct x y z p q) answer next =
      (Z : Presheaf) × (l : Components) × (r : Components) × IsCoproduct k (X x) (X y) Z l r
      × Makes doc d Z (functor_map x z l ∷ functor_map y z r ∷ []) answer next
  Answers (statement.Equalizer m n z i) answer next =
      (Z : Presheaf) × (l : Components) × IsEqualizer k (X (from m)) (X (to m)) (table m) (table n) Z l
      × Makes doc d Z (functor_map z (from m) l ∷ []) answer next
  Answers (statement.Coequalizer m n z q) answer next =
      (Z : Presheaf) × (r : Components) × IsCoequalizer k (X (from m)) (X (to m)) (table m) (table n) Z r
      × Makes doc d Z (functor_map (to m) z r ∷ []) answer next
  Answers (statement.Pullback m n z p q) answer next =
      (Z : Presheaf) × (l : Components) × (r : Components)
      × IsPullback k (X (from m)) (X (from n)) (X (to m)) (table m) (table n) Z l r
      × Makes doc d Z (functor_map z (from m) l ∷ functor_map z (from n) r ∷ []) answer next
  Answers (statement.Pushout m n z i j) answer next =
      (Z : Presheaf) × (l : Components) × (r : Components)
      × IsPushout k (X (from m)) (X (to m)) (X (to n)) (table m) (table n) Z l r
      × Makes doc d Z (functor_map (to m) z l ∷ functor_map (to n) z r ∷ []) answer next
  Answers (statement.Image m z e j) answer next =
      (Z : Presheaf) × (l : Components) × (r : Components) × IsImage k (X (from m)) (X (to m)) (table m) Z l r
      × Makes doc d Z (functor_map (from m) z l ∷ functor_map z (to m) r ∷ []) answer next
  Answers (statement.Empty z) answer next = (Z : Presheaf) × IsInitial k Z × Makes doc d Z [] answer next
  Answers (statement.Sheafify j x z e) answer next =
      (Z : Presheaf) × (l : Components) × IsAssociated (site_of doc j) (X x) Z l × Makes doc d Z (functor_map x z l ∷ []) answer next
  Answers (statement.Sheaf j x) answer next = Says d (sheaf_answer x (sheaf_fault (site_of doc j) (X x))) answer next
  Answers (statement.Hom x y) answer next =
      let listed = maps k (X x) (X y) in
      (answer ≡ Maps (map (λ m. map_shape (functor_map x y m)) listed)) × (next ≡ with_others d (hom_cells (length listed) (X x)))
  -- the elements of the type by their numbers, with the maps both ways
  Answers (statement.Build j z T u v) answer next =
      let w = world_under doc d j in
      Makes doc d (numbered k (values w T) (restr w.site w.functors T))
      (map_under j (Base z) T (map (λ c. numbers_with (values w T c)) (objects_of k))
      ∷ map_under j T (Base z) (map (λ c. with_numbers (values w T c)) (objects_of k)) ∷ []) answer next
  -- the elements that satisfy the formula by their numbers, with the inclusion
  Answers (statement.Sub j z T φ i) answer next =
      let w = world_under doc d j in
      Makes doc d (numbered k (satisfying w T φ) (restr w.site w.functors T))
      (map_under j (Base z) T (map (λ c. numbers_with (satisfying w T φ c)) (objects_of k)) ∷ []) answer next
  Answers (statement.Let j m T t) answer next =
      let w = world_under doc d j in
      Declares (with_maps d (map_under j T (type_found (typed (map_ends d) (T ∷ []) t)) (map (values_of w T t) (objects_of k)) ∷ [])) answer next
  Answers (statement.Show j ctx φ) answer next =
      Says d (Shown ctx (map (λ c. map tuple_of (shown (world_under doc d j) (reverse ctx.types) φ c)) (objects_of k))) answer next
  Answers (statement.Classify j ctx φ) answer next =
      Says d (Classified ctx (map (classified (world_under doc d j) (reverse ctx.types) φ) (objects_of k))) answer next
  Answers (statement.Valid j ctx φ) answer next =
      Says d (Verdict ctx (map (λ c. map tuple_of (unforced (world_under doc d j) (reverse ctx.types) φ c)) (objects_of k))) answer next
  Answers (statement.Why j at n ctx φ) answer next =
      let w = world_under doc d j in
      let root = first_cert w φ at (get_or (tuples w (reverse ctx.types) at) n []) in
      (answer ≡ Why root) × (next ≡ with_others d (count_nodes root))
  Answers (statement.Derive j derivation) answer next = Says d (Derived (length derivation.steps)) answer next
  Answers (statement.Local m) answer next = Says d (local_answer k (map_at d m).pairs) answer next
  Answers (statement.LocalAs top m) answer next =
      Declares (with_maps d (map_under 0 Omega Omega (op_of (site_of doc top)) ∷ [])) answer next
  Answers (statement.Category cat) answer next = Declares d answer next
  Answers (statement.CatFunctor f cat raw) answer next =
      Declares (record d { cat_functors = d.cat_functors ++ record { cat = cat; functor = listed_functor (second_category doc cat) raw } ∷ [] }) answer next
  Answers (statement.PresheafOf cat on raw) answer next =
      let K = second_category doc cat in
      Declares (with_on_functor d K (filled_presheaf K raw)) answer next
  Answers (statement.Along f x on) answer next =
      let Y = restricted (D f) (F f) (X x) in
      (answer ≡ Kan (shape_of (D f) Y) None) × (next ≡ with_on_functor d (D f) Y)
  Answers (statement.Lan f on z e) answer next =
      (L : Presheaf) × (l : Components) × IsLan (D f) k (F f) (on_functor_at d on) L l
      × (answer ≡ Kan (shape_of k L) (Some l)) × (next ≡ with_functor d L)
  Answers (statement.Ran f on z e) answer next =
      (R : Presheaf) × (r : Components) × IsRan (D f) k (F f) (on_functor_at d on) R r
      × (answer ≡ Kan (shape_of k R) (Some r)) × (next ≡ with_functor d R)
