-- Statements that make a functor: their numbers in range, what they make is lawful, and their answers.
use Rattle.std.proofs.Common.{◌≡◌, ℕ, ◌+◌, ◌-◌, ◌<◌, ◌≤◌, Bool, true, false, cond, not, ◌&&◌, eqb, ltb, List, [], ◌∷◌, ◌++◌, map, length, Option, Some, None, Err, refl, sym, ap, ap₂, ◌∙◌, subst, length-append, arith}
use Rattle.std.proofs.lemmas.Bool.{and_parts, eqb-true, ltb-true}
use Rattle.finite_lists.specs.First.{some_if}
use Rattle.topos_model.specs.declared.ty.Ty.{Ty, Base, One, Omega, Two', Pow', Fun', more_of-Ty as only, end_of-Ty as end}
use Rattle.topos_model.specs.declared.context.MapTable.{MapTable}
use Rattle.topos_model.specs.declared.stmt.Stmt.{Stmt}
use Rattle.topos_model.specs.declared.stmt.Stmt.TheVariants.{Product, Coproduct, Equalizer, Coequalizer, Pullback, Pushout, Image, Empty}
use Rattle.topos_model.specs.declared.answer.Answer.{Answer}
use Rattle.topos_model.specs.declared.answer.Answer.TheVariants.{Built}
use Rattle.topos_model.specs.declared.fault.Fault.TheVariants.{NotParallel}
use Rattle.topos_model.specs.categories.Category.{Category}
use Rattle.topos_model.specs.topologies.Cover.{Site}
use Rattle.topos_model.specs.types.Types.{Presheaf}
use Rattle.topos_model.specs.Laws.{IsFunctor}
use Rattle.topos_model.specs.presheaves.Maps.{Components, IsNatural}
use Rattle.topos_model.specs.statements.Needs.{named, parts}
use Rattle.topos_model.specs.statements.Answers.{shape_of, map_shape, map_under, element_pairs}
use Rattle.topos_model.specs.statements.Cells.{is_named, presheaf_cells}
use Rattle.term_ranges.specs.Ranges.{is_part_in_range, is_type_in_range}
use Rattle.formula_answers.specs.MapTables.{ends_of, no_table, table_at, pairs_of, IsMapTable, AreMapTables}
use Rattle.formula_answers.proofs.MapTables.{base_functor, base_pairs}
use Rattle.functor_store.specs.declared.fault.StoreFault.{StoreFault}
use Rattle.functor_store.specs.declared.fault.StoreFault.TheVariants.{Over, NoMemory}
use Rattle.sealed_functors.specs.Rows.{IsOverExactly}
use Rattle.sealed_world.specs.SealedWorlds.{world_cells, with_presheaf}
use Rattle.topos_session.specs.Ranges.{is_in_range, declares}
use denote.Hole.Carrier
use Rattle.topos_model.specs.declared.ty.Ty.TheBlock.{hidden-the_row-Ty-0}
use Rattle.topos_session.specs.declared.declarations.FunctorMap.{FunctorMap}
use Rattle.topos_session.specs.declared.declarations.Declarations.{Declarations}
use Rattle.topos_session.specs.declared.constructions.Construction.{Construction}
use Rattle.topos_session.specs.declared.stop.Stop.{Stop}
use Rattle.topos_session.specs.declared.stop.Stop.TheVariants as stop
use Rattle.topos_session.specs.Declarations.{functor_map_of, declared_between, declared_map, AreLawful, with_functor}
use Rattle.topos_session.specs.Constructions.{is_construction, between, between_functors, functor_map_at, IsFunctorMap, from, to, table, property, fit, IsMade, IsUnmade}
use Rattle.topos_session.specs.Statements.{AnswersOver, Builds, refusal_over, IsAnsweredOver, IsOverBudget, by_answer, IsStoppedOver, store_stop}
use Rattle.topos_session.specs.Functors.{functor_at}
use Rattle.topos_session.proofs.LawfulDeclarations.{IsBetween, all_of_one, all_of_two, to_newest, from_newest, lawful_functor}
use Rattle.topos_session.proofs.NoTypes.{needs-construction, sealed_already, types_free}

-- three tests that pass
pub record AreWithin (z n x y l : ℕ) : Type 0 where
  pub last : z ≡ n
  pub first : x < l
  pub second : y < l

within_both : (z n x y l : ℕ) → (eqb z n && ltb x l && ltb y l) ≡ true → AreWithin z n x y l
within_both z n x y l range =
    let (head, second) = and_parts _ _ range in
    let (last, first) = and_parts _ _ head in
    record { last = eqb-true z n last; first = ltb-true x l first; second = ltb-true y l second }

module _ (objects : ℕ) (ends : List (ℕ × ℕ)) (n l : ℕ) where
  abbrev InRange : Stmt → Type 0
  InRange stmt = is_in_range objects ends n l stmt ≡ true

  pub product_range : (x y z p q : ℕ) → InRange (Product x y z p q) → AreWithin z n x y n
  unfolding is_in_range
  product_range x y z p q range = within_both z n x y n range

  pub coproduct_range : (x y z p q : ℕ) → InRange (Coproduct x y z p q) → AreWithin z n x y n
  unfolding is_in_range
  coproduct_range x y z p q range = within_both z n x y n range

  pub equalizer_range : (m m' z i : ℕ) → InRange (Equalizer m m' z i) → AreWithin z n m m' l
  unfolding is_in_range
  equalizer_range m m' z i range = within_both z n m m' l range

  pub coequalizer_range : (m m' z i : ℕ) → InRange (Coequalizer m m' z i) → AreWithin z n m m' l
  unfolding is_in_range
  coequalizer_range m m' z i range = within_both z n m m' l range

  pub pullback_range : (m m' z p q : ℕ) → InRange (Pullback m m' z p q) → AreWithin z n m m' l
  unfolding is_in_range
  pullback_range m m' z p q range = within_both z n m m' l range

  pub pushout_range : (m m' z p q : ℕ) → InRange (Pushout m m' z p q) → AreWithin z n m m' l
  unfolding is_in_range
  pushout_range m m' z p q range = within_both z n m m' l range

  pub image_range : (m z p q : ℕ) → InRange (Image m z p q) → (z ≡ n) × (m < l)
  unfolding is_in_range
  image_range m z p q range = let (last, low) = and_parts _ _ range in (eqb-true z n last, ltb-true m l low)

-- three tests that pass, the first two
pub first_of_three : (a b c : Bool) → (a && b && c) ≡ true → (a ≡ true) × (b ≡ true)
first_of_three true true c e = (refl, refl)
first_of_three true false c e = cc
first_of_three false b c e = cc

-- the functor that a type names is in range where the type is
named_within : (n : ℕ) (T : Ty) → is_named T ≡ true → is_type_in_range n T ≡ true → named T < n
unfolding is_named named is_type_in_range is_part_in_range parts
named_within n (Base m) e range = ltb-true m n (and_parts _ _ range).0
named_within n One e range = cc
named_within n Omega e range = cc
named_within n (Two' _ (only S end) _ (only T end)) e range = cc
named_within n (Pow' _ (only T end)) e range = cc
named_within n (Fun' _ (only S end) _ (only T end)) e range = cc

pub named_is : (T : Ty) → is_named T ≡ true → T ≡ Base (named T)
unfolding is_named named
named_is (Base m) e = refl
named_is One e = cc
named_is Omega e = cc
named_is (Two' _ (only S end) _ (only T end)) e = cc
named_is (Pow' _ (only T end)) e = cc
named_is (Fun' _ (only S end) _ (only T end)) e = cc

-- a table whose ends are presheaves
pub between_presheaves : (m : MapTable) (x y : ℕ) → m.ends.dom ≡ Base x → m.ends.cod ≡ Base y → functor_map_of m ≡ Some (record { dom = x; cod = y; map = m.rows })
unfolding is_named named hidden-the_row-Ty-0 Carrier.hidden
between_presheaves m x y first second = ap₂ (λ S T. functor_map_of (record { ends = record { dom = S; cod = T }; rows = m.rows })) first second

pub presheaf_low : (n : ℕ) (T : Ty) (x : ℕ) → T ≡ Base x → is_type_in_range n T ≡ true → x < n
unfolding is_type_in_range is_part_in_range parts hidden-the_row-Ty-0 Carrier.hidden
presheaf_low n T x e range = ltb-true x n (and_parts _ _ (rw e at range)).0

pub presheaf_natural : (s : Site) (functors : List Presheaf) → ((x : ℕ) → x < length functors → IsFunctor s.category (functor_at functors x)) → (m : MapTable) → IsMapTable s functors m →
    (x y : ℕ) → m.ends.dom ≡ Base x → m.ends.cod ≡ Base y → IsNatural s.category (functor_at functors x) (functor_at functors y) m.rows
presheaf_natural s functors functor m is x y first second =
    rw (← base_functor s functors x (functor x (presheaf_low (length functors) m.ends.dom x first is.domain)), ← base_functor s functors y (functor y (presheaf_low (length functors) m.ends.cod y second is.codomain)))
    (rw (first, second) at is.natural)

not_between : (m : MapTable) → is_named m.ends.dom ≡ false → functor_map_of m ≡ None
not_between m e = rw e refl

unnamed : (T : Ty) → ((n : ℕ) → T ≡ Base n → ⊥) → is_named T ≡ false
unfolding is_named
unnamed (Base n) other = absurd (other n refl)
unnamed One other = refl
unnamed Omega other = refl
unnamed (Two' _ (only S end) _ (only T end)) other = refl
unnamed (Pow' _ (only T end)) other = refl
unnamed (Fun' _ (only S end) _ (only T end)) other = refl

pub first_other : (m : MapTable) → ((n : ℕ) → m.ends.dom ≡ Base n → ⊥) → functor_map_of m ≡ None
first_other m other = not_between m (unnamed m.ends.dom other)

pub second_other : (m : MapTable) → ((n : ℕ) → m.ends.cod ≡ Base n → ⊥) → functor_map_of m ≡ None
second_other m other = at (is_named m.ends.dom) (is_named m.ends.cod) (unnamed m.ends.cod other) _
  where
    at : (a b : Bool) → b ≡ false → (x : FunctorMap) → cond (a && b) (Some x) None ≡ None
    at true true e x = cc
    at true false e x = refl
    at false b e x = refl

-- what a functor with its maps is to the laws
record IsConstructed (s : Site) (functors : List Presheaf) (stmt : Stmt) (Z : Presheaf) (maps : List MapTable) : Type 0 where
  pub functor : IsFunctor s.category Z
  pub natural : AreMapTables s (functors ++ Z ∷ []) maps
  pub declared : (types : List Ty) (charges budget : ℕ) → map (declared_map (record { site = s; functors = functors ++ Z ∷ []; types = types; charges = charges; budget = budget })) maps ≡ map declared_between maps
  pub counts : declares stmt ≡ Some (1, length maps)

module _ (k : Category) (so : Declarations) (lawful : AreLawful k so) where
  abbrev s : Site
  s = so.world.site

  abbrev fs : List Presheaf
  fs = so.world.functors

  abbrev Ranged : Stmt → Type 0
  Ranged stmt = is_in_range k.objects k.ends (length so.world.functors) (length so.maps) stmt ≡ true

  functor_here : (Z : Presheaf) → IsFunctor k Z → IsFunctor s.category Z
  functor_here Z functor = subst (λ k. IsFunctor k Z) (sym lawful.category) functor

  with_two : (stmt : Stmt) (Z : Presheaf) (maps : List MapTable) (a b : MapTable) → maps ≡ a ∷ b ∷ [] → declares stmt ≡ Some (1, 2) → IsFunctor k Z
      → IsBetween s (fs ++ Z ∷ []) a → IsBetween s (fs ++ Z ∷ []) b → IsConstructed s fs stmt Z maps
  with_two stmt Z maps a b e counts functor first second =
      subst (IsConstructed s fs stmt Z) (sym e) (record {
        functor = functor_here Z functor;
        natural = all_of_two (IsMapTable s (fs ++ Z ∷ [])) no_table a b first.table second.table;
        declared = λ types charges budget. ap₂ (λ x y. map_under 0 a.ends.dom a.ends.cod x ∷ map_under 0 b.ends.dom b.ends.cod y ∷ []) first.pairs second.pairs;
        counts = counts;
      })

  with_one : (stmt : Stmt) (Z : Presheaf) (maps : List MapTable) (a : MapTable) → maps ≡ a ∷ [] → declares stmt ≡ Some (1, 1) → IsFunctor k Z
      → IsBetween s (fs ++ Z ∷ []) a → IsConstructed s fs stmt Z maps
  with_one stmt Z maps a e counts functor first =
      subst (IsConstructed s fs stmt Z) (sym e) (record {
        functor = functor_here Z functor;
        natural = all_of_one (IsMapTable s (fs ++ Z ∷ [])) no_table a first.table;
        declared = λ types charges budget. ap (λ x. map_under 0 a.ends.dom a.ends.cod x ∷ []) first.pairs;
        counts = counts;
      })

  -- a map between functors goes from a functor to a functor
  module _ (m : ℕ) (low : m < length so.maps) (both : between_functors so.maps m ≡ true) where
    from_low : from so.maps m < length fs
    from_low = named_within (length fs) (table_at so.maps m).ends.dom (and_parts _ _ both).0 (lawful.maps m low).domain

    to_low : to so.maps m < length fs
    to_low = named_within (length fs) (table_at so.maps m).ends.cod (and_parts _ _ both).1 (lawful.maps m low).codomain

    from_is : (table_at so.maps m).ends.dom ≡ Base (from so.maps m)
    from_is = named_is (table_at so.maps m).ends.dom (and_parts _ _ both).0

    to_is : (table_at so.maps m).ends.cod ≡ Base (to so.maps m)
    to_is = named_is (table_at so.maps m).ends.cod (and_parts _ _ both).1

    functor_of : (x : ℕ) → x < length fs → IsFunctor s.category (functor_at fs x)
    functor_of x within = functor_here (functor_at fs x) (lawful.functors x within)

    natural_here : IsNatural s.category (functor_at fs (from so.maps m)) (functor_at fs (to so.maps m)) (table so.maps m)
    natural_here =
        rw (← base_functor s fs (from so.maps m) (functor_of (from so.maps m) from_low), ← base_functor s fs (to so.maps m) (functor_of (to so.maps m) to_low))
        (rw (from_is, to_is) at (lawful.maps m low).natural)

    pub natural_at : IsNatural k (functor_at fs (from so.maps m)) (functor_at fs (to so.maps m)) (table so.maps m)
    natural_at = subst (λ k. IsNatural k (functor_at fs (from so.maps m)) (functor_at fs (to so.maps m)) (table so.maps m)) lawful.category natural_here

    -- its elements with their images are the numbers of its table
    pub pairs_at : pairs_of s fs (table_at so.maps m) ≡ map element_pairs (table so.maps m)
    pairs_at =
        ap₂ (λ S T. pairs_of s fs (record { ends = record { dom = S; cod = T }; rows = table so.maps m })) from_is to_is
        ∙ base_pairs s fs (from so.maps m) (to so.maps m) (table so.maps m) (functor_of (from so.maps m) from_low) (functor_of (to so.maps m) to_low) natural_here

  pub functor_map_lawful : (m : ℕ) (low : m < length so.maps) (both : between_functors so.maps m ≡ true) → IsFunctorMap k fs (functor_map_at so.maps m)
  functor_map_lawful m low both = record { dom = from_low m low both; cod = to_low m low both; natural = natural_at m low both }

  to_new : (Z : Presheaf) → IsFunctor k Z → (x z : ℕ) (m : Components) → z ≡ length fs → x < length fs → IsNatural k (functor_at fs x) Z m → IsBetween s (fs ++ Z ∷ []) (between x z m)
  to_new Z functor x z m last low natural = to_newest s k lawful.category fs lawful.functors Z functor x z m last low natural

  from_new : (Z : Presheaf) → IsFunctor k Z → (x z : ℕ) (m : Components) → z ≡ length fs → x < length fs → IsNatural k Z (functor_at fs x) m → IsBetween s (fs ++ Z ∷ []) (between z x m)
  from_new Z functor x z m last low natural = from_newest s k lawful.category fs lawful.functors Z functor x z m last low natural

  constructed : (stmt : Stmt) (Z : Presheaf) (maps : List MapTable) → is_construction stmt ≡ true → Ranged stmt → fit so.maps stmt ≡ true → property k so stmt Z maps → IsConstructed s fs stmt Z maps
  unfolding declares is_construction
  constructed (Product x y z p q) Z maps kind range fits (l, r, is, e) =
      let w = product_range k.objects k.ends (length fs) (length so.maps) x y z p q range in
      with_two _ Z maps _ _ e refl is.functor (from_new Z is.functor x z l w.last w.first is.first) (from_new Z is.functor y z r w.last w.second is.second)
  constructed (Coproduct x y z p q) Z maps kind range fits (l, r, is, e) =
      let w = coproduct_range k.objects k.ends (length fs) (length so.maps) x y z p q range in
      with_two _ Z maps _ _ e refl is.functor (to_new Z is.functor x z l w.last w.first is.first) (to_new Z is.functor y z r w.last w.second is.second)
  constructed (Equalizer m n z i) Z maps kind range fits (l, is, e) =
      let w = equalizer_range k.objects k.ends (length fs) (length so.maps) m n z i range in
      let both = first_of_three (between_functors so.maps m) (between_functors so.maps n) _ fits in
      with_one _ Z maps _ e refl is.functor (from_new Z is.functor (from so.maps m) z l w.last (from_low m w.first both.0) is.inclusion)
  constructed (Coequalizer m n z i) Z maps kind range fits (r, is, e) =
      let w = coequalizer_range k.objects k.ends (length fs) (length so.maps) m n z i range in
      let both = first_of_three (between_functors so.maps m) (between_functors so.maps n) _ fits in
      with_one _ Z maps _ e refl is.functor (to_new Z is.functor (to so.maps m) z r w.last (to_low m w.first both.0) is.quotient)
  constructed (Pullback m n z p q) Z maps kind range fits (l, r, is, e) =
      let w = pullback_range k.objects k.ends (length fs) (length so.maps) m n z p q range in
      let both = first_of_three (between_functors so.maps m) (between_functors so.maps n) _ fits in
      with_two _ Z maps _ _ e refl is.functor (from_new Z is.functor (from so.maps m) z l w.last (from_low m w.first both.0) is.first) (from_new Z is.functor (from so.maps n) z r w.last (from_low n w.second both.1) is.second)
  constructed (Pushout m n z p q) Z maps kind range fits (l, r, is, e) =
      let w = pushout_range k.objects k.ends (length fs) (length so.maps) m n z p q range in
      let both = first_of_three (between_functors so.maps m) (between_functors so.maps n) _ fits in
      with_two _ Z maps _ _ e refl is.functor (to_new Z is.functor (to so.maps m) z l w.last (to_low m w.first both.0) is.first) (to_new Z is.functor (to so.maps n) z r w.last (to_low n w.second both.1) is.second)
  constructed (Image m z p q) Z maps kind range fits (l, r, is, e) =
      let w = image_range k.objects k.ends (length fs) (length so.maps) m z p q range in
      with_two _ Z maps _ _ e refl is.functor (to_new Z is.functor (from so.maps m) z l w.0 (from_low m w.1 fits) is.onto) (from_new Z is.functor (to so.maps m) z r w.0 (to_low m w.1 fits) is.inclusion)
  constructed (Empty z) Z maps kind range fits (is, e) =
      subst (IsConstructed s fs (Empty z) Z) (sym e) (record { functor = functor_here Z is.functor; natural = none_below; declared = λ types charges budget. refl; counts = refl })
    where
      none_below : (i : ℕ) → i < 0 → IsMapTable s (fs ++ Z ∷ []) (table_at [] i)
      none_below i low = absurd (beyond i low)
        where
          beyond : (i : ℕ) → i < 0 → ⊥
          beyond i low = omega arith
  constructed _ Z maps kind range fits has = cc

  pub functor_made : (stmt : Stmt) (Z : Presheaf) (maps : List MapTable) → is_construction stmt ≡ true → Ranged stmt → fit so.maps stmt ≡ true → property k so stmt Z maps → IsFunctor k Z
  functor_made stmt Z maps kind range fits has = subst (λ k. IsFunctor k Z) lawful.category (constructed stmt Z maps kind range fits has).functor

  pub maps_declared : (stmt : Stmt) (Z : Presheaf) (maps : List MapTable) → is_construction stmt ≡ true → Ranged stmt → fit so.maps stmt ≡ true → property k so stmt Z maps →
      map (declared_map (with_presheaf so.world Z)) maps ≡ map declared_between maps
  maps_declared stmt Z maps kind range fits has = (constructed stmt Z maps kind range fits has).declared so.world.types so.world.charges so.world.budget

  -- a construction answers what it builds, and is refused where the ends of its maps do not fit
  builds_answer : (stmt : Stmt) (answer : Answer) (after : Declarations) → is_construction stmt ≡ true → Builds k so stmt answer after → AnswersOver k so stmt answer after
  unfolding is_construction
  builds_answer (Product x y z p q) answer after kind builds = builds
  builds_answer (Coproduct x y z p q) answer after kind builds = builds
  builds_answer (Equalizer m n z i) answer after kind builds = builds
  builds_answer (Coequalizer m n z i) answer after kind builds = builds
  builds_answer (Pullback m n z p q) answer after kind builds = builds
  builds_answer (Pushout m n z p q) answer after kind builds = builds
  builds_answer (Image m z p q) answer after kind builds = builds
  builds_answer (Empty z) answer after kind builds = builds
  builds_answer _ answer after kind builds = cc

  unfit : (stmt : Stmt) → is_construction stmt ≡ true → refusal_over k so stmt ≡ some_if (not (fit so.maps stmt)) NotParallel
  unfolding is_construction
  unfit (Product x y z p q) kind = refl
  unfit (Coproduct x y z p q) kind = refl
  unfit (Equalizer m n z i) kind = refl
  unfit (Coequalizer m n z i) kind = refl
  unfit (Pullback m n z p q) kind = refl
  unfit (Pushout m n z p q) kind = refl
  unfit (Image m z p q) kind = refl
  unfit (Empty z) kind = refl
  unfit _ kind = cc

  pub fits_of : (stmt : Stmt) → is_construction stmt ≡ true → refusal_over k so stmt ≡ None → fit so.maps stmt ≡ true
  fits_of stmt kind accepted = fitted (fit so.maps stmt) (sym (unfit stmt kind) ∙ accepted)
    where
      fitted : (b : Bool) → some_if (not b) NotParallel ≡ None → b ≡ true
      fitted true e = refl
      fitted false e = cc

  module _ (room : ℕ) (stmt : Stmt) (kind : is_construction stmt ≡ true) (range : Ranged stmt) (fits : world_cells so.world ≤ so.world.budget) where
    fit_ends : fit so.maps stmt ≡ true → refusal_over k so stmt ≡ None
    fit_ends parallel = unfit stmt kind ∙ ap (λ (b : Bool). some_if (not b) NotParallel) parallel

    -- what has the property, as an answer
    with_property : (Z : Presheaf) (maps : List MapTable) → property k so stmt Z maps → AnswersOver k so stmt (Built (shape_of k Z) (map (λ m. map_shape (declared_between m)) maps)) (with_functor so Z maps)
    with_property Z maps has = builds_answer stmt _ _ kind (record { functor = Z; maps = maps; property = has; shown = refl; declared = refl })

    pub construction_answered : (construction : Construction) (answer : Answer) → IsMade k room (fit so.maps stmt) (property k so stmt) construction
        → answer ≡ Built (shape_of k construction.functor) (map (λ m. map_shape (declared_between m)) construction.maps)
        → world_cells (with_presheaf so.world construction.functor) ≤ so.world.budget
        → IsAnsweredOver k so stmt answer (with_functor so construction.functor construction.maps)
    construction_answered construction answer is shown within =
        let Z = construction.functor in
        let maps = construction.maps in
        let c : IsConstructed s fs stmt Z maps = constructed stmt Z maps kind range is.parallel is.property in
        let longer : length (fs ++ Z ∷ []) ≡ length fs + 1 = length-append fs (Z ∷ []) in
        let more : length (so.maps ++ maps) ≡ length so.maps + length maps = length-append so.maps maps in
        record {
          accepted = fit_ends is.parallel;
          mid = so;
          sealed = sealed_already so stmt (needs-construction (ends_of so.maps) stmt kind);
          types_fit = types_free so stmt (needs-construction (ends_of so.maps) stmt kind) fits;
          answers = builds_answer stmt answer _ kind (record { functor = Z; maps = maps; property = is.property; shown = shown; declared = refl });
          within = within;
          lawful = lawful_functor k so lawful Z maps (functor_made stmt Z maps kind range is.parallel is.property) c.natural;
          declared = c.counts ∙ counted (length (fs ++ Z ∷ [])) (length (so.maps ++ maps)) (length maps) longer more;
          functors = omega (arith, longer);
          maps = (maps, refl);
          kept = (refl, refl, refl);
        }
      where
        counted : (a b m : ℕ) → a ≡ length fs + 1 → b ≡ length so.maps + m → ◌≡◌ {A = Option (ℕ × ℕ)} (Some (1, m)) (Some (a - length fs, b - length so.maps))
        counted a b m e f = at (a - length fs) (b - length so.maps) (omega arith) (omega arith)
          where
            at : (c d : ℕ) → 1 ≡ c → m ≡ d → ◌≡◌ {A = Option (ℕ × ℕ)} (Some (1, m)) (Some (c, d))
            at c d e f = rw (e, f) refl

    -- what has the property does not fit
    pub construction_over : (Z : Presheaf) (maps : List MapTable) → fit so.maps stmt ≡ true → property k so stmt Z maps → so.world.budget < world_cells (with_presheaf so.world Z) → IsOverBudget k so stmt
    construction_over Z maps parallel has over =
        by_answer so _ (with_functor so Z maps) (fit_ends parallel) (sealed_already so stmt (needs-construction (ends_of so.maps) stmt kind)) (types_free so stmt (needs-construction (ends_of so.maps) stmt kind) fits)
        (with_property Z maps has) refl refl over

    pub construction_stopped : (s : Stop) → IsUnmade k room (fit so.maps stmt) (property k so stmt) s → room + world_cells so.world ≡ so.world.budget
        → ((X : Presheaf) → world_cells (with_presheaf so.world X) ≡ world_cells so.world + presheaf_cells k X) → IsStoppedOver k so stmt s
    construction_stopped (stop.Refused fault) (is, unfits) left next =
        unfit stmt kind ∙ ap (λ (b : Bool). some_if (not b) NotParallel) unfits ∙ ap (λ f. Some f) (sym is)
    construction_stopped stop.Budget large left next =
        construction_over large.functor large.maps large.parallel large.property (let o = large.over in let n = next large.functor in omega (arith, o, n, left))
    construction_stopped stop.NoMemory none left next = tt

    -- a fault of the store
    pub construction_unstored : (construction : Construction) (fault : StoreFault) → IsMade k room (fit so.maps stmt) (property k so stmt) construction
        → IsOverExactly {A = Unit {0}} (Err fault) (so.world.budget < world_cells (with_presheaf so.world construction.functor)) → IsStoppedOver k so stmt (store_stop fault)
    construction_unstored construction Over is over = construction_over construction.functor construction.maps is.parallel is.property over
    construction_unstored construction NoMemory is over = tt
