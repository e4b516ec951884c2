-- A sealed world with maps by their tables is a lawful one.
use Rattle.std.proofs.Common.{◌≡◌, ℕ, ◌^◌, ◌<◌, ◌≤◌, zero, suc, inl, inr, List, [], ◌∷◌, length, get_or, Some, refl, sym, ap, subst, ◌∙◌, arith}
use denote.Bor.{Bor}
use Rattle.std.proofs.lemmas.List.{get_or_default, get_or_past, length-map, get_or-map}
use Rattle.std.proofs.lemmas.List.FromFn.{get_or-map-range_with_len}
use Rattle.std.proofs.lemmas.Bool.{cases_lt}
use Rattle.std.specs.List.{All}
use Rattle.finite_lists.specs.Members.{In}
use Rattle.finite_lists.proofs.Lists.{In_at}
use Rattle.topos_model.specs.declared.ty.Ty.{Ty, One, Omega as OmegaType}
use Rattle.topos_model.specs.declared.value.Val.{Val, Star}
use Rattle.topos_model.specs.declared.context.MapTy.{MapTy}
use Rattle.topos_model.specs.declared.context.MapTable.{MapTable}
use Rattle.topos_model.specs.categories.Category.{Category, dom}
use Rattle.topos_model.specs.Laws.{IsCategory, IsTopology, IsFunctor, IsInto, size, act}
use Rattle.topos_model.specs.types.Types.{elements, restr}
use Rattle.topos_model.specs.statements.Form.{max_arrows}
use Rattle.topos_model.specs.formulas.Typing.{ends_of as ends_at}
use Rattle.topos_model.specs.formulas.Forcing.{image_of}
use Rattle.topos_model.specs.formulas.TermLaws.{IsWorld, image}
use Rattle.type_laws.specs.Numbered.{place_of}
use Rattle.type_laws.specs.TypeLaws.{TypeFunctor}
use Rattle.type_laws.proofs.Numbering.{at_place_of, size_numbered, value_act}
use Rattle.type_laws.proofs.Presheaves.{Distinct-elements, types_presheaf}
use Rattle.type_laws.proofs.TypeFunctors.{types_are_functors}
use Rattle.omega_object.specs.declared.omega.Omega.{Omega}
use Rattle.omega_object.specs.Tables.{IsOmegaOn}
use Rattle.site_stages.specs.Stages.{AreStages}
use Rattle.term_tables.specs.Parts.{AreImages}
use Rattle.internal_interp.specs.declared.interpreter.Interpreter.{Interpreter}
use Rattle.sealed_world.specs.SealedWorlds.{CountedWorld, IsStoreOf}
use Rattle.formula_answers.specs.MapTables.{ends_of, no_table, table_at, pairs_at, pairs_of, AreMapTables}
use Rattle.formula_answers.specs.Formulas.{world_of, Serves}
use Rattle.formula_answers.proofs.MapTables.{table_image}

-- a category has no more objects than arrows
few_objects : (k : Category) → IsCategory k → length k.ends ≤ max_arrows → k.objects < 2 ^ 32
few_objects k laws few = elim (cases_lt (length k.ends) k.objects) [
  | inl more ↦ (let low = (laws.identity (length k.ends) more).0.0 in absurd (omega (arith, low)))
  | inr less ↦ omega (arith, less, few)
]

-- the ends of the map number m
pub ends_are : (tables : List MapTable) (m : ℕ) → ends_at (ends_of tables) m ≡ (table_at tables m).ends
ends_are [] m = refl
ends_are (t ∷ tables) zero = refl
ends_are (t ∷ tables) (suc m) = ends_are tables m

module _ (w : CountedWorld) (tables : List MapTable) where
  abbrev k : Category
  k = w.site.category

  abbrev from : ℕ → Ty
  from m = (table_at tables m).ends.dom

  abbrev to : ℕ → Ty
  to m = (table_at tables m).ends.cod

  abbrev elements_of : Ty → ℕ → List Val
  elements_of T c = elements w.site w.functors T c

  -- where the map number m takes an element
  image_there : (m c : ℕ) (v : Val) → m < length tables → c < k.objects → image (world_of w tables) m c v ≡ image_of v (pairs_at w.site w.functors (table_at tables m) c)
  unfolding pairs_of
  image_there m c v low object =
      ap (λ (pairs : List (List (Val × Val))). image_of v (get_or pairs c [])) (get_or-map (pairs_of w.site w.functors) tables m no_table [] low)
      ∙ ap (image_of v) (get_or-map-range_with_len (pairs_at w.site w.functors (table_at tables m)) 0 k.objects c c [] object (omega arith))

  image_at : (m c x : ℕ) → m < length tables → c < k.objects → x < length (elements_of (from m) c) →
      image (world_of w tables) m c (get_or (elements_of (from m) c) x Star)
      ≡ get_or (elements_of (to m) c) (get_or (get_or (table_at tables m).rows c []) x 0) Star
  image_at m c x low object inside = image_there m c _ low object ∙ table_image w.site w.functors (table_at tables m) c x inside

  -- a map that is not there
  image_past : (m c : ℕ) (v : Val) → length tables ≤ m → image (world_of w tables) m c v ≡ Star
  unfolding image_of
  image_past m c v past = ap (λ (pairs : List (List (Val × Val))). image_of v (get_or pairs c [])) (get_or_past (world_of w tables).maps m [] (omega (arith, past, length-map tables (pairs_of w.site w.functors))))

  ends_past : (m : ℕ) → length tables ≤ m → (table_at tables m).ends ≡ no_table.ends
  ends_past m past = ap (λ (t : MapTable). t.ends) (get_or_past tables m no_table past)

  star_in : (c : ℕ) → In (elements_of One c) Star
  unfolding elements
  star_in c = inl refl

  restr_star : (f : ℕ) (v : Val) → Star ≡ restr w.site w.functors One f v
  unfolding restr
  restr_star f v = refl

  module _ (category : IsCategory w.site.category) (lawful : All (IsFunctor w.site.category) w.functors) (are : AreMapTables w.site w.functors tables) where
    size_is : (T : Ty) (c : ℕ) → c < k.objects → size (TypeFunctor w.site w.functors T) c ≡ length (elements_of T c)
    size_is T c object = size_numbered k (elements w.site w.functors T) (restr w.site w.functors T) c object

    number_low : (m c x : ℕ) → m < length tables → c < k.objects → x < length (elements_of (from m) c) →
        get_or (get_or (table_at tables m).rows c []) x 0 < length (elements_of (to m) c)
    number_low m c x low object inside =
        let within = (are m low).natural.within c x object (omega (arith, inside, size_is (from m) c object)) in
        omega (arith, within, size_is (to m) c object)

    -- images are elements
    within_there : (m c : ℕ) (v : Val) → m < length tables → c < k.objects → In (elements_of (from m) c) v →
        In (elements_of (to m) c) (image (world_of w tables) m c v)
    within_there m c v low object i =
        let place = at_place_of (elements_of (from m) c) v Star i in
        let x = place_of v (elements_of (from m) c) in
        let at = ap (image (world_of w tables) m c) (sym place.1) ∙ image_at m c x low object place.0 in
        subst (In (elements_of (to m) c)) (sym at) (In_at (elements_of (to m) c) (get_or (get_or (table_at tables m).rows c []) x 0) Star (number_low m c x low object place.0))

    -- and restrict as elements do
    natural_there : (m c f : ℕ) (v : Val) → m < length tables → IsInto w.site.category c f → In (elements_of (from m) c) v →
        image (world_of w tables) m (dom w.site.category f) (restr w.site w.functors (from m) f v) ≡ restr w.site w.functors (to m) f (image (world_of w tables) m c v)
    natural_there m c f v low into i =
        let ends = category.ends f into.0 in
        let object : c < k.objects = subst (λ d. d < k.objects) into.1 ends.1 in
        let d = dom k f in
        let S = from m in
        let T = to m in
        let rows = (table_at tables m).rows in
        let place = at_place_of (elements_of S c) v Star i in
        let x = place_of v (elements_of S c) in
        let F = TypeFunctor w.site w.functors S in
        let y = act F f x in
        let inside : x < size F c = omega (arith, place.0, size_is S c object) in
        let moved : y < size F d = (types_are_functors w.site w.functors category lawful S).within c f x into inside in
        let moved' : y < length (elements_of S d) = omega (arith, moved, size_is S d ends.0) in
        let restricted : restr w.site w.functors S f v ≡ get_or (elements_of S d) y Star =
        ap (restr w.site w.functors S f) (sym place.1)
        ∙ sym (value_act k (elements w.site w.functors S) (restr w.site w.functors S) category (types_presheaf w.site w.functors category lawful S) (Distinct-elements w.site w.functors S) c f x Star into place.0) in
        let j = get_or (get_or rows c []) x 0 in
        let image_is : image (world_of w tables) m c v ≡ get_or (elements_of T c) j Star = ap (image (world_of w tables) m c) (sym place.1) ∙ image_at m c x low object place.0 in
        ap (image (world_of w tables) m d) restricted
        ∙ image_at m d y low ends.0 moved'
        ∙ ap (λ n. get_or (elements_of T d) n Star) ((are m low).natural.commutes c f x into inside)
        ∙ value_act k (elements w.site w.functors T) (restr w.site w.functors T) category (types_presheaf w.site w.functors category lawful T) (Distinct-elements w.site w.functors T) c f j Star into (number_low m c x low object place.0)
        ∙ sym (ap (restr w.site w.functors T f) image_is)

    within_all : (m c : ℕ) (v : Val) → c < k.objects → In (elements_of (from m) c) v → In (elements_of (to m) c) (image (world_of w tables) m c v)
    within_all m c v object i = elim (cases_lt m (length tables)) [
      | inl low ↦ within_there m c v low object i
      | inr past ↦
          subst (λ (e : MapTy). In (elements w.site w.functors e.cod c) (image (world_of w tables) m c v)) (sym (ends_past m past))
          (subst (In (elements_of One c)) (sym (image_past m c v past)) (star_in c))
    ]

    natural_all : (m c f : ℕ) (v : Val) → IsInto w.site.category c f → In (elements_of (from m) c) v →
        image (world_of w tables) m (dom w.site.category f) (restr w.site w.functors (from m) f v) ≡ restr w.site w.functors (to m) f (image (world_of w tables) m c v)
    natural_all m c f v into i = elim (cases_lt m (length tables)) [
      | inl low ↦ natural_there m c f v low into i
      | inr past ↦
          image_past m (dom k f) _ past
          ∙ subst (λ (e : MapTy). Star ≡ restr w.site w.functors e.cod f (image (world_of w tables) m c v)) (sym (ends_past m past)) (restr_star f (image (world_of w tables) m c v))
    ]

    pub lawful_world : IsTopology w.site → IsWorld (world_of w tables) (ends_of tables)
    lawful_world topology = record {
      category = category;
      topology = topology;
      functors = lawful;
      within = λ m c v object.
          subst (λ (e : MapTy). In (elements w.site w.functors e.dom c) v → In (elements w.site w.functors e.cod c) (image (world_of w tables) m c v)) (sym (ends_are tables m)) (within_all m c v object);
      natural = λ m c f v into.
          subst (λ (e : MapTy). In (elements w.site w.functors e.dom c) v → image (world_of w tables) m (dom k f) (restr w.site w.functors e.dom f v) ≡ restr w.site w.functors e.cod f (image (world_of w tables) m c v)) (sym (ends_are tables m))
          (natural_all m c f v into);
    }

    -- a table lists the images
    images_listed : (m : ℕ) → m < length tables → AreImages (world_of w tables) m (from m) (to m) (table_at tables m).rows
    images_listed m low =
        let natural = (are m low).natural in
        record {
          objects = natural.objects;
          elements = λ c object. natural.total c object ∙ size_is (from m) c object;
          stand = λ c x object inside. record { within = number_low m c x low object inside; is = sym (image_at m c x low object inside) };
        }

  module _ (i : Interpreter) (site : i.site.now ≡ w.site) (category : IsCategory w.site.category) (few : length w.site.category.ends ≤ max_arrows) (topology : IsTopology w.site)
      (stages : AreStages w.site i.stages.now) (held : IsStoreOf w i.store.now) (lawful : (Ω : Bor Omega) → i.omega ≡ Some Ω → IsOmegaOn w.site Ω.now)
      (there : In w.types OmegaType → (Ω : Bor Omega) × (i.omega ≡ Some Ω)) (are : AreMapTables w.site w.functors tables) (given : i.maps.now ≡ tables) where
    functors : All (IsFunctor w.site.category) w.functors
    functors = λ n X low. subst (IsFunctor w.site.category) (get_or_default w.functors n _ X low) (held.faithful.named n (held.presheaves n low)).1

    abbrev default : MapTable
    default = record { ends = record { dom = OmegaType; cod = OmegaType }; rows = [] }

    table_given : (m : ℕ) → m < length (ends_of tables) → get_or i.maps.now m default ≡ table_at tables m
    table_given m low = ap (λ l. get_or l m default) given ∙ get_or_default tables m default no_table (omega (arith, low, length-map tables (λ t. t.ends)))

    images_given : (m : ℕ) → m < length (ends_of tables) → AreImages (world_of w tables) m (ends_at (ends_of tables) m).dom (ends_at (ends_of tables) m).cod (get_or i.maps.now m default).rows
    images_given m low =
        subst (λ (t : MapTable). AreImages (world_of w tables) m (ends_at (ends_of tables) m).dom (ends_at (ends_of tables) m).cod t.rows) (sym (table_given m low))
        (subst (λ (e : MapTy). AreImages (world_of w tables) m e.dom e.cod (table_at tables m).rows) (sym (ends_are tables m)) (images_listed category functors are m (omega (arith, low, length-map tables (λ t. t.ends)))))

    pub serves : Serves w tables i
    serves = record {
      knows = record {
        lawful = lawful_world category functors are topology;
        site = sym site;
        stages = stages;
        faithful = held.faithful;
        omega = lawful;
        world_maps = length-map tables (pairs_of w.site w.functors) ∙ sym (length-map tables (λ t. t.ends));
        maps_long = ap length given ∙ sym (length-map tables (λ t. t.ends));
        ends = λ m low. ap (λ (t : MapTable). t.ends) (table_given m low) ∙ sym (ends_are tables m);
        images = images_given;
      };
      few = few_objects w.site.category category few;
      presheaves = held.presheaves;
      types = held.types;
      truth_values = there;
    }
