-- Presheaves of elements, declared behind the others: those of a type, and those that satisfy a formula.
use Rattle.std.proofs.Common.{◌≡◌, ℕ, ◌<◌, true, List, [], ◌∷◌, ◌++◌, map, length, get_or, refl, sym, ap, ap₂, subst, ◌∙◌, inl, inr}
use Rattle.std.specs.List.{All, flat_map, range_with_len}
use Rattle.std.proofs.lemmas.Bool.{ltb-true}
use Rattle.std.proofs.lemmas.List.{get_or_default}
use Rattle.std.proofs.lemmas.Simd.{map-map}
use Rattle.finite_lists.specs.Members.{In}
use Rattle.finite_lists.proofs.Lists.{all_each, In-append_right, In-flat_map}
use Rattle.topos_model.specs.declared.ty.Ty.{Ty, Base}
use Rattle.topos_model.specs.declared.term.Term.{Term}
use Rattle.topos_model.specs.declared.value.Val.{Val, Star}
use Rattle.topos_model.specs.declared.answer.MapShape.{MapShape}
use Rattle.topos_model.specs.declared.context.MapTable.{MapTable}
use Rattle.topos_model.specs.topologies.Cover.{Site}
use Rattle.topos_model.specs.Laws.{IsCategory, IsFunctor}
use Rattle.topos_model.specs.types.Types.{Presheaf, elements}
use Rattle.topos_model.specs.formulas.Typing.{typed}
use Rattle.topos_model.specs.formulas.Forcing.{World}
use Rattle.topos_model.specs.statements.Needs.{parts, found, product, subterms, term_needs}
use Rattle.topos_model.specs.statements.Cells.{objects_of}
use Rattle.topos_model.specs.statements.Declarations.{DeclaredMap}
use Rattle.topos_model.specs.statements.Answers.{satisfying, numbers_with, with_numbers, map_shape, map_under}
use Rattle.term_ranges.specs.Ranges.{is_part_in_range, is_type_in_range}
use Rattle.type_laws.specs.TypeLaws.{TypeFunctor}
use Rattle.truth_tables.specs.Tables.{row}
use Rattle.sealed_world.specs.SealedWorlds.{CountedWorld, HasTypes}
use Rattle.sealed_world.specs.SealedWorlds as world
use Rattle.formula_answers.specs.MapTables.{ends_of, no_table, IsMapTable, AreMapTables}
use Rattle.formula_answers.specs.Formulas.{world_of}
use Rattle.term_objects.specs.declared.made.Subobject.{Subobject}
use Rattle.term_objects.specs.TermObjects.{IsSubobject}
use Rattle.term_objects.proofs.TypePresheaves.{type_numbered, numbers_table, numbers_pairs, elements_table, elements_pairs, rows_long, rows_within, rows_values}
use Rattle.term_objects.proofs.SubobjectTables.{subobject_table, subobject_pairs, inclusion_values}
use Rattle.topos_session.specs.declared.declarations.Declarations.{Declarations}
use Rattle.topos_session.specs.Functors.{none}
use Rattle.topos_session.specs.Declarations.{declared_map, AreLawful}
use Rattle.topos_session.specs.Elements.{type_elements, type_maps, part_elements, part_maps, numbers_shape, elements_shape, AreElements}
use Rattle.topos_session.proofs.LawfulDeclarations.{all_of_one, all_of_two}

-- rows of one and of two items
pub one_item : {A : Type 0} (l m : List A) (x y : A) → l ≡ [] → m ≡ l ++ x ∷ [] → x ≡ y → m ≡ y ∷ []
one_item l m x y none more is = more ∙ ap₂ (λ k z. k ++ z ∷ []) none is

pub two_items : {A : Type 0} (l m n : List A) (x y x' y' : A) → l ≡ [] → m ≡ l ++ x ∷ [] → n ≡ m ++ y ∷ [] → x ≡ x' → y ≡ y' → n ≡ x' ∷ y' ∷ []
two_items l m n x y x' y' none more last is then = last ∙ ap₂ (λ k z. k ++ z ∷ []) (one_item l m x x' none more is) then

-- the presheaves that a type in range names are declared
pub type_names : (n : ℕ) (T : Ty) → is_type_in_range n T ≡ true → (m : ℕ) → In (parts T) (Base m) → m < n
unfolding is_type_in_range is_part_in_range
type_names n T range m i = ltb-true m n (all_each (is_part_in_range n) (parts T) (Base m) range i)

-- a term counts the parts of the type of its variable
pub variable_counted : (w : CountedWorld) (tables : List MapTable) (T U : Ty) (t : Term) → HasTypes (term_needs (ends_of tables) (T ∷ []) t) w → HasTypes (parts T) w
unfolding term_needs
variable_counted w tables T U t counted P p named =
    let types : List Ty × Term → List Ty = λ s. found (typed (ends_of tables) s.0 s.1) ++ product s.0 ∷ s.0 in
    let here : In (types (T ∷ [], t)) T = In-append_right (found (typed (ends_of tables) (T ∷ []) t)) (product (T ∷ []) ∷ T ∷ []) T (inr (inl refl)) in
    counted P (In-flat_map parts (flat_map types (subterms (T ∷ []) t)) T P (In-flat_map types (subterms (T ∷ []) t) (T ∷ [], t) T (inl refl) here) p) named

module _ (so : Declarations) (lawful : AreLawful so.world.site.category so) (laws : IsCategory so.world.site.category) (z : ℕ) (next : z ≡ length so.world.functors) (T : Ty)
    (range : is_type_in_range (length so.world.functors) T ≡ true) where
  abbrev s : Site
  s = so.world.site

  abbrev fs : List Presheaf
  fs = so.world.functors

  abbrev W : World
  W = world_of so.world so.maps

  functors : All (IsFunctor so.world.site.category) so.world.functors
  functors = λ n X low. subst (IsFunctor s.category) (get_or_default fs n none X low) (lawful.functors n low)

  -- all elements
  module _ (Z : Presheaf) (Z_is : Z ≡ TypeFunctor so.world.site so.world.functors T) (rows : List (List ℕ)) (rows_are : rows ≡ map (λ n. range_with_len 0 n) Z.sizes) where
    exact : rows ≡ map (λ n. range_with_len 0 n) (TypeFunctor s fs T).sizes
    exact = rows_are ∙ ap (λ (X : Presheaf). map (λ n. range_with_len 0 n) X.sizes) Z_is

    pub numbers_long : length rows ≡ so.world.site.category.objects
    numbers_long = ap length exact ∙ rows_long s fs T range laws functors

    pub numbers_within : (c x : ℕ) → c < length rows → In (get_or rows c []) x → x < length (elements so.world.site so.world.functors T c)
    numbers_within c x low i =
        rows_within s fs T range laws functors c x (subst (λ (r : List (List ℕ)). c < length r) exact low) (subst (λ (r : List (List ℕ)). In (get_or r c []) x) exact i)

    module _ (values : List (List Val)) (values_are : values ≡ row (length rows) (λ c. map (λ x. get_or (elements so.world.site so.world.functors T c) x Star) (get_or rows c []))) where
      all_values : values ≡ map (elements s fs T) (objects_of s.category)
      all_values =
          values_are ∙ ap (λ (r : List (List ℕ)). row (length r) (λ c. map (λ x. get_or (elements s fs T c) x Star) (get_or r c []))) exact ∙ rows_values s fs T range laws functors

      all_shapes : numbers_shape z T values ∷ elements_shape z T values ∷ [] ≡ map map_shape (type_maps W z T)
      all_shapes =
          let shapes : List (List (Val × Val)) → List (List (Val × Val)) → List MapShape = λ f g. record { ends = record { dom = Base z; cod = T }; stages = f } ∷ record { ends = record { dom = T; cod = Base z }; stages = g } ∷ [] in
          ap₂ shapes (ap (map numbers_with) all_values ∙ map-map numbers_with (elements s fs T) (objects_of s.category)) (ap (map with_numbers) all_values ∙ map-map with_numbers (elements s fs T) (objects_of s.category))

      abbrev there : MapTable
      there = record { ends = record { dom = Base z; cod = T }; rows = rows }

      abbrev back : MapTable
      back = record { ends = record { dom = T; cod = Base z }; rows = rows }

      there_lawful : IsMapTable s (fs ++ Z ∷ []) there
      there_lawful = rw (next, exact, Z_is) (numbers_table s fs T range laws functors)

      back_lawful : IsMapTable s (fs ++ Z ∷ []) back
      back_lawful = rw (next, exact, Z_is) (elements_table s fs T range laws functors)

      declared_there : declared_map (world.with_presheaf so.world Z) there ≡ map_under 0 (Base z) T (map (λ c. numbers_with (elements s fs T c)) (objects_of s.category))
      declared_there = rw (next, exact, Z_is) (ap (map_under 0 (Base (length fs)) T) (numbers_pairs s fs T range laws functors))

      declared_back : declared_map (world.with_presheaf so.world Z) back ≡ map_under 0 T (Base z) (map (λ c. with_numbers (elements s fs T c)) (objects_of s.category))
      declared_back = rw (next, exact, Z_is) (ap (map_under 0 T (Base (length fs))) (elements_pairs s fs T range laws functors))

      pub type_made : (tables : List MapTable) (shapes : List MapShape) → IsFunctor so.world.site.category Z
          → tables ≡ record { ends = record { dom = Base z; cod = T }; rows = rows } ∷ record { ends = record { dom = T; cod = Base z }; rows = rows } ∷ []
          → shapes ≡ numbers_shape z T values ∷ elements_shape z T values ∷ []
          → AreElements so (type_elements (world_of so.world so.maps) T) (type_maps (world_of so.world so.maps) z T) (record { functor = Z; tables = tables; shapes = shapes })
      type_made tables shapes Z_lawful t h = record {
        functor = Z_is ∙ type_numbered s fs T;
        lawful = Z_lawful;
        tables = subst (AreMapTables s (fs ++ Z ∷ [])) (sym t) (all_of_two (IsMapTable s (fs ++ Z ∷ [])) no_table there back there_lawful back_lawful);
        maps = ap (map (declared_map (world.with_presheaf so.world Z))) t ∙ ap₂ (λ (a b : DeclaredMap). a ∷ b ∷ []) declared_there declared_back;
        shapes = h ∙ all_shapes;
      }

  -- those that satisfy a formula
  module _ (φ : Term) (sub : Subobject) (is : IsSubobject so.world so.maps T φ sub) (values : List (List Val))
      (values_are : values ≡ row (length sub.inclusion) (λ c. map (λ x. get_or (elements so.world.site so.world.functors T c) x Star) (get_or sub.inclusion c []))) where
    part_values : values ≡ map (satisfying W T φ) (objects_of s.category)
    part_values = values_are ∙ inclusion_values so.world so.maps T φ sub is

    part_shape : numbers_shape z T values ∷ [] ≡ map map_shape (part_maps W z T φ)
    part_shape =
        let shape : List (List (Val × Val)) → List MapShape = λ f. record { ends = record { dom = Base z; cod = T }; stages = f } ∷ [] in
        ap shape (ap (map numbers_with) part_values ∙ map-map numbers_with (satisfying W T φ) (objects_of s.category))

    abbrev inclusion : MapTable
    inclusion = record { ends = record { dom = Base z; cod = T }; rows = sub.inclusion }

    inclusion_lawful : IsMapTable s (fs ++ sub.functor ∷ []) inclusion
    inclusion_lawful = rw next (subobject_table so.world so.maps T φ sub is range laws functors)

    declared_inclusion : declared_map (world.with_presheaf so.world sub.functor) inclusion ≡ map_under 0 (Base z) T (map (λ c. numbers_with (satisfying W T φ c)) (objects_of s.category))
    declared_inclusion = rw next (ap (map_under 0 (Base (length fs)) T) (subobject_pairs so.world so.maps T φ sub is range laws functors))

    pub part_made : (tables : List MapTable) (shapes : List MapShape) → tables ≡ record { ends = record { dom = Base z; cod = T }; rows = sub.inclusion } ∷ [] → shapes ≡ numbers_shape z T values ∷ []
        → AreElements so (part_elements (world_of so.world so.maps) T φ) (part_maps (world_of so.world so.maps) z T φ) (record { functor = sub.functor; tables = tables; shapes = shapes })
    part_made tables shapes t h = record {
      functor = is.functor;
      lawful = is.lawful;
      tables = subst (AreMapTables s (fs ++ sub.functor ∷ [])) (sym t) (all_of_one (IsMapTable s (fs ++ sub.functor ∷ [])) no_table inclusion inclusion_lawful);
      maps = ap (map (declared_map (world.with_presheaf so.world sub.functor))) t ∙ ap (λ (a : DeclaredMap). a ∷ []) declared_inclusion;
      shapes = h ∙ part_shape;
    }
