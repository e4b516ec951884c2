-- The answers of statements and their refusals, over what is declared before them.
use Rattle.std.proofs.Common.{◌≡◌, ℕ, ◌+◌, ◌-◌, ◌<◌, ◌≤◌, true, eqb, [], ◌∷◌, ◌++◌, map, length, Option, Some, None, Err, refl, sym, ap, subst, ◌∙◌, length-append, append-nil, arith}
use Rattle.topos_model.specs.declared.raw.RawFunctor.{RawFunctor}
use Rattle.topos_model.specs.declared.raw.RawMap.{RawMap}
use Rattle.topos_model.specs.declared.ty.Ty.{Ty}
use Rattle.topos_model.specs.declared.context.Ctx.{Ctx}
use Rattle.topos_model.specs.declared.term.Term.{Term}
use Rattle.topos_model.specs.declared.stmt.Stmt.{Stmt}
use Rattle.topos_model.specs.declared.stmt.Stmt.TheVariants.{Presheaf, Map, Product, Coproduct, Equalizer, Coequalizer, Pullback, Pushout, Image, Empty, Sheaf, Hom, Build, Sub, Let, Show, Classify, Valid}
use Rattle.topos_model.specs.declared.answer.Answer.{Answer}
use Rattle.topos_model.specs.declared.answer.Answer.TheVariants.{Quiet, Maps}
use Rattle.topos_model.specs.declared.answer.Answer.TheVariants as answer
use Rattle.topos_model.specs.topologies.Sheaves.{SheafFault, sheaf_fault}
use Rattle.sheaf_test.specs.declared.verdict.SheafVerdict.{SheafVerdict}
use Rattle.sheaf_test.specs.declared.verdict.SheafVerdict.TheVariants as verdict
use Rattle.sheaf_test.specs.Verdicts.{verdict_of}
use Rattle.topos_model.specs.declared.fault.Fault.TheVariants.{NotBuilt}
use Rattle.topos_model.specs.categories.Category.{Category}
use Rattle.topos_model.specs.types.Types.{Presheaf as Functor}
use Rattle.topos_model.specs.Laws.{IsFunctor}
use Rattle.topos_model.specs.categories.Filling.{filled_presheaf}
use Rattle.topos_model.specs.presheaves.Maps.{Components, IsNatural}
use Rattle.topos_model.specs.presheaves.NaturalMaps.{maps}
use Rattle.topos_model.specs.presheaves.PresheafFaults.{presheaf_fault}
use Rattle.topos_model.specs.presheaves.MapFaults.{listed_map, map_fault}
use Rattle.topos_model.specs.statements.Cells.{hom_cells}
use Rattle.topos_session.specs.Ranges.{declares}
use Rattle.topos_model.specs.statements.Answers.{sheaf_answer, map_shape, functor_map}
use Rattle.presheaf_core.specs.declared.fault.FunctorFault.{FunctorFault}
use Rattle.presheaf_core.specs.declared.fault.FunctorFault.TheVariants.{RestrictionMissing, NotTotal, NotFunctorial, NoMemory}
use Rattle.presheaf_core.specs.Faults.{IsFaultOf}
use Rattle.natural_maps.specs.declared.fault.MapFault.{MapFault}
use Rattle.natural_maps.specs.declared.fault.MapFault.TheVariants as map
use Rattle.natural_maps.specs.Faults.{IsFaultOf as IsMapFaultOf}
use Rattle.functor_store.specs.declared.fault.StoreFault.{StoreFault}
use Rattle.functor_store.specs.declared.fault.StoreFault.TheVariants.{Over, NoMemory as OutOfMemory}
use Rattle.sealed_functors.specs.Rows.{IsOverExactly}
use Rattle.sealed_world.specs.SealedWorlds.{CountedWorld, counted_cells, world_cells, cells_with, IsGrownBy}
use Rattle.sealed_world.specs.SealedWorlds as world
use Rattle.formula_answers.specs.MapTables.{ends_of}
use Rattle.topos_session.specs.declared.declarations.Declarations.{Declarations}
use Rattle.topos_session.specs.declared.stop.Stop.{Stop}
use Rattle.topos_session.specs.declared.stop.Stop.TheVariants as stop
use Rattle.topos_session.specs.declared.homs.Hom.{Hom as Listed}
use Rattle.topos_session.specs.Functors.{functor_at}
use Rattle.topos_session.specs.Declarations.{AreLawful, with_presheaf, with_map, with_cells}
use Rattle.topos_session.specs.Constructions.{is_construction, between}
use Rattle.topos_session.specs.Homs.{IsHom, IsUnlisted}
use Rattle.topos_session.specs.Statements.{refusal_over, IsAnsweredOver, IsStoppedOver, IsOverBudget, by_answer, presheaf_stop, map_stop, store_stop}
use Rattle.topos_session.proofs.StatementForms.{declares-Presheaf, declares-Map, declares-Sheaf, declares-Hom}
use Rattle.topos_session.proofs.LawfulDeclarations.{natural_between, lawful_presheaf, lawful_map, lawful_cells}
use Rattle.topos_session.proofs.NoTypes.{needs-Presheaf, needs-Map, needs-Sheaf, needs-Hom, sealed_already, types_free}

-- the counts of what a statement declares
counts : (a b m n : ℕ) → ◌≡◌ {A = Option (ℕ × ℕ)} (Some (a, b)) (Some (m + a - m, n + b - n))
counts a b m n = same (m + a - m) (n + b - n) (omega arith) (omega arith)
  where
    same : (c d : ℕ) → a ≡ c → b ≡ d → ◌≡◌ {A = Option (ℕ × ℕ)} (Some (a, b)) (Some (c, d))
    same c d e f = rw (e, f) refl

-- the answer of a test
abbrev pub answer_of : ℕ → SheafVerdict → Answer
answer_of x verdict.Sheaf = answer.Sheaf
answer_of x (verdict.Fails at cover family found) = answer.NotSheaf x at cover family found

answer_is : (x : ℕ) (o : Option SheafFault) → answer_of x (verdict_of o) ≡ sheaf_answer x o
answer_is x None = refl
answer_is x (Some fault) = refl

module _ (k : Category) (so : Declarations) where
  -- what is counted behind a statement that declares this many functors and maps
  declared_counts : (stmt : Stmt) (a b : ℕ) (after : Declarations) → declares stmt ≡ Some (a, b) → length after.world.functors ≡ length so.world.functors + a → length after.maps ≡ length so.maps + b →
      declares stmt ≡ Some (length after.world.functors - length so.world.functors, length after.maps - length so.maps)
  declared_counts stmt a b after e functors maps = rw (functors, maps) (e ∙ counts a b (length so.world.functors) (length so.maps))

  module _ (fits : world_cells so.world ≤ so.world.budget) where
    -- a presheaf that is lawful is declared
    module _ (functor : ℕ) (raw : RawFunctor) (X : Functor) (listed : X ≡ filled_presheaf k raw) (faultless : presheaf_fault k raw ≡ None) where
      pub presheaf_declared : AreLawful k so → IsFunctor k X → world_cells (world.with_presheaf so.world X) ≤ so.world.budget → IsAnsweredOver k so (Presheaf functor raw) Quiet (with_presheaf so X)
      presheaf_declared lawful here within =
          let longer : length (so.world.functors ++ X ∷ []) ≡ length so.world.functors + 1 = length-append so.world.functors (X ∷ []) in
          record {
            accepted = faultless;
            mid = so;
            sealed = sealed_already so (Presheaf functor raw) (needs-Presheaf (ends_of so.maps) functor raw);
            types_fit = types_free so (Presheaf functor raw) (needs-Presheaf (ends_of so.maps) functor raw) fits;
            answers = (refl, ap (with_presheaf so) listed);
            within = within;
            lawful = lawful_presheaf k so lawful X here;
            declared = declared_counts (Presheaf functor raw) 1 0 (with_presheaf so X) (declares-Presheaf functor raw) longer (omega arith);
            functors = omega (arith, longer);
            maps = ([], sym (append-nil so.maps));
            kept = (refl, refl, refl);
          }

      pub presheaf_unstored : (fault : StoreFault) → IsOverExactly {A = Unit {0}} (Err fault) (so.world.budget < world_cells (world.with_presheaf so.world X)) → IsStoppedOver k so (Presheaf functor raw) (store_stop fault)
      presheaf_unstored Over over =
          by_answer so Quiet (with_presheaf so X) faultless (sealed_already so (Presheaf functor raw) (needs-Presheaf (ends_of so.maps) functor raw)) (types_free so (Presheaf functor raw) (needs-Presheaf (ends_of so.maps) functor raw) fits)
          (refl, ap (with_presheaf so) listed) refl refl over
      presheaf_unstored OutOfMemory over = tt

    -- a natural map is declared
    module _ (number x y : ℕ) (raw : RawMap) where
      pub map_declared : (m : Components) → m ≡ listed_map k (functor_at so.world.functors x) raw → map_fault k (functor_at so.world.functors x) (functor_at so.world.functors y) raw ≡ None
          → AreLawful k so → x < length so.world.functors → y < length so.world.functors → IsNatural k (functor_at so.world.functors x) (functor_at so.world.functors y) m
          → IsAnsweredOver k so (Map number x y raw) Quiet (with_map so (between x y m))
      map_declared m listed faultless lawful domain codomain natural =
          let longer : length (so.maps ++ between x y m ∷ []) ≡ length so.maps + 1 = length-append so.maps (between x y m ∷ []) in
          record {
            accepted = faultless;
            mid = so;
            sealed = sealed_already so (Map number x y raw) (needs-Map (ends_of so.maps) number x y raw);
            types_fit = types_free so (Map number x y raw) (needs-Map (ends_of so.maps) number x y raw) fits;
            answers = (refl, ap (λ (m : Components). with_map so (between x y m)) listed, subst (IsNatural k (functor_at so.world.functors x) (functor_at so.world.functors y)) listed natural);
            within = fits;
            lawful = lawful_map k so lawful (between x y m) (natural_between so.world.site so.world.functors k lawful.category lawful.functors x y m domain codomain natural).table;
            declared = declared_counts (Map number x y raw) 0 1 (with_map so (between x y m)) (declares-Map number x y raw) (omega arith) longer;
            functors = omega arith;
            maps = (between x y m ∷ [], refl);
            kept = (refl, refl, refl);
          }

    -- a presheaf is tested
    module _ (under x : ℕ) (first : eqb under 0 ≡ true) where
      pub sheaf_tested : (verdict : SheafVerdict) → verdict ≡ verdict_of (sheaf_fault so.world.site (functor_at so.world.functors x)) → AreLawful k so → IsAnsweredOver k so (Sheaf under x) (answer_of x verdict) so
      sheaf_tested verdict is lawful = record {
        accepted = rw first refl;
        mid = so;
        sealed = sealed_already so (Sheaf under x) (needs-Sheaf (ends_of so.maps) under x);
        types_fit = types_free so (Sheaf under x) (needs-Sheaf (ends_of so.maps) under x) fits;
        answers = (ap (answer_of x) is ∙ answer_is x (sheaf_fault so.world.site (functor_at so.world.functors x)), refl);
        within = fits;
        lawful = lawful;
        declared = declared_counts (Sheaf under x) 0 0 so (declares-Sheaf under x) (omega arith) (omega arith);
        functors = omega arith;
        maps = ([], sym (append-nil so.maps));
        kept = (refl, refl, refl);
      }

    -- all maps are listed
    module _ (x y : ℕ) where
      abbrev X : Functor
      X = functor_at so.world.functors x

      abbrev Y : Functor
      Y = functor_at so.world.functors y

      pub maps_listed : (room : ℕ) (listed : Listed) → IsHom k x y X Y room listed → AreLawful k so → world_cells (world.with_charges so.world listed.cells) ≤ so.world.budget → IsAnsweredOver k so (Hom x y) (Maps listed.shapes) (with_cells so listed.cells)
      maps_listed room listed hom lawful within = record {
        accepted = refl;
        mid = so;
        sealed = sealed_already so (Hom x y) (needs-Hom (ends_of so.maps) x y);
        types_fit = types_free so (Hom x y) (needs-Hom (ends_of so.maps) x y) fits;
        answers = (ap Maps hom.shapes, ap (with_cells so) hom.cells);
        within = within;
        lawful = lawful_cells k so lawful listed.cells;
        declared = declared_counts (Hom x y) 0 0 (with_cells so listed.cells) (declares-Hom x y) (omega arith) (omega arith);
        functors = omega arith;
        maps = ([], sym (append-nil so.maps));
        kept = (refl, refl, refl);
      }

      more_charged : (cells : ℕ) → world_cells (world.with_charges so.world cells) ≡ world_cells so.world + cells
      unfolding counted_cells
      more_charged cells = omega arith

      pub maps_over : so.world.budget < world_cells so.world + hom_cells (length (maps k X Y)) X → IsOverBudget k so (Hom x y)
      maps_over over =
          by_answer so (Maps (map (λ m. map_shape (functor_map x y m)) (maps k X Y))) (with_cells so (hom_cells (length (maps k X Y)) X)) refl
          (sealed_already so (Hom x y) (needs-Hom (ends_of so.maps) x y)) (types_free so (Hom x y) (needs-Hom (ends_of so.maps) x y) fits) (refl, refl) refl refl
          (let e = more_charged (hom_cells (length (maps k X Y)) X) in omega (arith, over, e))

      pub maps_unlisted : (room : ℕ) (s : Stop) → room + world_cells so.world ≡ so.world.budget → IsUnlisted k X Y room s → IsStoppedOver k so (Hom x y) s
      maps_unlisted room (stop.Refused fault) left none = absurd none
      maps_unlisted room stop.Budget left over = maps_over (omega (arith, over, left))
      maps_unlisted room stop.NoMemory left none = tt

  pub presheaf_refused : (functor : ℕ) (raw : RawFunctor) (fault : FunctorFault) → IsFaultOf k raw fault → IsStoppedOver k so (Presheaf functor raw) (presheaf_stop fault)
  presheaf_refused functor raw (RestrictionMissing f) found = found
  presheaf_refused functor raw (NotTotal f x) found = found
  presheaf_refused functor raw (NotFunctorial g f x) found = found
  presheaf_refused functor raw NoMemory found = tt

  pub map_refused : (number x y : ℕ) (raw : RawMap) (fault : MapFault) → IsMapFaultOf k (functor_at so.world.functors x) (functor_at so.world.functors y) raw fault → IsStoppedOver k so (Map number x y raw) (map_stop fault)
  map_refused number x y raw (map.NoElement c n) found = found
  map_refused number x y raw (map.MapNotTotal c a) found = found
  map_refused number x y raw (map.NotNatural f a) found = found
  map_refused number x y raw map.NoMemory found = tt

  -- every other statement is not built
  pub refused_other : (stmt : Stmt)
      → ((functor : ℕ) (raw : RawFunctor) → stmt ≡ Presheaf functor raw → ⊥)
      → ((m x y : ℕ) (raw : RawMap) → stmt ≡ Map m x y raw → ⊥)
      → ((x y z p q : ℕ) → stmt ≡ Product x y z p q → ⊥)
      → ((x y z p q : ℕ) → stmt ≡ Coproduct x y z p q → ⊥)
      → ((m n z i : ℕ) → stmt ≡ Equalizer m n z i → ⊥)
      → ((m n z q : ℕ) → stmt ≡ Coequalizer m n z q → ⊥)
      → ((m n z p q : ℕ) → stmt ≡ Pullback m n z p q → ⊥)
      → ((m n z i j : ℕ) → stmt ≡ Pushout m n z i j → ⊥)
      → ((m z e j : ℕ) → stmt ≡ Image m z e j → ⊥)
      → ((z : ℕ) → stmt ≡ Empty z → ⊥)
      → ((under x : ℕ) → stmt ≡ Sheaf under x → ⊥)
      → ((x y : ℕ) → stmt ≡ Hom x y → ⊥)
      → ((under : ℕ) (ctx : Ctx) (φ : Term) → stmt ≡ Show under ctx φ → ⊥)
      → ((under : ℕ) (ctx : Ctx) (φ : Term) → stmt ≡ Classify under ctx φ → ⊥)
      → ((under : ℕ) (ctx : Ctx) (φ : Term) → stmt ≡ Valid under ctx φ → ⊥)
      → ((under m : ℕ) (T : Ty) (t : Term) → stmt ≡ Let under m T t → ⊥)
      → ((under z : ℕ) (T : Ty) (u v : ℕ) → stmt ≡ Build under z T u v → ⊥)
      → ((under z : ℕ) (T : Ty) (φ : Term) (i : ℕ) → stmt ≡ Sub under z T φ i → ⊥)
      → refusal_over k so stmt ≡ Some NotBuilt
  unfolding is_construction
  refused_other (Presheaf functor raw) h _ _ _ _ _ _ _ _ _ _ _ _ _ _ _ _ _ = absurd (h functor raw refl)
  refused_other (Map m x y raw) _ h _ _ _ _ _ _ _ _ _ _ _ _ _ _ _ _ = absurd (h m x y raw refl)
  refused_other (Product x y z p q) _ _ h _ _ _ _ _ _ _ _ _ _ _ _ _ _ _ = absurd (h x y z p q refl)
  refused_other (Coproduct x y z p q) _ _ _ h _ _ _ _ _ _ _ _ _ _ _ _ _ _ = absurd (h x y z p q refl)
  refused_other (Equalizer m n z i) _ _ _ _ h _ _ _ _ _ _ _ _ _ _ _ _ _ = absurd (h m n z i refl)
  refused_other (Coequalizer m n z q) _ _ _ _ _ h _ _ _ _ _ _ _ _ _ _ _ _ = absurd (h m n z q refl)
  refused_other (Pullback m n z p q) _ _ _ _ _ _ h _ _ _ _ _ _ _ _ _ _ _ = absurd (h m n z p q refl)
  refused_other (Pushout m n z i j) _ _ _ _ _ _ _ h _ _ _ _ _ _ _ _ _ _ = absurd (h m n z i j refl)
  refused_other (Image m z e j) _ _ _ _ _ _ _ _ h _ _ _ _ _ _ _ _ _ = absurd (h m z e j refl)
  refused_other (Empty z) _ _ _ _ _ _ _ _ _ h _ _ _ _ _ _ _ _ = absurd (h z refl)
  refused_other (Sheaf under x) _ _ _ _ _ _ _ _ _ _ h _ _ _ _ _ _ _ = absurd (h under x refl)
  refused_other (Hom x y) _ _ _ _ _ _ _ _ _ _ _ h _ _ _ _ _ _ = absurd (h x y refl)
  refused_other (Show under ctx φ) _ _ _ _ _ _ _ _ _ _ _ _ h _ _ _ _ _ = absurd (h under ctx φ refl)
  refused_other (Classify under ctx φ) _ _ _ _ _ _ _ _ _ _ _ _ _ h _ _ _ _ = absurd (h under ctx φ refl)
  refused_other (Valid under ctx φ) _ _ _ _ _ _ _ _ _ _ _ _ _ _ h _ _ _ = absurd (h under ctx φ refl)
  refused_other (Let under m T t) _ _ _ _ _ _ _ _ _ _ _ _ _ _ _ h _ _ = absurd (h under m T t refl)
  refused_other (Build under z T u v) _ _ _ _ _ _ _ _ _ _ _ _ _ _ _ _ h _ = absurd (h under z T u v refl)
  refused_other (Sub under z T φ i) _ _ _ _ _ _ _ _ _ _ _ _ _ _ _ _ _ h = absurd (h under z T φ i refl)
  refused_other _ _ _ _ _ _ _ _ _ _ _ _ _ _ _ _ _ _ _ = refl
