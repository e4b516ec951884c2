-- Maps that terms define: why one is refused, and that it is declared.
use Rattle.std.proofs.Common.{◌≡◌, ℕ, ◌<◌, ◌≤◌, true, List, [], ◌∷◌, length, Some, None, Ok, refl, subst, append-nil, arith}
use Rattle.std.proofs.lemmas.Bool.{lt-ltb, le-ltb}
use Rattle.topos_model.specs.declared.ty.Ty.{Ty, Base}
use Rattle.topos_model.specs.declared.term.Term.{Term}
use Rattle.topos_model.specs.declared.context.MapTable.{MapTable}
use Rattle.topos_model.specs.declared.stmt.Stmt.TheVariants.{Let}
use Rattle.topos_model.specs.declared.answer.Answer.TheVariants.{Quiet}
use Rattle.topos_model.specs.declared.fault.Fault.TheVariants.{TypeTooLarge}
use Rattle.topos_model.specs.categories.Category.{Category}
use Rattle.topos_model.specs.types.Nodes.{nodes}
use Rattle.topos_model.specs.formulas.Typing.{typed}
use Rattle.topos_model.specs.statements.Needs.{needs, types_of, terms_of}
use Rattle.topos_model.specs.statements.StatementFaults.{term_fault}
use Rattle.formula_answers.specs.MapTables.{ends_of}
use Rattle.term_objects.specs.TermObjects.{IsTermMap}
use Rattle.term_typing.specs.declared.fault.TypeFault.{TypeFault}
use Rattle.term_typing.specs.declared.fault.TypeFault.TheVariants.{Expected, NotAFunction, NotAPower, NotAPair, NoMemory}
use Rattle.term_typing.specs.Inferring.{IsFaultOf}
use Rattle.topos_session.specs.declared.declarations.Declarations.{Declarations}
use Rattle.topos_session.specs.declared.stop.Stop.{Stop}
use Rattle.topos_session.specs.declared.stop.Stop.TheVariants as stop
use Rattle.topos_session.specs.Declarations.{AreLawful, with_map}
use Rattle.topos_session.specs.Statements.{term_map_fault, map_needs, type_stop, IsMapTypeStop, IsMapSealed, IsMapStop, IsAnsweredOver, IsStoppedOver}
use Rattle.topos_session.proofs.StatementForms.{declares-Let}
use Rattle.topos_session.proofs.FormulaStatements.{names_declared}
use Rattle.topos_session.proofs.FormulaAnswers.{fault_refuses}
use Rattle.finite_lists.specs.Members.{In}
use Rattle.term_ranges.specs.Ranges.{is_type_in_range, is_term_in_range}
use Rattle.topos_session.proofs.LawfulDeclarations.{lawful_map}
use Rattle.topos_session.proofs.SealedNeeds.{needs_stopped, lawful_then, answered}

module _ (tables : List MapTable) (T : Ty) (t : Term) where
  -- its fault of types
  pub typing_refuses : (fault : TypeFault) → IsFaultOf (typed (ends_of tables) (T ∷ []) t) fault → IsMapTypeStop tables T t (type_stop fault)
  unfolding term_map_fault term_fault
  typing_refuses (Expected S U) h = rw h refl
  typing_refuses (NotAFunction U) h = rw h refl
  typing_refuses (NotAPower U) h = rw h refl
  typing_refuses (NotAPair U) h = rw h refl
  typing_refuses NoMemory h = tt

  -- a type that is too large, and one that is not
  pub size_refuses : (U : Ty) (count : ℕ) → typed (ends_of tables) (T ∷ []) t ≡ Ok U → count ≡ nodes U → 256 < count → term_map_fault tables T t ≡ Some (TypeTooLarge count)
  unfolding term_map_fault term_fault
  size_refuses U count typing is large = rw (typing, lt-ltb 256 (nodes U) (subst (λ n. 256 < n) is large), is) refl

  pub size_accepts : (U : Ty) (count : ℕ) → typed (ends_of tables) (T ∷ []) t ≡ Ok U → count ≡ nodes U → count ≤ 256 → term_map_fault tables T t ≡ None
  unfolding term_map_fault term_fault
  size_accepts U count typing is small = rw (typing, le-ltb 256 (nodes U) (subst (λ n. n ≤ 256) is small)) refl

-- a fault refuses it
pub map_type_stops : (so : Declarations) (under : ℕ) (T : Ty) (t : Term) → under ≡ 0 → (s : Stop) → IsMapTypeStop so.maps T t s → IsMapStop under T t so s
map_type_stops so under T t first (stop.Refused found) h = fault_refuses so under (term_map_fault so.maps T t) (map_needs so.maps T t) first found h
map_type_stops so under T t first stop.Budget h = absurd h
map_type_stops so under T t first stop.NoMemory h = tt

-- the presheaves that it needs are declared
pub map_names : (so : Declarations) (k : Category) → AreLawful k so → (T : Ty) (t : Term) → is_type_in_range (length so.world.functors) T ≡ true → is_term_in_range (length so.world.functors) (length so.maps) t ≡ true →
    (n : ℕ) → In (map_needs so.maps T t) (Base n) → n < length so.world.functors
map_names so k lawful T t type range n i =
    names_declared so.world.site so.world.functors so.maps lawful.maps (T ∷ []) t (rw type refl) range n i

-- what the statement counts
pub needs-Let : (tables : List MapTable) (under m : ℕ) (T : Ty) (t : Term) → needs (ends_of tables) (Let under m T t) ≡ map_needs tables T t
unfolding needs types_of terms_of
needs-Let tables under m T t = append-nil (map_needs tables T t)

module _ (k : Category) (so : Declarations) (under m : ℕ) (T : Ty) (t : Term) where
  pub map_stopped : (s : Stop) → IsMapStop under T t so s → IsStoppedOver k so (Let under m T t) s
  map_stopped = needs_stopped k so (Let under m T t) under (term_map_fault so.maps T t) (map_needs so.maps T t) refl (needs-Let so.maps under m T t)

  pub map_defined : (mid : Declarations) (table : MapTable) (h : IsMapSealed under T t so mid) → IsTermMap mid.world mid.maps T t h.codomain table → AreLawful k so → IsAnsweredOver k so (Let under m T t) Quiet (with_map mid table)
  map_defined mid table h is lawful =
      let sealed = h.sealed in
      let then = lawful_then k so (Let under m T t) under (term_map_fault so.maps T t) (map_needs so.maps T t) refl (needs-Let so.maps under m T t) mid sealed.needs lawful in
      answered k so (Let under m T t) under (term_map_fault so.maps T t) (map_needs so.maps T t) refl (needs-Let so.maps under m T t) mid sealed.needs Quiet (with_map mid table) 0 (table ∷ []) (declares-Let under m T t)
      (refl, record { codomain = h.codomain; typing = sealed.term.typing; table = table; map = is; declared = refl }) (lawful_map k mid then table is.lawful) (omega arith) refl refl refl refl sealed.needs.within
