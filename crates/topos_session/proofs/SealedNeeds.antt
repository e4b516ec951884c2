-- A statement whose types are sealed: why it is stopped, and what is answered.
use Rattle.std.proofs.Common.{◌≡◌, ℕ, ◌+◌, ◌-◌, ◌<◌, ◌≤◌, List, ◌++◌, length, Option, Some, refl, sym, ap, ap₂, subst, ◌∙◌, length-append, arith}
use Rattle.topos_model.specs.declared.ty.Ty.{Ty}
use Rattle.topos_model.specs.declared.stmt.Stmt.{Stmt}
use Rattle.topos_model.specs.declared.answer.Answer.{Answer}
use Rattle.topos_model.specs.declared.fault.Fault.{Fault}
use Rattle.topos_model.specs.declared.context.MapTable.{MapTable}
use Rattle.topos_model.specs.categories.Category.{Category}
use Rattle.topos_model.specs.statements.Needs.{needs}
use Rattle.formula_answers.specs.MapTables.{ends_of}
use Rattle.sealed_world.specs.SealedWorlds.{CountedWorld, world_cells, cells_with, IsGrownBy}
use Rattle.topos_session.specs.declared.declarations.Declarations.{Declarations}
use Rattle.topos_session.specs.declared.stop.Stop.{Stop}
use Rattle.topos_session.specs.declared.stop.Stop.TheVariants as stop
use Rattle.topos_session.specs.Ranges.{declares}
use Rattle.topos_session.specs.Declarations.{AreLawful, IsKept}
use Rattle.topos_session.specs.Statements.{AnswersOver, refusal_in_turn, refusal_over, AreSealedFor, AreNeedsSealed, IsNeedsStop, IsAnsweredOver, IsStoppedOver, IsOverBudget, by_types, by_answer}
use Rattle.topos_session.proofs.LawfulDeclarations.{lawful_sealed}

-- nothing else has changed
pub needs_kept : (under : ℕ) (fault : Option Fault) (needed : List Ty) (so mid : Declarations) → AreNeedsSealed under fault needed so mid → IsKept so mid
needs_kept under fault needed so mid h =
    let over : CountedWorld → List MapTable → Declarations = λ w tables. record { world = w; maps = tables } in
    record { types = so.world.types ++ h.types.grown.added; is = ap₂ over h.types.grown.is h.maps }

-- how many functors and maps more there are
counts : (a m n l x y : ℕ) → x ≡ n + a → y ≡ l + m → ◌≡◌ {A = Option (ℕ × ℕ)} (Some (a, m)) (Some (x - n, y - l))
counts a m n l x y e f = same (x - n) (y - l) (omega (arith, e)) (omega (arith, f))
  where
    same : (c d : ℕ) → a ≡ c → m ≡ d → ◌≡◌ {A = Option (ℕ × ℕ)} (Some (a, m)) (Some (c, d))
    same c d p q = rw (p, q) refl

module _ (k : Category) (so : Declarations) (stmt : Stmt) (under : ℕ) (fault : Option Fault) (needed : List Ty) (refusal_is : refusal_over k so stmt ≡ refusal_in_turn so.world under fault needed)
    (needs_are : needs (ends_of so.maps) stmt ≡ needed) where
  pub needs_stopped : (s : Stop) → IsNeedsStop under fault needed so s → IsStoppedOver k so stmt s
  needs_stopped (stop.Refused fault) h = refusal_is ∙ h
  needs_stopped stop.Budget h = by_types (refusal_is ∙ h.0) (subst (λ l. so.world.budget < cells_with so.world l) (sym needs_are) h.1)
  needs_stopped stop.NoMemory h = tt

  module _ (mid : Declarations) (h : AreNeedsSealed under fault needed so mid) where
    site : mid.world.site ≡ so.world.site
    site = ap (λ (w : CountedWorld). w.site) h.types.grown.is

    sealed_for : AreSealedFor stmt so mid
    sealed_for = record { maps = h.maps; types = subst (λ l. IsGrownBy l so.world mid.world) (sym needs_are) h.types }

    fit_with : cells_with so.world (needs (ends_of so.maps) stmt) ≤ so.world.budget
    fit_with = subst (λ l. cells_with so.world l ≤ so.world.budget) (sym needs_are) h.types_fit

    pub lawful_then : AreLawful k so → AreLawful k mid
    lawful_then lawful = lawful_sealed k so lawful mid site (ap (λ (w : CountedWorld). w.functors) h.types.grown.is) h.maps

    -- it answers over what is declared then, with so many presheaves and these maps behind it
    pub answered : (answer : Answer) (after : Declarations) (a : ℕ) (more : List MapTable) → declares stmt ≡ Some (a, length more) → AnswersOver k mid stmt answer after → AreLawful k after
        → length after.world.functors ≡ length mid.world.functors + a → after.maps ≡ mid.maps ++ more → after.world.site ≡ mid.world.site → after.world.types ≡ mid.world.types
        → after.world.budget ≡ mid.world.budget → world_cells after.world ≤ so.world.budget → IsAnsweredOver k so stmt answer after
    answered answer after a more counted answers lawful functors maps same types budget within =
        let before : length mid.world.functors ≡ length so.world.functors = ap (λ (w : CountedWorld). length w.functors) h.types.grown.is in
        let all : after.maps ≡ so.maps ++ more = maps ∙ ap (λ l. l ++ more) h.maps in
        let longer : length after.maps ≡ length so.maps + length more = ap length all ∙ length-append so.maps more in
        let functors_more : length after.world.functors ≡ length so.world.functors + a = functors ∙ ap (λ n. n + a) before in
        record {
          accepted = refusal_is ∙ h.accepted;
          mid = mid;
          sealed = sealed_for;
          types_fit = fit_with;
          answers = answers;
          within = within;
          lawful = lawful;
          declared = counted ∙ counts a (length more) (length so.world.functors) (length so.maps) (length after.world.functors) (length after.maps) functors_more longer;
          functors = omega (arith, functors_more);
          maps = (more, all);
          kept = (same ∙ site, types, budget ∙ ap (λ (w : CountedWorld). w.budget) h.types.grown.is);
        }

    -- with what it makes there are more cells than the budget
    pub answer_over : (answer : Answer) (after : Declarations) → AnswersOver k mid stmt answer after → after.world.site ≡ mid.world.site → after.world.types ≡ mid.world.types
        → so.world.budget < world_cells after.world → IsOverBudget k so stmt
    answer_over answer after answers same types over = by_answer mid answer after (refusal_is ∙ h.accepted) sealed_for fit_with answers (same ∙ site) types over
