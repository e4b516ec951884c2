use Rattle.std.proofs.Common.{◌≡◌, ℕ, length, Option, Some, None, refl, sym, ap, ◌∙◌}
use Rattle.std.proofs.lemmas.Result.{err_from_is_err_and, IfErr-weaker}
use Rattle.topos_model.specs.declared.stmt.Stmt.TheVariants.{Build}
use Rattle.topos_model.specs.statements.Needs.{parts}
use Rattle.formula_answers.specs.Formulas.{world_of}
use Rattle.topos_session.specs.Elements.{type_elements, type_maps, IsUnstored}
use Rattle.topos_session.specs.Statements.{IsStoppedOver}
use Rattle.topos_session.proofs.StatementForms.{declares-Build}
use Rattle.topos_session.proofs.SealedNeeds.{needs_kept, needs_stopped}
use Rattle.topos_session.proofs.ElementStatements.{needs-Build, elements_declared, elements_unstored}
use Rattle.topos_session.proofs.elements.declare_type.Goals as goal

pub returns-in_err-seal_type-clause-stop : goal.returns-in_err-seal_type-clause-stop
returns-in_err-seal_type-clause-stop c =
    let so = c.args.so.now in
    let p = err_from_is_err_and c.from_residual.result c.from_residual.ensures.1 in
    rw (p.1, p.2) (needs_stopped so.world.site.category so (Build c.args.under c.args.functor c.args.ty.now c.args.maps.0 c.args.maps.1) c.args.under None (parts c.args.ty.now) refl
    (needs-Build so.maps c.args.under c.args.functor c.args.ty.now c.args.maps.0 c.args.maps.1) c.in_err-seal_type.field-0.0 c.in_err-seal_type.ensures.stop)

pub returns-in_err-made-clause-unchanged : goal.returns-in_err-made-clause-unchanged
returns-in_err-made-clause-unchanged c =
    let p = err_from_is_err_and c.from_residual-in_err-made.result c.from_residual-in_err-made.ensures.1 in
    rw p.1 (needs_kept c.args.under None (parts c.args.ty.now) c.args.so.now c.seal_type.new.so c.in_ok-seal_type.ensures.sealed)

pub returns-clause-answer : goal.returns-clause-answer
returns-clause-answer c =
    let so = c.args.so.now in
    let mid = c.seal_type.new.so in
    let T = c.args.ty.now in
    let made = c.in_ok-made.made in
    let two : ◌≡◌ {A = Option (ℕ × ℕ)} (Some (1, 2)) (Some (1, length made.tables)) = ap (λ n. Some (1, n)) (sym c.in_ok-made.ensures.maps) in
    elements_declared so (Build c.args.under c.args.functor T c.args.maps.0 c.args.maps.1) c.args.under None (parts T) refl (needs-Build so.maps c.args.under c.args.functor T c.args.maps.0 c.args.maps.1) mid
    c.in_ok-seal_type.ensures.sealed (type_elements (world_of mid.world mid.maps) T) (type_maps (world_of mid.world mid.maps) c.args.functor T) made c.in_ok-made.ensures.elements (λ answer after is. is) c.requires.lawful
    (declares-Build c.args.under c.args.functor T c.args.maps.0 c.args.maps.1 ∙ two) c.declare_numbered.result c.declare_numbered.new.so c.declare_numbered.ensures.shown c.declare_numbered.ensures.declared
    c.declare_numbered.ensures.within

pub returns-clause-stop : goal.returns-clause-stop
returns-clause-stop c =
    let so = c.args.so.now in
    let mid = c.seal_type.new.so in
    let T = c.args.ty.now in
    let made = c.in_ok-made.made in
    let stmt = Build c.args.under c.args.functor T c.args.maps.0 c.args.maps.1 in
    IfErr-weaker c.declare_numbered.result (IsUnstored mid made.functor) (IsStoppedOver so.world.site.category so stmt)
    (elements_unstored so stmt c.args.under None (parts T) refl (needs-Build so.maps c.args.under c.args.functor T c.args.maps.0 c.args.maps.1) mid c.in_ok-seal_type.ensures.sealed
    (type_elements (world_of mid.world mid.maps) T) (type_maps (world_of mid.world mid.maps) c.args.functor T) made c.in_ok-made.ensures.elements (λ answer after is. is))
    c.declare_numbered.ensures.stop
