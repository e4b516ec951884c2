use Rattle.std.proofs.Common.{◌≡◌, ℕ, List, [], ◌∷◌, reverse, length, Option, Some, refl, sym, ap, subst, ◌∙◌}
use Rattle.std.proofs.lemmas.Result.{err_from_is_err_and, IfErr-weaker}
use Rattle.topos_model.specs.declared.ty.Ty.{Ty}
use Rattle.topos_model.specs.declared.stmt.Stmt.TheVariants.{Sub}
use Rattle.topos_model.specs.statements.Needs.{term_needs}
use Rattle.topos_model.specs.statements.StatementFaults.{formula_fault}
use Rattle.formula_answers.specs.MapTables.{ends_of}
use Rattle.formula_answers.specs.Formulas.{world_of}
use Rattle.topos_session.specs.Elements.{part_elements, part_maps, IsUnstored}
use Rattle.topos_session.specs.Statements.{map_needs, AreNeedsSealed, IsNeedsStop, IsStoppedOver}
use Rattle.topos_session.proofs.LawfulDeclarations.{unchanged_kept}
use Rattle.topos_session.proofs.StatementForms.{declares-Sub}
use Rattle.topos_session.proofs.FormulaStatements.{formula_over_one}
use Rattle.topos_session.proofs.SealedNeeds.{needs_kept, needs_stopped}
use Rattle.topos_session.proofs.ElementStatements.{needs-Sub, elements_declared, elements_unstored}
use Rattle.topos_session.proofs.elements.declare_part.Goals as goal

pub returns-in_err-one-clause-unchanged : goal.returns-in_err-one-clause-unchanged
returns-in_err-one-clause-unchanged c = let p = err_from_is_err_and c.from_residual.result c.from_residual.ensures.1 in rw p.1 (unchanged_kept c.args.so.now c.args.so.now refl)

pub seal_formula-requires-clause-range : goal.seal_formula-requires-clause-range
seal_formula-requires-clause-range c =
    formula_over_one (length c.args.so.now.world.functors) (length c.args.so.now.maps) c.in_ok-one.one c.args.ty.now c.args.phi.now c.in_ok-one.ensures c.requires.type_range c.requires.range

pub returns-in_err-seal_formula-clause-stop : goal.returns-in_err-seal_formula-clause-stop
returns-in_err-seal_formula-clause-stop c =
    let so = c.args.so.now in
    let T = c.args.ty.now in
    let φ = c.args.phi.now in
    let p = err_from_is_err_and c.from_residual-in_err-seal_formula.result c.from_residual-in_err-seal_formula.ensures.1 in
    let s = c.in_err-seal_formula.field-0.0 in
    let h = subst (λ (l : List Ty). IsNeedsStop c.args.under (formula_fault (ends_of so.maps) (reverse l, φ)) (term_needs (ends_of so.maps) (reverse l) φ) so s) c.in_ok-one.ensures c.in_err-seal_formula.ensures.stop in
    rw (p.1, p.2) (needs_stopped so.world.site.category so (Sub c.args.under c.args.functor T φ c.args.map) c.args.under (formula_fault (ends_of so.maps) (T ∷ [], φ)) (map_needs so.maps T φ) refl
    (needs-Sub so.maps c.args.under c.args.functor T φ c.args.map) s h)

pub returns-in_err-made-clause-unchanged : goal.returns-in_err-made-clause-unchanged
returns-in_err-made-clause-unchanged c =
    let so = c.args.so.now in
    let φ = c.args.phi.now in
    let p = err_from_is_err_and c.from_residual-in_err-made.result c.from_residual-in_err-made.ensures.1 in
    let l = c.in_ok-one.one.types in
    rw p.1 (needs_kept c.args.under (formula_fault (ends_of so.maps) (reverse l, φ)) (term_needs (ends_of so.maps) (reverse l) φ) so c.seal_formula.new.so c.in_ok-seal_formula.ensures.sealed.needs)

pub returns-clause-answer : goal.returns-clause-answer
returns-clause-answer c =
    let so = c.args.so.now in
    let mid = c.seal_formula.new.so in
    let T = c.args.ty.now in
    let φ = c.args.phi.now in
    let made = c.in_ok-made.made in
    let h = subst (λ (l : List Ty). AreNeedsSealed c.args.under (formula_fault (ends_of so.maps) (reverse l, φ)) (term_needs (ends_of so.maps) (reverse l) φ) so mid) c.in_ok-one.ensures c.in_ok-seal_formula.ensures.sealed.needs in
    let one : ◌≡◌ {A = Option (ℕ × ℕ)} (Some (1, 1)) (Some (1, length made.tables)) = ap (λ n. Some (1, n)) (sym c.in_ok-made.ensures.map) in
    elements_declared so (Sub c.args.under c.args.functor T φ c.args.map) c.args.under (formula_fault (ends_of so.maps) (T ∷ [], φ)) (map_needs so.maps T φ) refl (needs-Sub so.maps c.args.under c.args.functor T φ c.args.map) mid h
    (part_elements (world_of mid.world mid.maps) T φ) (part_maps (world_of mid.world mid.maps) c.args.functor T φ) made c.in_ok-made.ensures.elements (λ answer after is. is) c.requires.lawful
    (declares-Sub c.args.under c.args.functor T φ c.args.map ∙ one) c.declare_numbered.result c.declare_numbered.new.so c.declare_numbered.ensures.shown c.declare_numbered.ensures.declared c.declare_numbered.ensures.within

pub returns-clause-stop : goal.returns-clause-stop
returns-clause-stop c =
    let so = c.args.so.now in
    let mid = c.seal_formula.new.so in
    let T = c.args.ty.now in
    let φ = c.args.phi.now in
    let made = c.in_ok-made.made in
    let stmt = Sub c.args.under c.args.functor T φ c.args.map in
    let h = subst (λ (l : List Ty). AreNeedsSealed c.args.under (formula_fault (ends_of so.maps) (reverse l, φ)) (term_needs (ends_of so.maps) (reverse l) φ) so mid) c.in_ok-one.ensures c.in_ok-seal_formula.ensures.sealed.needs in
    IfErr-weaker c.declare_numbered.result (IsUnstored mid made.functor) (IsStoppedOver so.world.site.category so stmt)
    (elements_unstored so stmt c.args.under (formula_fault (ends_of so.maps) (T ∷ [], φ)) (map_needs so.maps T φ) refl (needs-Sub so.maps c.args.under c.args.functor T φ c.args.map) mid h
    (part_elements (world_of mid.world mid.maps) T φ) (part_maps (world_of mid.world mid.maps) c.args.functor T φ) made c.in_ok-made.ensures.elements (λ answer after is. is))
    c.declare_numbered.ensures.stop
