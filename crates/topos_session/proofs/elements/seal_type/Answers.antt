use Rattle.std.proofs.Common.{◌≡◌, List, [], ◌∷◌, length, None, refl, sym, ap, subst, ◌∙◌}
use Rattle.std.proofs.lemmas.List.{append-nil}
use Rattle.std.specs.List.{flat_map}
use Rattle.finite_lists.specs.Members.{In}
use Rattle.std.proofs.lemmas.Result.{err_from_is_err_and, on_ok_weaker, IfErr-weaker}
use Rattle.topos_model.specs.declared.ty.Ty.{Ty, Base}
use Rattle.topos_model.specs.statements.Needs.{parts}
use Rattle.topos_session.specs.Statements.{IsSealStop, IsTypeUnsealed}
use Rattle.topos_session.proofs.LawfulDeclarations.{unchanged_kept}
use Rattle.topos_session.proofs.FormulaAnswers.{other_topology, seal_stops, needs_sealed}
use Rattle.topos_session.proofs.ElementPresheaves.{type_names}
use Rattle.topos_session.proofs.elements.seal_type.Goals as goal

-- the parts of one type
parts_of_one : (types : List Ty) (T : Ty) → types ≡ T ∷ [] → flat_map parts types ≡ parts T
parts_of_one types T is = ap (flat_map parts) is ∙ append-nil (parts T)

pub returns-then-under-ne0-clause-stop : goal.returns-then-under-ne0-clause-stop
returns-then-under-ne0-clause-stop c = other_topology c.args.so.now c.args.under None (parts c.args.ty.now) c.if-under-ne0.true

pub returns-then-under-ne0-clause-unchanged : goal.returns-then-under-ne0-clause-unchanged
returns-then-under-ne0-clause-unchanged c = unchanged_kept c.args.so.now c.args.so.now refl

pub returns-in_err-one-clause-unchanged : goal.returns-in_err-one-clause-unchanged
returns-in_err-one-clause-unchanged c = let p = err_from_is_err_and c.from_residual.result c.from_residual.ensures.1 in rw p.1 (unchanged_kept c.args.so.now c.args.so.now refl)

pub seal_types-requires-clause-named : goal.seal_types-requires-clause-named
seal_types-requires-clause-named c =
    let so = c.args.so.now in
    λ m i. type_names (length so.world.functors) c.args.ty.now c.requires.range m (subst (λ l. In l (Base m)) (parts_of_one c.as_slice.result.now c.args.ty.now (c.as_slice.ensures ∙ c.in_ok-one.ensures)) i)

pub returns-clause-sealed : goal.returns-clause-sealed
returns-clause-sealed c =
    let so = c.args.so.now in
    let T = c.args.ty.now in
    let types = c.as_slice.result.now in
    let one = parts_of_one types T (c.as_slice.ensures ∙ c.in_ok-one.ensures) in
    on_ok_weaker c.seal_types.result
    (needs_sealed so c.args.under None (parts T) c.if-under-ne0.false refl types (λ U. (λ i. subst (λ l. In l U) one i, λ i. subst (λ l. In l U) (sym one) i)) c.seal_types.new.so)
    c.seal_types.ensures.sealed

pub returns-clause-stop : goal.returns-clause-stop
returns-clause-stop c =
    let so = c.args.so.now in
    let T = c.args.ty.now in
    let types = c.as_slice.result.now in
    let one = parts_of_one types T (c.as_slice.ensures ∙ c.in_ok-one.ensures) in
    IfErr-weaker c.seal_types.result (λ stop. IsSealStop types so stop) (λ stop. IsTypeUnsealed c.args.under T so stop)
    (seal_stops so c.args.under None (parts T) c.if-under-ne0.false refl types (λ U. (λ i. subst (λ l. In l U) one i, λ i. subst (λ l. In l U) (sym one) i)))
    c.seal_types.ensures.stop
