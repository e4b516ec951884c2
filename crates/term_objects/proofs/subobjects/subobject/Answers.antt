use Rattle.std.proofs.Common.{[], ◌∷◌, sym, ap, ◌∙◌}
use Rattle.std.proofs.lemmas.Result.{IfOk-weaker}
use Rattle.topos_model.specs.declared.ty.Ty.{Omega}
use Rattle.topos_model.specs.topologies.Cover.{Site}
use Rattle.formula_answers.specs.MapTables.{ends_of}
use Rattle.formula_answers.specs.Formulas.{world_of}
use Rattle.term_objects.proofs.OneVariable.{held_one, scope_one, few_one, known_one}
use Rattle.term_objects.proofs.SubobjectTables.{satisfies, true_elements, part_satisfies}
use Rattle.term_objects.proofs.subobjects.subobject.Goals as goal

pub scope-requires-clause-held : goal.scope-requires-clause-held
scope-requires-clause-held c =
    held_one c.args.world.now c.args.maps.now c.interpreter-interpreter.result c.interpreter-interpreter.ensures.serves c.args.ty.now c.args.formula.now Omega c.requires.formula c.as_slice.result.now
    (c.as_slice.ensures ∙ c.in_ok-types.ensures)

pub formula_truths-requires-clause-objects : goal.formula_truths-requires-clause-objects
formula_truths-requires-clause-objects c =
    let w = c.args.world.now in
    let tables = c.args.maps.now in
    let serves = c.interpreter-interpreter.ensures.serves in
    few_one w tables c.interpreter-interpreter.result serves c.args.ty.now c.args.formula.now Omega c.requires.formula c.as_slice.result.now (c.as_slice.ensures ∙ c.in_ok-types.ensures) c.in_ok-context.context
    (c.in_ok-context.ensures.scope (world_of w tables) (ends_of tables) serves.knows)

pub formula_truths-requires-clause-known : goal.formula_truths-requires-clause-known
formula_truths-requires-clause-known c =
    let w = c.args.world.now in
    let tables = c.args.maps.now in
    let serves = c.interpreter-interpreter.ensures.serves in (
      world_of w tables,
      ends_of tables,
      c.args.ty.now ∷ [],
      known_one w tables c.interpreter-interpreter.result serves c.args.ty.now c.args.formula.now Omega c.requires.formula c.as_slice.result.now (c.as_slice.ensures ∙ c.in_ok-types.ensures) c.in_ok-context.context
          (c.in_ok-context.ensures.scope (world_of w tables) (ends_of tables) serves.knows),
    )

pub part-requires : goal.part-requires
part-requires c =
    let w = c.args.world.now in
    let tables = c.args.maps.now in
    let T = c.args.ty.now in
    let φ = c.args.formula.now in
    let i = c.interpreter-interpreter.result in
    let serves = c.interpreter-interpreter.ensures.serves in
    let one = c.as_slice.ensures ∙ c.in_ok-types.ensures in
    let scope = c.in_ok-context.ensures.scope (world_of w tables) (ends_of tables) serves.knows in
    let known = known_one w tables i serves T φ Omega c.requires.formula c.as_slice.result.now one c.in_ok-context.context scope in
    let sealed = (scope_one w tables i serves T φ Omega c.requires.formula c.as_slice.result.now one c.in_ok-context.context scope).known in
    let stands = c.in_ok-truths.ensures.truths (world_of w tables) (ends_of tables) (T ∷ []) known in
    record {
      known = (
        w.site,
        w.functors,
        T,
        satisfies w tables T φ,
        true_elements w tables T φ c.requires.formula serves.knows.lawful c.in_ok-truths.truths stands c.cat.result.now i.store.now c.in_ok-context.context.place
            (c.cat.ensures ∙ ap (λ (s : Site). s.category) (sym serves.knows.site)) serves.knows.faithful (record { low = sealed.sealed; key = sealed.key }),
      );
    }

pub returns : goal.returns
returns c =
    let w = c.args.world.now in
    let tables = c.args.maps.now in
    let T = c.args.ty.now in
    let φ = c.args.formula.now in
    let i = c.interpreter-interpreter.result in
    let serves = c.interpreter-interpreter.ensures.serves in
    let one = c.as_slice.ensures ∙ c.in_ok-types.ensures in
    let scope = c.in_ok-context.ensures.scope (world_of w tables) (ends_of tables) serves.knows in
    let known = known_one w tables i serves T φ Omega c.requires.formula c.as_slice.result.now one c.in_ok-context.context scope in
    let sealed = (scope_one w tables i serves T φ Omega c.requires.formula c.as_slice.result.now one c.in_ok-context.context scope).known in
    let stands = c.in_ok-truths.ensures.truths (world_of w tables) (ends_of tables) (T ∷ []) known in
    let true_ones = true_elements w tables T φ c.requires.formula serves.knows.lawful c.in_ok-truths.truths stands c.cat.result.now i.store.now c.in_ok-context.context.place
    (c.cat.ensures ∙ ap (λ (s : Site). s.category) (sym serves.knows.site)) serves.knows.faithful (record { low = sealed.sealed; key = sealed.key }) in
    record { subobject = IfOk-weaker c.part.result _ _ (λ made is. part_satisfies w tables T φ made (is w.site w.functors T (satisfies w tables T φ) true_ones)) c.part.ensures }
