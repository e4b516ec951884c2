use Rattle.std.proofs.Common.{◌<◌, ◌^◌, length, reverse, sym, subst}
use Rattle.std.proofs.lemmas.Result.{IfOk-weaker}
use Rattle.topos_model.specs.declared.ty.Ty.{Omega}
use Rattle.topos_model.specs.formulas.Forcing.{forces}
use Rattle.formula_answers.specs.MapTables.{ends_of}
use Rattle.formula_answers.specs.Formulas.{world_of}
use Rattle.formula_answers.proofs.ServedFormulas.{product_held, known, few_objects, some_sizes, truths_known}
use Rattle.formula_answers.proofs.answers.tuples_where.Goals as goal

pub interpreter-interpreter-requires : goal.interpreter-interpreter-requires
interpreter-interpreter-requires c = record { maps = c.requires.formula.maps }

pub scope-requires-clause-held : goal.scope-requires-clause-held
scope-requires-clause-held c = product_held c.args.world.now c.args.maps.now c.interpreter-interpreter.result c.interpreter-interpreter.ensures.serves (reverse c.args.types.now) c.args.formula.now Omega c.requires.formula

pub formula_truths-requires-clause-objects : goal.formula_truths-requires-clause-objects
formula_truths-requires-clause-objects c =
    let serves = c.interpreter-interpreter.ensures.serves in
    few_objects c.args.world.now c.args.maps.now c.interpreter-interpreter.result serves (reverse c.args.types.now) c.args.formula.now Omega c.requires.formula c.in_ok-context.context (c.in_ok-context.ensures.scope (world_of c.args.world.now c.args.maps.now) (ends_of c.args.maps.now) serves.knows)

pub formula_truths-requires-clause-known : goal.formula_truths-requires-clause-known
formula_truths-requires-clause-known c =
    let serves = c.interpreter-interpreter.ensures.serves in
    let Γ = reverse c.args.types.now in
    (world_of c.args.world.now c.args.maps.now, ends_of c.args.maps.now, Γ, known c.args.world.now c.args.maps.now c.interpreter-interpreter.result serves Γ c.args.formula.now Omega c.requires.formula c.in_ok-context.context (c.in_ok-context.ensures.scope (world_of c.args.world.now c.args.maps.now) (ends_of c.args.maps.now) serves.knows))

pub tuples-requires : goal.tuples-requires
tuples-requires c =
    let serves = c.interpreter-interpreter.ensures.serves in
    some_sizes c.args.world.now c.args.maps.now c.interpreter-interpreter.result serves (reverse c.args.types.now) c.args.formula.now Omega c.requires.formula c.in_ok-context.context (c.in_ok-context.ensures.scope (world_of c.args.world.now c.args.maps.now) (ends_of c.args.maps.now) serves.knows)

pub tuples_with-requires-clause-objects : goal.tuples_with-requires-clause-objects
tuples_with-requires-clause-objects c =
    let serves = c.interpreter-interpreter.ensures.serves in
    subst (λ l. length l < 2 ^ 32) (sym c.tuples.ensures)
    (few_objects c.args.world.now c.args.maps.now c.interpreter-interpreter.result serves (reverse c.args.types.now) c.args.formula.now Omega c.requires.formula c.in_ok-context.context (c.in_ok-context.ensures.scope (world_of c.args.world.now c.args.maps.now) (ends_of c.args.maps.now) serves.knows))

pub tuples_with-requires-clause-known : goal.tuples_with-requires-clause-known
tuples_with-requires-clause-known c =
    let w = world_of c.args.world.now c.args.maps.now in
    let serves = c.interpreter-interpreter.ensures.serves in
    let Γ = reverse c.args.types.now in
    let scope = c.in_ok-context.ensures.scope w (ends_of c.args.maps.now) serves.knows in
    let whole = known c.args.world.now c.args.maps.now c.interpreter-interpreter.result serves Γ c.args.formula.now Omega c.requires.formula c.in_ok-context.context scope in (
      w,
      forces w c.args.formula.now,
      truths_known c.args.world.now c.args.maps.now c.interpreter-interpreter.result serves Γ c.args.formula.now Omega c.requires.formula c.in_ok-context.context scope
          c.elements.result c.tuples.result.now c.elements.ensures c.tuples.ensures c.in_ok-truths.truths (c.in_ok-truths.ensures.truths w (ends_of c.args.maps.now) Γ whole),
    )

pub returns : goal.returns
returns c =
    let w = world_of c.args.world.now c.args.maps.now in
    let serves = c.interpreter-interpreter.ensures.serves in
    let Γ = reverse c.args.types.now in
    let scope = c.in_ok-context.ensures.scope w (ends_of c.args.maps.now) serves.knows in
    let whole = known c.args.world.now c.args.maps.now c.interpreter-interpreter.result serves Γ c.args.formula.now Omega c.requires.formula c.in_ok-context.context scope in
    IfOk-weaker c.tuples_with.result _ _
    (λ stages is.
    is w (forces w c.args.formula.now)
    (truths_known c.args.world.now c.args.maps.now c.interpreter-interpreter.result serves Γ c.args.formula.now Omega c.requires.formula c.in_ok-context.context scope
    c.elements.result c.tuples.result.now c.elements.ensures c.tuples.ensures c.in_ok-truths.truths (c.in_ok-truths.ensures.truths w (ends_of c.args.maps.now) Γ whole)))
    c.tuples_with.ensures
