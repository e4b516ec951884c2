use Rattle.std.proofs.Common.{[], ◌∷◌, sym, subst, ◌∙◌}
use Rattle.topos_model.specs.formulas.Forcing.{value}
use Rattle.truth_tables.specs.Standing.{IsNumberTable}
use Rattle.formula_answers.specs.MapTables.{ends_of}
use Rattle.formula_answers.specs.Formulas.{world_of}
use Rattle.term_objects.proofs.OneVariable.{held_one, few_one, known_one}
use Rattle.term_objects.proofs.TermNumbers.{term_map_is}
use Rattle.term_objects.proofs.term_maps.term_map.Goals as goal

pub scope-requires-clause-held : goal.scope-requires-clause-held
scope-requires-clause-held c =
    let (U, h) = c.requires.known in
    held_one c.args.world.now c.args.maps.now c.interpreter-interpreter.result c.interpreter-interpreter.ensures.serves c.args.ty.now c.args.term.now U h c.as_slice.result.now (c.as_slice.ensures ∙ c.in_ok-types.ensures)

pub term_values-requires-clause-objects : goal.term_values-requires-clause-objects
term_values-requires-clause-objects c =
    let (U, h) = c.requires.known in
    let w = c.args.world.now in
    let tables = c.args.maps.now in
    let serves = c.interpreter-interpreter.ensures.serves in
    few_one w tables c.interpreter-interpreter.result serves c.args.ty.now c.args.term.now U h c.as_slice.result.now (c.as_slice.ensures ∙ c.in_ok-types.ensures) c.in_ok-context.context
    (c.in_ok-context.ensures.scope (world_of w tables) (ends_of tables) serves.knows)

pub term_values-requires-clause-known : goal.term_values-requires-clause-known
term_values-requires-clause-known c =
    let (U, h) = c.requires.known in
    let w = c.args.world.now in
    let tables = c.args.maps.now in
    let serves = c.interpreter-interpreter.ensures.serves in (
      world_of w tables,
      ends_of tables,
      c.args.ty.now ∷ [],
      U,
      known_one w tables c.interpreter-interpreter.result serves c.args.ty.now c.args.term.now U h c.as_slice.result.now (c.as_slice.ensures ∙ c.in_ok-types.ensures) c.in_ok-context.context
          (c.in_ok-context.ensures.scope (world_of w tables) (ends_of tables) serves.knows),
    )

pub returns : goal.returns
returns c = record {
  map = λ U h.
      let w = c.args.world.now in
      let tables = c.args.maps.now in
      let serves = c.interpreter-interpreter.ensures.serves in
      let known = known_one w tables c.interpreter-interpreter.result serves c.args.ty.now c.args.term.now U h c.as_slice.result.now (c.as_slice.ensures ∙ c.in_ok-types.ensures) c.in_ok-context.context
      (c.in_ok-context.ensures.scope (world_of w tables) (ends_of tables) serves.knows) in
      let valued = c.in_ok-values.ensures.values (world_of w tables) (ends_of tables) (c.args.ty.now ∷ []) U known in
      let stands = subst (IsNumberTable (world_of w tables) (c.args.ty.now ∷ []) U (value (world_of w tables) c.args.term.now)) (sym c.in_ok-rows.ensures) valued.stands in
      term_map_is w tables c.args.ty.now c.args.term.now U h serves.knows.lawful c.in_ok-rows.rows stands
      c.requires.type_range c.requires.range c.in_ok-dom.dom c.in_ok-values.values.ty c.in_ok-dom.ensures valued.type_is;
}
