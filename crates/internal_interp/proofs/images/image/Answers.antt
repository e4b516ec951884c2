use Rattle.std.proofs.Common.{◌≡◌, get_or, sym, ap, ◌∙◌}
use Rattle.std.proofs.lemmas.List.{get_or_read}
use Rattle.topos_model.specs.declared.context.MapTable.{MapTable}
use Rattle.internal_interp.proofs.ImageFacts.{no_map, map_parts, map_type, unnumbered_type, unnumbered_stands}
use Rattle.internal_interp.proofs.images.image.Goals as goal

pub image_table-requires-clause-parts : goal.image_table-requires-clause-parts
image_table-requires-clause-parts c =
    let (w, maps, Γ, t, h) = c.requires.known in
    let table = c.index-interpreter-map.result in
    let is : table ≡ get_or c.args.interpreter.now.maps.now c.args.map no_map = get_or_read c.args.interpreter.now.maps.now c.args.map table c.if-map-interpreter.true c.index-interpreter-map.is no_map in (
      w,
      Γ,
      c.args.map,
      _,
      _,
      t,
      map_parts w maps c.args.interpreter.now Γ c.args.map c.args.context.now t c.args.argument h c.if-map-interpreter.true table is _ _ c.tuples.ensures
          (c.as_slice.ensures ∙ ap (λ (x : MapTable). x.rows) (sym c.index-interpreter-map.is)),
    )

pub returns : goal.returns
returns c = λ w maps Γ t h. record {
  type_is = unnumbered_type w maps c.args.interpreter.now Γ c.args.map c.args.context.now t c.args.argument h c.if-map-interpreter.false;
  stands = unnumbered_stands w maps c.args.interpreter.now Γ c.args.map c.args.context.now t c.args.argument h c.if-map-interpreter.false _ (c.in_ok-numbers-2.ensures.stands w Γ (c.tuples-2.ensures ∙ h.known.scope.known.counted));
}

pub returns-then-map-interpreter : goal.returns-then-map-interpreter
returns-then-map-interpreter c = λ w maps Γ t h.
    let table = c.index-interpreter-map.result in
    let is : table ≡ get_or c.args.interpreter.now.maps.now c.args.map no_map = get_or_read c.args.interpreter.now.maps.now c.args.map table c.if-map-interpreter.true c.index-interpreter-map.is no_map in
    record {
      type_is = c.in_ok-ty.ensures ∙ ap (λ (x : MapTable). x.ends.cod) (sym c.index-interpreter-map.is) ∙ map_type w maps c.args.interpreter.now Γ c.args.map c.args.context.now t c.args.argument h c.if-map-interpreter.true table is;
      stands = c.in_ok-numbers.ensures.stands w Γ c.args.map _ _ t
          (map_parts w maps c.args.interpreter.now Γ c.args.map c.args.context.now t c.args.argument h c.if-map-interpreter.true table is _ _ c.tuples.ensures
          (c.as_slice.ensures ∙ ap (λ (x : MapTable). x.rows) (sym c.index-interpreter-map.is)));
    }
