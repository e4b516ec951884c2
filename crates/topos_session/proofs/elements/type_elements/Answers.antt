use Rattle.std.proofs.Common.{◌≡◌, ℕ, List, [], length, get_or, map, sym, ap, subst, ◌∙◌}
use Rattle.topos_model.specs.declared.ty.Ty.{Base}
use Rattle.topos_model.specs.declared.value.Val.{Val, Star}
use Rattle.topos_model.specs.declared.context.MapTable.{MapTable}
use Rattle.topos_model.specs.Laws.{IsCategory}
use Rattle.topos_model.specs.types.Types.{elements}
use Rattle.truth_tables.specs.Tables.{row}
use Rattle.topos_session.specs.Elements.{numbers_shape, elements_shape}
use Rattle.topos_session.proofs.ElementPresheaves.{two_items, type_names, numbers_within, type_made}
use Rattle.topos_session.proofs.elements.type_elements.Goals as goal

pub type_presheaf-requires-clause-named : goal.type_presheaf-requires-clause-named
type_presheaf-requires-clause-named c = type_names (length c.args.so.now.world.functors) c.args.ty.now c.requires.range

pub type_values-requires-clause-named : goal.type_values-requires-clause-named
type_values-requires-clause-named c = type_names (length c.args.so.now.world.functors) c.args.ty.now c.requires.range

pub type_values-requires-clause-elements : goal.type_values-requires-clause-elements
type_values-requires-clause-elements c =
    let so = c.args.so.now in
    numbers_within so c.requires.lawful (subst IsCategory c.cat.ensures c.laws.ensures.lawful) c.args.functor c.requires.next c.args.ty.now c.requires.range c.in_ok-made.made c.in_ok-made.ensures.value
    c.as_slice.result.now (c.as_slice.ensures ∙ c.in_ok-numbers.ensures)

pub returns-clause-elements : goal.returns-clause-elements
returns-clause-elements c =
    let so = c.args.so.now in
    let T = c.args.ty.now in
    let z = c.args.functor in
    let values = c.in_ok-values.values in
    let back : List (List ℕ) → MapTable = λ rows. record { ends = record { dom = T; cod = Base z }; rows = rows } in
    type_made so c.requires.lawful (subst IsCategory c.cat.ensures c.laws.ensures.lawful) z c.requires.next T c.requires.range c.in_ok-made.made c.in_ok-made.ensures.value c.in_ok-numbers.numbers c.in_ok-numbers.ensures values
    (subst (λ (r : List (List ℕ)). values ≡ row (length r) (λ a. map (λ x. get_or (elements so.world.site so.world.functors T a) x Star) (get_or r a []))) c.as_slice.ensures c.in_ok-values.ensures.values)
    c.push-4.new.self c.push-2.new.self c.in_ok-made.ensures.lawful
    (two_items c.new-tables.result c.push-3.new.self c.push-4.new.self c.in_ok-to_elements.field-0 c.in_ok-to_numbers.field-0 _ _ c.new-tables.ensures c.in_ok-push-3.ensures.ok c.in_ok-push-4.ensures.ok c.in_ok-to_elements.ensures
    (c.in_ok-to_numbers.ensures ∙ ap back (c.in_ok-back.ensures ∙ sym c.in_ok-numbers.ensures)))
    (two_items c.new-shapes.result c.push.new.self c.push-2.new.self c.in_ok-numbers_shape.field-0 c.in_ok-elements_shape.field-0 _ _ c.new-shapes.ensures c.in_ok-push.ensures.ok c.in_ok-push-2.ensures.ok
    (c.in_ok-numbers_shape.ensures ∙ ap (λ (v : List (List Val)). numbers_shape z T v) c.as_slice-2.ensures) (c.in_ok-elements_shape.ensures ∙ ap (λ (v : List (List Val)). elements_shape z T v) c.as_slice-3.ensures))
