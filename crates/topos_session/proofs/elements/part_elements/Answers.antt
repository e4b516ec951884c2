use Rattle.std.proofs.Common.{◌≡◌, ◌<◌, ℕ, List, [], length, get_or, map, ap, subst, ◌∙◌}
use Rattle.finite_lists.specs.Members.{In}
use Rattle.topos_model.specs.declared.ty.Ty.{Omega}
use Rattle.topos_model.specs.declared.value.Val.{Val, Star}
use Rattle.topos_model.specs.declared.context.MapTable.{MapTable}
use Rattle.topos_model.specs.Laws.{IsCategory}
use Rattle.topos_model.specs.types.Types.{elements}
use Rattle.truth_tables.specs.Tables.{row}
use Rattle.term_objects.specs.TermObjects.{IsSubobject}
use Rattle.term_objects.proofs.SubobjectTables.{inclusion_long, inclusion_within}
use Rattle.topos_session.specs.Elements.{numbers_shape}
use Rattle.topos_session.proofs.ElementPresheaves.{one_item, type_names, variable_counted, part_made}
use Rattle.topos_session.proofs.elements.part_elements.Goals as goal

pub type_values-requires-clause-named : goal.type_values-requires-clause-named
type_values-requires-clause-named c = type_names (length c.args.so.now.world.functors) c.args.ty.now c.requires.range

pub type_values-requires-clause-counted : goal.type_values-requires-clause-counted
type_values-requires-clause-counted c = variable_counted c.args.so.now.world c.args.so.now.maps c.args.ty.now Omega c.args.phi.now c.requires.formula.counted

pub type_values-requires-clause-objects : goal.type_values-requires-clause-objects
type_values-requires-clause-objects c =
    let so = c.args.so.now in
    let T = c.args.ty.now in
    let φ = c.args.phi.now in
    let made = c.in_ok-made.made in
    let is = subst (λ (m : List MapTable). IsSubobject so.world m T φ made) c.tables.ensures c.in_ok-made.ensures.subobject in
    ap length c.as_slice.ensures ∙ inclusion_long so.world so.maps T φ made is

pub type_values-requires-clause-elements : goal.type_values-requires-clause-elements
type_values-requires-clause-elements c =
    let so = c.args.so.now in
    let T = c.args.ty.now in
    let φ = c.args.phi.now in
    let made = c.in_ok-made.made in
    let is = subst (λ (m : List MapTable). IsSubobject so.world m T φ made) c.tables.ensures c.in_ok-made.ensures.subobject in
    λ a x low i.
    inclusion_within so.world so.maps T φ made is a x (subst (λ (r : List (List ℕ)). a < length r) c.as_slice.ensures low) (subst (λ (r : List (List ℕ)). In (get_or r a []) x) c.as_slice.ensures i)

pub returns-clause-elements : goal.returns-clause-elements
returns-clause-elements c =
    let so = c.args.so.now in
    let T = c.args.ty.now in
    let φ = c.args.phi.now in
    let z = c.args.functor in
    let made = c.in_ok-made.made in
    let values = c.in_ok-values.values in
    let is = subst (λ (m : List MapTable). IsSubobject so.world m T φ made) c.tables.ensures c.in_ok-made.ensures.subobject in
    part_made so c.requires.lawful (subst IsCategory c.cat.ensures c.laws.ensures.lawful) z c.requires.next T c.requires.range φ made is values
    (subst (λ (r : List (List ℕ)). values ≡ row (length r) (λ a. map (λ x. get_or (elements so.world.site so.world.functors T a) x Star) (get_or r a []))) c.as_slice.ensures c.in_ok-values.ensures.values)
    c.push-2.new.self c.push.new.self
    (one_item c.new-tables.result c.push-2.new.self c.in_ok-to_elements.field-0 _ c.new-tables.ensures c.in_ok-push-2.ensures.ok c.in_ok-to_elements.ensures)
    (one_item c.new-shapes.result c.push.new.self c.in_ok-numbers_shape.field-0 _ c.new-shapes.ensures c.in_ok-push.ensures.ok (c.in_ok-numbers_shape.ensures ∙ ap (λ (v : List (List Val)). numbers_shape z T v) c.as_slice-2.ensures))
