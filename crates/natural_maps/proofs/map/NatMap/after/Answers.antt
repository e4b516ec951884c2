use Rattle.std.proofs.Common.{◌≡◌, ◌<◌, ℕ, List, [], ◌∷◌, ◌++◌, length, get_or, take, sym, ap, ◌∙◌, arith}
use Rattle.std.proofs.lemmas.Option.{get_or_from_slice_get}
use Rattle.topos_model.specs.presheaves.Maps.{component, after_component, after}
use Rattle.natural_maps.proofs.Composites.{after_none, after_more}
use Rattle.natural_maps.proofs.map.NatMap.after.Goals as goal

pub loop-c-init : goal.loop-c-init
loop-c-init c = c.new-rows.ensures ∙ after_none

pub after_row-requires : goal.after_row-requires
after_row-requires c =
    let n : length c.self.inside.rows ≡ length c.args.self.now = ap length c.self.view_is in
    let low : c.loop-c.c < length c.args.first.now = omega (arith, n, c.requires.objects) in
    let second : c.as_slice.result.now ≡ component c.args.self.now c.loop-c.c =
    c.as_slice.ensures ∙ sym (get_or_from_slice_get c.self.inside.rows c.loop-c.c c.get.result.now [] c.get.ensures) ∙ ap (λ (m : List (List ℕ)). get_or m c.loop-c.c []) c.self.view_is in
    let first : c.as_slice-in-loop-c.result.now ≡ component c.args.first.now c.loop-c.c =
    c.as_slice-in-loop-c.ensures ∙ sym (get_or_from_slice_get c.first.inside.rows c.loop-c.c c.get-in-loop-c.result.now [] c.get-in-loop-c.ensures) ∙ ap (λ (m : List (List ℕ)). get_or m c.loop-c.c []) c.first.view_is in
    rw (first, second) (λ x xs. c.requires.meet c.loop-c.c x low xs)

pub loop-c-preserved : goal.loop-c-preserved
loop-c-preserved c =
    let n : length c.self.inside.rows ≡ length c.args.self.now = ap length c.self.view_is in
    let low : c.loop-c.c < length c.args.self.now = omega (arith, n) in
    let second : c.as_slice.result.now ≡ component c.args.self.now c.loop-c.c =
    c.as_slice.ensures ∙ sym (get_or_from_slice_get c.self.inside.rows c.loop-c.c c.get.result.now [] c.get.ensures) ∙ ap (λ (m : List (List ℕ)). get_or m c.loop-c.c []) c.self.view_is in
    let first : c.as_slice-in-loop-c.result.now ≡ component c.args.first.now c.loop-c.c =
    c.as_slice-in-loop-c.ensures ∙ sym (get_or_from_slice_get c.first.inside.rows c.loop-c.c c.get-in-loop-c.result.now [] c.get-in-loop-c.ensures) ∙ ap (λ (m : List (List ℕ)). get_or m c.loop-c.c []) c.first.view_is in
    c.in_ok-push.ensures.ok ∙ ap (λ (rows : List (List ℕ)). rows ++ c.in_ok-after_row.field-0 ∷ []) c.loop-c.invariant
    ∙ ap (λ (row : List ℕ). after (take c.loop-c.c c.args.self.now) (take c.loop-c.c c.args.first.now) ++ row ∷ []) (c.in_ok-after_row.ensures ∙ ap (λ (s : List ℕ). after_component s c.as_slice-in-loop-c.result.now) second ∙ ap (after_component (component c.args.self.now c.loop-c.c)) first)
    ∙ sym (after_more c.args.self.now c.args.first.now c.loop-c.c low c.requires.objects)
