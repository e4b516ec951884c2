use Rattle.std.proofs.Common.{◌<◌, ℕ, List, [], ◌∷◌, ◌++◌, map, length, get_or, sym, ap, subst, ◌∙◌, arith}
use Rattle.std.specs.List.{range_with_len}
use Rattle.std.proofs.lemmas.Result.{err_from_is_err_and}
use Rattle.std.proofs.lemmas.List.FromFn.{map-range_with_len_more}
use Rattle.natural_maps.specs.Images.{AreImages}
use Rattle.natural_maps.specs.Components.{listed_component, unlisted_at}
use Rattle.natural_maps.proofs.ListedImages.{offset_at}
use Rattle.natural_maps.proofs.ListedComponents.{piece_within, component_is, missing_is, found_same, found_at}
use Rattle.presheaf_core.proofs.SearchFrom.{first_from-none}
use Rattle.natural_maps.proofs.components.components.Goals as goal

pub bounds-starts-place : goal.bounds-starts-place
bounds-starts-place c =
    (offset_at c.args.sizes.now c.as_slice-starts.result.now c.loop-c.c (c.as_slice-starts.ensures ∙ c.in_ok-offsets.ensures) (omega (arith, c.requires.objects))).0

pub component-requires : goal.component-requires
component-requires c =
    let here = (offset_at c.args.sizes.now c.as_slice-starts.result.now c.loop-c.c (c.as_slice-starts.ensures ∙ c.in_ok-offsets.ensures) (omega (arith, c.requires.objects))).1 in
    let are = subst (AreImages c.args.sizes.now c.args.entries.now) (sym c.deref.ensures.value) c.in_ok-images.ensures in
    piece_within c.args.sizes.now c.args.entries.now c.deref.result.now c.loop-c.c (get_or c.as_slice-starts.result.now c.loop-c.c 0) (omega (arith, c.requires.objects)) here are

pub returns-in_err-row-clause-fault : goal.returns-in_err-row-clause-fault
returns-in_err-row-clause-fault c =
    let sizes = c.args.sizes.now in
    let entries = c.args.entries.now in
    let here = (offset_at sizes c.as_slice-starts.result.now c.loop-c.c (c.as_slice-starts.ensures ∙ c.in_ok-offsets.ensures) (omega (arith, c.requires.objects))).1 in
    let are = subst (AreImages sizes entries) (sym c.deref.ensures.value) c.in_ok-images.ensures in
    let low : c.loop-c.c < length sizes = omega (arith, c.requires.objects) in
    let p = err_from_is_err_and c.from_residual-in_err-row.result c.from_residual-in_err-row.ensures.1 in
    rw (p.1, p.2)
    (found_at (unlisted_at sizes entries) _ c.loop-c.c c.args.objects _ (omega arith) c.loop-c.invariant.search
    (found_same _ _ _ (missing_is sizes entries c.deref.result.now c.loop-c.c (get_or c.as_slice-starts.result.now c.loop-c.c 0) low here are) c.in_err-row.ensures.fault))

pub loop-c-preserved : goal.loop-c-preserved
loop-c-preserved c =
    let sizes = c.args.sizes.now in
    let entries = c.args.entries.now in
    let here = (offset_at sizes c.as_slice-starts.result.now c.loop-c.c (c.as_slice-starts.ensures ∙ c.in_ok-offsets.ensures) (omega (arith, c.requires.objects))).1 in
    let are = subst (AreImages sizes entries) (sym c.deref.ensures.value) c.in_ok-images.ensures in
    let low : c.loop-c.c < length sizes = omega (arith, c.requires.objects) in
    let start = get_or c.as_slice-starts.result.now c.loop-c.c 0 in
    record {
      rows =
          c.in_ok-push.ensures.ok ∙ ap (λ (l : List (List ℕ)). l ++ c.in_ok-row.row ∷ []) c.loop-c.invariant.rows
          ∙ ap (λ (r : List ℕ). map (listed_component sizes entries) (range_with_len 0 c.loop-c.c) ++ r ∷ []) (c.in_ok-row.ensures.row ∙ component_is sizes entries c.deref.result.now c.loop-c.c start low here are)
          ∙ sym (map-range_with_len_more (listed_component sizes entries) 0 c.loop-c.c c.loop-c.c (omega arith));
      search =
          c.loop-c.invariant.search
          ∙ first_from-none (unlisted_at sizes entries) c.loop-c.c c.args.objects (omega arith) (sym (missing_is sizes entries c.deref.result.now c.loop-c.c start low here are) ∙ c.in_ok-row.ensures.total);
    }
