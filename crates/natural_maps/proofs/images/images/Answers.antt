use Rattle.std.proofs.Common.{◌-◌, get_or, length, arith}
use Rattle.topos_model.specs.declared.raw.RawEntry.{RawEntry}
use Rattle.natural_maps.proofs.Offsets.{place_within}
use Rattle.natural_maps.proofs.ListedImages.{offset_at, no_images_yet, images_more}
use Rattle.natural_maps.proofs.images.images.Goals as goal

pub bounds-offsets-sizes : goal.bounds-offsets-sizes
bounds-offsets-sizes c = (offset_at c.args.sizes.now c.args.offsets.now (length c.args.sizes.now) c.requires.offsets (omega arith)).0

pub loop-i-init : goal.loop-i-init
loop-i-init c =
    let o = offset_at c.args.sizes.now c.args.offsets.now (length c.args.sizes.now) c.requires.offsets (omega arith) in
    rw (c.in_ok-images.ensures, o.1) (no_images_yet c.args.sizes.now c.args.entries.now (length c.args.entries.now) (omega arith))

pub bounds-offsets-entry : goal.bounds-offsets-entry
bounds-offsets-entry c =
    let w = c.requires.within (c.loop-i.i - 1) (record { at = 0; from = 0; to = 0 }) (omega arith) in
    let e : RawEntry = get_or c.args.entries.now (c.loop-i.i - 1) (record { at = 0; from = 0; to = 0 }) in
    (offset_at c.args.sizes.now c.args.offsets.now e.at c.requires.offsets (omega (arith, w.0))).0

pub overflow_add-offsets : goal.overflow_add-offsets
overflow_add-offsets c =
    let w = c.requires.within (c.loop-i.i - 1) (record { at = 0; from = 0; to = 0 }) (omega arith) in
    let e : RawEntry = get_or c.args.entries.now (c.loop-i.i - 1) (record { at = 0; from = 0; to = 0 }) in
    let o = offset_at c.args.sizes.now c.args.offsets.now e.at c.requires.offsets (omega (arith, w.0)) in
    let p = place_within c.args.sizes.now e.at e.from w.0 w.1 in
    rw o.1 (omega (arith, p, c.loop-i.invariant.places, c.loop-i.images.ok.0, c.loop-i.images.small))

pub index_mut-requires : goal.index_mut-requires
index_mut-requires c =
    let w = c.requires.within (c.loop-i.i - 1) (record { at = 0; from = 0; to = 0 }) (omega arith) in
    let e : RawEntry = get_or c.args.entries.now (c.loop-i.i - 1) (record { at = 0; from = 0; to = 0 }) in
    let o = offset_at c.args.sizes.now c.args.offsets.now e.at c.requires.offsets (omega (arith, w.0)) in
    let p = place_within c.args.sizes.now e.at e.from w.0 w.1 in
    rw o.1 (omega (arith, p, c.loop-i.invariant.places, c.loop-i.images.ok.0))

pub loop-i-preserved : goal.loop-i-preserved
loop-i-preserved c =
    let w = c.requires.within (c.loop-i.i - 1) (record { at = 0; from = 0; to = 0 }) (omega arith) in
    let e : RawEntry = get_or c.args.entries.now (c.loop-i.i - 1) (record { at = 0; from = 0; to = 0 }) in
    let o = offset_at c.args.sizes.now c.args.offsets.now e.at c.requires.offsets (omega (arith, w.0)) in
    rw o.1 (images_more c.args.sizes.now c.args.entries.now (c.loop-i.i - 1) c.loop-i.i c.loop-i.images.items (record { at = 0; from = 0; to = 0 }) (omega arith) (omega arith) w.0 w.1 c.loop-i.invariant)
