use Rattle.std.proofs.Common.{subst, arith}
use Rattle.std.proofs.lemmas.Option.{get_or_from_slice_get, slice_get_within}
use Rattle.finite_lists.specs.Members.{In}
use Rattle.finite_lists.proofs.Lists.{In_at}
use Rattle.natural_maps.proofs.AllMaps.{maps_are_natural}
use Rattle.natural_maps.proofs.tests.numbers_of.Goals as goal

pub row-y-items-requires : goal.row-y-items-requires
row-y-items-requires c =
    let k = c.args.cat.now in
    let P = c.args.p.now in
    let Q = c.args.q.now in
    let found = c.args.found.now in
    let m = c.get-map.result.now in
    let low = slice_get_within found c.loop-i.i m c.get-map.ensures in
    let member : In found m = subst (In found) (get_or_from_slice_get found c.loop-i.i m m c.get-map.ensures) (In_at found c.loop-i.i m low) in
    let natural = (maps_are_natural k P Q c.laws.ensures.lawful c.requires.domain c.requires.codomain).0 m (subst (λ l. In l m) c.requires.maps member) in
    omega (arith, natural.objects, c.objects-c-end.ensures.count)
