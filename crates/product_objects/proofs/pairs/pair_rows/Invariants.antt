use Rattle.std.proofs.Common.{◌≡◌, ◌++◌}
use Rattle.std.specs.List.{flat_map, range_with_len}
use Rattle.sealed_types.specs.Sealed.{sizes_in, restrictions_in}
use Rattle.product_objects.specs.PairRows.{pair_row}
use Rattle.product_objects.proofs.pairs.pair_rows.Given as goal

abbrev pub invariant-first : goal.invariant-first
invariant-first l =
    l.restrictions ≡ flat_map (λ x. flat_map (pair_row l.cat (sizes_in l.store l.s) (sizes_in l.store l.t) (restrictions_in l.store l.s) (restrictions_in l.store l.t) l.c x) (range_with_len 0 (sizes_in l.store l.t l.c))) (range_with_len 0 l.x)

abbrev pub invariant-second : goal.invariant-second
invariant-second l =
    l.restrictions ≡ flat_map (λ x. flat_map (pair_row l.cat (sizes_in l.store l.s) (sizes_in l.store l.t) (restrictions_in l.store l.s) (restrictions_in l.store l.t) l.c x) (range_with_len 0 (sizes_in l.store l.t l.c))) (range_with_len 0 l.x)
    ++ flat_map (pair_row l.cat (sizes_in l.store l.s) (sizes_in l.store l.t) (restrictions_in l.store l.s) (restrictions_in l.store l.t) l.c l.x) (range_with_len 0 l.y)
