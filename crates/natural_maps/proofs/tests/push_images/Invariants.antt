use Rattle.std.proofs.Common.{◌≡◌, ◌++◌, map, get_or}
use Rattle.std.specs.List.{range_with_len}
use Rattle.topos_model.specs.declared.raw.RawEntry.{RawEntry}
use Rattle.natural_maps.proofs.tests.push_images.Given as goal

abbrev pub invariant-loop-x : goal.invariant-loop-x
invariant-loop-x l = l.entries ≡ l.fn.entries ++ map {B = RawEntry} (λ x. record { at = l.c; from = x; to = get_or l.row x 0 }) (range_with_len 0 l.x)
