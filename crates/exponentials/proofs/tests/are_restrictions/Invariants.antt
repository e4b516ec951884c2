use Rattle.std.proofs.Common.{ℕ, ◌+◌, ◌<◌, [], get_or}
use Rattle.topos_model.specs.categories.Category.{dom, cod}
use Rattle.natural_maps.specs.Tables.{IsRowWithin}
use Rattle.exponentials.proofs.tests.are_restrictions.Given as goal

abbrev pub invariant-loop-i : goal.invariant-loop-i
invariant-loop-i l =
    (j : ℕ) → j < l.i → IsRowWithin (get_or l.rows j []) (get_or l.sizes (cod l.cat (l.cat.objects + j)) 0) (get_or l.sizes (dom l.cat (l.cat.objects + j)) 0)
