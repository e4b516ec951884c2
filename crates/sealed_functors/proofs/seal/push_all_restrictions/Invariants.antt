use Rattle.std.proofs.Common.{◌≡◌, map}
use Rattle.sealed_functors.specs.Rows.{restriction_rows, up_to, with_all_restrictions}
use Rattle.sealed_functors.proofs.seal.push_all_restrictions.Given as goal

abbrev pub invariant-objects : goal.invariant-objects
invariant-objects l = l.store ≡ record l.fn.store { building = with_all_restrictions l.fn.store.building (up_to (map restriction_rows l.at) l.c 0) }

abbrev pub invariant-elements : goal.invariant-elements
invariant-elements l = l.store ≡ record l.fn.store { building = with_all_restrictions l.fn.store.building (up_to (map restriction_rows l.at) l.c l.k) }
