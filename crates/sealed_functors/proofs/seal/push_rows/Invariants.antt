use Rattle.std.proofs.Common.{◌≡◌, map}
use Rattle.sealed_functors.specs.Rows.{element_rows, up_to, with_all_rows}
use Rattle.sealed_functors.proofs.seal.push_rows.Given as goal

abbrev pub invariant-objects : goal.invariant-objects
invariant-objects l = l.store ≡ record l.fn.store { building = with_all_rows l.fn.store.building (up_to (map element_rows l.at) l.c 0) }

abbrev pub invariant-elements : goal.invariant-elements
invariant-elements l = l.store ≡ record l.fn.store { building = with_all_rows l.fn.store.building (up_to (map element_rows l.at) l.c l.k) }
