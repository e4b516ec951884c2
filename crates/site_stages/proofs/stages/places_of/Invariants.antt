use Rattle.std.proofs.Common.{◌≡◌, filter, get_or}
use Rattle.std.specs.List.{range_with_len}
use Rattle.topos_model.specs.categories.Category.{has, into}
use Rattle.sieve_table.specs.Sieves.{sieve_arrows}
use Rattle.site_stages.proofs.stages.places_of.Given as goal

abbrev pub invariant-loop-j : goal.invariant-loop-j
invariant-loop-j l = l.row ≡ filter (λ j. has (get_or (into l.cat l.c) j 0) (sieve_arrows l.sieve)) (range_with_len 0 l.j)
