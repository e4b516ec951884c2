use Rattle.std.proofs.Common.{◌≡◌, ℕ, [], map, get_or}
use Rattle.finite_lists.specs.Members.{In}
use Rattle.topos_model.specs.Laws.{IsInto}
use Rattle.fin_category.specs.ArrowSets.{arrows_in, left_in}
use Rattle.sieve_table.specs.Composites.{all_composites}
use Rattle.topologies.proofs.candidates.taken_twice.Given as goal

-- what is left gives the whole
abbrev pub invariant-loop-f : goal.invariant-loop-f
invariant-loop-f l =
    (goal.iterator-loop-f).can_next l.f-iterator × (goal.iterator-loop-f).is_finite l.f-iterator
    × (all_composites l.cat (λ d. get_or (map arrows_in l.least) d []) (arrows_in l.arrows) (left_in l.f-iterator)
    ≡ all_composites l.cat (λ d. get_or (map arrows_in l.least) d []) [] (get_or (map arrows_in l.least) l.c []))
    × ((f : ℕ) → In (left_in l.f-iterator) f → IsInto l.cat l.c f)
