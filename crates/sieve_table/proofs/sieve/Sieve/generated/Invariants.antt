use Rattle.std.proofs.Common.{◌≡◌, ℕ, drop, map, []}
use Rattle.finite_lists.specs.Members.{In}
use Rattle.topos_model.specs.categories.Category.{compose, into}
use Rattle.topos_model.specs.Laws.{IsInto}
use Rattle.fin_category.specs.Masks.{all_added}
use Rattle.fin_category.specs.ArrowSets.{arrows_in, left_in}
use Rattle.sieve_table.specs.Composites.{all_composites}
use Rattle.sieve_table.proofs.sieve.Sieve.generated.Given as goal

-- what is left gives the whole
abbrev pub invariant-loop-f : goal.invariant-loop-f
invariant-loop-f l =
    all_added (arrows_in l.mask) (map (compose l.cat l.g) (drop l.f-index l.f-items))
    ≡ all_added (arrows_in l.initial.mask) (map (compose l.cat l.g) l.f-items)

abbrev pub invariant-generators : goal.invariant-generators
invariant-generators l =
    (goal.iterator-generators).can_next l.g-iterator ×
    (goal.iterator-generators).is_finite l.g-iterator ×
    (all_composites l.cat (into l.cat) (arrows_in l.mask) (left_in l.g-iterator) ≡ all_composites l.cat (into l.cat) [] (arrows_in l.fn.arrows)) ×
    ((g : ℕ) → In (left_in l.g-iterator) g → IsInto l.cat l.c g)
