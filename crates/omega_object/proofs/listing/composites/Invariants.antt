use Rattle.std.proofs.Common.{◌≡◌, ℕ, [], map}
use Rattle.finite_lists.specs.Members.{In}
use Rattle.topos_model.specs.categories.Category.{dom, compose}
use Rattle.topos_model.specs.Laws.{IsInto}
use Rattle.fin_category.specs.Masks.{all_added}
use Rattle.fin_category.specs.ArrowSets.{arrows_in, left_in}
use Rattle.omega_object.proofs.listing.composites.Given as goal

-- what is left gives the whole
abbrev pub invariant-loop-g : goal.invariant-loop-g
invariant-loop-g l =
    (goal.iterator-loop-g).can_next l.g-iterator × (goal.iterator-loop-g).is_finite l.g-iterator
    × (all_added (arrows_in l.mask) (map (compose l.cat l.f) (left_in l.g-iterator)) ≡ all_added [] (map (compose l.cat l.f) (arrows_in l.fn.gs)))
    × ((g : ℕ) → In (left_in l.g-iterator) g → IsInto l.cat (dom l.cat l.f) g)
