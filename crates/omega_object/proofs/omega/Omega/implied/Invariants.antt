use Rattle.std.proofs.Common.{◌≡◌, ℕ, [], filter}
use Rattle.finite_lists.specs.Members.{In}
use Rattle.topos_model.specs.topologies.Cover.{contains}
use Rattle.topos_model.specs.topologies.TopologyFaults.{intersection}
use Rattle.fin_category.specs.Masks.{all_added}
use Rattle.fin_category.specs.ArrowSets.{arrows_in, left_in}
use Rattle.omega_object.specs.Tables.{mask_at}
use Rattle.omega_object.proofs.omega.Omega.implied.Given as goal

-- what is left gives the whole
abbrev pub invariant-loop-f : goal.invariant-loop-f
invariant-loop-f l =
    (goal.iterator-loop-f).can_next l.f-iterator × (goal.iterator-loop-f).is_finite l.f-iterator
    × (all_added (arrows_in l.implied) (filter (λ f. contains (intersection (mask_at l.self.below f) (arrows_in l.first)) (arrows_in l.second)) (left_in l.f-iterator)) ≡ all_added [] (filter (λ f. contains (intersection (mask_at l.self.below f) (arrows_in l.first)) (arrows_in l.second)) (mask_at l.self.into l.c)))
    × ((f : ℕ) → In (left_in l.f-iterator) f → In (mask_at l.self.into l.c) f)
