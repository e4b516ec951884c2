use Rattle.std.proofs.Common.{subst}
use Rattle.topos_model.specs.categories.Category.{Category}
use Rattle.topos_model.specs.Laws.{IsCategory}
use Rattle.sealed_types.proofs.SealedTypes.{sealed_restricted}
use Rattle.power_objects.proofs.power.power_rows.Goals as goal

pub all_sets-requires-clause-restricts : goal.all_sets-requires-clause-restricts
all_sets-requires-clause-restricts c =
    sealed_restricted c.args.site.now c.requires.faithful.0 c.args.store.now c.args.t (subst (λ (k : Category). IsCategory k) c.cat-cat.ensures c.laws.ensures.lawful) c.requires.faithful.1 c.requires.part

pub all_subset_rows-requires-clause-restricts : goal.all_subset_rows-requires-clause-restricts
all_subset_rows-requires-clause-restricts c =
    sealed_restricted c.args.site.now c.requires.faithful.0 c.args.store.now c.args.t (subst (λ (k : Category). IsCategory k) c.cat-cat.ensures c.laws.ensures.lawful) c.requires.faithful.1 c.requires.part
