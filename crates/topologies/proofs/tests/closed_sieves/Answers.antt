use Rattle.std.proofs.Common.{subst, ap, ◌∙◌}
use Rattle.finite_lists.specs.Members.{In}
use Rattle.topos_model.specs.categories.Category.{into}
use Rattle.topos_model.specs.topologies.TopologyFaults.{intersection}
use Rattle.topos_model.proofs.ArrowsInto.{In-into_from}
use Rattle.fin_category.specs.ArrowSets.{arrows_in}
use Rattle.fin_category.proofs.ArrowLists.{In-intersection_from}
use Rattle.topologies.proofs.tests.closed_sieves.Goals as goal

pub generated-sieve-requires : goal.generated-sieve-requires
generated-sieve-requires c =
    let k = c.args.cat.now in
    let e = c.meet.ensures ∙ ap (intersection (arrows_in c.set_of-arrows.result)) c.into.ensures in record {
      into = λ g i. In-into_from k c.args.c g (In-intersection_from (arrows_in c.set_of-arrows.result) (into k c.args.c) g (subst (λ xs. In xs g) e i)).1;
    }
