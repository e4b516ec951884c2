use Rattle.std.proofs.Common.{◌+◌, drop, sym, ap, ◌∙◌}
use Rattle.topos_model.specs.topologies.TopologyFaults.{intersection}
use Rattle.fin_category.specs.ArrowSets.{arrows_in}
use Rattle.topologies.specs.Candidates.{common_arrows}
use Rattle.topologies.proofs.ListedRows.{common-here, common-other, common-end}
use Rattle.topologies.proofs.listed.least_listed.Goals as goal
use Rattle.topologies.proofs.listed.least_listed.Goals.{then-at-c, else-at-c}

pub loop-sieve-preserved : goal.loop-sieve-preserved
loop-sieve-preserved c =
    elim c.if-at-c.branch [
      | then-at-c w ↦
          common-here c.args.c (arrows_in c.loop-sieve.arrows) (arrows_in c.if-at-c.arrows) c.args.sieves.now c.loop-sieve.sieve-index _ c.loop-sieve-test.true (sym c.at.ensures ∙ w.if-at-c.true)
          (ap arrows_in w.arrows-is ∙ w.meet-arrows.ensures ∙ ap (intersection (arrows_in c.loop-sieve.arrows)) w.arrows.ensures)
          ∙ c.loop-sieve.invariant
      | else-at-c w ↦
          ap (λ m. common_arrows c.args.c (arrows_in m) (drop (c.loop-sieve.sieve-index + 1) c.args.sieves.now)) w.arrows-is
          ∙ common-other c.args.c (arrows_in c.loop-sieve.arrows) c.args.sieves.now c.loop-sieve.sieve-index _ c.loop-sieve-test.true (λ e. w.if-at-c.false (c.at.ensures ∙ e))
          ∙ c.loop-sieve.invariant
    ]

pub loop-sieve-init : goal.loop-sieve-init
loop-sieve-init c = ap (λ S. common_arrows c.args.c S c.args.sieves.now) c.into-arrows.ensures

pub returns : goal.returns
returns c = sym (common-end c.args.c (arrows_in c.loop-sieve.arrows) c.args.sieves.now c.loop-sieve.sieve-index c.loop-sieve-test.false) ∙ c.loop-sieve.invariant
