use Rattle.std.proofs.Common.{map, sym, ap, ◌∙◌}
use Rattle.topologies.specs.Candidates.{kept_as, thin}
use Rattle.fin_category.specs.ArrowSets.{arrows_in}
use Rattle.topologies.proofs.ListedCandidates.{are_sieves}
use Rattle.topologies.proofs.ListedAnswers.{unstable_fault, narrow_fault, thin_fault, are_covers, no_fault, topology_on}
use Rattle.topologies.proofs.topology.Topology.listed.Goals as goal

pub check_stable-requires : goal.check_stable-requires
check_stable-requires c =
    are_sieves c.args.cat.now c.laws.ensures.lawful c.args.families.now c.requires c.as_slice-sieves.result.now (ap (map kept_as) c.as_slice-sieves.ensures ∙ c.in_ok-rows.ensures)

pub check_intersections-requires : goal.check_intersections-requires
check_intersections-requires c =
    are_sieves c.args.cat.now c.laws.ensures.lawful c.args.families.now c.requires c.as_slice-sieves.result.now (ap (map kept_as) c.as_slice-sieves.ensures ∙ c.in_ok-rows.ensures)

pub returns-in-Err-clause-fault : goal.returns-in-Err-clause-fault
returns-in-Err-clause-fault c =
    unstable_fault c.args.cat.now c.laws.ensures.lawful c.args.families.now c.requires c.as_slice-sieves.result.now (ap (map kept_as) c.as_slice-sieves.ensures ∙ c.in_ok-rows.ensures)
    c.in-Err.fault c.in-Err.ensures.fault

pub returns-in-Err-check_intersections-clause-fault : goal.returns-in-Err-check_intersections-clause-fault
returns-in-Err-check_intersections-clause-fault c =
    narrow_fault c.args.cat.now c.laws.ensures.lawful c.args.families.now c.requires c.as_slice-sieves.result.now (ap (map kept_as) c.as_slice-sieves.ensures ∙ c.in_ok-rows.ensures)
    c.in_default.ensures.ok c.in-Err-check_intersections.fault c.in-Err-check_intersections.ensures.fault

pub check_twice-requires : goal.check_twice-requires
check_twice-requires c =
    are_covers c.args.cat.now c.laws.ensures.lawful c.args.families.now c.requires c.as_slice-sieves.result.now (ap (map kept_as) c.as_slice-sieves.ensures ∙ c.in_ok-rows.ensures)
    c.as_slice.result.now (ap (map arrows_in) c.as_slice.ensures ∙ c.in_ok-least.ensures)

pub returns-in-Err-check_twice-clause-fault : goal.returns-in-Err-check_twice-clause-fault
returns-in-Err-check_twice-clause-fault c =
    thin_fault c.args.cat.now c.laws.ensures.lawful c.args.families.now c.requires c.as_slice-sieves.result.now (ap (map kept_as) c.as_slice-sieves.ensures ∙ c.in_ok-rows.ensures)
    c.as_slice.result.now (ap (map arrows_in) c.as_slice.ensures ∙ c.in_ok-least.ensures)
    c.in_default.ensures.ok c.in_default-check_intersections.ensures.ok c.in-Err-check_twice.fault c.in-Err-check_twice.ensures.fault

pub returns-clause-lawful : goal.returns-clause-lawful
returns-clause-lawful c =
    no_fault c.args.cat.now c.laws.ensures.lawful c.args.families.now c.requires c.as_slice-sieves.result.now (ap (map kept_as) c.as_slice-sieves.ensures ∙ c.in_ok-rows.ensures)
    c.as_slice.result.now (ap (map arrows_in) c.as_slice.ensures ∙ c.in_ok-least.ensures)
    c.in_default.ensures.ok c.in_default-check_intersections.ensures.ok c.in_default-check_twice.ensures.ok

pub returns-clause-topology : goal.returns-clause-topology
returns-clause-topology c =
    topology_on c.args.cat.now c.laws.ensures.lawful c.args.families.now c.requires c.as_slice-sieves.result.now (ap (map kept_as) c.as_slice-sieves.ensures ∙ c.in_ok-rows.ensures)
    c.in_ok-least.least c.in_ok-least.ensures
    c.in_default.ensures.ok c.in_default-check_intersections.ensures.ok
    (sym (ap (thin c.args.cat.now c.as_slice-sieves.result.now) c.as_slice.ensures) ∙ c.in_default-check_twice.ensures.ok)
    c.in_ok-families.families c.in_ok-families.ensures
