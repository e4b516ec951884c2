use Rattle.std.proofs.Common.{◌≡◌, ◌+◌, ◌≤◌, ℕ, true, None, Some, slice_get, refl, sym, ap, subst, ◌∙◌, arith}
use Rattle.std.proofs.lemmas.Option.{get_or_from_slice_get, slice_get_within}
use Rattle.finite_lists.specs.Members.{In}
use Rattle.finite_lists.proofs.Lists.{all_each, In_at}
use Rattle.topos_model.specs.declared.doc.Doc.{Doc}
use Rattle.topos_model.specs.declared.doc.TopDecl.{TopDecl}
use Rattle.topos_model.specs.categories.Category.{Category}
use Rattle.topos_model.specs.categories.Filling.{filled_category}
use Rattle.topos_model.specs.categories.Listed.{all_ends}
use Rattle.topos_model.specs.topologies.Cover.{Site}
use Rattle.topos_model.specs.topologies.TopologyFaults.{topology_fault}
use Rattle.topologies.specs.ListedFaults.{IsFaultOf}
use Rattle.sealed_world.specs.SealedWorlds.{CountedWorld, bare_world, world_cells}
use Rattle.fin_category.proofs.ListedNumbers.{within_if}
use Rattle.topos_session.specs.Ranges.{is_topology_in_range, has_range}
use Rattle.topos_session.specs.Topologies.{IsTopologyListing}
use Rattle.topos_session.proofs.DocumentRanges.{ranges}
use Rattle.topos_session.proofs.DeclaredTopologies.{topology_listing}
use Rattle.topos_session.proofs.SessionSteps.{begins}
use Rattle.topos_session.proofs.SiteRefusals.{refused_range, accepted_site, refused_tops, refused_topology, refused_site, site_is}
use Rattle.topos_session.proofs.session.Session.new.Goals as goal

pub returns-then-not-branch-clause-stop : goal.returns-then-not-branch-clause-stop
returns-then-not-branch-clause-stop c = refused_range c.args.doc (sym c.in_ok-has_range.ensures ∙ c.if-not-branch.true)

pub check-requires : goal.check-requires
check-requires c =
    let (objects, arrows, within) = within_if c.args.doc.cat (ranges c.args.doc (sym c.in_ok-has_range.ensures ∙ c.if-not-branch.false)).category in
    record { objects = objects; arrows = arrows; within = within }

pub returns-in-Err-clause-stop : goal.returns-in-Err-clause-stop
returns-in-Err-clause-stop c =
    rw c.category_stop.ensures (refused_site c.args.doc c.in-Err.fault (sym c.in_ok-has_range.ensures ∙ c.if-not-branch.false) c.in-Err.ensures.fault)

pub returns-then-not-is_single-clause-stop : goal.returns-then-not-is_single-clause-stop
returns-then-not-is_single-clause-stop c =
    refused_tops c.args.doc (sym c.in_ok-has_range.ensures ∙ c.if-not-branch.false) c.in-Ok.ensures.faultless
    (rw c.as_slice.ensures at (sym c.is_single.ensures ∙ c.if-not-is_single.true))

-- the first topology, over the category that was checked
top_listing : (doc : Doc) (k : Category) (top : TopDecl) → has_range doc ≡ true → k ≡ filled_category doc.cat → slice_get doc.tops 0 ≡ Some top → IsTopologyListing k top
unfolding filled_category all_ends
top_listing doc k top range filled here =
    topology_listing k top
    (rw filled (all_each (is_topology_in_range (all_ends doc.cat)) doc.tops top (ranges doc range).topologies
    (subst (In doc.tops) (get_or_from_slice_get doc.tops 0 top top here) (In_at doc.tops 0 top (slice_get_within doc.tops 0 top here)))))

pub declared_topology-requires : goal.declared_topology-requires
declared_topology-requires c =
    record { listing = top_listing c.args.doc c.in-Ok.cat c.get.result.now (sym c.in_ok-has_range.ensures ∙ c.if-not-branch.false) c.in-Ok.ensures.category c.get.ensures }

pub returns-in-Err-declared_topology-clause-stop : goal.returns-in-Err-declared_topology-clause-stop
returns-in-Err-declared_topology-clause-stop c =
    let single = rw c.as_slice.ensures at (sym c.is_single.ensures ∙ c.if-not-is_single.false) in
    let here = site_is c.args.doc c.in-Ok.cat c.get.result.now c.get.ensures c.in-Ok.ensures.category in
    rw c.topology_stop.ensures (refused_topology c.args.doc (sym c.in_ok-has_range.ensures ∙ c.if-not-branch.false) c.in-Ok.ensures.faultless single c.in-Err-declared_topology.fault
    (subst (λ (s : Site). IsFaultOf s c.in-Err-declared_topology.fault) (sym here) c.in-Err-declared_topology.ensures.fault))

fits : (w : CountedWorld) (room : ℕ) → room + world_cells w ≡ w.budget → world_cells w ≤ w.budget
fits w room r = omega (arith, r)

pub invariant_of-result : goal.invariant_of-result
invariant_of-result c =
    let single = rw c.as_slice.ensures at (sym c.is_single.ensures ∙ c.if-not-is_single.false) in
    let here = site_is c.args.doc c.in-Ok.cat c.get.result.now c.get.ensures c.in-Ok.ensures.category in
    begins c.args.doc c.args.budget c.in_ok-world.world c.new-3.result (sym c.in_ok-has_range.ensures ∙ c.if-not-branch.false) c.in-Ok.ensures.faultless single
    (c.in_ok-world.ensures.value ∙ ap (λ (s : Site). bare_world s c.args.budget) (c.new.ensures ∙ c.in-Ok-declared_topology.ensures.site ∙ sym here))
    c.new-3.ensures (fits c.in_ok-world.world c.room-room.result c.room-room.ensures.room)

pub returns-clause-opened : goal.returns-clause-opened
returns-clause-opened c =
    let range = sym c.in_ok-has_range.ensures ∙ c.if-not-branch.false in
    let single = rw c.as_slice.ensures at (sym c.is_single.ensures ∙ c.if-not-is_single.false) in
    let here = site_is c.args.doc c.in-Ok.cat c.get.result.now c.get.ensures c.in-Ok.ensures.category in
    record {
      range = range;
      accepted = accepted_site c.args.doc range c.in-Ok.ensures.faultless single (subst (λ (s : Site). topology_fault s 0 ≡ None) (sym here) c.in-Ok-declared_topology.ensures.lawful);
      begins = rw (c.in_ok-world.ensures.value, c.new-3.ensures) refl;
    }
