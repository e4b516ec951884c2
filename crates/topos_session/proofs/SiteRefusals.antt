-- Why a document is refused before its statements, as far as the language is run.
use Rattle.std.proofs.Common.{◌≡◌, true, false, List, [], ◌∷◌, length, slice_get, Option, Some, None, refl, ap, ◌∙◌}
use Rattle.std.specs.List.{range_with_len}
use Rattle.std.proofs.lemmas.Option.{get_or_from_slice_get}
use Rattle.finite_lists.specs.First.{first, or_else}
use Rattle.topos_model.specs.declared.doc.TopDecl.{TopDecl}
use Rattle.topos_model.specs.declared.doc.Doc.{Doc}
use Rattle.topos_model.specs.declared.fault.Fault.{Fault}
use Rattle.topos_model.specs.declared.fault.Fault.TheVariants.{NotBuilt}
use Rattle.topos_model.specs.categories.Category.{Category}
use Rattle.topos_model.specs.Laws.{IsCategory}
use Rattle.topos_model.specs.categories.Filling.{filled_category}
use Rattle.topos_model.specs.categories.CategoryFaults.{category_fault}
use Rattle.topos_model.specs.topologies.TopologyFaults.{topology_fault, first_topology_fault}
use Rattle.topos_model.specs.statements.Declarations.{category_of, site_of}
use Rattle.topos_model.specs.statements.Refusals.{topologies_fault}
use Rattle.topos_session.specs.Ranges.{has_range, is_single}
use Rattle.topos_model.specs.statements.Run.{site_refusal, site_refused}
use Rattle.topos_session.specs.Built.{today}
use Rattle.topos_session.specs.StagedRun.{out_of_range, in_range}
use Rattle.fin_category.specs.declared.fault.CatFault.{CatFault}
use Rattle.fin_category.specs.declared.fault.CatFault.TheVariants.{CompositeMissing, CompositeTwice, CompositeEnds, NotAssociative, NoMemory}
use Rattle.fin_category.specs.Faults.{IsFaultOf}
use Rattle.fin_category.proofs.FilledCategories.{faultless_category}
use Rattle.fin_category.proofs.ListedNumbers.{within_if}
use Rattle.topos_session.specs.declared.stop.SiteStop.TheVariants.{Refused}
use Rattle.topologies.specs.declared.fault.TopFault.{TopFault}
use Rattle.topologies.specs.declared.fault.TopFault.TheVariants.{NotStable, NotTransitive}
use Rattle.topologies.specs.declared.fault.TopFault.TheVariants as topology
use Rattle.topologies.specs.ListedFaults.{IsFaultOf as IsTopologyFaultOf}
use Rattle.topos_session.specs.Topologies.{declared_site}
use Rattle.topos_session.specs.Steps.{IsSiteStop, category_stop, topology_stop}
use Rattle.topos_session.proofs.DocumentRanges.{ranges}

pub one_topology : (tops : List TopDecl) → is_single tops ≡ true → length tops ≡ 1
one_topology [] single = cc
one_topology (top ∷ []) single = refl
one_topology (top ∷ other ∷ rest) single = cc

-- the site of a document is that of the topology that is declared first
pub site_is : (doc : Doc) (k : Category) (top : TopDecl) → slice_get doc.tops 0 ≡ Some top → k ≡ filled_category doc.cat → site_of doc 0 ≡ declared_site k top
unfolding site_of category_of
site_is doc k top here filled =
    rw (filled, get_or_from_slice_get doc.tops 0 top (record { name = None; dense = false; covers = [] }) here) refl

-- where there is one topology, its first fault is that of all
single_fault : (doc : Doc) → is_single doc.tops ≡ true → topologies_fault doc ≡ topology_fault (site_of doc 0) 0
unfolding topologies_fault first_topology_fault
single_fault doc single = ap (λ n. first (λ j. topology_fault (site_of doc j) j) (range_with_len 0 n)) (one_topology doc.tops single) ∙ or_none (topology_fault (site_of doc 0) 0)
  where
    or_none : (o : Option Fault) → or_else o None ≡ o
    or_none None = refl
    or_none (Some fault) = refl

-- a category without a fault is one
pub lawful_category : (doc : Doc) → has_range doc ≡ true → category_fault doc.cat ≡ None → IsCategory (filled_category doc.cat)
lawful_category doc range faultless =
    let (objects, arrows, within) = within_if doc.cat (ranges doc range).category in (faultless_category doc.cat within faultless).1

pub refused_range : (doc : Doc) → has_range doc ≡ false → IsSiteStop doc (Refused doc NotBuilt)
refused_range doc range = (refl, λ budget. out_of_range range)

pub accepted_site : (doc : Doc) → has_range doc ≡ true → category_fault doc.cat ≡ None → is_single doc.tops ≡ true → topology_fault (site_of doc 0) 0 ≡ None → site_refusal today doc ≡ None
unfolding site_refusal
accepted_site doc range faultless single lawful = rw (faultless, single, single_fault doc single, lawful) refl

tops_fail : (doc : Doc) → category_fault doc.cat ≡ None → is_single doc.tops ≡ false → site_refusal today doc ≡ Some NotBuilt
unfolding site_refusal
tops_fail doc faultless tops = rw (faultless, tops) refl

pub refused_tops : (doc : Doc) → has_range doc ≡ true → category_fault doc.cat ≡ None → is_single doc.tops ≡ false → IsSiteStop doc (Refused doc NotBuilt)
refused_tops doc range faultless tops = (refl, λ budget. in_range range (site_refused (tops_fail doc faultless tops)))

-- the one topology has a fault
module _ (doc : Doc) (range : has_range doc ≡ true) (faultless : category_fault doc.cat ≡ None) (single : is_single doc.tops ≡ true) where
  covers_fail : (fault : Fault) → topology_fault (site_of doc 0) 0 ≡ Some fault → site_refusal today doc ≡ Some fault
  unfolding site_refusal
  covers_fail fault fails = rw (faultless, single, single_fault doc single, fails) refl

  pub refused_topology : (fault : TopFault) → IsTopologyFaultOf (site_of doc 0) fault → IsSiteStop doc (topology_stop doc fault)
  refused_topology (NotStable at cover f) found = (refl, λ budget. in_range range (site_refused (covers_fail _ (found 0))))
  refused_topology (NotTransitive at cover other) found = (refl, λ budget. in_range range (site_refused (covers_fail _ (found 0))))
  refused_topology topology.NoMemory found = tt

category_fails : (doc : Doc) (fault : Fault) → category_fault doc.cat ≡ Some fault → site_refusal today doc ≡ Some fault
unfolding site_refusal
category_fails doc fault fails = rw fails refl

refused_category : (doc : Doc) (fault : Fault) → has_range doc ≡ true → category_fault doc.cat ≡ Some fault → IsSiteStop doc (Refused doc fault)
refused_category doc fault range fails = (refl, λ budget. in_range range (site_refused (category_fails doc fault fails)))

pub refused_site : (doc : Doc) (fault : CatFault) → has_range doc ≡ true → IsFaultOf doc.cat fault → IsSiteStop doc (category_stop doc fault)
refused_site doc (CompositeMissing g f) range found = refused_category doc _ range found
refused_site doc (CompositeTwice g f) range found = refused_category doc _ range found
refused_site doc (CompositeEnds g f h) range found = refused_category doc _ range found
refused_site doc (NotAssociative h g f) range found = refused_category doc _ range found
refused_site doc NoMemory range found = tt
