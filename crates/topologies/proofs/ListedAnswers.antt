-- What the candidate tests over kept sieves say of the topology that families list.
use Rattle.std.proofs.Common.{◌≡◌, ℕ, ◌<◌, false, not, List, map, Option, Some, None, sym, ap, subst, ◌∙◌}
use Rattle.std.specs.List.{range_with_len}
use Rattle.std.specs.Option.{option_map}
use Rattle.finite_lists.specs.Members.{In}
use Rattle.finite_lists.specs.First.{or_else}
use Rattle.topos_model.specs.declared.raw.Family.{Family}
use Rattle.topos_model.specs.declared.fault.Fault.TheVariants.{NotStable as Unstable, NotTransitive as Narrow}
use Rattle.topos_model.specs.categories.Category.{Category, into}
use Rattle.topos_model.specs.topologies.Cover.{Site}
use Rattle.topos_model.specs.Laws.{IsCategory}
use Rattle.topos_model.specs.topologies.LeastCovers.{least}
use Rattle.topos_model.specs.topologies.TopologyFaults.{intersection, least_twice, stability_fault, intersection_fault, least_twice_fault, topology_fault, IsListed}
use Rattle.fin_category.specs.declared.mask.ArrowMask.{ArrowMask}
use Rattle.fin_category.specs.ArrowSets.{arrows_in}
use Rattle.sieve_table.specs.declared.sieve.Sieve.{Sieve}
use Rattle.sieve_table.specs.Sieves.{sieve_arrows}
use Rattle.topologies.specs.declared.fault.TopFault.{TopFault}
use Rattle.topologies.specs.declared.fault.TopFault.TheVariants.{NotStable, NotTransitive, NoMemory}
use Rattle.topologies.specs.Candidates.{listed_site, kept_as, listed_rows, AreCovers, common_arrows, covered, unstable, narrow, taken_twice, thin}
use Rattle.topologies.specs.ListedFaults.{IsFaultOf, IsUnstable, IsNarrow, IsThin}
use Rattle.topologies.specs.Topologies.{IsTopologyOn}
use Rattle.topologies.proofs.LeastCovers.{least-into}
use Rattle.topologies.proofs.KeptCovers.{kept-length, same_covers}
use Rattle.topologies.proofs.TwiceRows.{found-below}
use Rattle.topologies.proofs.ListedCandidates.{common-least, stability, intersections, row-at, taken_twice-is, twice}
use Rattle.topologies.proofs.FirstFaults.{topology_of_none}

-- the first of three that answers
second : {A : Type 0} (a b c : Option A) (x : A) → a ≡ None → b ≡ Some x → or_else a (or_else b c) ≡ Some x
second a b c x e f = ap (λ o. or_else o (or_else b c)) e ∙ ap (λ o. or_else o c) f

third : {A : Type 0} (a b c : Option A) (o : Option A) → a ≡ None → b ≡ None → c ≡ o → or_else a (or_else b c) ≡ o
third a b c o e f g = ap (λ o. or_else o (or_else b c)) e ∙ ap (λ o. or_else o c) f ∙ g

module _ (k : Category) (laws : IsCategory k) (families : List Family) (given : IsListed (listed_site k families)) (sieves : List Sieve) (kept : map kept_as sieves ≡ listed_rows k families) where
  abbrev s : Site
  s = listed_site k families

  stable_none : (j : ℕ) → unstable k sieves ≡ None → stability_fault s j ≡ None
  stable_none j e = stability k laws families given sieves kept j ∙ ap (option_map (λ (p : Sieve × ℕ). Unstable j p.0.at (sieve_arrows p.0) p.1)) e

  narrow_none : (j : ℕ) → narrow k sieves ≡ None → intersection_fault s j ≡ None
  narrow_none j e =
      intersections k laws families given sieves kept j
      ∙ ap (option_map (λ (p : Sieve × Sieve). Narrow j p.0.at (sieve_arrows p.0) (intersection (sieve_arrows p.0) (sieve_arrows p.1)))) e

  pub unstable_fault : (x : TopFault) → IsUnstable k sieves x → IsFaultOf s x
  unfolding topology_fault
  unstable_fault (NotStable at cover f) (l, e, a, b) = λ under.
      let h : stability_fault s under ≡ Some (Unstable under at cover f) =
      stability k laws families given sieves kept under ∙ ap (option_map (λ (p : Sieve × ℕ). Unstable under p.0.at (sieve_arrows p.0) p.1)) e
      ∙ ap (λ (d : ℕ). Some (Unstable under d (sieve_arrows l) f)) (sym a) ∙ ap (λ (S : List ℕ). Some (Unstable under at S f)) (sym b) in
      ap (λ o. or_else o (or_else (intersection_fault s under) (least_twice_fault s under))) h
  unstable_fault (NotTransitive at cover other) h = absurd h
  unstable_fault NoMemory h = h

  pub narrow_fault : unstable k sieves ≡ None → (x : TopFault) → IsNarrow k sieves x → IsFaultOf s x
  unfolding topology_fault
  narrow_fault none (NotStable at cover f) h = absurd h
  narrow_fault none (NotTransitive at cover other) (l, m, e, a, b, d) = λ under.
      let h : intersection_fault s under ≡ Some (Narrow under at cover other) =
      intersections k laws families given sieves kept under
      ∙ ap (option_map (λ (p : Sieve × Sieve). Narrow under p.0.at (sieve_arrows p.0) (intersection (sieve_arrows p.0) (sieve_arrows p.1)))) e
      ∙ ap (λ (c : ℕ). Some (Narrow under c (sieve_arrows l) (intersection (sieve_arrows l) (sieve_arrows m)))) (sym a)
      ∙ ap (λ (S : List ℕ). Some (Narrow under at S (intersection (sieve_arrows l) (sieve_arrows m)))) (sym b)
      ∙ ap (λ (S : List ℕ). Some (Narrow under at cover S)) (sym d) in
      second (stability_fault s under) (intersection_fault s under) (least_twice_fault s under) _ (stable_none under none) h
  narrow_fault none NoMemory h = h

  module _ (row : List ArrowMask) (least_row : map arrows_in row ≡ map (λ c. common_arrows c (into k c) sieves) (range_with_len 0 k.objects)) where
    pub least_kept : map arrows_in row ≡ map (least s) (range_with_len 0 k.objects)
    least_kept = least_row ∙ same_covers (λ c. common_arrows c (into k c) sieves) (least s) k.objects (λ c low. common-least k laws families given sieves kept c low)

    pub are_covers : AreCovers k row
    are_covers = (
      kept-length (least s) row k.objects least_kept,
      (λ c f low i. least-into s laws c f (subst (λ S. In S f) (row-at k laws families given sieves kept row least_kept c low) i)),
    )

    pub thin_fault : unstable k sieves ≡ None → narrow k sieves ≡ None → (x : TopFault) → IsThin k sieves row x → IsFaultOf s x
    unfolding topology_fault
    thin_fault none none' (NotStable at cover f) h = absurd h
    thin_fault none none' (NotTransitive at cover other) (e, a, b) = λ under.
        let low : at < k.objects = found-below (λ c. not (covered k sieves c (taken_twice k row c))) k.objects at e in
        let h : least_twice_fault s under ≡ Some (Narrow under at cover other) =
        twice k laws families given sieves kept row least_kept under
        ∙ ap (option_map (λ c. Narrow under c (least s c) (least_twice s c))) e
        ∙ ap (λ (S : List ℕ). Some (Narrow under at S (least_twice s at))) (sym (a ∙ row-at k laws families given sieves kept row least_kept at low))
        ∙ ap (λ (S : List ℕ). Some (Narrow under at cover S)) (sym (b ∙ taken_twice-is k laws families given sieves kept row least_kept at low)) in
        third (stability_fault s under) (intersection_fault s under) (least_twice_fault s under) _ (stable_none under none) (narrow_none under none') h
    thin_fault none none' NoMemory h = h

    pub no_fault : unstable k sieves ≡ None → narrow k sieves ≡ None → thin k sieves row ≡ None → (under : ℕ) → topology_fault s under ≡ None
    unfolding topology_fault
    no_fault a b c under =
        third (stability_fault s under) (intersection_fault s under) (least_twice_fault s under) None (stable_none under a) (narrow_none under b)
        (twice k laws families given sieves kept row least_kept under ∙ ap (option_map (λ c. Narrow under c (least s c) (least_twice s c))) c)

    pub topology_on : unstable k sieves ≡ None → narrow k sieves ≡ None → thin k sieves row ≡ None → (copied : List Family) → copied ≡ families →
        IsTopologyOn k (record { dense = false; families = copied; least = row })
    topology_on a b c copied e =
        let here : IsTopologyOn k (record { dense = false; families = families; least = row }) = record {
          topology = topology_of_none s 0 laws given (no_fault a b c 0);
          least = least_kept;
        } in
        subst (λ (fs : List Family). IsTopologyOn k (record { dense = false; families = fs; least = row })) (sym e) here
