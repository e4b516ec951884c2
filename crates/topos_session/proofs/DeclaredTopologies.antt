-- The topology that a document declares, where its numbers are in range.
use Rattle.std.proofs.Common.{◌≡◌, Bool, true, false, cond, eqb, List, [], ◌∷◌, length, refl, arith}
use Rattle.std.specs.List.{list_all}
use Rattle.std.proofs.lemmas.Bool.{and_parts, eqb-true, ltb-true}
use Rattle.finite_lists.proofs.Lists.{all_each}
use Rattle.topos_model.specs.declared.raw.Family.{Family}
use Rattle.topos_model.specs.declared.doc.TopDecl.{TopDecl}
use Rattle.topos_model.specs.categories.Category.{Category}
use Rattle.topos_model.specs.topologies.TopologyFaults.{IsListed}
use Rattle.topos_session.specs.Ranges.{is_family_in_range, is_topology_in_range}
use Rattle.topos_session.specs.Topologies.{IsTopologyListing}

no_items : {A : Type 0} → (xs : List A) → eqb (length xs) 0 ≡ true → xs ≡ []
no_items [] e = refl
no_items (x ∷ xs) e = absurd (let h : length (x ∷ xs) ≡ 0 = eqb-true _ _ e in omega arith)

module _ (k : Category) (covers : List Family) where
  listed_families : (dense : Bool) → list_all (is_family_in_range k.ends) covers ≡ true → IsListed (record { category = k; dense = dense; families = covers })
  listed_families dense all family i f j =
      let (low, into) = and_parts _ _ (all_each _ family.arrows f (all_each (is_family_in_range k.ends) covers family all i) j) in
      (ltb-true _ _ low, eqb-true _ _ into)

  no_families : (dense : Bool) → covers ≡ [] → IsListed (record { category = k; dense = dense; families = covers })
  no_families dense none family i f j = absurd (rw none at i)

  by_density : (dense : Bool) → cond dense (eqb (length covers) 0) (list_all (is_family_in_range k.ends) covers) ≡ true → (dense ≡ true → covers ≡ []) × IsListed (record { category = k; dense = dense; families = covers })
  by_density true e = (λ _. no_items covers e, no_families true (no_items covers e))
  by_density false e = (λ h. cc, listed_families false e)

pub topology_listing : (k : Category) (top : TopDecl) → is_topology_in_range k.ends top ≡ true → IsTopologyListing k top
unfolding is_topology_in_range
topology_listing k top e = let h = by_density k top.covers top.dense e in record { dense = h.0; listed = h.1 }
