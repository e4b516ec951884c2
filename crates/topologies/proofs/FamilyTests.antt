-- The test of families says that they are made of arrows into their objects.
use Rattle.std.proofs.Common.{◌≡◌, true, ◌&&◌, List, length, eqb, ltb}
use Rattle.std.proofs.lemmas.Bool.{eqb-true, eq-eqb, ltb-true, lt-ltb, and_parts, and_from}
use Rattle.finite_lists.proofs.Lists.{all_each, each_all}
use Rattle.topos_model.specs.declared.raw.Family.{Family}
use Rattle.topos_model.specs.categories.Category.{Category, cod}
use Rattle.topos_model.specs.topologies.TopologyFaults.{IsListed}
use Rattle.topologies.specs.Candidates.{listed_site}
use Rattle.topologies.specs.Families.{is_family, are_families}

pub listed_if : (k : Category) (families : List Family) → are_families k families ≡ true → IsListed (listed_site k families)
listed_if k families h family i f j =
    let e = all_each (λ f. ltb f (length k.ends) && eqb (cod k f) family.at) family.arrows f (all_each (is_family k) families family h i) j in
    let p = and_parts (ltb f (length k.ends)) (eqb (cod k f) family.at) e in
    (ltb-true f (length k.ends) p.0, eqb-true (cod k f) family.at p.1)

pub if_listed : (k : Category) (families : List Family) → IsListed (listed_site k families) → are_families k families ≡ true
if_listed k families h =
    each_all (is_family k) families (λ family i. each_all (λ f. ltb f (length k.ends) && eqb (cod k f) family.at) family.arrows (λ f j.
    let r = h family i f j in and_from (ltb f (length k.ends)) (eqb (cod k f) family.at) (lt-ltb f (length k.ends) r.0) (eq-eqb (cod k f) family.at r.1)))
