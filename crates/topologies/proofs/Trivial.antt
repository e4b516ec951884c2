-- Where no sieve is listed the maximal sieves are the only covers.
use Rattle.std.proofs.Common.{◌≡◌, ℕ, false, true, ◌||◌, ◌&&◌, eqb, inl, inr, List, [], subst}
use Rattle.std.specs.List.{list_any}
use Rattle.std.proofs.lemmas.Bool.{or_cases}
use Rattle.finite_lists.specs.Members.{In}
use Rattle.finite_lists.proofs.Lists.{In_Contains, Contains_In}
use Rattle.topos_model.specs.declared.raw.Family.{Family}
use Rattle.topos_model.specs.categories.Category.{Category, into, dom, sieves, generated, pull}
use Rattle.topos_model.specs.topologies.Cover.{Site, covers, contains, is_listed, is_cover}
use Rattle.topos_model.specs.Laws.{IsCategory, IsInto, IsTopology}
use Rattle.topos_model.specs.topologies.LeastCovers.{least}
use Rattle.topos_model.specs.topologies.TopologyFaults.{IsListed}
use Rattle.topos_model.proofs.ArrowsInto.{In-into, In-into_from}
use Rattle.fin_category.proofs.ArrowLists.{Rises-into, contains-each, same_members}
use Rattle.sieve_table.proofs.SieveMembers.{IsSieve, sieve_of, In-pull_from, In-pull, maximal-sieve, pull-sieve, goes, domain}
use Rattle.topologies.proofs.LeastCovers.{Covers, cover_sieve, cover_test, least-sieve, In-least}
use Rattle.topologies.proofs.CandidateTests.{all_covers}

module _ (s : Site) (laws : IsCategory s.category) (plain : s.dense ≡ false) (none : s.families ≡ []) where
  abbrev k : Category
  k = s.category

  pub all_in_cover : (c f : ℕ) (S : List ℕ) → Covers s c S → IsInto k c f → In S f
  unfolding is_cover is_listed
  all_in_cover c f S cover i =
      let e : (contains (into k c) S || list_any (λ (family : Family). eqb family.at c && contains (generated k c family.arrows) S) []) ≡ true = rw (plain, none) at (cover_test s c S cover) in
      elim (or_cases (contains (into k c) S) false e) [ inl all ↦ contains-each (into k c) S all f (In-into k c f i) | inr n ↦ absurd (cc) ]

  pub least-trivial : (c : ℕ) → least s c ≡ into k c
  least-trivial c =
      same_members (least s c) (into k c) (least-sieve s laws c).rises (Rises-into k c)
      (λ f i. In-into k c f ((least-sieve s laws c).within f i))
      (λ f i. let j = In-into_from k c f i in In-least s c f j (λ S cover. all_in_cover c f S cover j))

  no_family : IsListed s
  no_family family i f j = absurd (subst (λ fs. In fs family) none i)

  whole_covers : (c : ℕ) (S : List ℕ) → IsSieve k c S → ((f : ℕ) → IsInto k c f → In S f) → Covers s c S
  whole_covers c S sieve all = all_covers s laws plain no_family c S sieve all

  pub trivial_topology : IsTopology s
  trivial_topology = record {
    maximal = λ c low. In_Contains (covers s c) _ (whole_covers c (into k c) (maximal-sieve k laws c) (λ f i. In-into k c f i));
    stable = λ c f S cover i.
        let cover' = Contains_In (covers s c) S cover in
        In_Contains (covers s (dom k f)) _
        (whole_covers (dom k f) (pull k f S) (pull-sieve k laws c f S (cover_sieve s c S cover') i)
        (λ g j. In-pull k f g S j (all_in_cover c _ S cover' (goes k laws i j))));
    transitive = λ c S R cover sieve along.
        let cover' = Contains_In (covers s c) S cover in
        In_Contains (covers s c) R (whole_covers c R (sieve_of k c R (Contains_In (sieves k c) R sieve)) (λ f i.
        let d = laws.identity (dom k f) (domain k laws i) in
        let m = all_in_cover (dom k f) (dom k f) (pull k f R) (Contains_In (covers s (dom k f)) (pull k f R) (along f (In_Contains S f (all_in_cover c f S cover' i)))) d.0 in
        subst (λ x. In R x) (laws.right_neutral c f i) (In-pull_from k f (dom k f) R m).1));
  }
