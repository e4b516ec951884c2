-- Closed sieves: which sieves are closed, and that meets, joins and implications of closed sieves are.
use Rattle.std.proofs.Common.{◌≡◌, ℕ, inl, inr, List, [], ◌∷◌, filter, refl, sym, subst, ◌∙◌}
use Rattle.finite_lists.specs.Members.{In}
use Rattle.finite_lists.specs.Rising.{Rising, SublistBelow}
use Rattle.finite_lists.specs.Sublists.{sublists}
use Rattle.finite_lists.proofs.Lists.{same_tests, In-filter, In-filter_from, sublist_within}
use Rattle.finite_lists.proofs.RisingLists.{Rising-filter, Rising-sublists}
use Rattle.topos_model.specs.categories.Category.{Category, has, into, dom, compose, sieves, is_sieve, pull}
use Rattle.topos_model.specs.topologies.Cover.{Site, contains}
use Rattle.topos_model.specs.Laws.{IsCategory, IsInto, IsTopology}
use Rattle.topos_model.specs.types.Types.{is_closed_sieve}
use Rattle.topos_model.specs.topologies.LeastCovers.{least, closure}
use Rattle.topos_model.specs.topologies.TopologyFaults.{intersection}
use Rattle.topos_model.proofs.ArrowsInto.{In-into, In-into_from}
use Rattle.fin_category.proofs.ArrowLists.{In-has, contains-each, each-contains, Rises-into, In-intersection, In-intersection_from}
use Rattle.sieve_table.proofs.SieveMembers.{IsSieve, Distinct-into, sieve_of, same_sieve, In-pull, In-pull_from, pull-sieve, intersection-sieve, maximal-sieve, filter-sieve, goes, comes, source, regroup, domain}
use Rattle.topologies.proofs.LeastCovers.{least-into, sink}
use Rattle.topologies.proofs.Closure.{In-closure_from, In-closure_least, closure_least_In, closure-sieve, closure-extensive, closure_closed, closure_below}
use Rattle.omega_object.specs.TruthValues.{closed_sieves, implication, Precedes}
use Rattle.omega_object.proofs.Precedence.{precedes}

-- a sublist that is closed is in the list
pub rising_closed : (s : Site) (c : ℕ) → Rising Precedes (closed_sieves s c)
unfolding closed_sieves sieves
rising_closed s c =
    let k = s.category in
    let all : Rising (SublistBelow (into k c)) (filter (is_closed_sieve s c) (filter (is_sieve k) (sublists (into k c)))) =
    Rising-filter (SublistBelow (into k c)) (is_closed_sieve s c) _ (Rising-filter (SublistBelow (into k c)) (is_sieve k) _ (Rising-sublists (into k c) (Distinct-into k c))) in
    same (filter (is_closed_sieve s c) (filter (is_sieve k) (sublists (into k c)))) (λ S i. (In-filter_from (is_sieve k) (sublists (into k c)) S (In-filter_from (is_closed_sieve s c) _ S i).0).0) all
  where
    outside : (S T : List ℕ) → In (sublists (into s.category c)) S → In (sublists (into s.category c)) T → (g : ℕ) → (In (into s.category c) g → ⊥) → has g S ≡ has g T
    outside S T i j g out =
        same_tests (has g S) (has g T)
        (λ e. absurd (out (sublist_within (into s.category c) S g i (In-has S g e))))
        (λ e. absurd (out (sublist_within (into s.category c) T g j (In-has T g e))))

    same : (rows : List (List ℕ)) → ((S : List ℕ) → In rows S → In (sublists (into s.category c)) S) → Rising (SublistBelow (into s.category c)) rows → Rising Precedes rows
    same [] h r = tt
    same (S ∷ rows) h r = (
      λ T i. precedes (into s.category c) S T (Rises-into s.category c) (outside S T (h S (inl refl)) (h T (inr i))) (r.0 T i),
      same rows (λ T i. h T (inr i)) r.1,
    )

module _ (s : Site) (laws : IsCategory s.category) (top : IsTopology s) where
  abbrev k : Category
  k = s.category

  pub closed_sieve : (c : ℕ) (S : List ℕ) → In (closed_sieves s c) S → IsSieve k c S
  unfolding closed_sieves
  closed_sieve c S i = sieve_of k c S (In-filter_from (is_closed_sieve s c) (sieves k c) S i).0

  -- an arrow that goes into a closed sieve along the least cover of its domain is in it
  pub covered_in : (c f : ℕ) (S : List ℕ) → In (closed_sieves s c) S → IsInto k c f → ((g : ℕ) → In (least s (dom k f)) g → In S (compose k f g)) → In S f
  unfolding closed_sieves
  covered_in c f S i j each =
      closure_below s laws top c S S f i (λ g m. m) (In-closure_least s laws top c f S (closed_sieve c S i) j each)

  pub closed_from : (c : ℕ) (S : List ℕ) → IsSieve k c S → ((f : ℕ) → IsInto k c f → ((g : ℕ) → In (least s (dom k f)) g → In S (compose k f g)) → In S f) → In (closed_sieves s c) S
  unfolding closed_sieves
  closed_from c S sieve each =
      let e : closure s c S ≡ S = same_sieve k c (closure s c S) S (closure-sieve s laws top c S sieve) sieve
      (λ f i. each f (In-closure_from s c f S i).0 (closure_least_In s laws top c f S i)) (λ f i. closure-extensive s laws top c f S sieve i) in
      subst (λ T. In (filter (is_closed_sieve s c) (sieves k c)) T) e (closure_closed s laws top c S sieve)

  pub closure_in : (c : ℕ) (S : List ℕ) → IsSieve k c S → In (closed_sieves s c) (closure s c S)
  unfolding closed_sieves
  closure_in c S sieve = closure_closed s laws top c S sieve

  pub maximal_in : (c : ℕ) → In (closed_sieves s c) (into k c)
  maximal_in c = closed_from c (into k c) (maximal-sieve k laws c) (λ f i each. In-into k c f i)

  pub meet_in : (c : ℕ) (S T : List ℕ) → In (closed_sieves s c) S → In (closed_sieves s c) T → In (closed_sieves s c) (intersection S T)
  meet_in c S T i j =
      closed_from c (intersection S T) (intersection-sieve k c S T (closed_sieve c S i) (closed_sieve c T j)) (λ f a each.
      In-intersection S T f (covered_in c f S i a (λ g m. (In-intersection_from S T _ (each g m)).0)) (covered_in c f T j a (λ g m. (In-intersection_from S T _ (each g m)).1)))

  pub pull_in : (c f : ℕ) (S : List ℕ) → In (closed_sieves s c) S → IsInto k c f → In (closed_sieves s (dom k f)) (pull k f S)
  pull_in c f S i j =
      closed_from (dom k f) (pull k f S) (pull-sieve k laws c f S (closed_sieve c S i) j) (λ g a each.
      In-pull k f g S a (covered_in c (compose k f g) S i (goes k laws j a) (λ h m.
      let m' : In (least s (dom k g)) h = subst (λ d. In (least s d) h) (comes k laws j a) m in
      subst (λ x. In S x) (regroup k laws j a (least-into s laws (dom k g) h m')) (In-pull_from k f _ S (each h m')).1)))

  -- implication, by facts
  In-implication_from : (c f : ℕ) (S T : List ℕ) → In (implication k c S T) f → IsInto k c f × ((g : ℕ) → IsInto k (dom k f) g → In S (compose k f g) → In T (compose k f g))
  unfolding implication
  In-implication_from c f S T i =
      let r = In-filter_from (λ f. contains (pull k f S) (pull k f T)) (into k c) f i in
      (In-into_from k c f r.0, λ g a m. (In-pull_from k f g T (contains-each (pull k f S) (pull k f T) r.1 g (In-pull k f g S a m))).1)

  In-implication : (c f : ℕ) (S T : List ℕ) → IsInto k c f → ((g : ℕ) → IsInto k (dom k f) g → In S (compose k f g) → In T (compose k f g)) → In (implication k c S T) f
  unfolding implication
  In-implication c f S T i h =
      In-filter (λ f. contains (pull k f S) (pull k f T)) (into k c) f (In-into k c f i)
      (each-contains (pull k f S) (pull k f T) (λ g m. let r = In-pull_from k f g S m in In-pull k f g T r.0 (h g r.0 r.1)))

  pub implication_sieve : (c : ℕ) (S T : List ℕ) → IsSieve k c (implication k c S T)
  unfolding implication
  implication_sieve c S T =
      filter-sieve k laws c (λ f. contains (pull k f S) (pull k f T)) (λ f g i e j.
      let m = In-implication_from c f S T (In-filter (λ f. contains (pull k f S) (pull k f T)) (into k c) f (In-into k c f i) e) in
      each-contains (pull k (compose k f g) S) (pull k (compose k f g) T) (λ h n.
      let r = In-pull_from k (compose k f g) h S n in
      let a = source k laws i j r.0 in
      let q = regroup k laws i j a in
      In-pull k (compose k f g) h T r.0 (subst (λ x. In T x) q (m.1 (compose k g h) (goes k laws j a) (subst (λ x. In S x) (sym q) r.1)))))

  pub implication_in : (c : ℕ) (S T : List ℕ) → In (closed_sieves s c) S → In (closed_sieves s c) T → In (closed_sieves s c) (implication k c S T)
  implication_in c S T i j =
      let sieve = closed_sieve c S i in
      closed_from c (implication k c S T) (implication_sieve c S T) (λ f a each.
      In-implication c f S T a (λ h b m.
      covered_in c (compose k f h) T j (goes k laws a b) (λ g n.
      let n' : In (least s (dom k h)) g = subst (λ d. In (least s d) g) (comes k laws a b) n in
      let b' = least-into s laws (dom k h) g n' in
      let q = regroup k laws a b b' in
      let x = compose k f (compose k h g) in
      let inS : In S x = subst (λ y. In S y) (sym q) (sieve.closed (compose k f h) g m (subst (λ d. IsInto k d g) (sym (comes k laws a b)) b')) in
      let r = In-implication_from c x S T (each (compose k h g) (sink s laws top (dom k f) h g b n')) in
      let id = laws.identity (dom k x) (domain k laws r.0) in
      let same : compose k x (dom k x) ≡ x = laws.right_neutral c x r.0 in
      subst (λ y. In T y) (same ∙ q) (r.1 (dom k x) id.0 (subst (λ y. In S y) (sym same) inS)))))
