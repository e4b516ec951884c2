-- Arrows into an object and sieves, as members of lists, and how sieves pull back.
use Rattle.std.proofs.Common.{◌≡◌, ℕ, ◌<◌, true, List, filter, sym, ◌∙◌, ap, subst}
use Rattle.finite_lists.specs.Members.{In}
use Rattle.finite_lists.specs.Sublists.{sublists}
use Rattle.topos_model.specs.categories.Category.{Category, has, into, dom, compose, is_sieve, sieves, pull}
use Rattle.topos_model.specs.Laws.{IsCategory, IsInto}
use Rattle.topos_model.proofs.ArrowsInto.{In-into, In-into_from}
use Rattle.fin_category.proofs.ArrowLists.{has-In, In-has}
use Rattle.sieve_table.proofs.SieveMembers.{Distinct-into, In-pull, In-pull_from}
use Rattle.finite_lists.proofs.Lists.{same_tests, In-filter, In-filter_from, all_each, each_all, filter_same, filter_sublist, sublist_within, sublist_kept}

pub has_In : (f : ℕ) (xs : List ℕ) → has f xs ≡ true → In xs f
has_In f xs h = In-has xs f h

pub In_has : (f : ℕ) (xs : List ℕ) → In xs f → has f xs ≡ true
In_has f xs h = has-In xs f h

module _ (k : Category) where
  pub pull_In : (c f g : ℕ) (S : List ℕ) → IsInto k (dom k f) g → In S (compose k f g) → In (pull k f S) g
  pull_In c f g S j h = In-pull k f g S j h

  pub pull_sublist : (f : ℕ) (S : List ℕ) → In (sublists (into k (dom k f))) (pull k f S)
  unfolding pull
  pull_sublist f S = filter_sublist _ (into k (dom k f))

  -- two sublists of the arrows into an object with the same members are equal
  pub same_arrows : (c : ℕ) (S R : List ℕ) → In (sublists (into k c)) S → In (sublists (into k c)) R →
      ((f : ℕ) → In S f → In R f) → ((f : ℕ) → In R f → In S f) → S ≡ R
  same_arrows c S R m n to back =
      sym (sublist_kept (λ f. has f S) (into k c) S (Distinct-into k c) m (λ f i. has_In f S) (λ f. In_has f S))
      ∙ sublist_kept (λ f. has f S) (into k c) R (Distinct-into k c) n (λ f i h. to f (has_In f S h)) (λ f h. In_has f S (back f h))

  -- a sieve on c
  pub record IsSieve (c : ℕ) (S : List ℕ) : Type 0 where
    pub member : In (sublists (into k c)) S
    pub downward : (f g : ℕ) → In S f → IsInto k (dom k f) g → In S (compose k f g)

  pub sieve_arrow : (c f : ℕ) (S : List ℕ) → In (sublists (into k c)) S → In S f → IsInto k c f
  sieve_arrow c f S m h = In-into_from k c f (sublist_within (into k c) S f m h)

  pub sieves_In : (c : ℕ) (S : List ℕ) → IsSieve c S → In (sieves k c) S
  unfolding sieves is_sieve
  sieves_In c S h =
      In-filter _ _ S h.member (each_all _ S (λ f i. each_all _ (into k (dom k f)) (λ g j. In_has _ S (h.downward f g i (In-into_from k (dom k f) g j)))))

  pub In_sieves : (c : ℕ) (S : List ℕ) → In (sieves k c) S → IsSieve c S
  unfolding sieves is_sieve
  In_sieves c S h =
      let m = In-filter_from (is_sieve k) (sublists (into k c)) S h in
      record {
        member = m.0;
        downward = λ f g i j. has_In _ S (all_each _ (into k (dom k f)) g (all_each _ S f m.1 i) (In-into k (dom k f) g j));
      }

  module _ (laws : IsCategory k) where
    pub pull_sieve : (c f : ℕ) (S : List ℕ) → IsInto k c f → IsSieve c S → IsSieve (dom k f) (pull k f S)
    unfolding pull
    pull_sieve c f S i h = record {
      member = filter_sublist _ (into k (dom k f));
      downward = λ g g' j j'.
          let p = In-pull_from k f g S j in
          let q = laws.composite (dom k f) g g' p.0 j' in
          let j'' : IsInto k (dom k (compose k f g)) g' = subst (λ d. IsInto k d g') (sym (laws.composite c f g i p.0).1) j' in
          pull_In c f (compose k g g') S q.0 (subst (λ x. In S x) (sym (laws.associative c f g g' i p.0 j')) (h.downward (compose k f g) g' p.1 j''));
    }

    pub pull_identity : (c : ℕ) (S : List ℕ) → c < k.objects → In (sublists (into k c)) S → pull k c S ≡ S
    unfolding pull
    pull_identity c S low m =
        let at : dom k c ≡ c = (laws.identity c low).1 in
        ap (λ d. filter (λ g. has (compose k c g) S) (into k d)) at
        ∙ filter_same _ (λ g. has g S) (into k c) (λ g j. ap (λ x. has x S) (laws.left_neutral c g (In-into_from k c g j)))
        ∙ sublist_kept (λ g. has g S) (into k c) S (Distinct-into k c) m (λ g j. has_In g S) (λ g. In_has g S)

    pub pull_composite : (c f g : ℕ) (S : List ℕ) → IsInto k c f → IsInto k (dom k f) g → pull k g (pull k f S) ≡ pull k (compose k f g) S
    unfolding pull
    pull_composite c f g S i j =
        filter_same _ _ (into k (dom k g)) (λ h l.
        let l' : IsInto k (dom k g) h = In-into_from k (dom k g) h l in
        let e : compose k f (compose k g h) ≡ compose k (compose k f g) h = laws.associative c f g h i j l' in
        same_tests _ _
        (λ t. subst (λ x. has x S ≡ true) e (In_has _ S (In-pull_from k f (compose k g h) S (has_In _ (pull k f S) t)).1))
        (λ t. In_has _ _ (pull_In c f (compose k g h) S (laws.composite (dom k f) g h j l').0 (has_In _ S (subst (λ x. has x S ≡ true) (sym e) t)))))
        ∙ ap (λ d. filter (λ h. has (compose k (compose k f g) h) S) (into k d)) (sym (laws.composite c f g i j).1)
