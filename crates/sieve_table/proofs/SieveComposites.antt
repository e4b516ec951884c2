-- Composites of arrows of one set with arrows of others.
use Rattle.std.proofs.Common.{◌≡◌, ℕ, ◌<◌, ◌⊎◌, inl, inr, List, [], ◌∷◌, map, refl, sym, ◌∙◌, ap, subst, eqb}
use Rattle.std.specs.List.{list_any}
use Rattle.std.proofs.lemmas.Bool.{eqb-true, eq-eqb}
use Rattle.finite_lists.specs.Members.{In}
use Rattle.finite_lists.proofs.Lists.{In-filter, In-filter_from, some_any, any_some, In-map, In-map_from}
use Rattle.topos_model.specs.categories.Category.{Category, into, dom, compose, generated}
use Rattle.topos_model.specs.Laws.{IsCategory, IsInto}
use Rattle.topos_model.proofs.ArrowsInto.{In-into, In-into_from}
use Rattle.fin_category.specs.Masks.{all_added}
use Rattle.fin_category.proofs.ArrowLists.{Rises, Rises-filter, Rises-into, Rises-all_added, In-all_added, In-all_added_from, same_members}
use Rattle.sieve_table.specs.Composites.{composites, all_composites}
use Rattle.sieve_table.proofs.SieveMembers.{IsSieve, goes, source, regroup, domain, maximal-sieve}

module _ (k : Category) (second : ℕ → List ℕ) where
  pub In-composites_from : (c : ℕ) (first : List ℕ) (h : ℕ) → In (composites k second c first) h →
      (f : ℕ) × (g : ℕ) × In first f × In (second (dom k f)) g × (compose k f g ≡ h)
  In-composites_from c first h i =
      let r = In-filter_from (λ h. list_any (λ f. list_any (λ g. eqb (compose k f g) h) (second (dom k f))) first) (into k c) h i in
      let p = any_some (λ f. list_any (λ g. eqb (compose k f g) h) (second (dom k f))) first r.1 in
      let q = any_some (λ g. eqb (compose k p.0 g) h) (second (dom k p.0)) p.2 in
      (p.0, q.0, p.1, q.1, eqb-true _ _ q.2)

  pub In-composites : (c : ℕ) (first : List ℕ) (f g : ℕ) → IsInto k c (compose k f g) → In first f → In (second (dom k f)) g → In (composites k second c first) (compose k f g)
  In-composites c first f g h i j =
      In-filter (λ h. list_any (λ f. list_any (λ g. eqb (compose k f g) h) (second (dom k f))) first) (into k c) (compose k f g) (In-into k c _ h)
      (some_any _ first f i (some_any _ (second (dom k f)) g j (eq-eqb _ _ refl)))

  pub Rises-composites : (c : ℕ) (first : List ℕ) → Rises (composites k second c first)
  Rises-composites c first = Rises-filter (λ h. list_any (λ f. list_any (λ g. eqb (compose k f g) h) (second (dom k f))) first) (into k c) (Rises-into k c)

  -- put into a set one after another
  pub Rises-all_composites : (S fs : List ℕ) → Rises S → Rises (all_composites k second S fs)
  unfolding all_composites
  Rises-all_composites S [] r = r
  Rises-all_composites S (f ∷ fs) r = Rises-all_composites (all_added S (map (compose k f) (second (dom k f)))) fs (Rises-all_added S (map (compose k f) (second (dom k f))) r)

  pub In-all_composites_from : (S fs : List ℕ) (h : ℕ) → In (all_composites k second S fs) h →
      In S h ⊎ ((f : ℕ) × (g : ℕ) × In fs f × In (second (dom k f)) g × (compose k f g ≡ h))
  unfolding all_composites
  In-all_composites_from S [] h i = inl i
  In-all_composites_from S (f ∷ fs) h i =
      elim (In-all_composites_from (all_added S (map (compose k f) (second (dom k f)))) fs h i) [
        | inl j ↦ elim (In-all_added_from S (map (compose k f) (second (dom k f))) h j) [
          | inl l ↦ inl l
          | inr m ↦ let r = In-map_from (compose k f) (second (dom k f)) h m in inr (f, r.0, inl refl, r.1, r.2)
        ]
        | inr j ↦ inr (j.0, j.1, inr j.2, j.3, j.4)
      ]

  pub In-all_composites_old : (S fs : List ℕ) (h : ℕ) → h < 512 → In S h → In (all_composites k second S fs) h
  unfolding all_composites
  In-all_composites_old S [] h low i = i
  In-all_composites_old S (f ∷ fs) h low i = In-all_composites_old (all_added S (map (compose k f) (second (dom k f)))) fs h low (In-all_added S (map (compose k f) (second (dom k f))) h low (inl i))

  pub In-all_composites : (S fs : List ℕ) (f g : ℕ) → compose k f g < 512 → In fs f → In (second (dom k f)) g → In (all_composites k second S fs) (compose k f g)
  unfolding all_composites
  In-all_composites S [] f g low i j = absurd i
  In-all_composites S (e ∷ fs) f g low (inl s) j =
      In-all_composites_old _ fs _ low (In-all_added S (map (compose k e) (second (dom k e))) (compose k f g) low
      (inr (subst (λ e. In (map (compose k e) (second (dom k e))) (compose k f g)) (sym s) (In-map (compose k f) (second (dom k f)) g j))))
  In-all_composites S (e ∷ fs) f g low (inr i) j = In-all_composites (all_added S (map (compose k e) (second (dom k e)))) fs f g low i j

  pub all_composites-end : (S : List ℕ) → all_composites k second S [] ≡ S
  unfolding all_composites
  all_composites-end S = refl

  pub all_composites-step : (S : List ℕ) (f : ℕ) (fs : List ℕ) → all_composites k second S (f ∷ fs) ≡ all_composites k second (all_added S (map (compose k f) (second (dom k f)))) fs
  unfolding all_composites
  all_composites-step S f fs = refl

module _ (k : Category) (laws : IsCategory k) (second : ℕ → List ℕ) (few : (c f : ℕ) → IsInto k c f → f < 512) where
  -- both are the same set
  pub all_composites-are : (c : ℕ) (first : List ℕ) → ((f : ℕ) → In first f → IsInto k c f) → ((d g : ℕ) → In (second d) g → IsInto k d g) →
      all_composites k second [] first ≡ composites k second c first
  all_composites-are c first into_c into_d =
      same_members (all_composites k second [] first) (composites k second c first) (Rises-all_composites k second [] first tt) (Rises-composites k second c first)
      (λ h i.
      elim (In-all_composites_from k second [] first h i) [
        | inl n ↦ absurd n
        | inr r ↦ subst (λ h. In (composites k second c first) h) r.4 (In-composites k second c first r.0 r.1 (goes k laws (into_c r.0 r.2) (into_d _ r.1 r.3)) r.2 r.3)
      ])
      (λ h i.
      let (f, g, j, l, e) = In-composites_from k second c first h i in
      subst (λ h. In (all_composites k second [] first) h) e (In-all_composites k second [] first f g (few c _ (goes k laws (into_c f j) (into_d _ g l))) j l))

module _ (k : Category) (laws : IsCategory k) where
  pub composites-sieve : (second : ℕ → List ℕ) (c : ℕ) (first : List ℕ) → ((f : ℕ) → In first f → IsInto k c f) → ((d : ℕ) → IsSieve k d (second d)) →
      IsSieve k c (composites k second c first)
  composites-sieve second c first into_first sieves = record {
    within = λ h i. In-into_from k c h (In-filter_from _ (into k c) h i).0;
    closed = λ h l i j.
        let (f, g, inf, ing, e) = In-composites_from k second c first h i in
        let a : IsInto k c f = into_first f inf in
        let b : IsInto k (dom k f) g = (sieves (dom k f)).within g ing in
        let m : IsInto k (dom k g) l = source k laws a b (subst (λ x. IsInto k (dom k x) l) (sym e) j) in
        let r : compose k f (compose k g l) ≡ compose k h l = regroup k laws a b m ∙ ap (λ x. compose k x l) e in
        subst (λ x. In (composites k second c first) x) r
        (In-composites k second c first f (compose k g l) (goes k laws a (goes k laws b m)) inf ((sieves (dom k f)).closed g l ing m));
    rises = Rises-composites k second c first;
  }

  -- arrows lie in the sieve that they generate
  pub In-generated : (c : ℕ) (gs : List ℕ) (g : ℕ) → IsInto k c g → In gs g → In (generated k c gs) g
  unfolding generated
  In-generated c gs g i j =
      let d = domain k laws i in
      let e = laws.right_neutral c g i in
      subst (λ x. In (composites k (into k) c gs) x) e
      (In-composites k (into k) c gs g (dom k g) (subst (IsInto k c) (sym e) i) j (In-into k _ _ (laws.identity (dom k g) d).0))

  pub generated-within : (c : ℕ) (gs S : List ℕ) → IsSieve k c S → ((f : ℕ) → In gs f → In S f) → (h : ℕ) → In (generated k c gs) h → In S h
  unfolding generated
  generated-within c gs S sieve below h i =
      let (f, g, j, l, e) = In-composites_from k (into k) c gs h i in
      subst (λ x. In S x) e (sieve.closed f g (below f j) (In-into_from k _ g l))

  pub generated-sieve : (c : ℕ) (gs : List ℕ) → ((f : ℕ) → In gs f → IsInto k c f) → IsSieve k c (generated k c gs)
  unfolding generated
  generated-sieve c gs into_c = composites-sieve (into k) c gs into_c (maximal-sieve k laws)

  -- the composites, put into a set one after another
  pub generated-all : ((c f : ℕ) → IsInto k c f → f < 512) → (c : ℕ) (gs : List ℕ) → ((f : ℕ) → In gs f → IsInto k c f) → all_composites k (into k) [] gs ≡ generated k c gs
  unfolding generated
  generated-all few c gs into_c = all_composites-are k laws (into k) few c gs into_c (λ d g i. In-into_from k d g i)
