-- The subsets of a presheaf of values, closed under restriction and covers, are a presheaf.
use Rattle.std.proofs.Common.{◌≡◌, ℕ, ◌<◌, true, ◌&&◌, List, filter, sym, ◌∙◌, ap, subst}
use Rattle.std.proofs.lemmas.Bool.{and_parts, and_from}
use Rattle.topos_model.specs.declared.value.Val.{Val, Sub}
use Rattle.topos_model.specs.declared.value.Entry.{Entry}
use Rattle.finite_lists.specs.Members.{In, Distinct}
use Rattle.finite_lists.specs.Sublists.{sublists}
use Rattle.topos_model.specs.categories.Category.{Category, into, dom, compose}
use Rattle.topos_model.specs.topologies.Cover.{Site, covers}
use Rattle.topos_model.specs.Laws.{IsCategory, IsInto}
use Rattle.topos_model.specs.types.Types.{places, in_entries, closed_below, closed_under_covers, pow_elements, pow_along}
use Rattle.topos_model.proofs.ValueEquations.{entries_of-Sub}
use Rattle.type_laws.proofs.Selectors.{Sub-equal}
use Rattle.finite_lists.proofs.Lists.{same_tests, In-filter, In-filter_from, In-map, In-map_from, all_each, each_all, any_some, some_any, filter_same, filter_sublist, sublist_within, sublist_kept}
use Rattle.finite_lists.proofs.DistinctLists.{Distinct-filter, Distinct-map, Distinct-sublists}
use Rattle.topos_model.proofs.ArrowsInto.{In-into, In-into_from}
use Rattle.type_laws.proofs.Covers.{or_not, or_not_from, cover_arrow}
use Rattle.type_laws.proofs.Places.{IsPresheaf, entries_In, In_entries, moved, under, Distinct-places, moved_place, under_place, under_source, moved_under, under_under, under_identity}

module _ (s : Site) (values : ℕ → List Val) (restrict : ℕ → Val → Val) where
  abbrev k : Category
  k = s.category

  pub record IsClosedSubset (c : ℕ) (l : List Entry) : Type 0 where
    pub member : In (sublists (places s values c)) l
    pub downward : (e : Entry) (g : ℕ) → In l e → IsInto k (dom k e.arrow) g → In l (moved s restrict e g)
    pub closed : (e : Entry) (R : List ℕ) → In (places s values c) e → In (covers s (dom k e.arrow)) R →
        ((g : ℕ) → In R g → In l (moved s restrict e g)) → In l e

  pub subset_tests : (c : ℕ) (l : List Entry) → In (sublists (places s values c)) l →
      (closed_below s restrict l && closed_under_covers s restrict (places s values c) l) ≡ true → IsClosedSubset c l
  unfolding closed_below closed_under_covers
  subset_tests c l m h =
      let t = and_parts (closed_below s restrict l) (closed_under_covers s restrict (places s values c) l) h in
      record {
        member = m;
        downward = λ e g i j. entries_In _ _ l (all_each _ (into k (dom k e.arrow)) g (all_each _ l e t.0 i) (In-into k (dom k e.arrow) g j));
        closed = λ e R i r each.
            entries_In e.arrow e.val l (or_not _ _ (all_each _ (places s values c) e t.1 i)
            (some_any _ (covers s (dom k e.arrow)) R r (each_all _ R (λ g j. In_entries _ _ l (each g j)))));
      }

  pub subset_passes : (c : ℕ) (l : List Entry) → IsClosedSubset c l →
      (closed_below s restrict l && closed_under_covers s restrict (places s values c) l) ≡ true
  unfolding closed_below closed_under_covers
  subset_passes c l h =
      and_from _ _
      (each_all _ l (λ e i. each_all _ (into k (dom k e.arrow)) (λ g j. In_entries _ _ l (h.downward e g i (In-into_from k (dom k e.arrow) g j)))))
      (each_all _ (places s values c) (λ e i.
      or_not_from _ _ (λ t.
      let m = any_some _ (covers s (dom k e.arrow)) t in
      In_entries e.arrow e.val l (h.closed e m.0 i m.1 (λ g j. entries_In _ _ l (all_each _ m.0 g m.2 j))))))

  -- the elements of the power type are exactly the closed subsets
  pub pow_In : (c : ℕ) (l : List Entry) → IsClosedSubset c l → In (pow_elements s values restrict c) (Sub l)
  unfolding pow_elements
  pow_In c l h = In-map Sub _ l (In-filter _ _ l h.member (subset_passes c l h))

  pub In_pow : (c : ℕ) (v : Val) → In (pow_elements s values restrict c) v → (l : List Entry) × IsClosedSubset c l × (Sub l ≡ v)
  unfolding pow_elements
  In_pow c v h =
      let m = In-map_from Sub _ v h in
      let n = In-filter_from (λ l. closed_below s restrict l && closed_under_covers s restrict (places s values c) l) (sublists (places s values c)) m.0 m.1 in
      (m.0, subset_tests c m.0 n.0 n.1, m.2)

  -- the (h, w) with (f.h, w) in l
  abbrev pub narrowed : ℕ → List Entry → List Entry
  narrowed f l = filter (λ e. in_entries (compose k f e.arrow) e.val l) (places s values (dom k f))

  pub pow_along_Sub : (f : ℕ) (l : List Entry) → pow_along s values f (Sub l) ≡ Sub (narrowed f l)
  unfolding pow_along
  pow_along_Sub f l = ap (λ x. Sub (narrowed f x)) (entries_of-Sub l)

  pub narrowed_In : (f : ℕ) (l : List Entry) (e : Entry) → In (places s values (dom k f)) e → In l (under s f e) → In (narrowed f l) e
  narrowed_In f l e h i = In-filter _ _ e h (In_entries _ _ l i)

  pub In_narrowed : (f : ℕ) (l : List Entry) (e : Entry) → In (narrowed f l) e → In (places s values (dom k f)) e × In l (under s f e)
  In_narrowed f l e h =
      let m = In-filter_from (λ e. in_entries (compose k f e.arrow) e.val l) (places s values (dom k f)) e h in
      (m.0, entries_In _ _ l m.1)

  module _ (laws : IsCategory k) (presheaf : IsPresheaf k values restrict) where
    pub pow_within : (c f : ℕ) (l : List Entry) → IsInto k c f → IsClosedSubset c l → IsClosedSubset (dom k f) (narrowed f l)
    pow_within c f l i h = record {
      member = filter_sublist _ (places s values (dom k f));
      downward = λ e g j j'.
          let m = In_narrowed f l e j in
          let source = under_source s laws values restrict c f e i m.0 in
          narrowed_In f l (moved s restrict e g) (moved_place s laws values restrict (dom k f) e g presheaf m.0 j')
          (subst (λ x. In l x) (sym (moved_under s laws values restrict c f e g i m.0 j'))
          (h.downward (under s f e) g m.1 (subst (λ d. IsInto k d g) (sym source) j')));
      closed = λ e R p r each.
          let source = under_source s laws values restrict c f e i p in
          narrowed_In f l e p
          (h.closed (under s f e) R (under_place s laws values restrict c f e i p) (subst (λ d. In (covers s d) R) (sym source) r)
          (λ g j. subst (λ x. In l x) (moved_under s laws values restrict c f e g i p (cover_arrow s (dom k e.arrow) g R r j)) (In_narrowed f l (moved s restrict e g) (each g j)).1));
    }

    pub pow_identity : (c : ℕ) (l : List Entry) → c < k.objects → ((d : ℕ) → Distinct (values d)) → IsClosedSubset c l → narrowed c l ≡ l
    pow_identity c l low distinct h =
        ap (λ d. filter (λ e. in_entries (compose k c e.arrow) e.val l) (places s values d)) (laws.identity c low).1
        ∙ sublist_kept (λ e. in_entries (compose k c e.arrow) e.val l) (places s values c) l (Distinct-places s values c distinct) h.member
        (λ e j t. subst (λ x. In l x) (under_identity s laws values restrict c e low j) (entries_In _ _ l t))
        (λ e j. In_entries _ _ l (subst (λ x. In l x) (sym (under_identity s laws values restrict c e low (sublist_within (places s values c) l e h.member j))) j))

    pub pow_composite : (c f g : ℕ) (l : List Entry) → IsInto k c f → IsInto k (dom k f) g → narrowed g (narrowed f l) ≡ narrowed (compose k f g) l
    pow_composite c f g l i j =
        filter_same _ _ (places s values (dom k g)) (λ e p.
        let q = under_under s laws values restrict c f g e i j p in
        same_tests _ _
        (λ t. In_entries _ _ l (subst (λ x. In l x) q (In_narrowed f l (under s g e) (entries_In _ _ (narrowed f l) t)).1))
        (λ t. In_entries _ _ (narrowed f l)
        (narrowed_In f l (under s g e) (under_place s laws values restrict (dom k f) g e j p) (subst (λ x. In l x) (sym q) (entries_In _ _ l t)))))
        ∙ ap (λ d. filter (λ e. in_entries (compose k (compose k f g) e.arrow) e.val l) (places s values d)) (sym (laws.composite c f g i j).1)

    pub pow_presheaf : ((d : ℕ) → Distinct (values d)) → IsPresheaf k (pow_elements s values restrict) (pow_along s values)
    pow_presheaf distinct = record {
      within = λ c f v i h.
          let m = In_pow c v h in
          subst (λ u. In (pow_elements s values restrict (dom k f)) (pow_along s values f u)) m.2
          (subst (λ u. In (pow_elements s values restrict (dom k f)) u) (sym (pow_along_Sub f m.0)) (pow_In (dom k f) _ (pow_within c f m.0 i m.1)));
      identity = λ c v low h.
          let m = In_pow c v h in
          subst (λ u. pow_along s values c u ≡ u) m.2 (pow_along_Sub c m.0 ∙ ap Sub (pow_identity c m.0 low distinct m.1));
      composite = λ c f g v i j h.
          let m = In_pow c v h in
          subst (λ u. pow_along s values g (pow_along s values f u) ≡ pow_along s values (compose k f g) u) m.2
          (ap (pow_along s values g) (pow_along_Sub f m.0) ∙ pow_along_Sub g _ ∙ ap Sub (pow_composite c f g m.0 i j) ∙ sym (pow_along_Sub (compose k f g) m.0));
    }

  pub Distinct-pow : (c : ℕ) → ((d : ℕ) → Distinct (values d)) → Distinct (pow_elements s values restrict c)
  unfolding pow_elements
  Distinct-pow c distinct =
      Distinct-map Sub _ Sub-equal (Distinct-filter _ _ (Distinct-sublists _ (Distinct-places s values c distinct)))
