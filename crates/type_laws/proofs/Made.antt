-- Sieves and subsets that are made by a test, and assignments that are made by a function: when they are elements, and their restrictions.
use Rattle.std.proofs.Common.{◌≡◌, ℕ, ◌<◌, Bool, true, List, filter, sym, ◌∙◌, ap, subst}
use Rattle.topos_model.specs.declared.value.Val.{Val}
use Rattle.topos_model.specs.declared.value.Entry.{Entry}
use Rattle.topos_model.specs.declared.value.Assign.{Assign}
use Rattle.finite_lists.specs.Members.{In}
use Rattle.topos_model.specs.categories.Category.{Category, has, into, dom, compose, pull}
use Rattle.topos_model.specs.topologies.Cover.{Site, covers}
use Rattle.topos_model.specs.Laws.{IsCategory, IsInto}
use Rattle.topos_model.specs.types.Types.{places, in_entries}
use Rattle.finite_lists.proofs.Lists.{same_tests, In-filter, In-filter_from, filter_same, filter_sublist, map_same}
use Rattle.topos_model.proofs.ArrowsInto.{In-into, In-into_from}
use Rattle.sieve_table.proofs.SieveMembers.{In-pull_from}
use Rattle.type_laws.proofs.Arrows.{has_In, In_has}
use Rattle.type_laws.proofs.Places.{IsPresheaf, entry, entries_In, In_entries, moved, under, places_In, moved_place, under_place}
use Rattle.type_laws.proofs.TruthValues.{IsClosedSieve}
use Rattle.type_laws.proofs.Subsets.{IsClosedSubset, narrowed}
use Rattle.type_laws.proofs.Tables.{row, tabulate, at_entry, at_tabulate, tabulate_In, at_within}
use Rattle.type_laws.proofs.Functions.{IsNaturalTable, shifted}
use Rattle.type_laws.proofs.Readings.{read_function}

module _ (s : Site) (laws : IsCategory s.category) where
  abbrev k : Category
  k = s.category

  -- the arrows with a property that is kept along arrows and holds where it holds on a cover
  pub sieve_made : (c : ℕ) (p : ℕ → Bool) →
      ((f g : ℕ) → IsInto k c f → IsInto k (dom k f) g → p f ≡ true → p (compose k f g) ≡ true) →
      ((f : ℕ) (R : List ℕ) → IsInto k c f → In (covers s (dom k f)) R → ((g : ℕ) → In R g → p (compose k f g) ≡ true) → p f ≡ true) →
      IsClosedSieve s c (filter p (into k c))
  sieve_made c p kept local = record {
    sieve = record {
      member = filter_sublist p (into k c);
      downward = λ f g m j.
          let n = In-filter_from p (into k c) f m in
          let i = In-into_from k c f n.0 in
          In-filter p (into k c) (compose k f g) (In-into k c (compose k f g) (laws.composite c f g i j).0) (kept f g i j n.1);
    };
    closed = λ f i r.
        In-filter p (into k c) f (In-into k c f i) (local f (pull k f (filter p (into k c))) i r (λ g n. (In-filter_from p (into k c) (compose k f g) (In-pull_from k f g (filter p (into k c)) n).1).1));
  }

  pub sieve_made_along : (c f : ℕ) (p : ℕ → Bool) → IsInto k c f → pull k f (filter p (into k c)) ≡ filter (λ g. p (compose k f g)) (into k (dom k f))
  unfolding pull
  sieve_made_along c f p i =
      filter_same (λ g. has (compose k f g) (filter p (into k c))) (λ g. p (compose k f g)) (into k (dom k f)) (λ g j.
      same_tests _ _
      (λ h. (In-filter_from p (into k c) (compose k f g) (has_In _ _ h)).1)
      (λ h. In_has _ _ (In-filter p (into k c) (compose k f g) (In-into k c (compose k f g) (laws.composite c f g i (In-into_from k (dom k f) g j)).0) h)))

  module _ (values : ℕ → List Val) (restrict : ℕ → Val → Val) (presheaf : IsPresheaf k values restrict) where
    -- the places with a property that is kept along arrows and holds where it holds on a cover
    pub subset_made : (c : ℕ) (p : Entry → Bool) →
        ((e : Entry) (g : ℕ) → In (places s values c) e → IsInto k (dom k e.arrow) g → p e ≡ true → p (moved s restrict e g) ≡ true) →
        ((e : Entry) (R : List ℕ) → In (places s values c) e → In (covers s (dom k e.arrow)) R → ((g : ℕ) → In R g → p (moved s restrict e g) ≡ true) → p e ≡ true) →
        IsClosedSubset s values restrict c (filter p (places s values c))
    subset_made c p kept local = record {
      member = filter_sublist p (places s values c);
      downward = λ e g m j.
          let n = In-filter_from p (places s values c) e m in
          In-filter p (places s values c) (moved s restrict e g) (moved_place s laws values restrict c e g presheaf n.0 j) (kept e g n.0 j n.1);
      closed = λ e R i r m.
          In-filter p (places s values c) e i (local e R i r (λ g n. (In-filter_from p (places s values c) (moved s restrict e g) (m g n)).1));
    }

    pub subset_made_along : (c f : ℕ) (p : Entry → Bool) → IsInto k c f →
        narrowed s values restrict f (filter p (places s values c)) ≡ filter (λ e. p (under s f e)) (places s values (dom k f))
    subset_made_along c f p i =
        filter_same (λ e. in_entries (compose k f e.arrow) e.val (filter p (places s values c))) (λ e. p (under s f e)) (places s values (dom k f)) (λ e j.
        same_tests _ _
        (λ h. (In-filter_from p (places s values c) (under s f e) (entries_In _ _ _ h)).1)
        (λ h. In_entries _ _ _ (In-filter p (places s values c) (under s f e) (under_place s laws values restrict c f e i j) h)))

    module _ (values' : ℕ → List Val) (restrict' : ℕ → Val → Val) where
      -- a function of the places that commutes with restriction
      pub table_made : (c : ℕ) (t : Entry → Val) → ((e : Entry) → In (places s values c) e → In (values' (dom k e.arrow)) (t e)) →
          ((e : Entry) (g : ℕ) → In (places s values c) e → IsInto k (dom k e.arrow) g → restrict' g (t e) ≡ t (moved s restrict e g)) →
          IsNaturalTable s values restrict values' restrict' c (tabulate t (places s values c))
      table_made c t inside natural = record {
        member = tabulate_In (λ f. values' (dom k f)) t (places s values c) inside;
        natural = λ e g i j.
            ap (restrict' g) (at_tabulate t (places s values c) e i)
            ∙ natural e g i j
            ∙ sym (at_tabulate t (places s values c) (moved s restrict e g) (moved_place s laws values restrict c e g presheaf i j));
      }

      pub table_made_along : (c f : ℕ) (t : Entry → Val) → IsInto k c f →
          shifted s values restrict values' restrict' f (tabulate t (places s values c)) ≡ tabulate (λ e. t (under s f e)) (places s values (dom k f))
      table_made_along c f t i =
          map_same (row (λ e. at_entry (tabulate t (places s values c)) (under s f e))) (row (λ e. t (under s f e))) (places s values (dom k f)) (λ e j.
          ap (λ v. row (λ x. v) e) (at_tabulate t (places s values c) (under s f e) (under_place s laws values restrict c f e i j)))

      -- a function is applied at the identity
      identity_place : (c : ℕ) (w : Val) → c < k.objects → In (values c) w → In (places s values c) (entry c w)
      identity_place c w low h =
          let id = laws.identity c low in
          places_In s values c (entry c w) id.0 (subst (λ d. In (values d) w) (sym id.1) h)

      pub applied_within : (c : ℕ) (l : List Assign) (w : Val) → c < k.objects → IsNaturalTable s values restrict values' restrict' c l → In (values c) w → In (values' c) (at_entry l (entry c w))
      applied_within c l w low h j =
          subst (λ d. In (values' d) (at_entry l (entry c w))) (laws.identity c low).1
          (at_within (λ f. values' (dom k f)) (places s values c) l (entry c w) h.member (identity_place c w low j))

      pub applied_along : (c f : ℕ) (l : List Assign) (w : Val) → c < k.objects → IsNaturalTable s values restrict values' restrict' c l → IsInto k c f → In (values c) w →
          restrict' f (at_entry l (entry c w)) ≡ at_entry (shifted s values restrict values' restrict' f l) (entry (dom k f) (restrict f w))
      applied_along c f l w low h i j =
          h.natural (entry c w) f (identity_place c w low j) (subst (λ d. IsInto k d f) (sym (laws.identity c low).1) i)
          ∙ ap (λ g. at_entry l (entry g (restrict f w))) (laws.left_neutral c f i)
          ∙ sym (read_function s values restrict values' restrict' c f (restrict f w) l laws (laws.ends f i.0).0 i (presheaf.within c f w i j))
