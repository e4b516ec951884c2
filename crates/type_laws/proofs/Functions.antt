-- The natural assignments from one presheaf of values to another are a presheaf.
use Rattle.std.proofs.Common.{◌≡◌, ℕ, ◌<◌, Bool, true, List, sym, ◌∙◌, ap, subst}
use Rattle.std.specs.List.{list_all}
use Rattle.topos_model.specs.declared.value.Val.{Val, Fn}
use Rattle.topos_model.specs.declared.value.Entry.{Entry}
use Rattle.topos_model.specs.declared.value.Assign.{Assign}
use Rattle.finite_lists.specs.Members.{In, Distinct}
use Rattle.topos_model.specs.categories.Category.{Category, into, dom, compose}
use Rattle.topos_model.specs.topologies.Cover.{Site}
use Rattle.topos_model.specs.Laws.{IsCategory, IsInto}
use Rattle.topos_model.specs.types.Types.{places, assignments, at_place, is_natural, fun_elements, fun_along}
use Rattle.topos_model.specs.types.Values.{same}
use Rattle.topos_model.proofs.ValueEquations.{assigns_of-Fn}
use Rattle.type_laws.proofs.Selectors.{Fn-equal}
use Rattle.type_laws.proofs.Same.{same_equal, same_self}
use Rattle.finite_lists.proofs.Lists.{In-filter, In-filter_from, In-map, In-map_from, all_each, each_all, map_same}
use Rattle.finite_lists.proofs.DistinctLists.{Distinct-filter, Distinct-map}
use Rattle.topos_model.proofs.ArrowsInto.{In-into, In-into_from}
use Rattle.type_laws.proofs.Places.{IsPresheaf, moved, under, Distinct-places, moved_place, under_place, under_source, moved_under, under_under, under_identity}
use Rattle.type_laws.proofs.Tables.{row, tabulate, at_entry, at_tabulate, tabulate_In, at_within, assignment_table, Distinct-assignments}

module _ (s : Site) (values : ℕ → List Val) (restrict : ℕ → Val → Val) (values' : ℕ → List Val) (restrict' : ℕ → Val → Val) where
  abbrev k : Category
  k = s.category

  abbrev choices : ℕ → List Val
  choices f = values' (dom k f)

  pub record IsNaturalTable (c : ℕ) (l : List Assign) : Type 0 where
    pub member : In (assignments (λ f. values' (dom k f)) (places s values c)) l
    pub natural : (e : Entry) (g : ℕ) → In (places s values c) e → IsInto k (dom k e.arrow) g → restrict' g (at_entry l e) ≡ at_entry l (moved s restrict e g)

  abbrev square : List Assign → Assign → ℕ → Bool
  square l a g = same (restrict' g a.to) (at_place (compose k a.arrow g) (restrict g a.val) l)

  module _ (distinct : (d : ℕ) → Distinct (values d)) where
    pub natural_tests : (c : ℕ) (l : List Assign) → In (assignments choices (places s values c)) l → is_natural s restrict restrict' l ≡ true → IsNaturalTable c l
    unfolding is_natural
    natural_tests c l m h = record {
      member = m;
      natural = λ e g i j.
          let listed = subst (λ x. In x (row (at_entry l) e)) (assignment_table choices (places s values c) l (Distinct-places s values c distinct) m) (In-map (row (at_entry l)) (places s values c) e i) in
          same_equal _ _ (all_each (square l (row (at_entry l) e)) (into k (dom k e.arrow)) g (all_each _ l (row (at_entry l) e) h listed) (In-into k (dom k e.arrow) g j));
    }

    pub natural_passes : (c : ℕ) (l : List Assign) → IsNaturalTable c l → is_natural s restrict restrict' l ≡ true
    unfolding is_natural
    natural_passes c l h =
        each_all _ l (λ a i.
        let m = In-map_from (row (at_entry l)) (places s values c) a (subst (λ x. In x a) (sym (assignment_table choices (places s values c) l (Distinct-places s values c distinct) h.member)) i) in
        subst (λ a. list_all (square l a) (into k (dom k a.arrow)) ≡ true) m.2
        (each_all (square l (row (at_entry l) m.0)) (into k (dom k m.0.arrow)) (λ g j.
        subst (λ v. same (restrict' g (at_entry l m.0)) v ≡ true) (h.natural m.0 g m.1 (In-into_from k (dom k m.0.arrow) g j)) (same_self _))))

    -- the elements of the function type are exactly the natural assignments
    pub fun_In : (c : ℕ) (l : List Assign) → IsNaturalTable c l → In (fun_elements s values restrict values' restrict' c) (Fn l)
    unfolding fun_elements
    fun_In c l h = In-map Fn _ l (In-filter _ _ l h.member (natural_passes c l h))

    pub In_fun : (c : ℕ) (v : Val) → In (fun_elements s values restrict values' restrict' c) v → (l : List Assign) × IsNaturalTable c l × (Fn l ≡ v)
    unfolding fun_elements
    In_fun c v h =
        let m = In-map_from Fn _ v h in
        let n = In-filter_from (is_natural s restrict restrict') (assignments choices (places s values c)) m.0 m.1 in
        (m.0, natural_tests c m.0 n.0 n.1, m.2)

  -- (h, w) to the value at (f.h, w)
  abbrev pub shifted : ℕ → List Assign → List Assign
  shifted f l = tabulate (λ e. at_entry l (under s f e)) (places s values (dom k f))

  pub fun_along_Fn : (f : ℕ) (l : List Assign) → fun_along s values f (Fn l) ≡ Fn (shifted f l)
  unfolding fun_along
  fun_along_Fn f l = ap (λ x. Fn (shifted f x)) (assigns_of-Fn l)

  pub at_shifted : (f : ℕ) (l : List Assign) (e : Entry) → In (places s values (dom k f)) e → at_entry (shifted f l) e ≡ at_entry l (under s f e)
  at_shifted f l e h = at_tabulate (λ e. at_entry l (under s f e)) (places s values (dom k f)) e h

  module _ (laws : IsCategory k) where
    pub fun_within : (c f : ℕ) (l : List Assign) → IsPresheaf k values restrict → IsInto k c f → IsNaturalTable c l → IsNaturalTable (dom k f) (shifted f l)
    fun_within c f l presheaf i h = record {
      member = tabulate_In choices _ (places s values (dom k f)) (λ e p.
          subst (λ d. In (values' d) (at_entry l (under s f e))) (under_source s laws values restrict c f e i p)
          (at_within choices (places s values c) l (under s f e) h.member (under_place s laws values restrict c f e i p)));
      natural = λ e g p j.
          let source = under_source s laws values restrict c f e i p in
          ap (restrict' g) (at_shifted f l e p)
          ∙ h.natural (under s f e) g (under_place s laws values restrict c f e i p) (subst (λ d. IsInto k d g) (sym source) j)
          ∙ ap (at_entry l) (sym (moved_under s laws values restrict c f e g i p j))
          ∙ sym (at_shifted f l (moved s restrict e g) (moved_place s laws values restrict (dom k f) e g presheaf p j));
    }

    pub fun_identity : (c : ℕ) (l : List Assign) → c < k.objects → ((d : ℕ) → Distinct (values d)) → IsNaturalTable c l → shifted c l ≡ l
    fun_identity c l low distinct h =
        ap (λ d. tabulate (λ e. at_entry l (under s c e)) (places s values d)) (laws.identity c low).1
        ∙ map_same _ (row (at_entry l)) (places s values c) (λ e p. ap (λ x. row (λ y. at_entry l x) e) (under_identity s laws values restrict c e low p))
        ∙ assignment_table choices (places s values c) l (Distinct-places s values c distinct) h.member

    pub fun_composite : (c f g : ℕ) (l : List Assign) → IsInto k c f → IsInto k (dom k f) g → shifted g (shifted f l) ≡ shifted (compose k f g) l
    fun_composite c f g l i j =
        map_same _ (row (λ e. at_entry l (under s (compose k f g) e))) (places s values (dom k g)) (λ e p.
        ap (λ v. row (λ y. v) e)
        (at_shifted f l (under s g e) (under_place s laws values restrict (dom k f) g e j p) ∙ ap (at_entry l) (under_under s laws values restrict c f g e i j p)))
        ∙ ap (λ d. tabulate (λ e. at_entry l (under s (compose k f g) e)) (places s values d)) (sym (laws.composite c f g i j).1)

    pub fun_presheaf : ((d : ℕ) → Distinct (values d)) → IsPresheaf k values restrict → IsPresheaf k (fun_elements s values restrict values' restrict') (fun_along s values)
    fun_presheaf distinct presheaf = record {
      within = λ c f v i h.
          let m = In_fun distinct c v h in
          subst (λ u. In (fun_elements s values restrict values' restrict' (dom k f)) (fun_along s values f u)) m.2
          (subst (λ u. In (fun_elements s values restrict values' restrict' (dom k f)) u) (sym (fun_along_Fn f m.0)) (fun_In distinct (dom k f) _ (fun_within c f m.0 presheaf i m.1)));
      identity = λ c v low h.
          let m = In_fun distinct c v h in
          subst (λ u. fun_along s values c u ≡ u) m.2 (fun_along_Fn c m.0 ∙ ap Fn (fun_identity c m.0 low distinct m.1));
      composite = λ c f g v i j h.
          let m = In_fun distinct c v h in
          subst (λ u. fun_along s values g (fun_along s values f u) ≡ fun_along s values (compose k f g) u) m.2
          (ap (fun_along s values g) (fun_along_Fn f m.0) ∙ fun_along_Fn g _ ∙ ap Fn (fun_composite c f g m.0 i j) ∙ sym (fun_along_Fn (compose k f g) m.0));
    }

  pub Distinct-fun : (c : ℕ) → ((d : ℕ) → Distinct (values' d)) → Distinct (fun_elements s values restrict values' restrict' c)
  unfolding fun_elements
  Distinct-fun c distinct =
      Distinct-map Fn _ Fn-equal (Distinct-filter _ _ (Distinct-assignments choices (places s values c) (λ f. distinct (dom k f))))
