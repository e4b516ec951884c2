-- The values of terms are elements of their types, and commute with restriction: a lemma for each form.
use Rattle.std.proofs.Common.{◌≡◌, ℕ, zero, suc, Bool, List, [], ◌∷◌, get_or, inl, filter, refl, sym, ◌∙◌, ap, subst}
use denote.Hole.Carrier
use Rattle.topos_model.specs.declared.ty.Ty.{Ty, One, Two as TwoTy, Pow, Fun}
use Rattle.topos_model.specs.declared.ty.Ty.TheBlock.{hidden-the_row-Ty-0}
use Rattle.topos_model.specs.declared.context.MapTy.{MapTy}
use Rattle.topos_model.specs.declared.value.Val.{Val, Star, Two, Sub, Fn}
use Rattle.topos_model.specs.declared.value.Entry.{Entry}
use Rattle.finite_lists.specs.Members.{In}
use Rattle.topos_model.specs.categories.Category.{Category, dom}
use Rattle.topos_model.specs.Laws.{IsInto}
use Rattle.topos_model.specs.types.Types.{places, at_place, two_along, fun_along, elements, restr}
use Rattle.topos_model.specs.types.Values.{first_of, second_of, assigns_of}
use Rattle.topos_model.specs.formulas.Forcing.{World, Assigned, Property, values, along}
use Rattle.finite_lists.proofs.Lists.{filter_same, map_same}
use Rattle.topos_model.proofs.TypeEquations.{elements-Two, restr-Two, restr-Pow, restr-Fun}
use Rattle.topos_model.proofs.ValueEquations.{first_of-Two, second_of-Two, assigns_of-Fn}
use Rattle.type_laws.proofs.Places.{moved, In_places}
use Rattle.type_laws.proofs.Presheaves.{two_In, In_two, two_along_Two}
use Rattle.type_laws.proofs.Subsets.{IsClosedSubset, pow_along_Sub}
use Rattle.type_laws.proofs.Tables.{row, tabulate}
use Rattle.type_laws.proofs.Functions.{IsNaturalTable, fun_along_Fn, shifted}
use Rattle.type_laws.proofs.Readings.{elements_Fun, Fun_elements, Pow_elements}
use Rattle.type_laws.proofs.Made.{subset_made, subset_made_along, table_made, table_made_along, applied_within, applied_along}
use Rattle.topos_model.specs.formulas.TermLaws.{IsWorld}
use Rattle.forcing_laws.specs.Tuples.{AreElements}
use Rattle.forcing_laws.proofs.Tuples.{Tuple, type_presheaf, least_cover, tuple_along, tuple_bound, at_composite}
use Rattle.forcing_laws.proofs.Properties.{IsProperty, IsValue}
use Rattle.forcing_laws.proofs.Operators.{least_arrow}

module _ (w : World) {maps : List MapTy} (world : IsWorld w maps) where
  abbrev k : Category
  k = w.site.category

  abbrev el : Ty → ℕ → List Val
  el T = elements w.site w.functors T

  abbrev rs : Ty → ℕ → Val → Val
  rs T = restr w.site w.functors T

  opened : Unit {0}
  unfolding elements along hidden-the_row-Ty-0 Carrier.hidden
  opened = tt

  -- variables
  var_within : (Γ : List Ty) (n c : ℕ) (a : Assigned) → AreElements w Γ c a → In (values w (get_or Γ n One) c) (get_or a n (One, Star)).1
  unfolding opened
  var_within [] n c [] h = inl refl
  var_within [] n c (x ∷ a) h = absurd h
  var_within (T ∷ Γ) n c [] h = absurd h
  var_within (T ∷ Γ) zero c (x ∷ a) h = h.1
  var_within (T ∷ Γ) (suc n) c (x ∷ a) h = var_within Γ n c a h.2

  var_natural : (Γ : List Ty) (n c f : ℕ) (a : Assigned) → AreElements w Γ c a → (get_or (along w f a) n (One, Star)).1 ≡ rs (get_or Γ n One) f (get_or a n (One, Star)).1
  unfolding opened
  var_natural [] n c f [] h = refl
  var_natural [] n c f (x ∷ a) h = absurd h
  var_natural (T ∷ Γ) n c f [] h = absurd h
  var_natural (T ∷ Γ) zero c f (x ∷ a) h = ap (λ U. rs U f x.1) h.0
  var_natural (T ∷ Γ) (suc n) c f (x ∷ a) h = var_natural Γ n c f a h.2

  pub var_value : (Γ : List Ty) (n : ℕ) → IsValue w Γ (get_or Γ n One) (λ c a. (get_or a n (One, Star)).1)
  var_value Γ n = record {
    within = λ c a t. var_within Γ n c a t.fits;
    natural = λ c f a t i. var_natural Γ n c f a t.fits;
  }

  pub star_value : (Γ : List Ty) → IsValue w Γ One (λ c a. Star)
  unfolding opened
  star_value Γ = record { within = λ c a t. inl refl; natural = λ c f a t i. refl }

  -- pairs
  pub pair_value : (Γ : List Ty) (S T : Ty) (u v : ℕ → Assigned → Val) → IsValue w Γ S u → IsValue w Γ T v → IsValue w Γ (TwoTy S T) (λ c a. Two (u c a) (v c a))
  pair_value Γ S T u v p q = record {
    within = λ c a t.
        subst (λ l. In l (Two (u c a) (v c a))) (sym (elements-Two w.site w.functors S T c)) (two_In (el S) (el T) (rs S) (rs T) c (u c a) (v c a) (p.within c a t) (q.within c a t));
    natural = λ c f a t i.
        ap (λ x. Two x (v (dom k f) (along w f a))) (p.natural c f a t i) ∙ ap (Two (rs S f (u c a))) (q.natural c f a t i)
        ∙ sym (restr-Two w.site w.functors S T f _ ∙ two_along_Two (el S) (el T) (rs S) (rs T) f (u c a) (v c a));
  }

  parts : (S T : Ty) (c : ℕ) (x : Val) → In (values w (TwoTy S T) c) x → In (values w S c) (first_of x) × In (values w T c) (second_of x)
  parts S T c x h =
      let m = In_two (el S) (el T) (rs S) (rs T) c x (subst (λ l. In l x) (elements-Two w.site w.functors S T c) h) in
      (subst (λ u. In (values w S c) u) (sym (first_of-Two m.0 m.1) ∙ ap first_of m.4) m.2, subst (λ u. In (values w T c) u) (sym (second_of-Two m.0 m.1) ∙ ap second_of m.4) m.3)

  two_along_is : (S T : Ty) (f : ℕ) (x : Val) → rs (TwoTy S T) f x ≡ Two (rs S f (first_of x)) (rs T f (second_of x))
  unfolding two_along
  two_along_is S T f x = restr-Two w.site w.functors S T f x

  pub first_value : (Γ : List Ty) (S T : Ty) (v : ℕ → Assigned → Val) → IsValue w Γ (TwoTy S T) v → IsValue w Γ S (λ c a. first_of (v c a))
  first_value Γ S T v p = record {
    within = λ c a t. (parts S T c (v c a) (p.within c a t)).0;
    natural = λ c f a t i. ap first_of (p.natural c f a t i ∙ two_along_is S T f (v c a)) ∙ first_of-Two _ _;
  }

  pub second_value : (Γ : List Ty) (S T : Ty) (v : ℕ → Assigned → Val) → IsValue w Γ (TwoTy S T) v → IsValue w Γ T (λ c a. second_of (v c a))
  second_value Γ S T v p = record {
    within = λ c a t. (parts S T c (v c a) (p.within c a t)).1;
    natural = λ c f a t i. ap second_of (p.natural c f a t i ∙ two_along_is S T f (v c a)) ∙ second_of-Two _ _;
  }

  -- a function at a value
  pub eval_value : (Γ : List Ty) (S T : Ty) (v u : ℕ → Assigned → Val) → IsValue w Γ (Fun S T) v → IsValue w Γ S u → IsValue w Γ T (λ c a. at_place c (u c a) (assigns_of (v c a)))
  eval_value Γ S T v u p q = record {
    within = λ c a t.
        let m = elements_Fun w.site w.functors S T c (v c a) (p.within c a t) in
        subst (λ l. In (values w T c) (at_place c (u c a) l)) (sym (assigns_of-Fn m.0) ∙ ap assigns_of m.2)
        (applied_within w.site world.category (el S) (rs S) (type_presheaf w world S) (el T) (rs T) c m.0 (u c a) t.low m.1 (q.within c a t));
    natural = λ c f a t i.
        let m = elements_Fun w.site w.functors S T c (v c a) (p.within c a t) in
        let e : v (dom k f) (along w f a) ≡ Fn (shifted w.site (el S) (rs S) (el T) (rs T) f m.0) =
        p.natural c f a t i ∙ restr-Fun w.site w.functors S T f (v c a) ∙ sym (ap (fun_along w.site (el S) f) m.2) ∙ fun_along_Fn w.site (el S) (rs S) (el T) (rs T) f m.0 in
        ap (λ x. at_place (dom k f) x (assigns_of (v (dom k f) (along w f a)))) (q.natural c f a t i)
        ∙ ap (λ x. at_place (dom k f) (rs S f (u c a)) (assigns_of x)) e
        ∙ ap (λ l. at_place (dom k f) (rs S f (u c a)) l) (assigns_of-Fn _)
        ∙ sym (applied_along w.site world.category (el S) (rs S) (type_presheaf w world S) (el T) (rs T) c f m.0 (u c a) t.low m.1 i (q.within c a t))
        ∙ ap (λ l. rs T f (at_place c (u c a) l)) (sym (assigns_of-Fn m.0) ∙ ap assigns_of m.2);
  }

  -- the tuple at a place
  place_tuple : (Γ : List Ty) (T : Ty) (c : ℕ) (a : Assigned) (e : Entry) → Tuple w Γ c a → In (places w.site (values w T) c) e → Tuple w (T ∷ Γ) (dom k e.arrow) ((T, e.val) ∷ along w e.arrow a)
  place_tuple Γ T c a e t i =
      let m = In_places w.site (values w T) c e i in
      tuple_bound w world Γ T (dom k e.arrow) (along w e.arrow a) e.val (tuple_along w world Γ c e.arrow a t m.0) m.1

  -- functions
  module _ (Γ : List Ty) (S T : Ty) (body : ℕ → Assigned → Val) (h : IsValue w (S ∷ Γ) T body) where
    abbrev to : Assigned → Entry → Val
    to a e = body (dom k e.arrow) ((S, e.val) ∷ along w e.arrow a)

    step : (a : Assigned) (e : Entry) (g : ℕ) → body (dom k g) (along w g ((S, e.val) ∷ along w e.arrow a)) ≡ body (dom k g) ((S, rs S g e.val) ∷ along w g (along w e.arrow a))
    unfolding along
    step a e g = refl

    lam_table : (c : ℕ) (a : Assigned) → Tuple w Γ c a → IsNaturalTable w.site (el S) (rs S) (el T) (rs T) c (tabulate (to a) (places w.site (el S) c))
    lam_table c a t =
        table_made w.site world.category (el S) (rs S) (type_presheaf w world S) (el T) (rs T) c (to a)
        (λ e i. h.within (dom k e.arrow) ((S, e.val) ∷ along w e.arrow a) (place_tuple Γ S c a e t i))
        (λ e g i j.
        let m = In_places w.site (values w S) c e i in
        sym (h.natural (dom k e.arrow) g ((S, e.val) ∷ along w e.arrow a) (place_tuple Γ S c a e t i) j)
        ∙ step a e g
        ∙ sym (at_composite w world (λ d x. body d ((S, rs S g e.val) ∷ x)) Γ c e.arrow g a t m.0 j))

    pub lam_value : IsValue w Γ (Fun S T) (λ c a. Fn (tabulate (λ e. body (dom w.site.category e.arrow) ((S, e.val) ∷ along w e.arrow a)) (places w.site (values w S) c)))
    lam_value = record {
      within = λ c a t. Fun_elements w.site w.functors S T c _ (lam_table c a t);
      natural = λ c f a t i.
          sym (restr-Fun w.site w.functors S T f _
          ∙ fun_along_Fn w.site (el S) (rs S) (el T) (rs T) f (tabulate (to a) (places w.site (el S) c))
          ∙ ap Fn (table_made_along w.site world.category (el S) (rs S) (type_presheaf w world S) (el T) (rs T) c f (to a) i
          ∙ map_same _ _ (places w.site (el S) (dom k f)) (λ e j.
          ap (λ v. row (λ x. v) e) (at_composite w world (λ d x. body d ((S, e.val) ∷ x)) Γ c f e.arrow a t i (In_places w.site (el S) (dom k f) e j).0))));
    }

  -- comprehension
  module _ (Γ : List Ty) (T : Ty) (φ : Property) (h : IsProperty w (T ∷ Γ) φ) where
    abbrev test : Assigned → Entry → Bool
    test a e = φ (dom k e.arrow) ((T, e.val) ∷ along w e.arrow a)

    bound_step : (e : Entry) (g : ℕ) (a : Assigned) → along w g ((T, e.val) ∷ along w e.arrow a) ≡ (T, rs T g e.val) ∷ along w g (along w e.arrow a)
    unfolding along
    bound_step e g a = refl

    test_moved : (c : ℕ) (a : Assigned) (e : Entry) (g : ℕ) → Tuple w Γ c a → In (places w.site (el T) c) e → IsInto k (dom k e.arrow) g →
        test a (moved w.site (rs T) e g) ≡ φ (dom k g) (along w g ((T, e.val) ∷ along w e.arrow a))
    test_moved c a e g t i j =
        at_composite w world (λ d x. φ d ((T, rs T g e.val) ∷ x)) Γ c e.arrow g a t (In_places w.site (el T) c e i).0 j ∙ ap (φ (dom k g)) (sym (bound_step e g a))

    compr_subset : (c : ℕ) (a : Assigned) → Tuple w Γ c a → IsClosedSubset w.site (el T) (rs T) c (filter (test a) (places w.site (el T) c))
    compr_subset c a t =
        subset_made w.site world.category (el T) (rs T) (type_presheaf w world T) c (test a)
        (λ e g i j p. test_moved c a e g t i j ∙ h.monotone (dom k e.arrow) g _ (place_tuple Γ T c a e t i) j p)
        (λ e R i r p.
        h.local (dom k e.arrow) _ (place_tuple Γ T c a e t i) (λ g m.
        sym (test_moved c a e g t i (least_arrow w world (dom k e.arrow) g m)) ∙ p g ((least_cover w world).within (dom k e.arrow) g R r m)))

    pub compr_value : IsValue w Γ (Pow T) (λ c a. Sub (filter (λ e. φ (dom w.site.category e.arrow) ((T, e.val) ∷ along w e.arrow a)) (places w.site (values w T) c)))
    compr_value = record {
      within = λ c a t. Pow_elements w.site w.functors T c _ (compr_subset c a t);
      natural = λ c f a t i.
          sym (restr-Pow w.site w.functors T f _
          ∙ pow_along_Sub w.site (el T) (rs T) f (filter (test a) (places w.site (el T) c))
          ∙ ap Sub (subset_made_along w.site world.category (el T) (rs T) (type_presheaf w world T) c f (test a) i
          ∙ filter_same _ _ (places w.site (el T) (dom k f)) (λ e j.
          at_composite w world (λ d x. φ d ((T, e.val) ∷ x)) Γ c f e.arrow a t i (In_places w.site (el T) (dom k f) e j).0)));
    }
