-- Tests that show the laws of a presheaf and of a natural map that are given as lists.
use Rattle.std.proofs.Common.{◌≡◌, ℕ, ◌<◌, inl, inr, Bool, true, false, List, [], length, get_or, sym, subst, arith, rules}
use Rattle.std.specs.Prelude.{eqb, ltb, not}
use Rattle.std.specs.List.{list_all, range_with_len}
use Rattle.std.proofs.lemmas.Bool.{eqb-true, eq-eqb, ltb-true, cases_order}
use Rattle.finite_lists.proofs.Lists.{all_each}
use Rattle.finite_lists.proofs.DistinctLists.{In-range}
use Rattle.topos_model.specs.categories.Category.{Category, dom, cod, into, arrows, compose}
use Rattle.topos_model.specs.types.Types.{Presheaf}
use Rattle.topos_model.specs.Laws.{act, size, IsFunctor}
use Rattle.topos_model.specs.presheaves.Maps.{Components, component, apply, IsNatural}
use Rattle.topos_model.specs.presheaves.Colimits.{IsLeastPlace, LeastPlacesRise}
use Rattle.topos_model.proofs.ArrowsInto.{In-into, In-arrows}

-- whether each number below n passes
abbrev pub each_below : ℕ → (ℕ → Bool) → Bool
each_below n p = list_all p (range_with_len 0 n)

pub passes : (n : ℕ) (p : ℕ → Bool) → each_below n p ≡ true → (x : ℕ) → x < n → p x ≡ true
passes n p e x h = all_each p (range_with_len 0 n) x e (In-range 0 n x (omega arith) (omega arith))

not_both : (b : Bool) → b ≡ true → not b ≡ true → ⊥
not_both true e n = search rules
not_both false e n = search rules

module _ (k : Category) (X : Presheaf) where
  abbrev pub total_test : Bool
  total_test = list_all (λ f. eqb (length (get_or X.along f [])) (size X (cod k f))) (arrows k)

  abbrev pub within_test : Bool
  within_test = list_all (λ f. each_below (size X (cod k f)) (λ x. ltb (act X f x) (size X (dom k f)))) (arrows k)

  abbrev pub identity_test : Bool
  identity_test = each_below k.objects (λ c. each_below (size X c) (λ x. eqb (act X c x) x))

  abbrev pub composite_test : Bool
  composite_test =
      list_all (λ f. list_all (λ g. each_below (size X (cod k f)) (λ x. eqb (act X g (act X f x)) (act X (compose k f g) x))) (into k (dom k f))) (arrows k)

  pub lawful_functor : length X.sizes ≡ k.objects → length X.along ≡ length k.ends
      → total_test ≡ true → within_test ≡ true → identity_test ≡ true → composite_test ≡ true → IsFunctor k X
  lawful_functor sizes along total within identity composite = record {
    objects = sizes;
    arrows = along;
    total = λ c f i.
        subst (λ (v : ℕ). length (get_or X.along f []) ≡ size X v) i.1
        (eqb-true _ _ (all_each (λ g. eqb (length (get_or X.along g [])) (size X (cod k g))) (arrows k) f total (In-arrows k f i.0)));
    within = λ c f x i h.
        ltb-true _ _ (passes _ (λ y. ltb (act X f y) (size X (dom k f)))
        (all_each (λ g. each_below (size X (cod k g)) (λ y. ltb (act X g y) (size X (dom k g)))) (arrows k) f within (In-arrows k f i.0))
        x (subst (λ (v : ℕ). x < size X v) (sym i.1) h));
    identity = λ c x h l.
        eqb-true _ _ (passes _ (λ y. eqb (act X c y) y) (passes _ (λ a. each_below (size X a) (λ y. eqb (act X a y) y)) identity c h) x l);
    composite = λ c f g x i j h.
        eqb-true _ _ (passes _ (λ y. eqb (act X g (act X f y)) (act X (compose k f g) y))
        (all_each (λ e. each_below (size X (cod k f)) (λ y. eqb (act X e (act X f y)) (act X (compose k f e) y))) (into k (dom k f)) g
        (all_each (λ d. list_all (λ e. each_below (size X (cod k d)) (λ y. eqb (act X e (act X d y)) (act X (compose k d e) y))) (into k (dom k d))) (arrows k) f composite (In-arrows k f i.0))
        (In-into k (dom k f) g j))
        x (subst (λ (v : ℕ). x < size X v) (sym i.1) h));
  }

module _ (k : Category) (P Q : Presheaf) (m : Components) where
  abbrev pub total_map_test : Bool
  total_map_test = each_below k.objects (λ c. eqb (length (component m c)) (size P c))

  abbrev pub within_map_test : Bool
  within_map_test = each_below k.objects (λ c. each_below (size P c) (λ x. ltb (apply m c x) (size Q c)))

  abbrev pub commutes_test : Bool
  commutes_test = list_all (λ f. each_below (size P (cod k f)) (λ x. eqb (apply m (dom k f) (act P f x)) (act Q f (apply m (cod k f) x)))) (arrows k)

  pub natural_map : length m ≡ k.objects → total_map_test ≡ true → within_map_test ≡ true → commutes_test ≡ true → IsNatural k P Q m
  natural_map objects total within commutes = record {
    objects = objects;
    total = λ c h. eqb-true _ _ (passes _ (λ a. eqb (length (component m a)) (size P a)) total c h);
    within = λ c x h l.
        ltb-true _ _ (passes _ (λ y. ltb (apply m c y) (size Q c)) (passes _ (λ a. each_below (size P a) (λ y. ltb (apply m a y) (size Q a))) within c h) x l);
    commutes = λ c f x i h.
        subst (λ (v : ℕ). apply m (dom k f) (act P f x) ≡ act Q f (apply m v x)) i.1
        (eqb-true _ _ (passes _ (λ y. eqb (apply m (dom k f) (act P f y)) (act Q f (apply m (cod k f) y)))
        (all_each (λ g. each_below (size P (cod k g)) (λ y. eqb (apply m (dom k g) (act P g y)) (act Q g (apply m (cod k g) y)))) (arrows k) f commutes (In-arrows k f i.0))
        x (subst (λ (v : ℕ). x < size P v) (sym i.1) h)));
  }

-- y is the least place of a
pub least_place : (s : List ℕ) (a y : ℕ) → ltb y (length s) ≡ true → eqb (get_or s y 0) a ≡ true → each_below y (λ z. not (eqb (get_or s z 0) a)) ≡ true → IsLeastPlace s a y
least_place s a y within is least = record {
  within = ltb-true _ _ within;
  is = eqb-true _ _ is;
  least = λ z h e. not_both (eqb (get_or s z 0) a) (eq-eqb _ _ e) (passes y (λ v. not (eqb (get_or s v 0) a)) least z h);
}

least_same : (s : List ℕ) (a y z : ℕ) → IsLeastPlace s a y → IsLeastPlace s a z → y ≡ z
least_same s a y z l m = elim (cases_order y z) [ inl same ↦ same | inr apart ↦ elim apart [ inl less ↦ absurd (m.least y less l.is) | inr more ↦ absurd (l.least z more m.is) ] ]

-- the least places of 0, 1, .. are those listed
module _ (n : ℕ) (s places : List ℕ) where
  abbrev pub places_within_test : Bool
  places_within_test = each_below n (λ a. ltb (get_or places a 0) (length s))

  abbrev pub places_test : Bool
  places_test = each_below n (λ a. eqb (get_or s (get_or places a 0) 0) a)

  abbrev pub least_test : Bool
  least_test = each_below n (λ a. each_below (get_or places a 0) (λ z. not (eqb (get_or s z 0) a)))

  abbrev pub rise_test : Bool
  rise_test = each_below n (λ b. each_below b (λ a. ltb (get_or places a 0) (get_or places b 0)))

  pub least_places_rise : places_within_test ≡ true → places_test ≡ true → least_test ≡ true → rise_test ≡ true → LeastPlacesRise n s
  least_places_rise within is least rise =
      let found : (a : ℕ) → a < n → IsLeastPlace s a (get_or places a 0) =
      λ a h. least_place s a (get_or places a 0)
      (passes n (λ v. ltb (get_or places v 0) (length s)) within a h)
      (passes n (λ v. eqb (get_or s (get_or places v 0) 0) v) is a h)
      (passes n (λ v. each_below (get_or places v 0) (λ z. not (eqb (get_or s z 0) v))) least a h) in
      record {
        found = λ a h. (get_or places a 0, found a h);
        rise = λ a b y z hab hb l m.
            let e : y ≡ get_or places a 0 = least_same s a y (get_or places a 0) l (found a (omega arith)) in
            let d : z ≡ get_or places b 0 = least_same s b z (get_or places b 0) m (found b hb) in
            let w = ltb-true _ _ (passes b (λ v. ltb (get_or places v 0) (get_or places b 0)) (passes n (λ t. each_below t (λ v. ltb (get_or places v 0) (get_or places t 0))) rise b hb) a hab) in
            omega (arith, e, d, w);
      }
