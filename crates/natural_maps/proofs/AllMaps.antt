-- The list of natural maps has the natural ones and no other, and it rises.
use Rattle.std.proofs.Common.{◌≡◌, ℕ, zero, suc, ◌<◌, true, List, [], ◌∷◌, map, length, get_or, refl, sym, ap, subst, ◌∙◌, arith}
use Rattle.std.specs.List.{range_with_len, list_all}
use Rattle.std.proofs.lemmas.Bool.{eqb-true, eq-eqb}
use Rattle.std.proofs.lemmas.List.FromFn.{length-map-range_with_len, get_or-map-range_with_len}
use Rattle.finite_lists.specs.Members.{In}
use Rattle.finite_lists.specs.Rising.{Rising, NumbersBelow}
use Rattle.finite_lists.proofs.Lists.{In-map_from, In-filter, In-filter_from, all_each, each_all}
use Rattle.finite_lists.proofs.DistinctLists.{In-range, In-range_from}
use Rattle.finite_lists.proofs.RisingLists.{Rising-filter, Rising-range}
use Rattle.natural_search.proofs.ListChoices.{IsChoice, In-choices_from, In-choices, Rising-choices}
use Rattle.topos_model.specs.categories.Category.{Category, cod, arrows}
use Rattle.topos_model.specs.types.Types.{Presheaf}
use Rattle.topos_model.specs.Laws.{act, size, IsCategory, IsFunctor}
use Rattle.topos_model.specs.presheaves.Maps.{Components, component, apply, IsNatural}
use Rattle.topos_model.specs.presheaves.NaturalMaps.{choices, rows, all_components, commutes_at, is_natural_map, maps, ComponentsBelow, MapsAreTheNaturalOnes, MapsRise}

-- a row of m numbers below n
pub record IsRow (m n : ℕ) (r : List ℕ) : Type 0 where
  pub total : length r ≡ m
  pub within : (x : ℕ) → x < m → get_or r x 0 < n

pub In-rows_from : (m n : ℕ) (r : List ℕ) → In (rows m n) r → IsRow m n r
unfolding rows
In-rows_from m n r i =
    let is = In-choices_from (map (λ x. range_with_len 0 n) (range_with_len 0 m)) r i in
    record {
      total = is.places ∙ length-map-range_with_len (λ x. range_with_len 0 n) 0 m;
      within = λ x low.
          let j = is.each x 0 (omega (arith, low, length-map-range_with_len (λ x. range_with_len 0 n) 0 m)) in
          let e = get_or-map-range_with_len (λ x. range_with_len 0 n) 0 m x x [] low (omega arith) in
          omega (arith, (In-range_from 0 n (get_or r x 0) (subst (λ l. In l (get_or r x 0)) e j)).1);
    }

pub In-rows : (m n : ℕ) (r : List ℕ) → IsRow m n r → In (rows m n) r
unfolding rows
In-rows m n r is =
    In-choices (map (λ x. range_with_len 0 n) (range_with_len 0 m)) r (record {
      places = is.total ∙ sym (length-map-range_with_len (λ x. range_with_len 0 n) 0 m);
      each = λ i d low. at i d (omega (arith, low, length-map-range_with_len (λ x. range_with_len 0 n) 0 m));
    })
  where
    same : (l : List ℕ) (i : ℕ) (d : ℕ) → i < length l → get_or l i 0 ≡ get_or l i d
    same [] i d low = absurd (omega arith)
    same (x ∷ l) zero d low = refl
    same (x ∷ l) (suc i) d low = same l i d (omega arith)

    at : (i d : ℕ) → i < m → In (get_or (map (λ x. range_with_len 0 n) (range_with_len 0 m)) i []) (get_or r i d)
    at i d low =
        subst (λ l. In l (get_or r i d)) (sym (get_or-map-range_with_len (λ x. range_with_len 0 n) 0 m i i [] low (omega arith)))
        (subst (λ y. In (range_with_len 0 n) y) (same r i d (omega (arith, low, is.total))) (In-range 0 n (get_or r i 0) (omega arith) (omega (arith, is.within i low))))

module _ (k : Category) (P Q : Presheaf) (m : Components) where
  abbrev listed_rows : ℕ → List (List ℕ)
  listed_rows c = rows (size P c) (size Q c)

  naturals_from : IsCategory k → IsFunctor k P → In (maps k P Q) m → IsNatural k P Q m
  unfolding maps all_components is_natural_map commutes_at
  naturals_from law functor i =
      let kept = In-filter_from (is_natural_map k P Q) (all_components k P Q) m i in
      let is = In-choices_from (map listed_rows (range_with_len 0 k.objects)) m kept.0 in
      record {
        objects = is.places ∙ length-map-range_with_len listed_rows 0 k.objects;
        total = λ c low. (row is c low).total;
        within = λ c x low. (row is c low).within x;
        commutes = λ c f x j within.
            let at_f = all_each (λ f. list_all (commutes_at k P Q m f) (range_with_len 0 (size P (cod k f)))) (arrows k) f kept.1 (In-range 0 (length k.ends) f (omega arith) (omega (arith, j.0))) in
            let there : x < size P (cod k f) = subst (λ d. x < size P d) (sym j.1) within in
            let at_x = all_each (commutes_at k P Q m f) (range_with_len 0 (size P (cod k f))) x at_f (In-range 0 (size P (cod k f)) x (omega arith) (omega (arith, there))) in
            eqb-true _ _ at_x ∙ ap (λ d. act Q f (apply m d x)) j.1;
      }
    where
      row : IsChoice (map listed_rows (range_with_len 0 k.objects)) m → (c : ℕ) → c < k.objects → IsRow (size P c) (size Q c) (component m c)
      row is c low =
          In-rows_from (size P c) (size Q c) (component m c)
          (subst (λ l. In l (component m c)) (get_or-map-range_with_len listed_rows 0 k.objects c c [] low (omega arith)) (is.each c [] (omega (arith, low, length-map-range_with_len listed_rows 0 k.objects))))

  naturals_in : IsCategory k → IsFunctor k P → IsNatural k P Q m → In (maps k P Q) m
  unfolding maps all_components is_natural_map commutes_at
  naturals_in law functor natural = In-filter (is_natural_map k P Q) (all_components k P Q) m chosen all
    where
      same : (l : Components) (i : ℕ) (d : List ℕ) → i < length l → component l i ≡ get_or l i d
      same [] i d low = absurd (omega arith)
      same (x ∷ l) zero d low = refl
      same (x ∷ l) (suc i) d low = same l i d (omega arith)

      chosen : In (choices (map listed_rows (range_with_len 0 k.objects))) m
      chosen =
          In-choices (map listed_rows (range_with_len 0 k.objects)) m (record {
            places = natural.objects ∙ sym (length-map-range_with_len listed_rows 0 k.objects);
            each = λ c d low.
                let o : c < k.objects = omega (arith, low, length-map-range_with_len listed_rows 0 k.objects) in
                subst (λ l. In l (get_or m c d)) (sym (get_or-map-range_with_len listed_rows 0 k.objects c c [] o (omega arith)))
                (subst (λ r. In (listed_rows c) r) (same m c d (omega (arith, o, natural.objects)))
                (In-rows (size P c) (size Q c) (component m c) (record { total = natural.total c o; within = λ x w. natural.within c x o w })));
          })

      all : list_all (λ f. list_all (commutes_at k P Q m f) (range_with_len 0 (size P (cod k f)))) (arrows k) ≡ true
      all =
          each_all _ (arrows k) (λ f i. each_all _ (range_with_len 0 (size P (cod k f))) (λ x j.
          let low : f < length k.ends = omega (arith, (In-range_from 0 (length k.ends) f i).1) in
          let within : x < size P (cod k f) = omega (arith, (In-range_from 0 (size P (cod k f)) x j).1) in
          eq-eqb _ _ (natural.commutes (cod k f) f x (low, refl) within)))

pub maps_are_natural : MapsAreTheNaturalOnes
maps_are_natural k P Q law domain codomain = (λ m i. naturals_from k P Q m law domain i, λ m natural. naturals_in k P Q m law domain natural)

rows_rise : (m n : ℕ) → Rising NumbersBelow (rows m n)
unfolding rows
rows_rise m n =
    Rising-choices (λ x y. x < y) (map (λ x. range_with_len 0 n) (range_with_len 0 m)) (λ xs i.
    let from = In-map_from (λ x. range_with_len 0 n) (range_with_len 0 m) xs i in
    subst (Rising (λ x y. x < y)) from.2 (Rising-range 0 n))

pub maps_rise : MapsRise
unfolding maps all_components
maps_rise k P Q =
    Rising-filter ComponentsBelow (is_natural_map k P Q) (all_components k P Q)
    (Rising-choices NumbersBelow (map (λ c. rows (size P c) (size Q c)) (range_with_len 0 k.objects)) (λ xs i.
    let from = In-map_from (λ c. rows (size P c) (size Q c)) (range_with_len 0 k.objects) xs i in
    subst (Rising NumbersBelow) from.2 (rows_rise (size P from.0) (size Q from.0))))
