-- Naturality of numbers in one line: square by square.
use Rattle.std.proofs.Common.{◌≡◌, ℕ, zero, suc, ◌+◌, ◌<◌, true, false, List, [], ◌∷◌, ◌++◌, length, get_or, drop, refl, sym, ap, ◌∙◌, arith}
use Rattle.std.specs.List.{range_with_len, list_all}
use Rattle.std.proofs.lemmas.Bool.{eq-eqb, ne_eqb}
use Rattle.std.proofs.lemmas.List.{get_or-take, get_or-drop, get_or_append_left}
use Rattle.std.proofs.lemmas.List.FromFn.{length-map-range_with_len, get_or-map-range_with_len}
use Rattle.finite_lists.proofs.Lists.{all_fails, each_all}
use Rattle.finite_lists.proofs.DistinctLists.{In-range, In-range_from}
use Rattle.topos_model.specs.categories.Category.{Category, dom, cod, arrows}
use Rattle.topos_model.specs.types.Types.{Presheaf}
use Rattle.topos_model.specs.Laws.{act, size, IsCategory, IsFunctor}
use Rattle.topos_model.specs.presheaves.Maps.{apply}
use Rattle.topos_model.specs.presheaves.NaturalMaps.{commutes_at, is_natural_map}
use Rattle.natural_maps.specs.Places.{offset, cut}
use Rattle.natural_maps.specs.Search.{sizes_of, is_natural}

-- a number among cut ones stands at its place
pub get_or-cut : (sizes values : List ℕ) (c x : ℕ) → c < length sizes → x < get_or sizes c 0 → get_or (get_or (cut sizes values) c []) x 0 ≡ get_or values (offset sizes c + x) 0
get_or-cut [] values c x low within = absurd (omega arith)
get_or-cut (n ∷ sizes) values zero x low within = get_or-take n values x 0 within ∙ (let e : x ≡ 0 + x = omega arith in ap (λ i. get_or values i 0) e)
get_or-cut (n ∷ sizes) values (suc c) x low within =
    get_or-cut sizes (drop n values) c x (omega arith) within ∙ get_or-drop n values (offset sizes c + x) 0
    ∙ (let e : n + (offset sizes c + x) ≡ n + offset sizes c + x = omega arith in ap (λ i. get_or values i 0) e)

module _ (k : Category) (P Q : Presheaf) where
  -- the place of x at c
  abbrev pub place_of : ℕ → ℕ → ℕ
  place_of c x = offset (sizes_of k P) c + x

  pub apply-cut : (values : List ℕ) (c x : ℕ) → c < k.objects → x < size P c → apply (cut (sizes_of k P) values) c x ≡ get_or values (place_of c x) 0
  apply-cut values c x low within =
      let count = length-map-range_with_len (size P) 0 k.objects in
      let at : get_or (sizes_of k P) c 0 ≡ size P c = get_or-map-range_with_len (size P) 0 k.objects c c 0 low (omega arith) in
      get_or-cut (sizes_of k P) values c x (omega (arith, low, count)) (omega (arith, within, at))

  module _ (law : IsCategory k) (functor : IsFunctor k P) (values : List ℕ) where
    -- numbers with a square that does not fit make no natural map
    pub broken_at : (f x : ℕ) → f < length k.ends → x < size P (cod k f) → (get_or values (place_of (dom k f) (act P f x)) 0 ≡ act Q f (get_or values (place_of (cod k f) x) 0) → ⊥) → is_natural k P Q values ≡ false
    unfolding is_natural_map commutes_at
    broken_at f x low within differs =
        let m = cut (sizes_of k P) values in
        let restricted : act P f x < size P (dom k f) = functor.within (cod k f) f x (low, refl) within in
        all_fails (λ f. list_all (commutes_at k P Q m f) (range_with_len 0 (size P (cod k f)))) (arrows k) f (In-range 0 (length k.ends) f (omega arith) (omega (arith, low)))
        (all_fails (commutes_at k P Q m f) (range_with_len 0 (size P (cod k f))) x (In-range 0 (size P (cod k f)) x (omega arith) (omega (arith, within)))
        (ne_eqb _ _ (λ e. differs (sym (apply-cut values (dom k f) (act P f x) (law.ends f low).0 restricted) ∙ e ∙ ap (act Q f) (apply-cut values (cod k f) x (law.ends f low).1 within)))))

    -- and where all fit they make a natural map
    pub all_squares : ((f x : ℕ) → f < length k.ends → x < size P (cod k f) → get_or values (place_of (dom k f) (act P f x)) 0 ≡ act Q f (get_or values (place_of (cod k f) x) 0)) → is_natural k P Q values ≡ true
    unfolding is_natural_map commutes_at
    all_squares fit =
        each_all _ (arrows k) (λ f i. each_all _ (range_with_len 0 (size P (cod k f))) (λ x j.
        let low : f < length k.ends = omega (arith, (In-range_from 0 (length k.ends) f i).1) in
        let within : x < size P (cod k f) = omega (arith, (In-range_from 0 (size P (cod k f)) x j).1) in
        let restricted : act P f x < size P (dom k f) = functor.within (cod k f) f x (low, refl) within in
        eq-eqb _ _ (apply-cut values (dom k f) (act P f x) (law.ends f low).0 restricted ∙ fit f x low within ∙ ap (act Q f) (sym (apply-cut values (cod k f) x (law.ends f low).1 within)))))

  -- a square whose two numbers are set and do not fit is a fault of all that begin so
  pub broken_square : IsCategory k → IsFunctor k P → (values rest : List ℕ) (f x : ℕ) → f < length k.ends → x < size P (cod k f) → place_of (cod k f) x < length values → place_of (dom k f) (act P f x) < length values →
      (get_or values (place_of (dom k f) (act P f x)) 0 ≡ act Q f (get_or values (place_of (cod k f) x) 0) → ⊥) → is_natural k P Q (values ++ rest) ≡ false
  broken_square law functor values rest f x low within set restricted_set differs =
      broken_at law functor (values ++ rest) f x low within
      (λ e. differs (sym (get_or_append_left values rest 0 (place_of (dom k f) (act P f x)) restricted_set) ∙ e ∙ ap (act Q f) (get_or_append_left values rest 0 (place_of (cod k f) x) set)))
