-- Maps between presheaves of values, by the numbers of the elements and of their images.
use Rattle.std.proofs.Common.{◌≡◌, ℕ, ◌+◌, ◌<◌, List, [], ◌∷◌, ◌++◌, length, get_or, map, sym, ap, subst, ◌∙◌, arith}
use Rattle.std.specs.List.{range_with_len}
use Rattle.std.proofs.lemmas.List.{length-map, ext_get_or, get_or-map, map-id}
use Rattle.std.proofs.lemmas.List.FromFn.{length-map-range_with_len, get_or-map-range_with_len, get_or-range_with_len, length-range_with_len, map-range_with_len_more}
use Rattle.finite_lists.specs.Members.{In, Distinct}
use Rattle.finite_lists.proofs.Lists.{In_at}
use Rattle.topos_model.specs.declared.value.Val.{Val, Star}
use Rattle.topos_model.specs.categories.Category.{Category, dom}
use Rattle.topos_model.specs.Laws.{IsCategory, IsInto, IsFunctor, size, act}
use Rattle.topos_model.specs.types.Types.{Presheaf}
use Rattle.topos_model.specs.presheaves.Maps.{IsNatural, apply}
use Rattle.type_laws.specs.Numbered.{place_of, numbered}
use Rattle.type_laws.proofs.Places.{IsPresheaf}
use Rattle.type_laws.proofs.Numbering.{size_numbered, value_act, numbered_functor, place_of_at}

-- what is made of the items of a list in order
pub map_places : {A B : Type 0} (d : A) (f : A → B) (xs : List A) → map (λ x. f (get_or xs x d)) (range_with_len 0 (length xs)) ≡ map f xs
map_places d f xs =
    ext_get_or (f d) (map (λ x. f (get_or xs x d)) (range_with_len 0 (length xs))) (map f xs)
    (length-map-range_with_len (λ x. f (get_or xs x d)) 0 (length xs) ∙ sym (length-map xs f))
    (λ x low.
    let inside : x < length xs = omega (arith, low, length-map-range_with_len (λ x. f (get_or xs x d)) 0 (length xs)) in
    get_or-map-range_with_len (λ x. f (get_or xs x d)) 0 (length xs) x x (f d) inside (omega arith) ∙ sym (get_or-map f xs x d (f d) inside))

-- at each object, for each value there the number of its image
pub record AreImageNumbers (objects : ℕ) (A B : ℕ → List Val) (g : ℕ → Val → Val) (rows : List (List ℕ)) : Type 0 where
  pub objects_long : length rows ≡ objects
  pub total : (c : ℕ) → c < objects → length (get_or rows c []) ≡ length (A c)
  pub within : (c x : ℕ) → c < objects → x < length (A c) → get_or (get_or rows c []) x 0 < length (B c)
  pub is : (c x : ℕ) → c < objects → x < length (A c) → get_or (B c) (get_or (get_or rows c []) x 0) Star ≡ g c (get_or (A c) x Star)

module _ (k : Category) (A B : ℕ → List Val) (ra rb : ℕ → Val → Val) (laws : IsCategory k) (from : IsPresheaf k A ra) (to : IsPresheaf k B rb) (once : (c : ℕ) → Distinct (A c)) (once' : (c : ℕ) → Distinct (B c))
    (g : ℕ → Val → Val) (rows : List (List ℕ)) (are : AreImageNumbers k.objects A B g rows) (natural : (c f : ℕ) (v : Val) → IsInto k c f → In (A c) v → g (dom k f) (ra f v) ≡ rb f (g c v)) where
  abbrev P : Presheaf
  P = numbered k A ra

  abbrev Q : Presheaf
  Q = numbered k B rb

  commutes : (c f x : ℕ) → IsInto k c f → x < size P c → apply rows (dom k f) (act P f x) ≡ act Q f (apply rows c x)
  commutes c f x into low =
      let ends = laws.ends f into.0 in
      let object : c < k.objects = subst (λ d. d < k.objects) into.1 ends.1 in
      let d = dom k f in
      let inside : x < length (A c) = omega (arith, low, size_numbered k A ra c object) in
      let y = act P f x in
      let moved : y < length (A d) = (let h = (numbered_functor k A ra laws from once).within c f x into low in omega (arith, h, size_numbered k A ra d ends.0)) in
      let j = apply rows c x in
      let there : j < length (B c) = are.within c x object inside in
      let m = act Q f j in
      let m_low : m < length (B d) =
      (let h = (numbered_functor k B rb laws to once').within c f j into (omega (arith, there, size_numbered k B rb c object)) in omega (arith, h, size_numbered k B rb d ends.0)) in
      let n = apply rows d y in
      let value : get_or (B d) n Star ≡ get_or (B d) m Star =
      are.is d y ends.0 moved
      ∙ ap (g d) (value_act k A ra laws from once c f x Star into inside)
      ∙ natural c f (get_or (A c) x Star) into (In_at (A c) x Star inside)
      ∙ ap (rb f) (sym (are.is c x object inside))
      ∙ sym (value_act k B rb laws to once' c f j Star into there) in
      sym (place_of_at (B d) n Star (once' d) (are.within d y ends.0 moved)) ∙ ap (λ v. place_of v (B d)) value ∙ place_of_at (B d) m Star (once' d) m_low

  pub natural_numbers : IsNatural k (numbered k A ra) (numbered k B rb) rows
  natural_numbers = record {
    objects = are.objects_long;
    total = λ c object. are.total c object ∙ sym (size_numbered k A ra c object);
    within = λ c x object low.
        let h = are.within c x object (omega (arith, low, size_numbered k A ra c object)) in
        omega (arith, h, size_numbered k B rb c object);
    commutes = commutes;
  }

pub range_more : (n : ℕ) → range_with_len 0 (n + 1) ≡ range_with_len 0 n ++ n ∷ []
range_more n =
    sym (map-id (range_with_len 0 (n + 1))) ∙ map-range_with_len_more (λ m. m) 0 n n (omega arith) ∙ ap (λ l. l ++ n ∷ []) (map-id (range_with_len 0 n))

-- the identity of a presheaf, by rows of numbers
abbrev pub identities : List ℕ → List (List ℕ)
identities sizes = map (λ n. range_with_len 0 n) sizes

module _ (sizes : List ℕ) (c : ℕ) (low : c < length sizes) where
  pub identity_row : get_or (identities sizes) c [] ≡ range_with_len 0 (get_or sizes c 0)
  identity_row = get_or-map (λ n. range_with_len 0 n) sizes c 0 [] low

  pub identity_long : length (get_or (identities sizes) c []) ≡ get_or sizes c 0
  identity_long = ap length identity_row ∙ length-range_with_len 0 (get_or sizes c 0)

  pub identity_at : (x : ℕ) → x < get_or sizes c 0 → get_or (get_or (identities sizes) c []) x 0 ≡ x
  identity_at x inside = let z : 0 + x ≡ x = omega arith in ap (λ l. get_or l x 0) identity_row ∙ get_or-range_with_len 0 (get_or sizes c 0) x 0 inside ∙ z

pub identity_natural : (k : Category) (Z : Presheaf) → IsCategory k → IsFunctor k Z → IsNatural k Z Z (identities Z.sizes)
identity_natural k Z laws h = record {
  objects = length-map Z.sizes (λ n. range_with_len 0 n) ∙ h.objects;
  total = λ c object. identity_long Z.sizes c (omega (arith, object, h.objects));
  within = λ c x object low. subst (λ n. n < size Z c) (sym (identity_at Z.sizes c (omega (arith, object, h.objects)) x low)) low;
  commutes = λ c f x into low.
      let ends = laws.ends f into.0 in
      let object : c < k.objects = subst (λ d. d < k.objects) into.1 ends.1 in
      identity_at Z.sizes (dom k f) (omega (arith, ends.0, h.objects)) (act Z f x) (h.within c f x into low)
      ∙ sym (ap (act Z f) (identity_at Z.sizes c (omega (arith, object, h.objects)) x low));
}
