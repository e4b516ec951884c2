-- What the calls that read a store read.
use Rattle.std.proofs.Common.{◌≡◌, ℕ, zero, suc, ◌+◌, ◌-◌, ◌<◌, ◌≤◌, true, cond, List, [], ◌∷◌, length, get_or, slice_get, refl, sym, ap, subst, ◌∙◌, arith, Option, Some, None, MatchOption, position, eqb}
use Rattle.std.proofs.lemmas.Bool.{eq-eqb, false≢true}
use Rattle.std.proofs.lemmas.Grind.{common_steps}
use Rattle.std.proofs.lemmas.List.{get_or_read}
use Rattle.std.proofs.lemmas.List.Quantifiers.{position-Some}
use Rattle.std.proofs.lemmas.List.Sums.{sum_by_more_le, fails_before_first}
use Rattle.std.specs.List.{position_or_len}
use Rattle.std.specs.Map.{keys_of, values_of}
use Rattle.topos_model.specs.declared.ty.Ty.{Ty}
use Rattle.topos_model.specs.types.SameType.{same_type}
use Rattle.topos_model.specs.types.SameTypeLaws.{same_types_are_equal, equal_types_are_same}
use Rattle.functor_store.specs.declared.store.Part.{Part}
use Rattle.functor_store.specs.declared.store.FunctorStore.TheInside.{Inside}
use Rattle.functor_store.specs.Groups.{groups, IsCutTo, start}
use Rattle.functor_store.specs.Store.{Store, into, place, functor_at, size_at, element_at, IsFreeKey}
use Rattle.functor_store.specs.Fields.{functor_of, sealed_of, sealed_in, IsSealed, IsStore, view}
use Rattle.functor_store.proofs.Groups.{cut_more, length-group, cut_rises, item_at}
use Rattle.functor_store.proofs.Held.{length-sealed, part_at}
use Rattle.functor_store.proofs.Steps.{base_in}

-- the part of the functor sealed at a place
pub record Found (a : Inside) (s : Store) (id : ℕ) (p : Part) : Type 0 where
  pub rows_are : (functor_at s.sealed id).rows ≡ groups p.base p.ends.items a.rows.rows
  pub restrictions_are : (functor_at s.sealed id).restrictions ≡ groups p.base p.ends.items a.restrictions.rows
  pub length_is : length p.ends.items ≡ s.objects
  pub cut_rows : IsCutTo p.base p.ends.items (length a.rows.rows)
  pub cut_restrictions : IsCutTo p.base p.ends.items (length a.restrictions.rows)
  pub sealed : IsSealed s.ends (functor_at s.sealed id)

pub sealed_count : (a : Inside) (s : Store) → view a ≡ s → length s.sealed ≡ length a.parts.entries
sealed_count a s e = ap (λ v. length v.sealed) (sym e) ∙ length-sealed a.rows.rows a.restrictions.rows a.parts.entries

found_inside : (a : Inside) (id : ℕ) (p : Part) → IsStore a → id < length (sealed_in a) → slice_get (values_of a.parts.entries) id ≡ Some p → Found a (view a) id p
unfolding functor_of
found_inside a id p h l e =
    let there = part_at a.objects a.base id a.rows.rows a.restrictions.rows a.parts.entries p h.parts e in
    let b = base_in a h in
    record {
      rows_are = ap (λ F. F.rows) there.is;
      restrictions_are = ap (λ F. F.restrictions) there.is;
      length_is = there.length_is;
      cut_rows = cut_more p.base a.base (length a.rows.rows) p.ends.items there.cut (omega (arith, b));
      cut_restrictions = cut_more p.base a.base (length a.restrictions.rows) p.ends.items there.cut b.0;
      sealed = h.laid id l;
    }

pub found : (a : Inside) (s : Store) (id : ℕ) (p : Part) → IsStore a → view a ≡ s → id < length s.sealed → slice_get (values_of a.parts.entries) id ≡ Some p → Found a s id p
found a s id p h e l g =
    let P : Store → Type 0 = λ v. id < length v.sealed → Found a v id p in
    subst P e (λ m. found_inside a id p h m g) l

pub count_is : (a : Inside) (s : Store) (id c : ℕ) (p : Part) → Found a s id p → c < s.objects → (c < length p.ends.items) × (start p.base p.ends.items c ≤ get_or p.ends.items c 0) × (get_or p.ends.items c 0 - start p.base p.ends.items c ≡ size_at (functor_at s.sealed id) c)
count_is a s id c p f l =
    let l' : c < length p.ends.items = let e = f.length_is in omega arith in
    let n = length-group p.base c p.ends.items a.rows.rows f.cut_rows l' in
    let e : size_at (functor_at s.sealed id) c ≡ length (get_or (groups p.base p.ends.items a.rows.rows) c []) = ap (λ g. length (get_or g c [])) f.rows_are in
    (l', cut_rises p.base (length a.rows.rows) c p.ends.items f.cut_rows l', omega arith)

pub element_is : (a : Inside) (s : Store) (id c k : ℕ) (p : Part) → Found a s id p → c < s.objects → k < size_at (functor_at s.sealed id) c → (start p.base p.ends.items c + k < length a.rows.rows) × (get_or a.rows.rows (start p.base p.ends.items c + k) [] ≡ element_at (functor_at s.sealed id) c k)
element_is a s id c k p f l m =
    let l' : c < length p.ends.items = let e = f.length_is in omega arith in
    let e : get_or (functor_at s.sealed id).rows c [] ≡ get_or (groups p.base p.ends.items a.rows.rows) c [] = ap (λ g. get_or g c []) f.rows_are in
    let m' : k < length (get_or (groups p.base p.ends.items a.rows.rows) c []) = let s = ap length e in omega arith in
    let r = item_at p.base 0 c k p.ends.items a.rows.rows [] f.cut_rows l' m' in
    (r.1, sym r.0 ∙ ap (λ g. get_or g k []) (sym e))

pub restriction_is : (a : Inside) (s : Store) (id c k : ℕ) (p : Part) → Found a s id p → c < s.objects → k < size_at (functor_at s.sealed id) c → (start p.base p.ends.items c + k < length a.restrictions.rows) × (get_or a.restrictions.rows (start p.base p.ends.items c + k) [] ≡ get_or (get_or (functor_at s.sealed id).restrictions c []) k []) × (length (get_or (get_or (functor_at s.sealed id).restrictions c []) k []) ≡ into s.ends c)
restriction_is a s id c k p f l m =
    let l' : c < length p.ends.items = let e = f.length_is in omega arith in
    let e : get_or (functor_at s.sealed id).restrictions c [] ≡ get_or (groups p.base p.ends.items a.restrictions.rows) c [] = ap (λ g. get_or g c []) f.restrictions_are in
    let w : length (get_or (functor_at s.sealed id).restrictions c []) ≡ size_at (functor_at s.sealed id) c = f.sealed.whole c in
    let m' : k < length (get_or (groups p.base p.ends.items a.restrictions.rows) c []) = let s = ap length e in omega arith in
    let r = item_at p.base 0 c k p.ends.items a.restrictions.rows [] f.cut_restrictions l' m' in
    (r.1, sym r.0 ∙ ap (λ g. get_or g k []) (sym e), f.sealed.widths c k (omega (arith, m, w)))

pub got : {X : Type 0} (xs : List X) (i : ℕ) (x d : X) → slice_get xs i ≡ Some x → x ≡ get_or xs i d
got [] i x d e = absurd (cc)
got (y ∷ ys) zero x d e = (let s : y ≡ x = cc in sym s)
got (y ∷ ys) (suc i) x d e = got ys i x d e

-- an arrow has a place among the arrows into its codomain
place_within : (ends : List (ℕ × ℕ)) (f : ℕ) → f < length ends → place ends f < into ends ((get_or ends f (0, 0)).1)
unfolding place into
place_within ends f l =
    let here : eqb ((get_or ends f (0, 0)).1) ((get_or ends f (0, 0)).1) ≡ true = eq-eqb _ _ refl in
    let more = sum_by_more_le (λ (e : ℕ × ℕ). cond (eqb (e.1) ((get_or ends f (0, 0)).1)) 1 0) ends f (0, 0) l in
    let one : cond {A = ℕ} (eqb ((get_or ends f (0, 0)).1) ((get_or ends f (0, 0)).1)) 1 0 ≡ 1 = ap (λ b. cond {A = ℕ} b 1 0) here in
    omega (arith, more, one)

-- the codomain of an arrow, and its place
pub record Arrow (a : Inside) (s : Store) (f : ℕ) (d : ℕ × ℕ) : Type 0 where
  pub is : d ≡ get_or s.ends f (0, 0)
  pub object : d.1 < s.objects
  pub listed : f < length a.tables.places
  pub place_is : get_or a.tables.places f 0 ≡ place s.ends f
  pub within : place s.ends f < into s.ends (d.1)

pub arrow_is : (a : Inside) (s : Store) (f : ℕ) (d : ℕ × ℕ) → IsStore a → view a ≡ s → f < length s.ends → slice_get a.ends f ≡ Some d → Arrow a s f d
arrow_is a s f d h e l g =
    let P : Store → Type 0 = λ v. f < length v.ends → Arrow a v f d in
    subst P e (λ m.
    let r : d ≡ get_or a.ends f (0, 0) = got a.ends f d (0, 0) g in
    let n = h.tables.arrows_in in
    let Q : (ℕ × ℕ) → Type 0 = λ x. x.1 < a.objects in
    let W : (ℕ × ℕ) → Type 0 = λ x. place a.ends f < into a.ends (x.1) in
    record {
      is = r;
      object = subst Q (sym r) (h.tables.ends_in f m);
      listed = omega arith;
      place_is = h.tables.places_are f m;
      within = subst W (sym r) (place_within a.ends f m);
    }) l

-- the number of arrows into an object
pub into_is : (a : Inside) (s : Store) (c x : ℕ) → IsStore a → view a ≡ s → c < s.objects → x ≡ get_or a.tables.into.items c x → (x ≡ into s.ends c) × (x ≡ into a.ends c)
into_is a s c x h e l i =
    let o : a.objects ≡ s.objects = ap (λ v. v.objects) e in
    let n : a.ends ≡ s.ends = ap (λ v. v.ends) e in
    let m = h.tables.objects_in in
    let r : x ≡ into a.ends c = get_or_read a.tables.into.items c x (omega arith) i 0 ∙ h.tables.into_is c (omega arith) in
    (r ∙ ap (λ y. into y c) n, r)

-- looking a type up
key_at : (rows restr : List (List ℕ)) (ps : List (Ty × Part)) (i : ℕ) (d : Ty) → i < length ps → get_or (keys_of ps) i d ≡ (functor_at (sealed_of rows restr ps) i).key
unfolding sealed_of functor_at functor_of
key_at rows restr [] i d l = absurd (omega arith)
key_at rows restr (p ∷ ps) zero d l = refl
key_at rows restr (p ∷ ps) (suc i) d l = key_at rows restr ps i d (omega arith)

length_keys : (ps : List (Ty × Part)) → length (keys_of ps) ≡ length ps
length_keys [] = refl
length_keys (p ∷ ps) = ap suc (length_keys ps)

none_before_end : (ps : List (Ty × Part)) (key : Ty) → position (same_type key) (keys_of ps) ≡ None → length (keys_of ps) ≤ position_or_len (same_type key) (keys_of ps)
none_before_end ps key e = grind (arith, common_steps)

-- the place of a type among the keys is that of its functor
found_place : (rows restr : List (List ℕ)) (ps : List (Ty × Part)) (key : Ty) (r : Option ℕ) → r ≡ position (same_type key) (keys_of ps) → MatchOption r (IsFreeKey (sealed_of rows restr ps) key) (λ id. (id < length (sealed_of rows restr ps)) × ((functor_at (sealed_of rows restr ps) id).key ≡ key))
found_place rows restr ps key None e = λ i l is.
    let n = length-sealed rows restr ps in
    let k = length_keys ps in
    let at = key_at rows restr ps i key (omega arith) in
    let end = none_before_end ps key (sym e) in
    false≢true (sym (fails_before_first (same_type key) (keys_of ps) i key (omega arith)) ∙ equal_types_are_same key (get_or (keys_of ps) i key) (sym (at ∙ is)))
found_place rows restr ps key (Some id) e =
    let n = length-sealed rows restr ps in
    let k = length_keys ps in
    let p = position-Some (same_type key) (keys_of ps) id key (sym e) in
    (omega arith, sym (key_at rows restr ps id key (omega arith)) ∙ sym (same_types_are_equal key (get_or (keys_of ps) id key) p.1))

pub found_by_key : (a : Inside) (s : Store) (key : Ty) (r : Option ℕ) → view a ≡ s → r ≡ position (same_type key) (keys_of a.parts.entries) → MatchOption r (IsFreeKey s.sealed key) (λ id. (id < length s.sealed) × ((functor_at s.sealed id).key ≡ key))
found_by_key a s key r e p =
    let P : Store → Type 0 = λ v. MatchOption r (IsFreeKey v.sealed key) (λ id. (id < length v.sealed) × ((functor_at v.sealed id).key ≡ key)) in
    subst P e (found_place a.rows.rows a.restrictions.rows a.parts.entries key r p)
