-- The functor of the closed sieves, as it is sealed.
use Rattle.std.proofs.Common.{◌≡◌, ℕ, zero, suc, ◌+◌, ◌-◌, ◌*◌, ◌<◌, ◌≤◌, Bool, true, cond, inl, inr, List, [], ◌∷◌, ◌++◌, length, get_or, map, take, drop, filter, sum, eqb, slice_range, refl, sym, ap, subst, ◌∙◌, arith}
use Rattle.std.specs.List.{range_with_len}
use Rattle.std.proofs.Math.Nat.{le-mul_of_pos_right}
use Rattle.std.proofs.lemmas.Bool.{eq-eqb}
use Rattle.std.proofs.lemmas.List.{length-map, length-append, get_or-take, get_or-drop, get_or-append-add, length-take-le}
use Rattle.std.proofs.lemmas.List.Elements.{filter-append}
use Rattle.finite_lists.proofs.Lists.{map_same, filter_same}
use Rattle.finite_lists.proofs.DistinctLists.{In-range_from}
use Rattle.topos_model.specs.declared.ty.Ty.{Omega}
use Rattle.topos_model.specs.declared.value.Val.{Sv, Star}
use Rattle.topos_model.specs.declared.value.Val.TheVariants.{outs-Sv}
use Rattle.topos_model.specs.categories.Category.{Category, into, dom, cod, pull}
use Rattle.topos_model.specs.topologies.Cover.{Site}
use Rattle.topos_model.specs.Laws.{IsCategory}
use Rattle.topos_model.specs.types.Types.{Presheaf, elements, restr, omega_elements, omega_along}
use Rattle.topos_model.specs.types.Values.{arrows_of, arrows_in}
use Rattle.topos_model.specs.statements.Cells.{cells_of, width}
use Rattle.topos_model.specs.statements.Needs.{parts}
use Rattle.functor_store.specs.Store as store
use Rattle.functor_store.specs.Store.{Functor, Store, place, size_at, element_at, restriction_along, functor_at, cost, cost_sealed}
use Rattle.functor_store.specs.Faithful.{HasElements, IsFaithful}
use Rattle.functor_store.proofs.Costs.{arrows_into}
use Rattle.functor_store.proofs.Faithful.{faithful_sealed}
use Rattle.sealed_functors.specs.declared.rows.ElementRows.{ElementRows}
use Rattle.sealed_functors.specs.Rows.{part, element_rows, restriction_rows, functor_from, rows_at, AreShaped}
use Rattle.sealed_functors.proofs.Groups.{length-parts, part_at, mapped_at}
use Rattle.omega_object.specs.TruthValues.{closed_sieves, sieve_at, IsNumber}
use Rattle.omega_object.specs.Tables.{sieve_cells, AreSieveRows}
use Rattle.omega_object.proofs.CellSums.{cells_more, cells_within, cells_all}
use Rattle.omega_object.proofs.Precedence.{mapped_at as image_at}

-- there are no more closed sieves on an object than cells
pub few_sieves : (s : Site) (c : ℕ) → c < s.category.objects → length (closed_sieves s c) ≤ sieve_cells s
few_sieves s c low =
    let n = length (closed_sieves s c) in
    let m : n ≤ n * (1 + length (into s.category c)) = le-mul_of_pos_right n (omega arith) in
    omega (arith, m, cells_more s c, cells_within s (c + 1) s.category.objects (omega (arith, low)), cells_all s)

pub few_objects : (k : Category) → IsCategory k → k.objects ≤ length k.ends
few_objects k laws = at k.objects refl
  where
    at : (n : ℕ) → k.objects ≡ n → k.objects ≤ length k.ends
    at zero e = omega (arith, e)
    at (suc n) e = let l = (laws.identity n (omega (arith, e))).0.0 in omega (arith, e, l)

-- an arrow stands at its place among those into its codomain
range_split : (a m l : ℕ) → range_with_len a (m + l) ≡ range_with_len a m ++ range_with_len (a + m) l
range_split a zero l = let e : zero + l ≡ l = omega arith in let z : a + zero ≡ a = omega arith in ap (range_with_len a) e ∙ ap (λ n. range_with_len n l) (sym z)
range_split a (suc m) l =
    let e : suc m + l ≡ suc (m + l) = omega arith in
    let f : a + 1 + m ≡ a + suc m = omega arith in
    ap (range_with_len a) e ∙ ap (λ t. a ∷ t) (range_split (a + 1) m l ∙ ap (λ n. range_with_len (a + 1) m ++ range_with_len n l) f)

kept_first : (p : ℕ → Bool) (a : ℕ) (rest : List ℕ) → p a ≡ true → filter p (a ∷ rest) ≡ a ∷ filter p rest
kept_first p a rest e = ap (λ b. cond b (a ∷ filter p rest) (filter p rest)) e

pub place_is : (k : Category) (f : ℕ) → f < length k.ends → (place k.ends f < length (into k (cod k f))) × (get_or (into k (cod k f)) (place k.ends f) 0 ≡ f)
unfolding place into
place_is k f low =
    let c = cod k f in
    let p : ℕ → Bool = λ g. eqb (cod k g) c in
    let n = length k.ends in
    let front : Category = record { objects = k.objects; ends = take f k.ends; table = k.table } in
    let q : ℕ → Bool = λ g. eqb (cod front g) c in
    let long : length (take f k.ends) ≡ f = length-take-le f k.ends (omega (arith, low)) in
    let same : filter q (range_with_len 0 f) ≡ filter p (range_with_len 0 f) =
    filter_same q p (range_with_len 0 f) (λ g i. let r = In-range_from 0 f g i in ap (λ (e : ℕ × ℕ). eqb e.1 c) (get_or-take f k.ends g (0, 0) (omega (arith, r.1)))) in
    let count : store.into (take f k.ends) c ≡ length (filter p (range_with_len 0 f)) =
    arrows_into front c ∙ ap (λ m. length (filter q (range_with_len 0 m))) long ∙ ap length same in
    let e : n ≡ f + suc (n - f - 1) = omega (arith, low) in
    let z : 0 + f ≡ f = omega arith in
    let all : filter p (range_with_len 0 n) ≡ filter p (range_with_len 0 f) ++ (f ∷ filter p (range_with_len (f + 1) (n - f - 1))) =
    ap (λ m. filter p (range_with_len 0 m)) e ∙ ap (filter p) (range_split 0 f (suc (n - f - 1)) ∙ ap (λ m. range_with_len 0 f ++ range_with_len m (suc (n - f - 1))) z)
    ∙ filter-append p (range_with_len 0 f) (range_with_len f (suc (n - f - 1)))
    ∙ ap (λ t. filter p (range_with_len 0 f) ++ t) (kept_first p f (range_with_len (f + 1) (n - f - 1)) (eq-eqb c c refl)) in
    let first : List ℕ = filter p (range_with_len 0 f) in
    let rest : List ℕ = filter p (range_with_len (f + 1) (n - f - 1)) in
    let here : length first + 0 ≡ length first = omega arith in (
      subst (λ l. store.into (take f k.ends) c < length l) (sym all) (omega (arith, count, length-append first (f ∷ rest))),
      ap (λ l. get_or l (store.into (take f k.ends) c) 0) all ∙ ap (λ m. get_or (first ++ (f ∷ rest)) m 0) (count ∙ sym here) ∙ get_or-append-add first (f ∷ rest) 0 0,
    )

part_entry : (w : ℕ) (xs : List ℕ) (k i : ℕ) → i < w → get_or (part w xs k) i 0 ≡ get_or xs (k * w + i) 0
part_entry w xs k i low =
    let e : k * w + w - k * w ≡ w = omega arith in
    ap (λ n. get_or (take n (drop (k * w) xs)) i 0) e ∙ get_or-take w (drop (k * w) xs) i 0 low ∙ get_or-drop (k * w) xs i 0

-- the elements of Omega are the closed sieves
pub elements_are : (s : Site) (functors : List Presheaf) (c : ℕ) → elements s functors Omega c ≡ map Sv (closed_sieves s c)
unfolding elements omega_elements closed_sieves
elements_are s functors c = refl

along_is : (s : Site) (functors : List Presheaf) (f : ℕ) (S : List ℕ) → restr s functors Omega f (Sv S) ≡ Sv (pull s.category f S)
unfolding restr omega_along arrows_of
along_is s functors f S = ap (λ T. Sv (pull s.category f T)) (ap arrows_in (outs-Sv S))

pub cells_are : (s : Site) (functors : List Presheaf) → cells_of s functors Omega ≡ sieve_cells s
unfolding cells_of width sieve_cells
cells_are s functors =
    ap sum (map_same (λ c. length (elements s functors Omega c) * (1 + length (into s.category c) + 0)) (λ c. length (closed_sieves s c) * (1 + length (into s.category c))) (range_with_len 0 s.category.objects) (λ c i.
    let e : length (elements s functors Omega c) ≡ length (closed_sieves s c) = ap length (elements_are s functors c) ∙ length-map (closed_sieves s c) Sv in
    let z : 1 + length (into s.category c) + 0 ≡ 1 + length (into s.category c) = omega arith in
    ap (λ n. n * (1 + length (into s.category c) + 0)) e ∙ ap (λ n. length (closed_sieves s c) * n) z))

module _ (s : Site) (laws : IsCategory s.category) (at : List ElementRows) (long : length at ≡ s.category.objects) (rows : (c : ℕ) → c < s.category.objects → AreSieveRows s c (rows_at at c)) where
  abbrev k : Category
  k = s.category

  abbrev F : Functor
  F = functor_from Omega at

  size_is : (c : ℕ) → c < k.objects → size_at (functor_from Omega at) c ≡ (rows_at at c).count
  unfolding functor_from
  size_is c low = ap length (mapped_at element_rows at c (omega (arith, low, long))) ∙ length-parts _ _ _

  row_is : (c n : ℕ) → c < k.objects → n < (rows_at at c).count → element_at (functor_from Omega at) c n ≡ []
  unfolding functor_from
  row_is c n low inside =
      let r = rows_at at c in
      ap (λ g. get_or g n []) (mapped_at element_rows at c (omega (arith, low, long))) ∙ part_at r.width r.count r.rows n inside
      ∙ ap (λ w. part w r.rows n) (rows c low).width ∙ ap (λ xs. part 0 xs n) (rows c low).rows ∙ none (n * 0)
    where
      none : (m : ℕ) → slice_range {X = ℕ} [] m (m + 0) ≡ []
      none m = let e : m + 0 - m ≡ 0 = omega arith in ap (λ j. take j (drop {A = ℕ} m [])) e ∙ nothing (drop m [])
        where
          nothing : (xs : List ℕ) → take 0 xs ≡ []
          nothing [] = refl
          nothing (x ∷ xs) = refl

  number_is : (f n : ℕ) → f < length k.ends → n < (rows_at at (cod k f)).count → IsNumber s (dom k f) (restriction_along k.ends (functor_from Omega at) f n) (pull k f (sieve_at s (cod k f) n))
  unfolding functor_from
  number_is f n low inside =
      let c = cod k f in
      let object : c < k.objects = (laws.ends f low).1 in
      let r = rows_at at c in
      let w = length (into k c) in
      let p = place_is k f low in
      let e : restriction_along k.ends (functor_from Omega at) f n ≡ get_or r.restrictions (n * w + place k.ends f) 0 =
      ap (λ g. get_or (get_or g n []) (place k.ends f) 0) (mapped_at restriction_rows at c (omega (arith, object, long)))
      ∙ ap (λ row. get_or row (place k.ends f) 0) (part_at r.arrows r.count r.restrictions n inside ∙ ap (λ v. part v r.restrictions n) (rows c object).arrows)
      ∙ part_entry w r.restrictions n (place k.ends f) p.0 in
      let m = (rows c object).numbers n (place k.ends f) inside p.0 in
      subst (λ x. IsNumber s (dom k f) x (pull k f (sieve_at s c n))) (sym e) (subst (λ g. IsNumber s (dom k g) (get_or r.restrictions (n * w + place k.ends f) 0) (pull k g (sieve_at s c n))) p.1 m)

  objects_are : length (functor_from Omega at).rows ≡ k.objects
  unfolding functor_from
  objects_are = length-map at element_rows ∙ long

  pub sieve_elements : (functors : List Presheaf) → HasElements s functors Omega (functor_from Omega at)
  sieve_elements functors = record {
    objects = objects_are;
    sizes = λ c low. size_is c low ∙ (rows c low).count ∙ sym (ap length (elements_are s functors c) ∙ length-map (closed_sieves s c) Sv);
    restrictions = λ f n low inside.
        let c = cod k f in
        let object : c < k.objects = (laws.ends f low).1 in
        let inside' : n < (rows_at at c).count = omega (arith, inside, size_is c object) in
        let number = number_is f n low inside' in
        let within = number.within in
        let count = (rows c object).count in
        let value : get_or (elements s functors Omega c) n Star ≡ Sv (sieve_at s c n) = ap (λ l. get_or l n Star) (elements_are s functors c) ∙ image_at Sv (closed_sieves s c) n [] Star (omega (arith, inside', count)) in
        record {
          within = omega (arith, within, ap length (elements_are s functors (dom k f)) ∙ length-map (closed_sieves s (dom k f)) Sv);
          is = ap (λ l. get_or l (restriction_along k.ends (functor_from Omega at) f n) Star) (elements_are s functors (dom k f)) ∙ image_at Sv (closed_sieves s (dom k f)) (restriction_along k.ends (functor_from Omega at) f n) [] Star within
              ∙ ap Sv number.is ∙ sym (ap (restr s functors Omega f) value ∙ along_is s functors f (sieve_at s c n));
        };
    rows = λ c n low inside. row_is c n low (omega (arith, inside, size_is c low));
  }

  pub sieves_shaped : (ends : List (ℕ × ℕ)) → ends ≡ k.ends → AreShaped ends at
  sieves_shaped ends e = record {
    arrows = λ c low. (rows c (omega (arith, low, long))).arrows ∙ sym (ap (λ l. store.into l c) e ∙ arrows_into k c);
    rows = λ c low.
        let r = rows c (omega (arith, low, long)) in
        let z : (rows_at at c).count * 0 ≡ 0 = omega arith in
        ap length r.rows ∙ sym (ap (λ w. (rows_at at c).count * w) r.width ∙ z);
    restrictions = λ c low. let r = rows c (omega (arith, low, long)) in r.length_is ∙ ap (λ w. (rows_at at c).count * w) (sym r.arrows);
  }

  pub sieves_faithful : (functors : List Presheaf) (old : Store) → IsFaithful s functors old → IsFaithful s functors (record old { sealed = old.sealed ++ functor_from Omega at ∷ [] })
  unfolding functor_from parts
  sieves_faithful functors old h =
      faithful_sealed s functors old (functor_from Omega at) h (sieve_elements functors) (λ n e. cc) (λ n i. elim i [ inl e ↦ absurd (cc e) | inr m ↦ absurd m ])

-- a functor that is sealed costs no more than all of them
pub cost_within : (ends : List (ℕ × ℕ)) (Fs : List Functor) (id : ℕ) → id < length Fs → cost ends (functor_at Fs id) ≤ cost_sealed ends Fs
unfolding functor_at cost_sealed
cost_within ends [] id low = absurd (omega (arith, low))
cost_within ends (F ∷ Fs) zero low = omega arith
cost_within ends (F ∷ Fs) (suc id) low = omega (arith, cost_within ends Fs id (omega (arith, low)))
