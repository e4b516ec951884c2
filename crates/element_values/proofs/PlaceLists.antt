-- Places by numbers, and the entries and assignments there.
use Rattle.std.proofs.Common.{◌≡◌, ℕ, zero, suc, ◌<◌, Bool, true, false, cond, eqb, inl, inr, List, [], ◌∷◌, length, get_or, map, filter, refl, sym, ap, subst, ◌∙◌, arith}
use Rattle.std.specs.List.{range_with_len}
use Rattle.std.proofs.lemmas.Simd.{map-map}
use Rattle.finite_lists.specs.Members.{In}
use Rattle.finite_lists.proofs.Lists.{In-map_from, In-flat_map_from}
use Rattle.finite_lists.proofs.DistinctLists.{In-range_from}
use Rattle.topos_model.specs.declared.ty.Ty.{Ty}
use Rattle.topos_model.specs.declared.value.Val.{Val}
use Rattle.topos_model.specs.declared.value.Entry.{Entry}
use Rattle.topos_model.specs.categories.Category.{Category, into, dom}
use Rattle.topos_model.specs.topologies.Cover.{Site}
use Rattle.topos_model.specs.Laws.{IsInto}
use Rattle.topos_model.specs.types.Types.{Presheaf, elements, places}
use Rattle.topos_model.proofs.ArrowsInto.{In-into_from}
use Rattle.type_laws.proofs.Places.{entry}
use Rattle.type_laws.proofs.Tables.{row, tabulate}
use Rattle.type_rows.specs.TypeRows.{value_at}
use Rattle.function_objects.proofs.FunctionTables.{by_number, map_joined, joined_same}
use Rattle.element_values.specs.declared.places.Place.{Place}
use Rattle.element_values.specs.declared.places.Image.{Image}
use Rattle.element_values.specs.Places.{spot, places_over, places_at, marked, imaged, entry_at, assign_at}

abbrev pub no_place : Place
no_place = record { arrow = 0; element = 0 }

abbrev pub image_of : Place → ℕ → Image
image_of p n = record { arrow = p.arrow; element = p.element; value = n }

-- an arrow into the object, and a number of an element over its domain
pub In_places_at : (k : Category) (size : ℕ → ℕ) (c : ℕ) (p : Place) → In (places_at k size c) p → IsInto k c p.arrow × (p.element < size (dom k p.arrow))
unfolding places_at places_over
In_places_at k size c p i =
    let a = In-flat_map_from (places_over k size) (into k c) p i in
    let b = In-map_from (spot a.0) (range_with_len 0 (size (dom k a.0))) p a.2 in
    subst (λ (p : Place). IsInto k c p.arrow × (p.element < size (dom k p.arrow))) b.2 (In-into_from k c a.0 a.1, omega (arith, (In-range_from 0 (size (dom k a.0)) b.0 b.1).1))

-- what is marked is there
pub In_marked : (ps : List Place) (row : List ℕ) (p : Place) → In (marked ps row) p → In ps p
unfolding marked
In_marked [] row p i = i
In_marked (q ∷ ps) [] p i = absurd i
In_marked (q ∷ ps) (n ∷ row) p i = at (eqb n 1) (In_marked ps row p) i
  where
    at : (b : Bool) → (In (marked ps row) p → In ps p) → In (cond b (q ∷ marked ps row) (marked ps row)) p → In (q ∷ ps) p
    at true later (inl e) = inl e
    at true later (inr j) = inr (later j)
    at false later j = inr (later j)

-- an image is that of a place
pub In_imaged : (ps : List Place) (ns : List ℕ) (q : Image) → length ns ≡ length ps → In (imaged ps ns) q → (i : ℕ) × (i < length ps) × (image_of (get_or ps i no_place) (get_or ns i 0) ≡ q)
unfolding imaged
In_imaged [] ns q e i = absurd i
In_imaged (p ∷ ps) [] q e i = absurd i
In_imaged (p ∷ ps) (n ∷ ns) q e (inl s) = (zero, omega arith, s)
In_imaged (p ∷ ps) (n ∷ ns) q e (inr j) = let (i, low, s) = In_imaged ps ns q (omega (arith, e)) j in (suc i, omega (arith, low), s)

module _ (s : Site) (functors : List Presheaf) where
  -- the places of a type, by the numbers of its elements
  pub places_are : (T : Ty) (size : ℕ → ℕ) (c : ℕ) → ((f : ℕ) → IsInto s.category c f → size (dom s.category f) ≡ length (elements s functors T (dom s.category f))) →
      places s (elements s functors T) c ≡ map (entry_at s functors T) (places_at s.category size c)
  unfolding places places_at places_over
  places_are T size c sizes =
      let k = s.category in
      joined_same (λ f. map (entry f) (elements s functors T (dom k f))) (λ f. map (entry_at s functors T) (places_over k size f)) (into k c) (λ f m.
      ap (map (entry f)) (sym (by_number (elements s functors T (dom k f))))
      ∙ map-map (entry f) (value_at s functors T (dom k f)) (range_with_len 0 (length (elements s functors T (dom k f))))
      ∙ ap (λ n. map (λ w. entry f (value_at s functors T (dom k f) w)) (range_with_len 0 n)) (sym (sizes f (In-into_from k c f m)))
      ∙ sym (map-map (entry_at s functors T) (spot f) (range_with_len 0 (size (dom k f)))))
      ∙ sym (map_joined (entry_at s functors T) (places_over k size) (into k c))

-- the marks of a test keep what it holds of
pub kept : (E : Place → Entry) (t : Entry → Bool) (ps : List Place) → map E (marked ps (map (λ e. cond (t e) 1 0) (map E ps))) ≡ filter t (map E ps)
unfolding marked
kept E t [] = refl
kept E t (p ∷ ps) = at (t (E p)) (kept E t ps)
  where
    rest : List Place
    rest = marked ps (map (λ e. cond (t e) 1 0) (map E ps))

    at : (b : Bool) → map E rest ≡ filter t (map E ps) → map E (cond (eqb (cond b 1 0) 1) (p ∷ rest) rest) ≡ cond b (E p ∷ filter t (map E ps)) (filter t (map E ps))
    at true e = ap (λ l. E p ∷ l) e
    at false e = e

-- the numbers of the values of a table give the table
pub valued : (s : Site) (functors : List Presheaf) (S T : Ty) (t : Entry → Val) (ps : List Place) (ns : List ℕ) → length ns ≡ length ps →
    ((i : ℕ) → i < length ps → value_at s functors T (dom s.category (get_or ps i no_place).arrow) (get_or ns i 0) ≡ t (entry_at s functors S (get_or ps i no_place))) →
    map (assign_at s functors S T) (imaged ps ns) ≡ tabulate t (map (entry_at s functors S) ps)
unfolding imaged
valued s functors S T t [] ns e h = refl
valued s functors S T t (p ∷ ps) [] e h = absurd (omega (arith, e))
valued s functors S T t (p ∷ ps) (n ∷ ns) e h =
    ap (λ v. record { arrow = p.arrow; val = value_at s functors S (dom s.category p.arrow) p.element; to = v } ∷ map (assign_at s functors S T) (imaged ps ns)) (h zero (omega arith))
    ∙ ap (λ l. row t (entry_at s functors S p) ∷ l) (valued s functors S T t ps ns (omega (arith, e)) (λ i low. h (suc i) (omega (arith, low))))
