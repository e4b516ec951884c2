-- The components that listed images give, and what a listing without a fault gives.
use Rattle.std.proofs.Common.{◌≡◌, ℕ, ◌+◌, ◌-◌, ◌<◌, ◌≤◌, Bool, true, false, cond, not, ◌&&◌, ◌||◌, eqb, ltb, inl, inr, List, [], ◌∷◌, map, length, get_or, Option, None, refl, sym, ap, subst, ◌∙◌, arith}
use Rattle.std.specs.List.{list_any, range_with_len}
use Rattle.std.proofs.lemmas.Bool.{and_parts, eqb-true, ltb-true, not-false}
use Rattle.std.proofs.lemmas.List.FromFn.{length-map-range_with_len, get_or-map-range_with_len}
use Rattle.finite_lists.specs.Members.{In}
use Rattle.finite_lists.specs.First.{first, or_else, some_if}
use Rattle.finite_lists.proofs.Lists.{map_same}
use Rattle.finite_lists.proofs.DistinctLists.{In-range, In-range_from}
use Rattle.finite_lists.proofs.FirstAnswers.{first_same, first_none_each, some_if-false, or_else_none}
use Rattle.topos_model.specs.declared.raw.RawEntry.{RawEntry}
use Rattle.topos_model.specs.declared.raw.RawMap.{RawMap}
use Rattle.topos_model.specs.declared.fault.Fault.{Fault}
use Rattle.topos_model.specs.declared.fault.Fault.TheVariants.{MapNotTotal, NoElement as Unknown}
use Rattle.topos_model.specs.categories.Category.{Category}
use Rattle.topos_model.specs.types.Types.{Presheaf}
use Rattle.topos_model.specs.Laws.{size}
use Rattle.topos_model.specs.presheaves.Maps.{component, apply}
use Rattle.topos_model.specs.presheaves.MapFaults.{has_image, listed_image, listed_map, entry_fault, map_total_fault}
use Rattle.natural_maps.specs.Places.{offset}
use Rattle.natural_maps.specs.Images.{image_at, AreImages}
use Rattle.natural_maps.specs.Faults.{IsFound}
use Rattle.natural_maps.specs.declared.fault.MapFault.{MapFault}
use Rattle.natural_maps.specs.declared.fault.MapFault.TheVariants.{NoElement, MapNotTotal as Partial, NotNatural as Fails, NoMemory}
use Rattle.natural_maps.specs.Components.{number, is_missing, number_from, missing_at, listed_component, unlisted_at, AreComponents}
use Rattle.natural_maps.proofs.Offsets.{offset-apart}
use Rattle.presheaf_core.proofs.SearchFrom.{first_from-some}

pub number_image : (entries : List RawEntry) (c x : ℕ) → number (image_at entries c x) ≡ listed_image entries c x
number_image [] c x = refl
number_image (e ∷ rest) c x = at (eqb e.at c && eqb e.from x) (number_image rest c x)
  where
    at : (b : Bool) → number (image_at rest c x) ≡ listed_image rest c x → number (or_else (some_if b e.to) (image_at rest c x)) ≡ cond b e.to (listed_image rest c x)
    at true ih = refl
    at false ih = ih

pub missing_has : (entries : List RawEntry) (c x : ℕ) → is_missing (image_at entries c x) ≡ not (has_image entries c x)
unfolding has_image
missing_has [] c x = refl
missing_has (e ∷ rest) c x = at (eqb e.at c && eqb e.from x) (missing_has rest c x)
  where
    at : (b : Bool) → is_missing (image_at rest c x) ≡ not (list_any (λ e. eqb e.at c && eqb e.from x) rest) →
        is_missing (or_else (some_if b e.to) (image_at rest c x)) ≡ not (b || list_any (λ e. eqb e.at c && eqb e.from x) rest)
    at true ih = refl
    at false ih = ih

module _ (sizes : List ℕ) (entries : List RawEntry) (images : List (Option ℕ)) (c start : ℕ) (low : c < length sizes) (here : start ≡ offset sizes c) (are : AreImages sizes entries images) where
  pub piece_within : start + get_or sizes c 0 ≤ length images
  piece_within = omega (arith, are.places, offset-apart sizes c (length sizes) low low)

  pub image_here : (x : ℕ) → x < get_or sizes c 0 → get_or images (start + x) None ≡ image_at entries c x
  image_here x within = ap (λ n. get_or images (n + x) None) here ∙ are.each c x low within

  pub component_is : map (number_from images start) (range_with_len 0 (get_or sizes c 0)) ≡ listed_component sizes entries c
  component_is =
      map_same (number_from images start) (listed_image entries c) (range_with_len 0 (get_or sizes c 0)) (λ x i.
      let within : x < get_or sizes c 0 = omega (arith, (In-range_from 0 (get_or sizes c 0) x i).1) in
      ap number (image_here x within) ∙ number_image entries c x)

  pub missing_is : first (missing_at images start c) (range_with_len 0 (get_or sizes c 0)) ≡ unlisted_at sizes entries c
  missing_is =
      first_same _ _ (range_with_len 0 (get_or sizes c 0)) (λ x i.
      let within : x < get_or sizes c 0 = omega (arith, (In-range_from 0 (get_or sizes c 0) x i).1) in
      ap (λ b. some_if b (MapNotTotal c x)) (ap is_missing (image_here x within) ∙ missing_has entries c x))

pub listed_map_is : (k : Category) (P : Presheaf) (raw : RawMap) (objects : ℕ) → objects ≡ k.objects → map (listed_component P.sizes raw.entries) (range_with_len 0 objects) ≡ listed_map k P raw
unfolding listed_map
listed_map_is k P raw objects e = ap (λ n. map (listed_component P.sizes raw.entries) (range_with_len 0 n)) e

pub total_fault_is : (k : Category) (P : Presheaf) (raw : RawMap) (objects : ℕ) → objects ≡ k.objects → first (unlisted_at P.sizes raw.entries) (range_with_len 0 objects) ≡ map_total_fault k P raw
unfolding map_total_fault
total_fault_is k P raw objects e = ap (λ n. first (unlisted_at P.sizes raw.entries) (range_with_len 0 n)) e

-- a search whose answer is that of another says the same
pub found_same : (found other : Option Fault) (fault : MapFault) → found ≡ other → IsFound found fault → IsFound other fault
found_same found other fault e is = subst (λ o. IsFound o fault) e is

-- the first answer of a search along objects is that at one of them
pub found_at : (test : ℕ → Option Fault) (all : Option Fault) (i n : ℕ) (fault : MapFault) → i < n → all ≡ first test (range_with_len i (n - i)) → IsFound (test i) fault → IsFound all fault
found_at test all i n (NoElement c k) low e is = e ∙ first_from-some test i n _ low is
found_at test all i n (Partial c x) low e is = e ∙ first_from-some test i n _ low is
found_at test all i n (Fails f x) low e is = e ∙ first_from-some test i n _ low is
found_at test all i n NoMemory low e is = tt

-- the first fault of three searches in turn
pub first_of_three : (one two three : Option Fault) (fault : MapFault) → IsFound one fault → IsFound (or_else one (or_else two three)) fault
first_of_three one two three (NoElement c k) is = ap (λ o. or_else o (or_else two three)) is
first_of_three one two three (Partial c x) is = ap (λ o. or_else o (or_else two three)) is
first_of_three one two three (Fails f x) is = ap (λ o. or_else o (or_else two three)) is
first_of_three one two three NoMemory is = tt

pub second_of_three : (one two three : Option Fault) (fault : MapFault) → one ≡ None → IsFound two fault → IsFound (or_else one (or_else two three)) fault
second_of_three one two three fault e is = subst (λ o. IsFound (or_else o (or_else two three)) fault) (sym e) (at fault is)
  where
    at : (fault : MapFault) → IsFound two fault → IsFound (or_else two three) fault
    at (NoElement c k) is = ap (λ o. or_else o three) is
    at (Partial c x) is = ap (λ o. or_else o three) is
    at (Fails f x) is = ap (λ o. or_else o three) is
    at NoMemory is = tt

pub third_of_three : (one two three : Option Fault) → one ≡ None → two ≡ None → or_else one (or_else two three) ≡ three
third_of_three one two three e d = ap (λ o. or_else o (or_else two three)) e ∙ ap (λ o. or_else o three) d

-- an entry that gives the image of x
pub image_entry : (entries : List RawEntry) (c x : ℕ) → has_image entries c x ≡ true → (e : RawEntry) × In entries e × (e.at ≡ c) × (e.from ≡ x) × (listed_image entries c x ≡ e.to)
unfolding has_image
image_entry [] c x t = cc
image_entry (e ∷ rest) c x t = at (eqb e.at c && eqb e.from x) refl t (image_entry rest c x)
  where
    at : (b : Bool) → (eqb e.at c && eqb e.from x) ≡ b → (b || list_any (λ e. eqb e.at c && eqb e.from x) rest) ≡ true →
        (list_any (λ e. eqb e.at c && eqb e.from x) rest ≡ true → (d : RawEntry) × In rest d × (d.at ≡ c) × (d.from ≡ x) × (listed_image rest c x ≡ d.to)) →
        (d : RawEntry) × In (e ∷ rest) d × (d.at ≡ c) × (d.from ≡ x) × (cond b e.to (listed_image rest c x) ≡ d.to)
    at true p t later = let both = and_parts _ _ p in (e, inl refl, eqb-true _ _ both.0, eqb-true _ _ both.1, refl)
    at false p t later = let r : (d : RawEntry) × In rest d × (d.at ≡ c) × (d.from ≡ x) × (listed_image rest c x ≡ d.to) = later t in (r.0, inr r.1, r.2, r.3, r.4)

-- the numbers of an entry without a fault are elements
pub known_entry : (P Q : Presheaf) (e : RawEntry) → entry_fault P Q e ≡ None → (e.from < size P e.at) × (e.to < size Q e.at)
unfolding entry_fault
known_entry P Q e none =
    let both = or_else_none (some_if (not (ltb e.from (size P e.at))) (Unknown e.at e.from)) (some_if (not (ltb e.to (size Q e.at))) (Unknown e.at e.to)) none in
    (ltb-true _ _ (not-false _ (some_if-false _ _ both.0)), ltb-true _ _ (not-false _ (some_if-false _ _ both.1)))

module _ (k : Category) (P Q : Presheaf) (raw : RawMap) where
  pub listed_total : (c : ℕ) → c < k.objects → component (listed_map k P raw) c ≡ map (listed_image raw.entries c) (range_with_len 0 (size P c))
  unfolding listed_map
  listed_total c low = get_or-map-range_with_len (λ c. map (listed_image raw.entries c) (range_with_len 0 (size P c))) 0 k.objects c c [] low (omega arith)

  pub listed_at : (c x : ℕ) → c < k.objects → x < size P c → apply (listed_map k P raw) c x ≡ listed_image raw.entries c x
  listed_at c x low within =
      ap (λ (l : List ℕ). get_or l x 0) (listed_total c low) ∙ get_or-map-range_with_len (listed_image raw.entries c) 0 (size P c) x x 0 within (omega arith)

  pub length-listed_map : length (listed_map k P raw) ≡ k.objects
  unfolding listed_map
  length-listed_map = length-map-range_with_len (λ c. map (listed_image raw.entries c) (range_with_len 0 (size P c))) 0 k.objects

  pub length-listed_component : (c : ℕ) → c < k.objects → length (component (listed_map k P raw) c) ≡ size P c
  length-listed_component c low = ap length (listed_total c low) ∙ length-map-range_with_len (listed_image raw.entries c) 0 (size P c)

  module _ (known : first (entry_fault P Q) raw.entries ≡ None) (total : map_total_fault k P raw ≡ None) where
    pub has_each : (c x : ℕ) → c < k.objects → x < size P c → has_image raw.entries c x ≡ true
    unfolding map_total_fault
    has_each c x low within =
        let at_c = first_none_each (λ c. first (λ x. some_if (not (has_image raw.entries c x)) (MapNotTotal c x)) (range_with_len 0 (size P c))) (range_with_len 0 k.objects) c total (In-range 0 k.objects c (omega arith) (omega (arith, low))) in
        let at_x = first_none_each (λ x. some_if (not (has_image raw.entries c x)) (MapNotTotal c x)) (range_with_len 0 (size P c)) x at_c (In-range 0 (size P c) x (omega arith) (omega (arith, within))) in
        not-false _ (some_if-false _ _ at_x)

    pub entry_of : (c x : ℕ) → c < k.objects → x < size P c → (e : RawEntry) × In raw.entries e × (e.at ≡ c) × (e.from ≡ x) × (listed_image raw.entries c x ≡ e.to)
    entry_of c x low within = image_entry raw.entries c x (has_each c x low within)

    pub known_at : (e : RawEntry) → In raw.entries e → (e.from < size P e.at) × (e.to < size Q e.at)
    known_at e i = known_entry P Q e (first_none_each (entry_fault P Q) raw.entries e known i)

    pub are_components : AreComponents k P Q (listed_map k P raw)
    are_components = record {
      objects = length-listed_map;
      total = length-listed_component;
      within = λ c x low within.
          let e = entry_of c x low within in
          let to : listed_image raw.entries c x < size Q e.0.at = rw e.4 (known_at e.0 e.1).1 in
          let at : listed_image raw.entries c x < size Q c = subst (λ d. listed_image raw.entries c x < size Q d) e.2 to in
          omega (arith, at, listed_at c x low within);
    }
