-- What is in range of the numbers of a statement.
use Rattle.std.proofs.Common.{◌≡◌, ℕ, ◌<◌, ◌≤◌, true, not, ◌&&◌, eqb, List, [], ◌∷◌, map, length, get_or, refl, sym, ap, ◌∙◌, subst, inl, inr}
use Rattle.std.proofs.lemmas.Bool.{and_parts, eqb-true, eq-eqb, leb-true, ltb-true, true≢false}
use Rattle.finite_lists.specs.Members.{In, Distinct}
use Rattle.finite_lists.proofs.Lists.{all_each, some_any, In-map_from}
use Rattle.topos_model.specs.declared.raw.RawAlong.{RawAlong}
use Rattle.topos_model.specs.declared.raw.RawFunctor.{RawFunctor}
use Rattle.topos_model.specs.declared.raw.RawEntry.{RawEntry}
use Rattle.topos_model.specs.declared.raw.RawMap.{RawMap}
use Rattle.topos_model.specs.declared.ty.Ty.{Ty}
use Rattle.topos_model.specs.declared.context.Ctx.{Ctx}
use Rattle.term_ranges.specs.Ranges.{is_type_in_range, is_term_in_range}
use Rattle.topos_model.specs.declared.term.Term.{Term}
use Rattle.topos_model.specs.declared.stmt.Stmt.{Stmt}
use Rattle.topos_model.specs.declared.stmt.Stmt.TheVariants.{Presheaf, Map, Sheaf, Hom, Build, Sub, Let, Show, Classify, Valid}
use Rattle.topos_model.specs.categories.Category.{Category, dom, cod}
use Rattle.topos_model.specs.presheaves.PresheafFaults.{IsPresheafListing}
use Rattle.topos_model.specs.presheaves.MapFaults.{has_image, IsMapListing}
use Rattle.topos_model.specs.statements.Form.{along_fits, is_presheaf_listing, is_map_listing}
use Rattle.topos_session.specs.Ranges.{is_formula_in_range, is_in_range}
use Rattle.topos_session.proofs.DistinctNumbers.{distinct_numbers}
use Rattle.topos_session.proofs.StatementForms.{range-Presheaf, range-Map, range-Sheaf, range-Hom, range-Show, range-Classify, range-Valid, range-Let, range-Build, range-Sub}

-- a listed presheaf has sizes for all objects, and restrictions of elements to elements
along_in_range : (k : Category) (raw : RawFunctor) (a : RawAlong) → along_fits k.objects k.ends raw.sizes a ≡ true →
    (k.objects ≤ a.arrow) × (a.arrow < length k.ends)
    × ((e : ℕ × ℕ) → In a.entries e → (e.0 < get_or raw.sizes (cod k a.arrow) 0) × (e.1 < get_or raw.sizes (dom k a.arrow) 0))
    × Distinct (map (λ e. e.0) a.entries)
along_in_range k raw a fits =
    let (most, once) = and_parts _ _ fits in
    let (range, entries) = and_parts _ _ most in
    let (declared, low) = and_parts _ _ range in (
      leb-true _ _ declared,
      ltb-true _ _ low,
      λ e i. let (x, y) = and_parts _ _ (all_each _ a.entries e entries i) in (ltb-true _ _ x, ltb-true _ _ y),
      distinct_numbers (map (λ e. e.0) a.entries) once,
    )

pub presheaf_listing : (k : Category) (raw : RawFunctor) → is_presheaf_listing k.objects k.ends raw ≡ true → IsPresheafListing k raw
unfolding is_presheaf_listing
presheaf_listing k raw range =
    let (most, once) = and_parts _ _ range in
    let (sized, fitting) = and_parts _ _ most in
    record {
      sizes = eqb-true _ _ (and_parts _ _ sized).0;
      arrows = λ a i. let fits = along_in_range k raw a (all_each _ raw.along a fitting i) in (fits.0, fits.1);
      arrows_once = distinct_numbers (map (λ a. a.arrow) raw.along) once;
      entries = λ a i. (along_in_range k raw a (all_each _ raw.along a fitting i)).2;
      entries_once = λ a i. (along_in_range k raw a (all_each _ raw.along a fitting i)).3;
    }

pub listing_of : (k : Category) (n l : ℕ) (stmt : Stmt) (functor : ℕ) (raw : RawFunctor) → stmt ≡ Presheaf functor raw → is_in_range k.objects k.ends n l stmt ≡ true → IsPresheafListing k raw
listing_of k n l stmt functor raw is range =
    presheaf_listing k raw (and_parts _ _ (sym (range-Presheaf k.objects k.ends n l functor raw) ∙ ap (is_in_range k.objects k.ends n l) (sym is) ∙ range)).1

-- a listed map has entries at objects, for each element at most one
entries_distinct : (objects : ℕ) (entries : List RawEntry) → is_map_listing objects entries ≡ true → Distinct {A = ℕ × ℕ} (map (λ e. (e.at, e.from)) entries)
unfolding is_map_listing has_image
entries_distinct objects [] listing = tt
entries_distinct objects (e ∷ rest) listing =
    let (head, later) = and_parts _ _ listing in (
      λ i. let (other, at, same) = In-map_from {A = RawEntry} {B = ℕ × ℕ} (λ e. (e.at, e.from)) rest (e.at, e.from) i in
          true≢false (sym (and_parts _ _ head).1 ∙ ap not (found rest other at (ap (λ (p : ℕ × ℕ). p.0) same) (ap (λ (p : ℕ × ℕ). p.1) same))),
      entries_distinct objects rest later,
    )
  where
    found : (rest : List RawEntry) (other : RawEntry) → In rest other → other.at ≡ e.at → other.from ≡ e.from → has_image rest e.at e.from ≡ true
    found rest other at same_at same_from =
        some_any (λ (d : RawEntry). eqb d.at e.at && eqb d.from e.from) rest other at (rw (eq-eqb other.at e.at same_at, eq-eqb other.from e.from same_from) refl)

entries_within : (objects : ℕ) (entries : List RawEntry) → is_map_listing objects entries ≡ true → (e : RawEntry) → In entries e → e.at < objects
unfolding is_map_listing
entries_within objects [] listing e i = absurd i
entries_within objects (x ∷ rest) listing e (inl here) =
    let (head, later) = and_parts _ _ listing in subst (λ (d : RawEntry). d.at < objects) here (ltb-true _ _ (and_parts _ _ head).0)
entries_within objects (x ∷ rest) listing e (inr i) = entries_within objects rest (and_parts _ _ listing).1 e i

-- what is in range where a map is listed
pub record HasMapRange (k : Category) (n x y : ℕ) (raw : RawMap) : Type 0 where
  pub domain : x < n
  pub codomain : y < n
  pub listing : IsMapListing k raw

pub map_range : (k : Category) (n l : ℕ) (stmt : Stmt) (m x y : ℕ) (raw : RawMap) → stmt ≡ Map m x y raw → is_in_range k.objects k.ends n l stmt ≡ true → HasMapRange k n x y raw
map_range k n l stmt m x y raw is range =
    let (ends, listing) = and_parts _ _ (sym (range-Map k.objects k.ends n l m x y raw) ∙ ap (is_in_range k.objects k.ends n l) (sym is) ∙ range) in
    let (low, high) = and_parts _ _ ends in
    record {
      domain = ltb-true _ _ low;
      codomain = ltb-true _ _ high;
      listing = record { objects = entries_within k.objects raw.entries listing; once = entries_distinct k.objects raw.entries listing };
    }

pub sheaf_range : (k : Category) (n l : ℕ) (stmt : Stmt) (under x : ℕ) → stmt ≡ Sheaf under x → is_in_range k.objects k.ends n l stmt ≡ true → x < n
sheaf_range k n l stmt under x is range = ltb-true _ _ (sym (range-Sheaf k.objects k.ends n l under x) ∙ ap (is_in_range k.objects k.ends n l) (sym is) ∙ range)

pub hom_range : (k : Category) (n l : ℕ) (stmt : Stmt) (x y : ℕ) → stmt ≡ Hom x y → is_in_range k.objects k.ends n l stmt ≡ true → (x < n) × (y < n)
hom_range k n l stmt x y is range =
    let (low, high) = and_parts _ _ (sym (range-Hom k.objects k.ends n l x y) ∙ ap (is_in_range k.objects k.ends n l) (sym is) ∙ range) in
    (ltb-true _ _ low, ltb-true _ _ high)

pub formula_range : (objects : ℕ) (ends : List (ℕ × ℕ)) (n l : ℕ) (stmt : Stmt) (under : ℕ) (ctx : Ctx) (φ : Term) → stmt ≡ Show under ctx φ → is_in_range objects ends n l stmt ≡ true → is_formula_in_range n l ctx φ ≡ true
formula_range objects ends n l stmt under ctx φ is range = sym (range-Show objects ends n l under ctx φ) ∙ ap (is_in_range objects ends n l) (sym is) ∙ range

pub classified_range : (objects : ℕ) (ends : List (ℕ × ℕ)) (n l : ℕ) (stmt : Stmt) (under : ℕ) (ctx : Ctx) (φ : Term) → stmt ≡ Classify under ctx φ → is_in_range objects ends n l stmt ≡ true → is_formula_in_range n l ctx φ ≡ true
classified_range objects ends n l stmt under ctx φ is range = sym (range-Classify objects ends n l under ctx φ) ∙ ap (is_in_range objects ends n l) (sym is) ∙ range

pub judged_range : (objects : ℕ) (ends : List (ℕ × ℕ)) (n l : ℕ) (stmt : Stmt) (under : ℕ) (ctx : Ctx) (φ : Term) → stmt ≡ Valid under ctx φ → is_in_range objects ends n l stmt ≡ true → is_formula_in_range n l ctx φ ≡ true
judged_range objects ends n l stmt under ctx φ is range = sym (range-Valid objects ends n l under ctx φ) ∙ ap (is_in_range objects ends n l) (sym is) ∙ range

pub defined_range : (objects : ℕ) (ends : List (ℕ × ℕ)) (n l : ℕ) (stmt : Stmt) (under m : ℕ) (T : Ty) (t : Term) → stmt ≡ Let under m T t → is_in_range objects ends n l stmt ≡ true → (is_type_in_range n T ≡ true) × (is_term_in_range n l t ≡ true)
defined_range objects ends n l stmt under m T t is range = and_parts _ _ (sym (range-Let objects ends n l under m T t) ∙ ap (is_in_range objects ends n l) (sym is) ∙ range)

pub built_range : (objects : ℕ) (ends : List (ℕ × ℕ)) (n l : ℕ) (stmt : Stmt) (under z : ℕ) (T : Ty) (u v : ℕ) → stmt ≡ Build under z T u v → is_in_range objects ends n l stmt ≡ true → (z ≡ n) × (is_type_in_range n T ≡ true)
built_range objects ends n l stmt under z T u v is range =
    let (last, type) = and_parts _ _ (sym (range-Build objects ends n l under z T u v) ∙ ap (is_in_range objects ends n l) (sym is) ∙ range) in (eqb-true z n last, type)

-- what is in range where elements that satisfy a formula are declared
pub record HasPartRange (n l z : ℕ) (T : Ty) (φ : Term) : Type 0 where
  pub next : z ≡ n
  pub type : is_type_in_range n T ≡ true
  pub formula : is_term_in_range n l φ ≡ true

pub part_range : (objects : ℕ) (ends : List (ℕ × ℕ)) (n l : ℕ) (stmt : Stmt) (under z : ℕ) (T : Ty) (φ : Term) (i : ℕ) → stmt ≡ Sub under z T φ i → is_in_range objects ends n l stmt ≡ true → HasPartRange n l z T φ
part_range objects ends n l stmt under z T φ i is range =
    let (most, formula) = and_parts _ _ (sym (range-Sub objects ends n l under z T φ i) ∙ ap (is_in_range objects ends n l) (sym is) ∙ range) in
    let (last, type) = and_parts _ _ most in
    record { next = eqb-true z n last; type = type; formula = formula }
