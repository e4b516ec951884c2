-- What is declared stays lawful with a functor or a map more, and what that costs.
use Rattle.std.proofs.Common.{◌≡◌, ℕ, zero, suc, ◌+◌, ◌<◌, true, List, [], ◌∷◌, ◌++◌, map, length, get_or, refl, sym, ap, ap₂, subst, length-append, arith}
use Rattle.std.proofs.Math.ListN.{get_or-append}
use Rattle.std.proofs.Math.Seq.{get_or-append_seam}
use Rattle.std.proofs.lemmas.Bool.{lt-ltb}
use Rattle.topos_model.specs.declared.ty.Ty.{Base}
use Rattle.topos_model.specs.declared.context.MapTable.{MapTable}
use Rattle.topos_model.specs.categories.Category.{Category}
use Rattle.topos_model.specs.topologies.Cover.{Site}
use Rattle.topos_model.specs.types.Types.{Presheaf}
use Rattle.topos_model.specs.Laws.{IsFunctor}
use Rattle.topos_model.specs.presheaves.Maps.{Components, IsNatural}
use Rattle.topos_model.specs.statements.Needs.{parts}
use Rattle.topos_model.specs.statements.Declarations.{DeclaredMap}
use Rattle.topos_model.specs.statements.Answers.{element_pairs, map_under}
use Rattle.term_ranges.specs.Ranges.{is_part_in_range, is_type_in_range}
use Rattle.formula_answers.specs.MapTables.{no_table, table_at, pairs_of, IsMapTable, AreMapTables}
use Rattle.formula_answers.proofs.MapTables.{base_functor, base_pairs, table_later, pairs_later}
use Rattle.sealed_world.specs.SealedWorlds.{CountedWorld}
use Rattle.sealed_world.specs.SealedWorlds as world
use Rattle.topos_session.specs.declared.declarations.Declarations.{Declarations}
use Rattle.topos_session.specs.Functors.{AreFunctors, functor_at, none}
use Rattle.topos_session.specs.Declarations.{declared_map, AreLawful, IsKept, with_functor, with_presheaf, with_map, with_cells}
use Rattle.topos_session.specs.Constructions.{between}
use Rattle.topos_session.proofs.SessionSteps.{one_more, one_more_of}

-- members of two lists behind one another
all_of_both : {A : Type 0} (P : A → Type 0) (d : A) (xs ys : List A) → ((n : ℕ) → n < length xs → P (get_or xs n d)) → ((n : ℕ) → n < length ys → P (get_or ys n d))
    → (n : ℕ) → n < length (xs ++ ys) → P (get_or (xs ++ ys) n d)
all_of_both P d [] ys first second n low = second n low
all_of_both P d (x ∷ xs) ys first second zero low = first zero (omega arith)
all_of_both P d (x ∷ xs) ys first second (suc n) low = all_of_both P d xs ys (λ m h. first (suc m) (omega arith)) second n (omega arith)

pub all_of_one : {A : Type 0} (P : A → Type 0) (d x : A) → P x → (n : ℕ) → n < 1 → P (get_or (x ∷ []) n d)
all_of_one P d x here zero low = here
all_of_one P d x here (suc n) low = absurd (beyond n low)
  where
    beyond : (n : ℕ) → suc n < 1 → ⊥
    beyond n low = omega arith

pub all_of_two : {A : Type 0} (P : A → Type 0) (d x y : A) → P x → P y → (n : ℕ) → n < 2 → P (get_or (x ∷ y ∷ []) n d)
all_of_two P d x y first second zero low = first
all_of_two P d x y first second (suc zero) low = second
all_of_two P d x y first second (suc (suc n)) low = absurd (beyond n low)
  where
    beyond : (n : ℕ) → suc (suc n) < 2 → ⊥
    beyond n low = omega arith

-- a map between functors by its table: lawful, and with each element and its image
pub record IsBetween (s : Site) (functors : List Presheaf) (m : MapTable) : Type 0 where
  pub table : IsMapTable s functors m
  pub pairs : pairs_of s functors m ≡ map element_pairs m.rows

module _ (s : Site) (functors : List Presheaf) where
  named_low : (x : ℕ) → x < length functors → is_type_in_range (length functors) (Base x) ≡ true
  unfolding is_type_in_range is_part_in_range parts
  named_low x low = rw (lt-ltb x (length functors) low) refl

  pub natural_between : (k : Category) → s.category ≡ k → AreFunctors k functors → (x y : ℕ) (m : Components) → x < length functors → y < length functors →
      IsNatural k (functor_at functors x) (functor_at functors y) m → IsBetween s functors (between x y m)
  natural_between k same functor x y m first second natural =
      let from = subst (λ k. IsFunctor k (functor_at functors x)) (sym same) (functor x first) in
      let to = subst (λ k. IsFunctor k (functor_at functors y)) (sym same) (functor y second) in
      let here = subst (λ k. IsNatural k (functor_at functors x) (functor_at functors y) m) (sym same) natural in
      record {
        table = record {
          domain = named_low x first;
          codomain = named_low y second;
          natural = rw (base_functor s functors x from, base_functor s functors y to) here;
        };
        pairs = base_pairs s functors x y m from to here;
      }

-- one functor more
module _ (s : Site) (k : Category) (same : s.category ≡ k) (functors : List Presheaf) (functor : AreFunctors k functors) (Z : Presheaf) (lawful : IsFunctor k Z) where
  abbrev more : List Presheaf
  more = functors ++ Z ∷ []

  still_low : (n : ℕ) → n < length functors → n < length more
  still_low n low = let e : length more ≡ length functors + 1 = length-append functors (Z ∷ []) in omega arith

  still : (n : ℕ) → n < length functors → functor_at more n ≡ functor_at functors n
  still n low = get_or-append functors (Z ∷ []) none n low

  newest : functor_at more (length functors) ≡ Z
  newest = get_or-append_seam functors Z [] none

  newest_low : length functors < length more
  newest_low = let e : length more ≡ length functors + 1 = length-append functors (Z ∷ []) in omega arith

  functors_more : AreFunctors k more
  functors_more = one_more k functors Z functor lawful

  -- maps between it and those before it
  pub to_newest : (x z : ℕ) (m : Components) → z ≡ length functors → x < length functors → IsNatural k (functor_at functors x) Z m → IsBetween s more (between x z m)
  to_newest x z m last low natural =
      natural_between s more k same functors_more x z m (still_low x low) (rw last newest_low) (rw (last, still x low, newest) natural)

  pub from_newest : (x z : ℕ) (m : Components) → z ≡ length functors → x < length functors → IsNatural k Z (functor_at functors x) m → IsBetween s more (between z x m)
  from_newest x z m last low natural =
      natural_between s more k same functors_more z x m (rw last newest_low) (still_low x low) (rw (last, still x low, newest) natural)

-- the tables of a list mean the same with one functor more
pub declared_later : (w : CountedWorld) (Z : Presheaf) (tables : List MapTable) → AreMapTables w.site w.functors tables →
    map (declared_map (world.with_presheaf w Z)) tables ≡ map (declared_map w) tables
declared_later w Z [] are = refl
declared_later w Z (m ∷ tables) are =
    ap₂ (λ (x : DeclaredMap) (l : List DeclaredMap). x ∷ l) (ap (map_under 0 m.ends.dom m.ends.cod) (pairs_later w.site w.functors Z m (are 0 (omega arith)))) (declared_later w Z tables (λ n low. are (suc n) (omega (arith, low))))

module _ (k : Category) (so : Declarations) (lawful : AreLawful k so) where
  pub lawful_functor : (Z : Presheaf) (maps : List MapTable) → IsFunctor k Z → AreMapTables so.world.site (so.world.functors ++ Z ∷ []) maps → AreLawful k (with_functor so Z maps)
  lawful_functor Z maps functor natural = record {
    category = lawful.category;
    functors = one_more k so.world.functors Z lawful.functors functor;
    maps = all_of_both (IsMapTable so.world.site (so.world.functors ++ Z ∷ [])) no_table so.maps maps (λ n low. table_later so.world.site so.world.functors Z (table_at so.maps n) (lawful.maps n low)) natural;
  }

  pub lawful_presheaf : (X : Presheaf) → IsFunctor k X → AreLawful k (with_presheaf so X)
  lawful_presheaf X functor = record {
    category = lawful.category;
    functors = one_more k so.world.functors X lawful.functors functor;
    maps = λ n low. table_later so.world.site so.world.functors X (table_at so.maps n) (lawful.maps n low);
  }

  pub lawful_map : (m : MapTable) → IsMapTable so.world.site so.world.functors m → AreLawful k (with_map so m)
  lawful_map m natural = record {
    category = lawful.category;
    functors = lawful.functors;
    maps = one_more_of (IsMapTable so.world.site so.world.functors) no_table so.maps m lawful.maps natural;
  }

  pub lawful_cells : (cells : ℕ) → AreLawful k (with_cells so cells)
  lawful_cells cells = record { category = lawful.category; functors = lawful.functors; maps = lawful.maps }

  -- more types are sealed
  pub lawful_sealed : (mid : Declarations) → mid.world.site ≡ so.world.site → mid.world.functors ≡ so.world.functors → mid.maps ≡ so.maps → AreLawful k mid
  lawful_sealed mid site functors maps = record { category = rw site lawful.category; functors = rw functors lawful.functors; maps = rw (site, functors, maps) lawful.maps }

-- where nothing changed, nothing but types did
pub unchanged_kept : (so after : Declarations) → after ≡ so → IsKept so after
unchanged_kept so after e = record { types = so.world.types; is = e }
