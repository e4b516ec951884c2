-- A worked example: the plus of a presheaf on an idempotent, in the words of the law.
use Rattle.std.proofs.Common.{◌≡◌, ℕ, zero, suc, ◌<◌, [], length, get_or, refl, sym, subst, arith}
use Rattle.finite_lists.specs.Sublists.{sublists}
use Rattle.topos_model.specs.categories.Category.{into, dom, is_sieve, sieves, generated, pull}
use Rattle.topos_model.specs.topologies.Cover.{is_cover, is_dense, is_listed, covers}
use Rattle.topos_model.specs.Laws.{act, size}
use Rattle.topos_model.specs.categories.Listed.{all_ends, composable, listed_composite, listed_category}
use Rattle.topos_model.specs.presheaves.Maps.{IsNatural, apply}
use Rattle.topos_model.specs.presheaves.NaturalMaps.{choices}
use Rattle.topos_model.specs.topologies.LeastCovers.{least}
use Rattle.topos_model.specs.topologies.Sheaves.{agrees, matching_families}
use Rattle.topos_model.specs.topologies.PlusConstruction.{IsPlus, families, restricted, restrictions, plus, unit}
use Rattle.topos_model.proofs.WorkedPlus.{idempotent, X}
use Rattle.topos_model.proofs.WorkedSheafOnIdempotent.{k, A, target, object, two_at, A_functor}

-- what the example computes with
opened : Unit {0}
unfolding sublists into is_sieve sieves generated pull is_cover is_dense is_listed covers all_ends composable listed_composite listed_category least choices agrees matching_families families restricted restrictions plus unit
opened = tt

three_at : (c x : ℕ) → 0 ≡ c → x < size X c → x < 3
three_at c x p low = subst (λ d. x < size X d) (sym p) low

unit_natural : IsNatural k X A (unit idempotent X)
unfolding opened
unit_natural = record {
  objects = refl;
  total = λ c low. subst (λ d. length (get_or (unit idempotent X) d []) ≡ size X d) (object c low) refl;
  within = λ c x c1 low. let p = object c c1 in subst (λ d. apply (unit idempotent X) d x < size A d) p (within x (three_at c x p low));
  commutes = λ c f x i low.
      let p = target c f i in
      subst (λ d. apply (unit idempotent X) (dom k f) (act X f x) ≡ act A f (apply (unit idempotent X) d x)) p (along f x i.0 (three_at c x p low));
}
  where
    within : (x : ℕ) → x < 3 → apply (unit idempotent X) 0 x < 2
    within zero low = omega arith
    within (suc zero) low = omega arith
    within (suc (suc zero)) low = omega arith
    within (suc (suc (suc x))) low = absurd (omega (low, arith))

    along : (f x : ℕ) → f < 2 → x < 3 → apply (unit idempotent X) (dom k f) (act X f x) ≡ act A f (apply (unit idempotent X) 0 x)
    along zero zero l m = refl
    along zero (suc zero) l m = refl
    along zero (suc (suc zero)) l m = refl
    along (suc zero) zero l m = refl
    along (suc zero) (suc zero) l m = refl
    along (suc zero) (suc (suc zero)) l m = refl
    along zero (suc (suc (suc x))) l m = absurd (omega (m, arith))
    along (suc zero) (suc (suc (suc x))) l m = absurd (omega (m, arith))
    along (suc (suc f)) x l m = absurd (omega (l, arith))

X_is_plus : IsPlus idempotent X (plus idempotent X) (unit idempotent X)
unfolding opened
X_is_plus = record {
  functor = A_functor;
  natural = unit_natural;
  sizes = λ c low. subst (λ d. size A d ≡ length (families idempotent X d)) (object c low) refl;
  restricts = λ c f n i low. let p = target c f i in subst (Restricts f n) p (restricts f n i.0 (two_at c n p low));
  unit = λ c x c1 low. let p = object c c1 in subst (Units x) p (units x (three_at c x p low));
}
  where
    Restricts : ℕ → ℕ → ℕ → Type 0
    Restricts f n c = get_or (families idempotent X (dom k f)) (act A f n) [] ≡ restricted idempotent X f (get_or (families idempotent X c) n [])

    restricts : (f n : ℕ) → f < 2 → n < 2 → get_or (families idempotent X (dom k f)) (act A f n) [] ≡ restricted idempotent X f (get_or (families idempotent X 0) n [])
    restricts zero zero l m = refl
    restricts zero (suc zero) l m = refl
    restricts (suc zero) zero l m = refl
    restricts (suc zero) (suc zero) l m = refl
    restricts zero (suc (suc n)) l m = absurd (omega (m, arith))
    restricts (suc zero) (suc (suc n)) l m = absurd (omega (m, arith))
    restricts (suc (suc f)) n l m = absurd (omega (l, arith))

    Units : ℕ → ℕ → Type 0
    Units x c = get_or (families idempotent X c) (apply (unit idempotent X) c x) [] ≡ restrictions idempotent X c x

    units : (x : ℕ) → x < 3 → get_or (families idempotent X 0) (apply (unit idempotent X) 0 x) [] ≡ restrictions idempotent X 0 x
    units zero low = refl
    units (suc zero) low = refl
    units (suc (suc zero)) low = refl
    units (suc (suc (suc x))) low = absurd (omega (low, arith))
