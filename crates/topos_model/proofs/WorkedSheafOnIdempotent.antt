-- A worked example: a sheaf on an idempotent, in the words of the laws.
use Rattle.std.proofs.Common.{◌≡◌, ℕ, zero, suc, ◌<◌, inl, inr, List, [], ◌∷◌, length, get_or, refl, sym, ◌∙◌, ap, subst, arith}
use Rattle.finite_lists.specs.Members.{In}
use Rattle.finite_lists.specs.Sublists.{sublists}
use Rattle.topos_model.specs.categories.Category.{Category, into, dom, compose, is_sieve, sieves, generated, pull}
use Rattle.topos_model.specs.topologies.Cover.{is_cover, is_dense, is_listed, covers}
use Rattle.topos_model.specs.types.Types.{Presheaf}
use Rattle.topos_model.specs.Laws.{IsFunctor, IsInto, act, size}
use Rattle.topos_model.specs.categories.Listed.{all_ends, composable, listed_composite, listed_category}
use Rattle.topos_model.specs.presheaves.Maps.{Components, IsNatural, after, apply}
use Rattle.topos_model.specs.topologies.Sheaves.{IsSheaf, element_at}
use Rattle.topos_model.specs.topologies.PlusConstruction.{pairs, trace, traces}
use Rattle.topos_model.proofs.WorkedPlus.{idempotent, X}

-- what the example computes with
opened : Unit {0}
unfolding sublists into is_sieve sieves generated pull is_cover is_dense is_listed covers all_ends composable listed_composite listed_category pairs trace traces after
opened = tt

abbrev pub k : Category
k = idempotent.category

-- the class of c, and that of a and b
abbrev pub A : Presheaf
A = record { sizes = 2 ∷ []; along = (0 ∷ 1 ∷ []) ∷ (0 ∷ 1 ∷ []) ∷ [] }

abbrev pub e : Components
e = (1 ∷ 1 ∷ 0 ∷ []) ∷ []

-- the only object is 0
pub target : (c f : ℕ) → IsInto k c f → 0 ≡ c
unfolding opened
target c zero i = i.1
target c (suc zero) i = i.1
target c (suc (suc f)) i = absurd (omega (i.0, arith))

source : (f : ℕ) → f < 2 → 0 ≡ dom k f
unfolding opened
source zero low = refl
source (suc zero) low = refl
source (suc (suc f)) low = absurd (omega (low, arith))

pub object : (c : ℕ) → c < 1 → 0 ≡ c
object c low = omega (low, arith)

pub two_at : (c x : ℕ) → 0 ≡ c → x < size A c → x < 2
two_at c x p low = subst (λ d. x < size A d) (sym p) low

two_from : (c x : ℕ) → 0 ≡ c → x < 2 → x < size A c
two_from c x p low = subst (λ d. x < size A d) p low

-- both arrows keep both elements
kept : (f x : ℕ) → f < 2 → x < 2 → act A f x ≡ x
kept zero zero l m = refl
kept zero (suc zero) l m = refl
kept (suc zero) zero l m = refl
kept (suc zero) (suc zero) l m = refl
kept (suc (suc f)) x l m = absurd (omega (l, arith))
kept zero (suc (suc x)) l m = absurd (omega (m, arith))
kept (suc zero) (suc (suc x)) l m = absurd (omega (m, arith))

composite_is : (f g : ℕ) → f < 2 → g < 2 → compose k f g < 2
unfolding opened
composite_is zero zero l m = omega arith
composite_is zero (suc zero) l m = omega arith
composite_is (suc zero) zero l m = omega arith
composite_is (suc zero) (suc zero) l m = omega arith
composite_is (suc (suc f)) g l m = absurd (omega (l, arith))
composite_is zero (suc (suc g)) l m = absurd (omega (m, arith))
composite_is (suc zero) (suc (suc g)) l m = absurd (omega (m, arith))

pub A_functor : IsFunctor k A
unfolding opened
A_functor = record {
  objects = refl;
  arrows = refl;
  total = total;
  within = λ c f x i low. let x2 = two_at c x (target c f i) low in two_from (dom k f) (act A f x) (source f i.0) (subst (λ y. y < 2) (sym (kept f x i.0 x2)) x2);
  identity = λ c x c1 low. let p = object c c1 in kept c x (omega (c1, arith)) (two_at c x p low);
  composite = λ c f g x i j low.
      let x2 = two_at c x (target c f i) low in
      ap (act A g) (kept f x i.0 x2) ∙ kept g x j.0 x2 ∙ sym (kept (compose k f g) x (composite_is f g i.0 j.0) x2);
}
  where
    total : (c f : ℕ) → IsInto k c f → length (get_or A.along f []) ≡ size A c
    total c zero i = ap (size A) i.1
    total c (suc zero) i = ap (size A) i.1
    total c (suc (suc f)) i = absurd (omega (i.0, arith))

-- the element along the idempotent is the amalgamation
pub A_sheaf : IsSheaf idempotent A
unfolding opened
A_sheaf c S family low cover matching =
    let y : ℕ = element_at S family 1 in
    let y2 : y < 2 = matching.within 1 holds in (
      y,
      record { within = two_from c y (object c low) y2; restricts = restricts y2 },
      λ x other. sym (kept 1 x (omega arith) (two_at c x (object c low) other.within)) ∙ other.restricts 1 holds,
    )
  where
    covering : In {A = List ℕ} ((1 ∷ []) ∷ (0 ∷ 1 ∷ []) ∷ []) S
    covering = subst (λ d. In (covers idempotent d) S) (sym (object c low)) cover

    holds_in : (T : List ℕ) → In {A = List ℕ} ((1 ∷ []) ∷ (0 ∷ 1 ∷ []) ∷ []) T → In T 1
    holds_in T (inl p) = subst (λ U. In U 1) p (inl refl)
    holds_in T (inr (inl p)) = subst (λ U. In U 1) p (inr (inl refl))
    holds_in T (inr (inr h)) = absurd h

    holds : In S 1
    holds = holds_in S covering

    below : (T : List ℕ) (f : ℕ) → In {A = List ℕ} ((1 ∷ []) ∷ (0 ∷ 1 ∷ []) ∷ []) T → In T f → f < 2
    below T f (inl p) m = elim (subst (λ U. In U f) (sym p) m) [ inl q ↦ omega (q, arith) | inr n ↦ absurd n ]
    below T f (inr (inl p)) m = elim (subst (λ U. In U f) (sym p) m) [ inl q ↦ omega (q, arith) | inr (inl q) ↦ omega (q, arith) | inr (inr n) ↦ absurd n ]
    below T f (inr (inr h)) m = absurd h

    restricts : element_at S family 1 < 2 → (f : ℕ) → In S f → act A f (element_at S family 1) ≡ element_at S family f
    restricts y2 zero member =
        kept 0 (element_at S family 1) (omega arith) y2
        ∙ sym (matching.agree 0 1 member (omega arith, refl))
        ∙ kept 1 (element_at S family 0) (omega arith) (matching.within 0 member)
    restricts y2 (suc zero) member = kept 1 (element_at S family 1) (omega arith) y2
    restricts y2 (suc (suc f)) member = absurd (omega (below S (suc (suc f)) covering member, arith))

pub e_natural : IsNatural k X A e
unfolding opened
e_natural = record {
  objects = refl;
  total = λ c low. subst (λ d. length (get_or e d []) ≡ size X d) (object c low) refl;
  within = λ c x c1 low. subst (λ d. apply e d x < size A d) (object c c1) (within x (subst (λ d. x < size X d) (sym (object c c1)) low));
  commutes = commutes;
}
  where
    within : (x : ℕ) → x < 3 → apply e 0 x < 2
    within zero low = omega arith
    within (suc zero) low = omega arith
    within (suc (suc zero)) low = omega arith
    within (suc (suc (suc x))) low = absurd (omega (low, arith))

    along : (f x : ℕ) → f < 2 → x < 3 → apply e (dom k f) (act X f x) ≡ act A f (apply e 0 x)
    along zero zero l m = refl
    along zero (suc zero) l m = refl
    along zero (suc (suc zero)) l m = refl
    along (suc zero) zero l m = refl
    along (suc zero) (suc zero) l m = refl
    along (suc zero) (suc (suc zero)) l m = refl
    along zero (suc (suc (suc x))) l m = absurd (omega (m, arith))
    along (suc zero) (suc (suc (suc x))) l m = absurd (omega (m, arith))
    along (suc (suc f)) x l m = absurd (omega (l, arith))

    commutes : (c f x : ℕ) → IsInto k c f → x < size X c → apply e (dom k f) (act X f x) ≡ act A f (apply e c x)
    commutes c f x i low =
        let p = target c f i in
        subst (λ d. apply e (dom k f) (act X f x) ≡ act A f (apply e d x)) p (along f x i.0 (subst (λ d. x < size X d) (sym p) low))
