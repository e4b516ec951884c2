-- Worked examples of a filled presheaf, by cases: one that is, and a listing that no presheaf fills.
use Rattle.std.proofs.Common.{◌≡◌, ℕ, zero, suc, ◌<◌, ◌≤◌, false, inl, inr, List, [], ◌∷◌, length, get_or, refl, sym, ap, subst, arith}
use Rattle.std.proofs.lemmas.Bool.{true≢false}
use Rattle.std.proofs.lemmas.Option.{none-some}
use Rattle.finite_lists.specs.Members.{In}
use Rattle.topos_model.specs.declared.raw.RawAlong.{RawAlong}
use Rattle.topos_model.specs.declared.raw.RawFunctor.{RawFunctor}
use Rattle.topos_model.specs.categories.Category.{Category, cod}
use Rattle.topos_model.specs.types.Types.{Presheaf}
use Rattle.topos_model.specs.Laws.{IsInto, IsFunctor, act, size}
use Rattle.topos_model.specs.categories.Listed.{all_ends, composable, listed_row}
use Rattle.topos_model.specs.categories.Filling.{candidates, has_composite, has_restriction, fills, filled_composite, filled_category, filling_pair, composite_row, filled_row, filled_rows, filled_presheaf, IsFilledFunctor}

-- what the examples compute with
opened : Unit {0}
unfolding all_ends composable listed_row candidates filled_composite filled_category filling_pair composite_row filled_row filled_rows filled_presheaf has_composite has_restriction fills
opened = tt

-- an idempotent r
abbrev k : Category
k = filled_category (record { objects = 1; ends = (0, 0) ∷ []; listed = (1, 1, 1) ∷ [] })

-- r takes both of two elements to the first
abbrev projection : RawFunctor
projection = record { sizes = 2 ∷ []; along = record { arrow = 1; entries = (1, 0) ∷ (0, 0) ∷ [] } ∷ [] }

abbrev X : Presheaf
X = filled_presheaf k projection

total : (c f : ℕ) → IsInto k c f → length (get_or X.along f []) ≡ size X c
unfolding opened
total c zero i = ap (λ c. size X c) i.1
total c (suc zero) i = ap (λ c. size X c) i.1
total c (suc (suc f)) i = absurd (omega (arith, i.0))

identity : (c x : ℕ) → c < 1 → x < size X c → act X c x ≡ x
unfolding opened
identity zero zero h i = refl
identity zero (suc zero) h i = refl
identity zero (suc (suc x)) h i = absurd (omega (arith, i))
identity (suc c) x h i = absurd (omega (arith, h))

projected : (x : ℕ) → x < 2 → In {A = ℕ × ℕ} ((1, 0) ∷ (0, 0) ∷ []) (x, act X 1 x)
unfolding opened
projected zero h = inr (inl refl)
projected (suc zero) h = inl refl
projected (suc (suc x)) h = absurd (omega (arith, h))

entries : (a : RawAlong) → In projection.along a → (x : ℕ) → x < size X (cod k a.arrow) → In a.entries (x, act X a.arrow x)
unfolding opened
entries a (inl i) = subst (λ (a : RawAlong). (x : ℕ) → x < size X (cod k a.arrow) → In a.entries (x, act X a.arrow x)) i projected
entries a (inr i) = elim i [ ]

-- nothing is left to fill
no_other : (f : ℕ) → 1 ≤ f → f < 2 → has_restriction projection.along f ≡ false → ⊥
unfolding opened
no_other zero h i e = absurd (omega (arith, h))
no_other (suc zero) h i e = true≢false e
no_other (suc (suc f)) h i e = absurd (omega (arith, i))

projection_filled : IsFilledFunctor k projection X
unfolding opened
projection_filled = record {
  sizes = refl;
  arrows = refl;
  total = total;
  identity = identity;
  listed = entries;
  filled = λ f x h i e j. absurd (no_other f h i e);
}

-- no presheaf has an element at each object and no restriction along a composite that is declared before its parts
abbrev composite_first : Category
composite_first = filled_category (record { objects = 3; ends = (0, 2) ∷ (0, 1) ∷ (1, 2) ∷ []; listed = [] })

abbrev over_parts : RawFunctor
over_parts = record {
  sizes = 1 ∷ 1 ∷ 1 ∷ [];
  along = record { arrow = 4; entries = (0, 0) ∷ [] } ∷ record { arrow = 5; entries = (0, 0) ∷ [] } ∷ [];
}

not_filled : (X : Presheaf) → IsFilledFunctor composite_first over_parts X → ⊥
unfolding opened
not_filled X filled =
    let inhabited : 0 < get_or X.sizes 2 0 = subst (λ (sizes : List ℕ). 0 < get_or sizes 2 0) (sym filled.sizes) (omega arith) in
    let r = filled.filled 3 0 (omega arith) (omega arith) refl inhabited in
    none-some r.0 r.1

-- a swap is no functor: r.r = r
abbrev swap : Presheaf
swap = record { sizes = 2 ∷ []; along = (0 ∷ 1 ∷ []) ∷ (1 ∷ 0 ∷ []) ∷ [] }

not_functorial : IsFunctor k swap → ⊥
unfolding opened
not_functorial lawful = let bad : 0 ≡ 1 = lawful.composite 0 1 1 0 (omega arith, refl) (omega arith, refl) (omega arith) in omega (arith, bad)
