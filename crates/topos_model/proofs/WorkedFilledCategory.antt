-- Worked examples of a filled category, by cases: one that is, and two listings that no category fills.
use Rattle.std.proofs.Common.{◌≡◌, ℕ, zero, suc, ◌<◌, ◌≤◌, false, inl, inr, List, [], ◌∷◌, length, get_or, refl, sym, ap, subst, arith}
use Rattle.std.proofs.lemmas.Bool.{true≢false}
use Rattle.finite_lists.specs.Members.{In}
use Rattle.topos_model.specs.declared.raw.RawCat.{RawCat}
use Rattle.topos_model.specs.categories.Category.{Category, dom, cod}
use Rattle.topos_model.specs.categories.Listed.{all_ends, composable}
use Rattle.topos_model.specs.categories.Filling.{candidates, has_composite, filled_composite, filled_category, Filled}

-- what the examples compute with
opened : Unit {0}
unfolding all_ends composable candidates filled_composite filled_category has_composite
opened = tt

-- an idempotent r
abbrev idempotent : RawCat
idempotent = record { objects = 1; ends = (0, 0) ∷ []; listed = (1, 1, 1) ∷ [] }

abbrev k : Category
k = filled_category idempotent

left_neutral : (f : ℕ) → f < 2 → In k.table (cod k f, f, f)
unfolding opened
left_neutral zero h = inl refl
left_neutral (suc zero) h = inr (inl refl)
left_neutral (suc (suc f)) h = absurd (omega (arith, h))

right_neutral : (f : ℕ) → f < 2 → In k.table (f, dom k f, f)
unfolding opened
right_neutral zero h = inl refl
right_neutral (suc zero) h = inr (inr (inl refl))
right_neutral (suc (suc f)) h = absurd (omega (arith, h))

listed : (e : ℕ × ℕ × ℕ) → In idempotent.listed e → In k.table e
unfolding opened
listed e (inl i) = inr (inr (inr (inl i)))
listed e (inr i) = elim i [ ]

-- only r.r is left, and it is listed
only : (g f : ℕ) → g < 2 → f < 2 → 1 ≤ g → 1 ≤ f → has_composite idempotent.listed g f ≡ false → ⊥
unfolding opened
only zero f h i j l e = absurd (omega (arith, j))
only (suc zero) zero h i j l e = absurd (omega (arith, l))
only (suc zero) (suc zero) h i j l e = true≢false e
only (suc zero) (suc (suc f)) h i j l e = absurd (omega (arith, i))
only (suc (suc g)) f h i j l e = absurd (omega (arith, h))

idempotent_filled : Filled idempotent k
unfolding opened
idempotent_filled = record {
  objects = refl;
  ends = refl;
  left_neutral = left_neutral;
  right_neutral = right_neutral;
  once = ((λ i. i), tt);
  listed = listed;
  only = λ g f c j l e. absurd (only g f c.0 c.1.0 j l e);
}

-- a composite that is listed twice is in no category
twice : RawCat
twice = record { objects = 1; ends = (0, 0) ∷ []; listed = (1, 1, 1) ∷ (1, 1, 1) ∷ [] }

twice_not_filled : (k : Category) → Filled twice k → ⊥
unfolding twice
twice_not_filled k filled = filled.once.0 (inl refl)

-- nor is one of two arrows A -> B -> C filled where two arrows go from A to C
abbrev two_candidates : RawCat
two_candidates = record { objects = 3; ends = (0, 1) ∷ (1, 2) ∷ (0, 2) ∷ (0, 2) ∷ []; listed = [] }

two_not_one : (h : ℕ) → candidates (all_ends two_candidates) 4 3 ≡ h ∷ [] → ⊥
unfolding opened
two_not_one h e = let bad : 2 ≡ 1 = ap length e in omega (arith, bad)

two_meet : (4 < length (all_ends two_candidates)) × ((3 < length (all_ends two_candidates)) × ((get_or (all_ends two_candidates) 3 (0, 0)).1 ≡ (get_or (all_ends two_candidates) 4 (0, 0)).0))
unfolding opened
two_meet = (omega arith, (omega arith, refl))

two_not_filled : (k : Category) → Filled two_candidates k → ⊥
unfolding has_composite
two_not_filled k filled =
    let meeting = subst (λ (ends : List (ℕ × ℕ)). (4 < length ends) × ((3 < length ends) × ((get_or ends 3 (0, 0)).1 ≡ (get_or ends 4 (0, 0)).0))) (sym filled.ends) two_meet in
    let below : k.objects ≤ 3 = omega (arith, filled.objects) in
    let r = filled.only 4 3 meeting (omega (arith, below)) below refl in
    two_not_one r.0 (subst (λ (ends : List (ℕ × ℕ)). candidates ends 4 3 ≡ r.0 ∷ []) filled.ends r.1)
