-- Tables that a function of the pairs gives.
use Rattle.std.proofs.Common.{◌≡◌, ℕ, ◌<◌, true, List, length, refl, sym, ap, subst}
use Rattle.std.proofs.lemmas.Bool.{eqb-true, eq-eqb}
use Rattle.finite_lists.specs.Members.{In}
use Rattle.finite_lists.specs.Rising.{Rising}
use Rattle.finite_lists.proofs.Lists.{In-map, In-map_from, map_same}
use Rattle.topos_model.specs.categories.Category.{compose}
use Rattle.topos_model.specs.Laws.{AreComposable, EntryBelow}
use Rattle.topos_model.specs.categories.Listed.{meet, composable}
use Rattle.fin_category.specs.Tables.{tabulated, entry, category_of}
use Rattle.fin_category.proofs.Composable.{In-composable, In-composable_from, composite-map, Rising-composable}

module _ (objects : ℕ) (ends : List (ℕ × ℕ)) (value : ℕ → ℕ → ℕ) where
  pub objects-tabulated : (tabulated objects ends value).objects ≡ objects
  unfolding tabulated
  objects-tabulated = refl

  pair_in : (g f : ℕ) → AreComposable (tabulated objects ends value) g f → In (composable ends) (g, f)
  unfolding tabulated
  pair_in g f m = In-composable ends g f m.0 m.1.0 (eq-eqb _ _ m.1.1)

  pub compose-tabulated : (g f : ℕ) → AreComposable (tabulated objects ends value) g f → compose (tabulated objects ends value) g f ≡ value g f
  unfolding tabulated
  compose-tabulated g f m = composite-map value (composable ends) g f (pair_in g f m)

  pub rising-tabulated : Rising EntryBelow (tabulated objects ends value).table
  unfolding tabulated
  rising-tabulated = Rising-composable ends value

  pub entries-tabulated : (e : ℕ × ℕ × ℕ) → In (tabulated objects ends value).table e → AreComposable (tabulated objects ends value) e.0 e.1
  unfolding tabulated
  entries-tabulated e i =
      let m : (p : ℕ × ℕ) × In (composable ends) p × ◌≡◌ {A = ℕ × ℕ × ℕ} (p.0, p.1, value p.0 p.1) e = In-map_from (λ (p : ℕ × ℕ). (p.0, p.1, value p.0 p.1)) (composable ends) e i in
      let c = In-composable_from ends m.0.0 m.0.1 m.1 in
      subst (λ (e : ℕ × ℕ × ℕ). AreComposable (tabulated objects ends value) e.0 e.1) m.2 (c.0, (c.1, eqb-true _ _ c.2))

  pub listed-tabulated : (g f : ℕ) → AreComposable (tabulated objects ends value) g f → In (tabulated objects ends value).table (g, f, compose (tabulated objects ends value) g f)
  unfolding tabulated
  listed-tabulated g f m =
      subst (λ (h : ℕ). In (tabulated objects ends value).table (g, f, h)) (sym (compose-tabulated g f m))
      (In-map (λ (p : ℕ × ℕ). (p.0, p.1, value p.0 p.1)) (composable ends) (g, f) (pair_in g f m))

-- values that agree at the composable pairs give one category
pub tabulated_same : (objects : ℕ) (ends : List (ℕ × ℕ)) (value other : ℕ → ℕ → ℕ) →
    ((g f : ℕ) → g < length ends → f < length ends → meet ends g f ≡ true → value g f ≡ other g f) → tabulated objects ends value ≡ tabulated objects ends other
unfolding tabulated
tabulated_same objects ends value other same =
    ap (λ (t : List (ℕ × ℕ × ℕ)). record { objects = objects; ends = ends; table = t })
    (map_same (λ (p : ℕ × ℕ). (p.0, p.1, value p.0 p.1)) (λ (p : ℕ × ℕ). (p.0, p.1, other p.0 p.1)) (composable ends)
    (λ p i. let c = In-composable_from ends p.0 p.1 i in ap (λ (h : ℕ). (p.0, p.1, h)) (same p.0 p.1 c.0 c.1 c.2)))

-- a square table that has the values at all places
pub category_of_same : (objects : ℕ) (ends : List (ℕ × ℕ)) (square : List ℕ) (value : ℕ → ℕ → ℕ) →
    ((g f : ℕ) → g < length ends → f < length ends → entry square (length ends) g f ≡ value g f) → category_of objects ends square ≡ tabulated objects ends value
unfolding category_of
category_of_same objects ends square value same = tabulated_same objects ends (entry square (length ends)) value (λ g f p q m. same g f p q)
