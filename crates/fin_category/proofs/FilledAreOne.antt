-- A lawful category that fills a listing is its filled category, and then the listing has no fault.
use Rattle.std.proofs.Common.{◌≡◌, ℕ, ◌<◌, Bool, true, false, cond, not, ◌||◌, eqb, ltb, ◌⊎◌, inl, inr, List, map, length, get_or, take, None, refl, sym, ap, subst, ◌∙◌, arith}
use Rattle.std.specs.List.{range_with_len}
use Rattle.std.proofs.lemmas.Bool.{and_from, eqb-true, eq-eqb, ltb-true, ltb-false}
use Rattle.finite_lists.specs.Members.{In}
use Rattle.finite_lists.specs.First.{or_else, some_if}
use Rattle.finite_lists.proofs.Lists.{In-map, In-map_from, In_at}
use Rattle.finite_lists.proofs.DistinctLists.{In-range_from}
use Rattle.finite_lists.proofs.RisingLists.{rising_same, rising_cases, IsAsymmetric}
use Rattle.finite_lists.proofs.FirstAnswers.{first_none}
use Rattle.topos_model.specs.declared.raw.RawCat.{RawCat}
use Rattle.topos_model.specs.declared.fault.Fault.TheVariants.{CompositeEnds, CompositeTwice, CompositeMissing}
use Rattle.topos_model.specs.categories.Category.{Category, dom, cod, compose, composite}
use Rattle.topos_model.specs.Laws.{AreComposable, EntryBelow, IsCategory}
use Rattle.topos_model.specs.categories.Listed.{all_ends, composable}
use Rattle.topos_model.specs.categories.Filling.{candidates, has_composite, filled_composite, filled_category, Filled}
use Rattle.topos_model.specs.categories.CategoryFaults.{has_ends, listed_composite_fault, listing_fault, is_determined, missing_composite_fault, category_fault, IsCategoryListing}
use Rattle.topos_model.specs.Faults.{associativity_fault}
use Rattle.fin_category.specs.Tables.{tabulated}
use Rattle.fin_category.proofs.Composable.{In-composable, In-composable_from, Rising-composable}
use Rattle.fin_category.proofs.Tabulated.{tabulated_same}
use Rattle.fin_category.proofs.Associative.{associative_none}
use Rattle.fin_category.proofs.FilledCategories.{listed_entry, once_distinct, filled_is}

entries_asymmetric : IsAsymmetric EntryBelow
entries_asymmetric d e (inl p) (inl q) = omega arith
entries_asymmetric d e (inl p) (inr q) = omega (arith, q.0)
entries_asymmetric d e (inr p) (inl q) = omega (arith, p.0)
entries_asymmetric d e (inr p) (inr q) = omega (arith, p.1, q.1)

-- the composite that the table of a category has at a pair
pub entry_is : (k : Category) → IsCategory k → (g f h : ℕ) → In {A = ℕ × ℕ × ℕ} k.table (g, f, h) → compose k g f ≡ h
entry_is k law g f h i =
    at (rising_cases EntryBelow k.table (g, f, compose k g f) (g, f, h) law.rising (law.listed g f (law.entries (g, f, h) i)) i)
  where
    at : ◌≡◌ {A = ℕ × ℕ × ℕ} (g, f, compose k g f) (g, f, h) ⊎ (EntryBelow (g, f, compose k g f) (g, f, h) ⊎ EntryBelow (g, f, h) (g, f, compose k g f)) → compose k g f ≡ h
    at (inl e) = ap (λ (e : ℕ × ℕ × ℕ). e.2) e
    at (inr (inl (inl p))) = absurd (omega arith)
    at (inr (inl (inr p))) = absurd (omega (arith, p.1))
    at (inr (inr (inl p))) = absurd (omega arith)
    at (inr (inr (inr p))) = absurd (omega (arith, p.1))

-- a lawful category has the table of its composites
pub category_tabulated : (k : Category) → IsCategory k → k ≡ tabulated k.objects k.ends (compose k)
unfolding tabulated
category_tabulated k law =
    ap (λ (t : List (ℕ × ℕ × ℕ)). record { objects = k.objects; ends = k.ends; table = t })
    (rising_same EntryBelow k.table (map (λ (p : ℕ × ℕ). (p.0, p.1, compose k p.0 p.1)) (composable k.ends)) entries_asymmetric law.rising (Rising-composable k.ends (compose k))
    (λ e i.
    let m = law.entries e i in
    let same : compose k e.0 e.1 ≡ e.2 = entry_is k law e.0 e.1 e.2 i in
    let j : In {A = ℕ × ℕ × ℕ} (map (λ (p : ℕ × ℕ). (p.0, p.1, compose k p.0 p.1)) (composable k.ends)) (e.0, e.1, compose k e.0 e.1) =
    In-map (λ (p : ℕ × ℕ). (p.0, p.1, compose k p.0 p.1)) (composable k.ends) (e.0, e.1) (In-composable k.ends e.0 e.1 m.0 m.1.0 (eq-eqb _ _ m.1.1)) in
    subst (λ (h : ℕ). In {A = ℕ × ℕ × ℕ} (map (λ (p : ℕ × ℕ). (p.0, p.1, compose k p.0 p.1)) (composable k.ends)) (e.0, e.1, h)) same j)
    (λ e i.
    let m : (p : ℕ × ℕ) × In (composable k.ends) p × ◌≡◌ {A = ℕ × ℕ × ℕ} (p.0, p.1, compose k p.0 p.1) e = In-map_from (λ (p : ℕ × ℕ). (p.0, p.1, compose k p.0 p.1)) (composable k.ends) e i in
    let c = In-composable_from k.ends m.0.0 m.0.1 m.1 in
    subst (λ (e : ℕ × ℕ × ℕ). In k.table e) m.2 (law.listed m.0.0 m.0.1 (c.0, (c.1, eqb-true _ _ c.2)))))

-- over one table
module _ (raw : RawCat) (ok : IsCategoryListing raw) (table : List (ℕ × ℕ × ℕ)) where
  abbrev with_table : Category
  with_table = record { objects = raw.objects; ends = all_ends raw; table = table }

  module _ (fills : Filled raw with_table) (law : IsCategory with_table) where
    value_cases : (g f : ℕ) → AreComposable with_table g f → (b c d : Bool) → ltb g raw.objects ≡ b → ltb f raw.objects ≡ c → has_composite raw.listed g f ≡ d →
        compose with_table g f ≡ cond b f (cond c g (cond d (composite raw.listed g f) (get_or (candidates (all_ends raw) g f) 0 0)))
    value_cases g f m true c d eg ef el =
        let id = law.identity g (ltb-true _ _ eg) in
        let e : cod with_table f ≡ g = m.1.1 ∙ id.1 in
        entry_is with_table law g f f (subst (λ (n : ℕ). In {A = ℕ × ℕ × ℕ} table (n, f, f)) e (fills.left_neutral f m.1.0))
    value_cases g f m false true d eg ef el =
        let id = law.identity f (ltb-true _ _ ef) in
        let e : dom with_table g ≡ f = sym m.1.1 ∙ id.0.1 in
        entry_is with_table law g f g (subst (λ (n : ℕ). In {A = ℕ × ℕ × ℕ} table (g, n, g)) e (fills.right_neutral g m.0))
    value_cases g f m false false true eg ef el =
        let e = listed_entry raw.listed g f el in
        let i : In {A = ℕ × ℕ × ℕ} table (g, f, e.0.2) =
        subst (λ (n : ℕ). In {A = ℕ × ℕ × ℕ} table (g, n, e.0.2)) e.3 (subst (λ (n : ℕ). In {A = ℕ × ℕ × ℕ} table (n, e.0.1, e.0.2)) e.2 (fills.listed e.0 e.1)) in
        entry_is with_table law g f e.0.2 i ∙ sym e.4
    value_cases g f m false false false eg ef el =
        let o = fills.only g f m (ltb-false _ _ eg) (ltb-false _ _ ef) el in
        entry_is with_table law g f o.0 o.2 ∙ sym (ap (λ (xs : List ℕ). get_or xs 0 0) o.1)

    value_is : (g f : ℕ) → AreComposable with_table g f → compose with_table g f ≡ filled_composite raw g f
    unfolding filled_composite
    value_is g f m = value_cases g f m (ltb g raw.objects) (ltb f raw.objects) (has_composite raw.listed g f) refl refl refl

    table_filled : with_table ≡ filled_category raw
    table_filled =
        category_tabulated with_table law
        ∙ tabulated_same raw.objects (all_ends raw) (compose with_table) (filled_composite raw) (λ g f p q m. value_is g f (p, (q, eqb-true _ _ m)))
        ∙ sym (filled_is raw)

    listed_ends_right : (e : ℕ × ℕ × ℕ) → In raw.listed e → has_ends raw e.0 e.1 e.2 ≡ true
    unfolding has_ends
    listed_ends_right e i =
        let j = fills.listed e i in
        let m = law.entries e j in
        let same : compose with_table e.0 e.1 ≡ e.2 = entry_is with_table law e.0 e.1 e.2 j in
        let w = law.composite (cod with_table e.0) e.0 e.1 (m.0, refl) m.1 in
        and_from _ _ (and_from _ _ (eq-eqb _ _ m.1.1) (eq-eqb _ _ (sym (ap (dom with_table) same) ∙ w.1))) (eq-eqb _ _ (sym (ap (cod with_table) same) ∙ w.0.1))

    no_listing_fault : listing_fault raw ≡ None
    unfolding listing_fault listed_composite_fault
    no_listing_fault =
        first_none _ (range_with_len 0 (length raw.listed)) (λ i j.
        let r = In-range_from 0 (length raw.listed) i j in
        let low : i < length raw.listed = omega arith in
        let e = get_or raw.listed i (0, 0, 0) in
        ap (λ b. or_else (some_if (not b) (CompositeEnds e.0 e.1 e.2)) (some_if (has_composite (take i raw.listed) e.0 e.1) (CompositeTwice e.0 e.1)))
        (listed_ends_right e (In_at raw.listed i (0, 0, 0) low))
        ∙ ap (λ b. some_if b (CompositeTwice e.0 e.1)) (once_distinct raw.listed fills.once i low))

    determined_cases : (g f : ℕ) → AreComposable with_table g f → (b c d : Bool) → ltb g raw.objects ≡ b → ltb f raw.objects ≡ c → has_composite raw.listed g f ≡ d →
        (b || c || d || eqb (length (candidates (all_ends raw) g f)) 1) ≡ true
    determined_cases g f m true c d eg ef el = refl
    determined_cases g f m false true d eg ef el = refl
    determined_cases g f m false false true eg ef el = refl
    determined_cases g f m false false false eg ef el =
        let o = fills.only g f m (ltb-false _ _ eg) (ltb-false _ _ ef) el in
        eq-eqb _ 1 (ap length o.1)

    determined : (g f : ℕ) → AreComposable with_table g f → is_determined raw g f ≡ true
    unfolding is_determined
    determined g f m = determined_cases g f m (ltb g raw.objects) (ltb f raw.objects) (has_composite raw.listed g f) refl refl refl

    no_missing_fault : missing_composite_fault raw ≡ None
    unfolding missing_composite_fault
    no_missing_fault =
        first_none _ (composable (all_ends raw)) (λ p i.
        let c = In-composable_from (all_ends raw) p.0 p.1 i in
        ap (λ b. some_if (not b) (CompositeMissing p.0 p.1)) (determined p.0 p.1 (c.0, (c.1, eqb-true _ _ c.2))))

    one_of_table : (category_fault raw ≡ None) × (with_table ≡ filled_category raw)
    unfolding category_fault
    one_of_table = (
      ap (λ o. or_else o (or_else (missing_composite_fault raw) (associativity_fault (filled_category raw)))) no_listing_fault
          ∙ ap (λ o. or_else o (associativity_fault (filled_category raw))) no_missing_fault
          ∙ ap associativity_fault (sym table_filled) ∙ associative_none with_table law,
      table_filled,
    )

pub filled_one : (raw : RawCat) → IsCategoryListing raw → (k : Category) → Filled raw k → IsCategory k → (category_fault raw ≡ None) × (k ≡ filled_category raw)
filled_one raw ok k fills law =
    let same : k ≡ record { objects = raw.objects; ends = all_ends raw; table = k.table } =
    ap (λ (n : ℕ). record { objects = n; ends = k.ends; table = k.table }) fills.objects
    ∙ ap (λ (ends : List (ℕ × ℕ)). record { objects = raw.objects; ends = ends; table = k.table }) fills.ends in
    let one = one_of_table raw ok k.table (subst (Filled raw) same fills) (subst IsCategory same law) in
    (one.0, same ∙ one.1)
