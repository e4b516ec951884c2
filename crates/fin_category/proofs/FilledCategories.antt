-- Filled categories: where no fault is found, the filled category is lawful and has what is listed.
use Rattle.std.proofs.Common.{◌≡◌, ℕ, zero, suc, ◌<◌, ◌≤◌, Bool, true, false, cond, not, ◌&&◌, ◌||◌, eqb, ltb, inl, inr, List, [], ◌∷◌, map, length, get_or, take, None, refl, sym, ap, subst, ◌∙◌, arith}
use Rattle.std.specs.List.{list_any, range_with_len}
use Rattle.std.proofs.lemmas.Bool.{cond-true, cond-false, and_parts, and_from, or_left, eqb-true, eq-eqb, ltb-true, lt-ltb, le-ltb, not-false, true≢false}
use Rattle.std.proofs.lemmas.List.{get_or_read}
use Rattle.finite_lists.specs.Members.{In, Distinct}
use Rattle.finite_lists.specs.First.{some_if}
use Rattle.finite_lists.proofs.Lists.{In-map, In-map_from, In-filter_from, In_at, In_Contains, some_any}
use Rattle.finite_lists.proofs.DistinctLists.{In-range, In-range_from}
use Rattle.finite_lists.proofs.FirstAnswers.{first_none_each, or_else_none, some_if-false}
use Rattle.topos_model.specs.declared.raw.RawCat.{RawCat}
use Rattle.topos_model.specs.declared.fault.Fault.TheVariants.{CompositeMissing}
use Rattle.topos_model.specs.categories.Category.{dom, compose, composite}
use Rattle.topos_model.specs.Laws.{IsInto, IsCategory}
use Rattle.topos_model.specs.categories.Listed.{all_ends, meet, composable}
use Rattle.topos_model.specs.categories.Filling.{candidates, has_composite, filled_composite, filled_category, Filled}
use Rattle.topos_model.specs.categories.CategoryFaults.{has_ends, listed_composite_fault, listing_fault, is_determined, missing_composite_fault, category_fault, IsCategoryListing}
use Rattle.topos_model.specs.Faults.{associativity_fault}
use Rattle.fin_category.specs.Tables.{tabulated, IsClosed}
use Rattle.fin_category.proofs.Composable.{In-composable}
use Rattle.fin_category.proofs.Tabulated.{objects-tabulated, compose-tabulated, rising-tabulated, entries-tabulated, listed-tabulated}
use Rattle.fin_category.proofs.Associative.{none_associates}
use Rattle.fin_category.proofs.AllEnds.{length-all_ends, identity_ends, ends_within}

-- the entry that a listed composite is read from
pub listed_entry : (table : List (ℕ × ℕ × ℕ)) (g f : ℕ) → has_composite table g f ≡ true → (e : ℕ × ℕ × ℕ) × In table e × (e.0 ≡ g) × (e.1 ≡ f) × (composite table g f ≡ e.2)
unfolding has_composite
listed_entry [] g f t = cc
listed_entry (e ∷ table) g f t = at (eqb e.0 g && eqb e.1 f) refl t (listed_entry table g f)
  where
    at : (b : Bool) → (eqb e.0 g && eqb e.1 f) ≡ b → (b || list_any (λ e. eqb e.0 g && eqb e.1 f) table) ≡ true →
        (list_any (λ e. eqb e.0 g && eqb e.1 f) table ≡ true → (e : ℕ × ℕ × ℕ) × In table e × (e.0 ≡ g) × (e.1 ≡ f) × (composite table g f ≡ e.2)) →
        (d : ℕ × ℕ × ℕ) × In (e ∷ table) d × (d.0 ≡ g) × (d.1 ≡ f) × (cond b e.2 (composite table g f) ≡ d.2)
    at true s u ih = let both = and_parts (eqb e.0 g) (eqb e.1 f) s in (e, inl refl, eqb-true e.0 g both.0, eqb-true e.1 f both.1, refl)
    at false s u ih =
        let r : (e : ℕ × ℕ × ℕ) × In table e × (e.0 ≡ g) × (e.1 ≡ f) × (composite table g f ≡ e.2) = ih u in
        (r.0, inr r.1, r.2, r.3, r.4)

pub has_composite_from : (table : List (ℕ × ℕ × ℕ)) (e : ℕ × ℕ × ℕ) → In table e → has_composite table e.0 e.1 ≡ true
unfolding has_composite
has_composite_from table e i =
    some_any (λ (d : ℕ × ℕ × ℕ). eqb d.0 e.0 && eqb d.1 e.1) table e i (and_from (eqb e.0 e.0) (eqb e.1 e.1) (eq-eqb e.0 e.0 refl) (eq-eqb e.1 e.1 refl))

-- the pair of a listed composite
abbrev pub pair_of : ℕ × ℕ × ℕ → ℕ × ℕ
pair_of e = (e.0, e.1)

-- no entry has the pair of an earlier one
abbrev pub IsOnce : List (ℕ × ℕ × ℕ) → Type 0
IsOnce table = (i : ℕ) → i < length table → has_composite (take i table) (get_or table i (0, 0, 0)).0 (get_or table i (0, 0, 0)).1 ≡ false

pub distinct_once : (table : List (ℕ × ℕ × ℕ)) → IsOnce table → Distinct {A = ℕ × ℕ} (map pair_of table)
unfolding has_composite
distinct_once [] once = tt
distinct_once (x ∷ table) once = (
  λ i.
      let m : (e : ℕ × ℕ × ℕ) × In table e × ◌≡◌ {A = ℕ × ℕ} (pair_of e) (pair_of x) = In-map_from pair_of table (pair_of x) i in
      let p = In_Contains table m.0 m.1 in
      let same : m.0 ≡ get_or table p.0 (0, 0, 0) = get_or_read table p.0 m.0 p.1 (sym p.2) (0, 0, 0) in
      let both : ◌≡◌ {A = ℕ × ℕ} (pair_of x) (pair_of (get_or table p.0 (0, 0, 0))) = sym m.2 ∙ ap pair_of same in
      true≢false (sym (or_left (eqb x.0 (get_or table p.0 (0, 0, 0)).0 && eqb x.1 (get_or table p.0 (0, 0, 0)).1) _
      (and_from _ _ (eq-eqb _ _ (ap (λ (q : ℕ × ℕ). q.0) both)) (eq-eqb _ _ (ap (λ (q : ℕ × ℕ). q.1) both)))) ∙ once (suc p.0) (omega (arith, p.1))),
  distinct_once table (λ i low. later (eqb x.0 (get_or table i (0, 0, 0)).0 && eqb x.1 (get_or table i (0, 0, 0)).1) _ (once (suc i) (omega arith))),
)
  where
    later : (a b : Bool) → (a || b) ≡ false → b ≡ false
    later true b e = cc
    later false b e = e

pub once_distinct : (table : List (ℕ × ℕ × ℕ)) → Distinct {A = ℕ × ℕ} (map pair_of table) → IsOnce table
unfolding has_composite
once_distinct [] d i low = absurd (omega arith)
once_distinct (x ∷ table) d zero low = refl
once_distinct (x ∷ table) d (suc i) low =
    at (eqb x.0 (get_or table i (0, 0, 0)).0 && eqb x.1 (get_or table i (0, 0, 0)).1) refl (once_distinct table d.1 i (omega arith))
  where
    at : (b : Bool) → (eqb x.0 (get_or table i (0, 0, 0)).0 && eqb x.1 (get_or table i (0, 0, 0)).1) ≡ b →
        list_any (λ e. eqb e.0 (get_or table i (0, 0, 0)).0 && eqb e.1 (get_or table i (0, 0, 0)).1) (take i table) ≡ false →
        (b || list_any (λ e. eqb e.0 (get_or table i (0, 0, 0)).0 && eqb e.1 (get_or table i (0, 0, 0)).1) (take i table)) ≡ false
    at true e later =
        let both = and_parts _ _ e in
        let e0 : x.0 ≡ (get_or table i (0, 0, 0)).0 = eqb-true _ _ both.0 in
        let e1 : x.1 ≡ (get_or table i (0, 0, 0)).1 = eqb-true _ _ both.1 in
        let same : ◌≡◌ {A = ℕ × ℕ} (pair_of (get_or table i (0, 0, 0))) (pair_of x) = sym (ap (λ n. (n, x.1)) e0 ∙ ap (λ n. ((get_or table i (0, 0, 0)).0, n)) e1) in
        absurd (d.0 (subst (λ (p : ℕ × ℕ). In (map pair_of table) p) same (In-map pair_of table (get_or table i (0, 0, 0)) (In_at table i (0, 0, 0) (omega arith)))))
    at false e later = later

-- a listed composite that stands once is the composite of its pair
pub composite_once : (table : List (ℕ × ℕ × ℕ)) (e : ℕ × ℕ × ℕ) → Distinct {A = ℕ × ℕ} (map pair_of table) → In table e → composite table e.0 e.1 ≡ e.2
composite_once [] e d i = absurd i
composite_once (x ∷ table) e d (inl same) =
    ap (λ (x : ℕ × ℕ × ℕ). cond (eqb x.0 e.0 && eqb x.1 e.1) x.2 (composite table e.0 e.1)) same
    ∙ cond-true (eqb e.0 e.0 && eqb e.1 e.1) _ _ (and_from (eqb e.0 e.0) (eqb e.1 e.1) (eq-eqb e.0 e.0 refl) (eq-eqb e.1 e.1 refl))
composite_once (x ∷ table) e d (inr i) = at (eqb x.0 e.0 && eqb x.1 e.1) refl (composite_once table e d.1 i)
  where
    at : (b : Bool) → (eqb x.0 e.0 && eqb x.1 e.1) ≡ b → composite table e.0 e.1 ≡ e.2 → cond b x.2 (composite table e.0 e.1) ≡ e.2
    at true t ih =
        let both = and_parts _ _ t in
        let e0 : x.0 ≡ e.0 = eqb-true _ _ both.0 in
        let e1 : x.1 ≡ e.1 = eqb-true _ _ both.1 in
        let same : ◌≡◌ {A = ℕ × ℕ} (pair_of e) (pair_of x) = sym (ap (λ n. (n, x.1)) e0 ∙ ap (λ n. (e.0, n)) e1) in
        absurd (d.0 (subst (λ (p : ℕ × ℕ). In (map pair_of table) p) same (In-map pair_of table e i)))
    at false t ih = ih

-- the parts of the first fault
pub no_fault_parts : (raw : RawCat) → category_fault raw ≡ None → (listing_fault raw ≡ None) × (missing_composite_fault raw ≡ None) × (associativity_fault (filled_category raw) ≡ None)
unfolding category_fault
no_fault_parts raw none =
    let a = or_else_none (listing_fault raw) _ none in
    let b = or_else_none (missing_composite_fault raw) _ a.1 in
    (a.0, b.0, b.1)

module _ (raw : RawCat) where
  pub filled_is : filled_category raw ≡ tabulated raw.objects (all_ends raw) (filled_composite raw)
  unfolding filled_category tabulated
  filled_is = refl

  -- the composite of two arrows that meet
  pub record IsComposite (g f h : ℕ) : Type 0 where
    pub within : h < length (all_ends raw)
    pub cod : (get_or (all_ends raw) h (0, 0)).1 ≡ (get_or (all_ends raw) g (0, 0)).1
    pub dom : (get_or (all_ends raw) h (0, 0)).0 ≡ (get_or (all_ends raw) f (0, 0)).0

  pub candidate_is : (g f h : ℕ) → In (candidates (all_ends raw) g f) h → IsComposite g f h
  unfolding candidates
  candidate_is g f h i =
      let r = In-filter_from _ (range_with_len 0 (length (all_ends raw))) h i in
      let low = In-range_from 0 (length (all_ends raw)) h r.0 in
      let both = and_parts _ _ r.1 in
      record { within = omega arith; cod = eqb-true _ _ both.1; dom = eqb-true _ _ both.0 }

  module _ (listing : listing_fault raw ≡ None) where
    no_listed_fault : (i : ℕ) → i < length raw.listed → listed_composite_fault raw i ≡ None
    unfolding listing_fault
    no_listed_fault i low = first_none_each (listed_composite_fault raw) (range_with_len 0 (length raw.listed)) i listing (In-range 0 (length raw.listed) i (omega arith) (omega arith))

    pub listed_ends_at : (i : ℕ) → i < length raw.listed → has_ends raw (get_or raw.listed i (0, 0, 0)).0 (get_or raw.listed i (0, 0, 0)).1 (get_or raw.listed i (0, 0, 0)).2 ≡ true
    unfolding listed_composite_fault
    listed_ends_at i low = not-false _ (some_if-false _ _ (or_else_none _ _ (no_listed_fault i low)).0)

    pub listed_once : IsOnce raw.listed
    unfolding listed_composite_fault
    listed_once i low = some_if-false _ _ (or_else_none _ _ (no_listed_fault i low)).1

    pub listed_ends : (e : ℕ × ℕ × ℕ) → In raw.listed e → has_ends raw e.0 e.1 e.2 ≡ true
    listed_ends e i =
        let p = In_Contains raw.listed e i in
        let same : e ≡ get_or raw.listed p.0 (0, 0, 0) = get_or_read raw.listed p.0 e p.1 (sym p.2) (0, 0, 0) in
        subst (λ (e : ℕ × ℕ × ℕ). has_ends raw e.0 e.1 e.2 ≡ true) (sym same) (listed_ends_at p.0 p.1)

    pub listed_meet : (e : ℕ × ℕ × ℕ) → In raw.listed e → meet (all_ends raw) e.0 e.1 ≡ true
    unfolding has_ends
    listed_meet e i = (and_parts _ _ (and_parts _ _ (listed_ends e i)).0).0

    module _ (ok : IsCategoryListing raw) where
      pub listed_is : (e : ℕ × ℕ × ℕ) → In raw.listed e → IsComposite e.0 e.1 e.2
      unfolding has_ends
      listed_is e i =
          let both = and_parts _ _ (listed_ends e i) in
          record { within = (ok.listed e i).2; cod = eqb-true _ _ both.1; dom = eqb-true _ _ (and_parts _ _ both.0).1 }

      module _ (missing : missing_composite_fault raw ≡ None) where
        pub all_determined : (g f : ℕ) → g < length (all_ends raw) → f < length (all_ends raw) → meet (all_ends raw) g f ≡ true → is_determined raw g f ≡ true
        unfolding missing_composite_fault
        all_determined g f p q m =
            not-false _ (some_if-false _ (CompositeMissing g f)
            (first_none_each (λ (p : ℕ × ℕ). some_if (not (is_determined raw p.0 p.1)) (CompositeMissing p.0 p.1)) (composable (all_ends raw)) (g, f) missing (In-composable (all_ends raw) g f p q m)))

        -- the only candidate
        pub sole_candidate : (xs : List ℕ) → length xs ≡ 1 → xs ≡ get_or xs 0 0 ∷ []
        sole_candidate [] e = absurd (omega arith)
        sole_candidate (x ∷ []) e = refl
        sole_candidate (x ∷ y ∷ xs) e = absurd (omega arith)

        pub only_candidate : (g f : ℕ) → g < length (all_ends raw) → f < length (all_ends raw) → meet (all_ends raw) g f ≡ true →
            ltb g raw.objects ≡ false → ltb f raw.objects ≡ false → has_composite raw.listed g f ≡ false →
            candidates (all_ends raw) g f ≡ get_or (candidates (all_ends raw) g f) 0 0 ∷ []
        unfolding is_determined
        only_candidate g f p q m a b d =
            sole_candidate (candidates (all_ends raw) g f) (eqb-true _ _ (last (ltb g raw.objects) (ltb f raw.objects) (has_composite raw.listed g f) _ a b d (all_determined g f p q m)))
          where
            last : (a b c d : Bool) → a ≡ false → b ≡ false → c ≡ false → (a || b || c || d) ≡ true → d ≡ true
            last true b c d p q r t = cc
            last false true c d p q r t = cc
            last false false true d p q r t = cc
            last false false false d p q r t = t

        composite_cases : (g f : ℕ) → g < length (all_ends raw) → f < length (all_ends raw) → meet (all_ends raw) g f ≡ true → (b c d : Bool) →
            ltb g raw.objects ≡ b → ltb f raw.objects ≡ c → has_composite raw.listed g f ≡ d →
            IsComposite g f (cond b f (cond c g (cond d (composite raw.listed g f) (get_or (candidates (all_ends raw) g f) 0 0))))
        composite_cases g f p q m true c d eg ef el =
            let e : get_or (all_ends raw) g (0, 0) ≡ (g, g) = identity_ends raw g (ltb-true _ _ eg) in
            let met : (get_or (all_ends raw) f (0, 0)).1 ≡ (get_or (all_ends raw) g (0, 0)).0 = eqb-true _ _ m in
            record { within = q; cod = met ∙ ap (λ (v : ℕ × ℕ). v.0) e ∙ sym (ap (λ (v : ℕ × ℕ). v.1) e); dom = refl }
        composite_cases g f p q m false true d eg ef el =
            let e : get_or (all_ends raw) f (0, 0) ≡ (f, f) = identity_ends raw f (ltb-true _ _ ef) in
            let met : (get_or (all_ends raw) f (0, 0)).1 ≡ (get_or (all_ends raw) g (0, 0)).0 = eqb-true _ _ m in
            record { within = p; cod = refl; dom = sym met ∙ ap (λ (v : ℕ × ℕ). v.1) e ∙ sym (ap (λ (v : ℕ × ℕ). v.0) e) }
        composite_cases g f p q m false false true eg ef el =
            let e = listed_entry raw.listed g f el in
            let w : IsComposite e.0.0 e.0.1 e.0.2 = listed_is e.0 e.1 in
            rw (e.4) (record {
              within = w.within;
              cod = w.cod ∙ ap (λ n. (get_or (all_ends raw) n (0, 0)).1) e.2;
              dom = w.dom ∙ ap (λ n. (get_or (all_ends raw) n (0, 0)).0) e.3;
            })
        composite_cases g f p q m false false false eg ef el =
            let one = only_candidate g f p q m eg ef el in
            candidate_is g f (get_or (candidates (all_ends raw) g f) 0 0)
            (subst (λ (xs : List ℕ). In xs (get_or (candidates (all_ends raw) g f) 0 0)) (sym one) (inl refl))

        composite_at : (g f : ℕ) → g < length (all_ends raw) → f < length (all_ends raw) → meet (all_ends raw) g f ≡ true → IsComposite g f (filled_composite raw g f)
        unfolding filled_composite
        composite_at g f p q m = composite_cases g f p q m (ltb g raw.objects) (ltb f raw.objects) (has_composite raw.listed g f) refl refl refl

        pub closed_filled : IsClosed (tabulated raw.objects (all_ends raw) (filled_composite raw))
        unfolding tabulated
        closed_filled = record {
          ends = ends_within raw ok.ends;
          composite = λ g f m.
              let w = composite_at g f m.0 m.1.0 (eq-eqb _ _ m.1.1) in
              let e : compose (tabulated raw.objects (all_ends raw) (filled_composite raw)) g f ≡ filled_composite raw g f = compose-tabulated raw.objects (all_ends raw) (filled_composite raw) g f m in
              rw e ((w.within, w.cod), w.dom);
        }

        identity_into : (c : ℕ) → c < raw.objects → IsInto (tabulated raw.objects (all_ends raw) (filled_composite raw)) c c × (dom (tabulated raw.objects (all_ends raw) (filled_composite raw)) c ≡ c)
        unfolding tabulated
        identity_into c h =
            let e : get_or (all_ends raw) c (0, 0) ≡ (c, c) = identity_ends raw c h in
            ((omega (arith, length-all_ends raw), ap (λ (v : ℕ × ℕ). v.1) e), ap (λ (v : ℕ × ℕ). v.0) e)

        left_filled : (c f : ℕ) → IsInto (tabulated raw.objects (all_ends raw) (filled_composite raw)) c f → compose (tabulated raw.objects (all_ends raw) (filled_composite raw)) c f ≡ f
        unfolding tabulated filled_composite
        left_filled c f i =
            let low : c < raw.objects = rw i.1 at (ends_within raw ok.ends f i.0).1 in
            let id = identity_into c low in
            compose-tabulated raw.objects (all_ends raw) (filled_composite raw) c f (id.0.0, (i.0, i.1 ∙ sym id.1))
            ∙ cond-true (ltb c raw.objects) _ _ (lt-ltb c raw.objects low)

        right_filled : (c f : ℕ) → IsInto (tabulated raw.objects (all_ends raw) (filled_composite raw)) c f →
            compose (tabulated raw.objects (all_ends raw) (filled_composite raw)) f (dom (tabulated raw.objects (all_ends raw) (filled_composite raw)) f) ≡ f
        unfolding tabulated filled_composite
        right_filled c f i =
            let low : (get_or (all_ends raw) f (0, 0)).0 < raw.objects = (ends_within raw ok.ends f i.0).0 in
            let id = identity_into (get_or (all_ends raw) f (0, 0)).0 low in
            compose-tabulated raw.objects (all_ends raw) (filled_composite raw) f (get_or (all_ends raw) f (0, 0)).0 (i.0, (id.0.0, id.0.1))
            ∙ at (ltb f raw.objects) refl (lt-ltb _ _ low)
          where
            at : (b : Bool) → ltb f raw.objects ≡ b → ltb (get_or (all_ends raw) f (0, 0)).0 raw.objects ≡ true →
                cond b (get_or (all_ends raw) f (0, 0)).0 (cond (ltb (get_or (all_ends raw) f (0, 0)).0 raw.objects) f
                (cond (has_composite raw.listed f (get_or (all_ends raw) f (0, 0)).0) (composite raw.listed f (get_or (all_ends raw) f (0, 0)).0)
                (get_or (candidates (all_ends raw) f (get_or (all_ends raw) f (0, 0)).0) 0 0))) ≡ f
            at true e d = ap (λ (v : ℕ × ℕ). v.0) (identity_ends raw f (ltb-true f raw.objects e))
            at false e d = cond-true _ _ _ d

        pub category_filled : associativity_fault (tabulated raw.objects (all_ends raw) (filled_composite raw)) ≡ None → IsCategory (tabulated raw.objects (all_ends raw) (filled_composite raw))
        category_filled none = record {
          ends = closed_filled.ends;
          identity = λ c h. identity_into c (rw (objects-tabulated raw.objects (all_ends raw) (filled_composite raw)) at h);
          rising = rising-tabulated raw.objects (all_ends raw) (filled_composite raw);
          entries = entries-tabulated raw.objects (all_ends raw) (filled_composite raw);
          listed = listed-tabulated raw.objects (all_ends raw) (filled_composite raw);
          composite = λ c f g i j. let w = closed_filled.composite f g (i.0, j) in ((w.0.0, w.0.1 ∙ i.1), w.1);
          left_neutral = left_filled;
          right_neutral = right_filled;
          associative = λ c f g h i j l. none_associates (tabulated raw.objects (all_ends raw) (filled_composite raw)) none f g h i.0 j l;
        }

        -- each pair that meets has an entry with its composite
        in_filled : (g f h : ℕ) → g < length (all_ends raw) → f < length (all_ends raw) → meet (all_ends raw) g f ≡ true → filled_composite raw g f ≡ h →
            In (tabulated raw.objects (all_ends raw) (filled_composite raw)).table (g, f, h)
        unfolding tabulated
        in_filled g f h p q m e =
            subst (λ (h : ℕ). In {A = ℕ × ℕ × ℕ} (map (λ (p : ℕ × ℕ). (p.0, p.1, filled_composite raw p.0 p.1)) (composable (all_ends raw))) (g, f, h)) e
            (In-map (λ (p : ℕ × ℕ). (p.0, p.1, filled_composite raw p.0 p.1)) (composable (all_ends raw)) (g, f) (In-composable (all_ends raw) g f p q m))

        filled_declared : (g f : ℕ) → raw.objects ≤ g → raw.objects ≤ f →
            filled_composite raw g f ≡ cond (has_composite raw.listed g f) (composite raw.listed g f) (get_or (candidates (all_ends raw) g f) 0 0)
        unfolding filled_composite
        filled_declared g f a b = cond-false (ltb g raw.objects) _ _ (le-ltb g raw.objects a) ∙ cond-false (ltb f raw.objects) _ _ (le-ltb f raw.objects b)

        filled_left : (g f : ℕ) → g < raw.objects → filled_composite raw g f ≡ f
        unfolding filled_composite
        filled_left g f a = cond-true (ltb g raw.objects) _ _ (lt-ltb g raw.objects a)

        pub filled_tabulated : Filled raw (tabulated raw.objects (all_ends raw) (filled_composite raw))
        unfolding tabulated
        filled_tabulated = record {
          objects = refl;
          ends = refl;
          left_neutral = λ f h.
              let low = (ends_within raw ok.ends f h).1 in
              let id = identity_into (get_or (all_ends raw) f (0, 0)).1 low in
              in_filled (get_or (all_ends raw) f (0, 0)).1 f f id.0.0 h (eq-eqb _ _ (sym id.1)) (filled_left (get_or (all_ends raw) f (0, 0)).1 f low);
          right_neutral = λ f h.
              let low = (ends_within raw ok.ends f h).0 in
              let id = identity_into (get_or (all_ends raw) f (0, 0)).0 low in
              let i : IsInto (tabulated raw.objects (all_ends raw) (filled_composite raw)) (get_or (all_ends raw) f (0, 0)).1 f = (h, refl) in
              in_filled f (get_or (all_ends raw) f (0, 0)).0 f h id.0.0 (eq-eqb _ _ id.0.1)
              (sym (compose-tabulated raw.objects (all_ends raw) (filled_composite raw) f (get_or (all_ends raw) f (0, 0)).0 (h, (id.0.0, id.0.1))) ∙ right_filled (get_or (all_ends raw) f (0, 0)).1 f i);
          once = distinct_once raw.listed listed_once;
          listed = λ e i.
              let d = ok.listed e i in
              in_filled e.0 e.1 e.2 d.0.1 d.1.1 (listed_meet e i)
              (filled_declared e.0 e.1 d.0.0 d.1.0 ∙ cond-true _ _ _ (has_composite_from raw.listed e i) ∙ composite_once raw.listed e (distinct_once raw.listed listed_once) i);
          only = λ g f m a b none. (
            get_or (candidates (all_ends raw) g f) 0 0,
            only_candidate g f m.0 m.1.0 (eq-eqb _ _ m.1.1) (le-ltb g raw.objects a) (le-ltb f raw.objects b) none,
            in_filled g f (get_or (candidates (all_ends raw) g f) 0 0) m.0 m.1.0 (eq-eqb _ _ m.1.1) (filled_declared g f a b ∙ cond-false _ _ _ none),
          );
        }

-- where no fault is found, the filled category is lawful
pub faultless_category : (raw : RawCat) → IsCategoryListing raw → category_fault raw ≡ None → Filled raw (filled_category raw) × IsCategory (filled_category raw)
faultless_category raw ok none =
    let parts = no_fault_parts raw none in (
      subst (Filled raw) (sym (filled_is raw)) (filled_tabulated raw parts.0 ok parts.1),
      subst IsCategory (sym (filled_is raw)) (category_filled raw parts.0 ok parts.1 (subst (λ k. associativity_fault k ≡ None) (filled_is raw) parts.2)),
    )
