-- The functors that a list of parts holds, their cells, and the numbers that they still lack.
use Rattle.std.proofs.Common.{◌≡◌, ℕ, zero, suc, ◌+◌, ◌-◌, ◌*◌, ◌<◌, ◌≤◌, Bool, true, false, List, [], ◌∷◌, ◌++◌, length, get_or, slice_get, take, set, replicate, Some, refl, sym, ap, subst, ◌∙◌, arith, inl, inr, if◌then◌else◌}
use Rattle.std.proofs.lemmas.List.{get_or_append_left, get_or_push, length_push, get_or-set_same, get_or-set_other, get_or_past, get_or-replicate, length-replicate}
use Rattle.std.proofs.lemmas.List.Sums.{sum_by_push}
use Rattle.std.proofs.lemmas.Bool.{cases_lt, cases_eq}
use Rattle.indexmap.specs.IndexMap.{insert_entry}
use Rattle.std.specs.Map.{values_of}
use Rattle.topos_model.specs.declared.ty.Ty.{Ty}
use Rattle.topos_model.specs.types.SameType.{same_type}
use Rattle.topos_model.specs.types.SameTypeLaws.{same_types_are_equal}
use Rattle.functor_store.specs.declared.store.Part.{Part}
use Rattle.functor_store.specs.Groups.{IsCutTo}
use Rattle.functor_store.specs.Store.{Functor, into, cost_from, cost, cost_sealed, push_at, functor_at, IsFreeKey, IsDistinct}
use Rattle.functor_store.specs.Fields.{functor_of, sealed_of, AreParts, IsSealed, AreSealed, HasWidths, due_from}
use Rattle.functor_store.proofs.Groups.{groups_front, groups_take, cut_more}

pub length-sealed : (rows restr : List (List ℕ)) (ps : List (Ty × Part)) → length (sealed_of rows restr ps) ≡ length ps
unfolding sealed_of
length-sealed rows restr [] = refl
length-sealed rows restr (p ∷ ps) = ap suc (length-sealed rows restr ps)

pub parts_more : (objects n m : ℕ) (ps : List (Ty × Part)) → AreParts objects n ps → n ≤ m → AreParts objects m ps
unfolding AreParts
parts_more objects n m [] h l = tt
parts_more objects n m (p ∷ ps) h l = (h.0, cut_more p.1.base n m p.1.ends.items h.1 l, parts_more objects n m ps h.2 l)

pub parts_push : (objects n : ℕ) (ps : List (Ty × Part)) (p : Ty × Part) → AreParts objects n ps → length p.1.ends.items ≡ objects → IsCutTo p.1.base p.1.ends.items n → AreParts objects n (ps ++ p ∷ [])
unfolding AreParts
parts_push objects n [] p h e k = (e, k, tt)
parts_push objects n (q ∷ ps) p h e k = (h.0, h.1, parts_push objects n ps p h.2 e k)

-- later rows do not matter
pub sealed_rows : (objects n : ℕ) (rows restr more : List (List ℕ)) (ps : List (Ty × Part)) → AreParts objects n ps → n ≤ length rows → sealed_of (rows ++ more) restr ps ≡ sealed_of rows restr ps
unfolding sealed_of AreParts functor_of
sealed_rows objects n rows restr more [] h l = refl
sealed_rows objects n rows restr more (p ∷ ps) h l =
    let g = groups_front p.1.base p.1.ends.items rows more (cut_more p.1.base n (length rows) p.1.ends.items h.1 l) in
    let i = sealed_rows objects n rows restr more ps h.2 l in
    cc

pub sealed_restrictions : (objects n : ℕ) (rows restr more : List (List ℕ)) (ps : List (Ty × Part)) → AreParts objects n ps → n ≤ length restr → sealed_of rows (restr ++ more) ps ≡ sealed_of rows restr ps
unfolding sealed_of AreParts functor_of
sealed_restrictions objects n rows restr more [] h l = refl
sealed_restrictions objects n rows restr more (p ∷ ps) h l =
    let g = groups_front p.1.base p.1.ends.items restr more (cut_more p.1.base n (length restr) p.1.ends.items h.1 l) in
    let i = sealed_restrictions objects n rows restr more ps h.2 l in
    cc

pub sealed_cut : (objects n : ℕ) (rows restr : List (List ℕ)) (ps : List (Ty × Part)) → AreParts objects n ps → sealed_of (take n rows) (take n restr) ps ≡ sealed_of rows restr ps
unfolding sealed_of AreParts functor_of
sealed_cut objects n rows restr [] h = refl
sealed_cut objects n rows restr (p ∷ ps) h =
    let g = groups_take p.1.base n p.1.ends.items rows h.1 in
    let k = groups_take p.1.base n p.1.ends.items restr h.1 in
    let i = sealed_cut objects n rows restr ps h.2 in
    cc

pub sealed_push : (rows restr : List (List ℕ)) (ps : List (Ty × Part)) (p : Ty × Part) → sealed_of rows restr (ps ++ p ∷ []) ≡ sealed_of rows restr ps ++ functor_of p.0 p.1.base p.1.ends.items rows restr ∷ []
unfolding sealed_of
sealed_push rows restr [] p = refl
sealed_push rows restr (q ∷ ps) p = ap (λ x. functor_of q.0 q.1.base q.1.ends.items rows restr ∷ x) (sealed_push rows restr ps p)

-- the functor of the part at a place
pub record FunctorOfPart (objects n i : ℕ) (rows restr : List (List ℕ)) (ps : List (Ty × Part)) (p : Part) : Type 0 where
  pub key : Ty
  pub is : functor_at (sealed_of rows restr ps) i ≡ functor_of key p.base p.ends.items rows restr
  pub length_is : length p.ends.items ≡ objects
  pub cut : IsCutTo p.base p.ends.items n

pub part_at : (objects n i : ℕ) (rows restr : List (List ℕ)) (ps : List (Ty × Part)) (p : Part) → AreParts objects n ps → slice_get (values_of ps) i ≡ Some p → FunctorOfPart objects n i rows restr ps p
unfolding sealed_of AreParts functor_at
part_at objects n i rows restr [] p h e = absurd (cc)
part_at objects n zero rows restr (q ∷ ps) p h e =
    let same : q.1 ≡ p = cc in
    let P : Part → Type 0 = λ x. length x.ends.items ≡ objects in
    let Q : Part → Type 0 = λ x. IsCutTo x.base x.ends.items n in
    record {
      key = q.0;
      is = ap (λ x. functor_of q.0 x.base x.ends.items rows restr) same;
      length_is = subst P same h.0;
      cut = subst Q same h.1;
    }
part_at objects n (suc i) rows restr (q ∷ ps) p h e =
    let there = part_at objects n i rows restr ps p h.2 e in
    record { key = there.key; is = there.is; length_is = there.length_is; cut = there.cut }

-- a type under which nothing is sealed goes last
pub inserted_last : (rows restr : List (List ℕ)) (ps : List (Ty × Part)) (key : Ty) (p : Part) → IsFreeKey (sealed_of rows restr ps) key → insert_entry same_type ps key p ≡ ps ++ (key, p) ∷ []
unfolding sealed_of functor_at functor_of
inserted_last rows restr [] key p free = refl
inserted_last rows restr (q ∷ ps) key p free =
    by (same_type key q.0) refl (inserted_last rows restr ps key p (λ i l. free (suc i) (omega (arith, l))))
  where
    by : (b : Bool) → same_type key q.0 ≡ b → insert_entry same_type ps key p ≡ ps ++ (key, p) ∷ [] → (if same_type key q.0 then (q.0, p) ∷ ps else q ∷ insert_entry same_type ps key p) ≡ (q ∷ ps) ++ (key, p) ∷ []
    by true e rest = absurd (free 0 (omega arith) (sym (same_types_are_equal key q.0 e)))
    by false e rest = ap (λ b. if b then (q.0, p) ∷ ps else q ∷ insert_entry same_type ps key p) e ∙ ap (λ x. q ∷ x) rest

-- keys
pub distinct_push : (fs : List Functor) (f : Functor) → IsDistinct fs → IsFreeKey fs f.key → IsDistinct (fs ++ f ∷ [])
unfolding functor_at
distinct_push fs f h free i j l m e =
    let n : length (fs ++ f ∷ []) ≡ length fs + 1 = length_push fs f in
    elim (cases_lt j (length fs)) [
      | inl b ↦ h i j l b (sym (ap (λ x. x.key) (get_or_append_left fs (f ∷ []) _ i (omega arith))) ∙ e ∙ ap (λ x. x.key) (get_or_append_left fs (f ∷ []) _ j b))
      | inr b ↦ free i (omega arith) (sym (ap (λ x. x.key) (get_or_append_left fs (f ∷ []) _ i (omega arith))) ∙ e ∙ ap (λ x. x.key) (get_or_push fs f _ j (omega arith)))
    ]

-- one functor more
pub sealed_more : (ends : List (ℕ × ℕ)) (fs : List Functor) (f : Functor) → AreSealed ends fs → IsSealed ends f → AreSealed ends (fs ++ f ∷ [])
unfolding functor_at
sealed_more ends fs f all one i l =
    let n : length (fs ++ f ∷ []) ≡ length fs + 1 = length_push fs f in
    elim (cases_lt i (length fs)) [
      | inl b ↦ subst (IsSealed ends) (sym (get_or_append_left fs (f ∷ []) _ i b)) (all i b)
      | inr b ↦ subst (IsSealed ends) (sym (get_or_push fs f _ i (omega arith))) one
    ]

-- cells
pub cost_sealed_push : (ends : List (ℕ × ℕ)) (fs : List Functor) (f : Functor) → cost_sealed ends (fs ++ f ∷ []) ≡ cost_sealed ends fs + cost ends f
unfolding cost_sealed
cost_sealed_push ends [] f = omega arith
cost_sealed_push ends (g ∷ fs) f = let i = cost_sealed_push ends fs f in omega arith

pub cost_push : (ends : List (ℕ × ℕ)) (i c : ℕ) (gs : List (List (List ℕ))) (row : List ℕ) → c < length gs → cost_from ends i (push_at gs c row) ≡ cost_from ends i gs + (1 + into ends (i + c) + length row)
unfolding cost_from push_at
cost_push ends i c [] row l = absurd (omega arith)
cost_push ends i zero (g ∷ gs) row l =
    let s = sum_by_push (λ (r : List ℕ). 1 + into ends i + length r) g row in
    let z : into ends (i + 0) ≡ into ends i = ap (into ends) (let e : i + 0 ≡ i = omega arith in e) in
    omega arith
cost_push ends i (suc c) (g ∷ gs) row l =
    let r = cost_push ends (suc i) c gs row (omega arith) in
    let z : into ends (suc i + c) ≡ into ends (i + suc c) = ap (into ends) (let e : suc i + c ≡ i + suc c = omega arith in e) in
    omega arith

pub cost_none : (ends : List (ℕ × ℕ)) (i m : ℕ) → cost_from ends i (replicate m []) ≡ 0
unfolding cost_from
cost_none ends i zero = refl
cost_none ends i (suc m) = let r = cost_none ends (suc i) m in omega arith

-- numbers to come
times_more : (n m : ℕ) → n * suc m ≡ n * m + n
times_more n m = omega arith

times_none : (n : ℕ) → n * 0 ≡ 0
times_none n = omega arith

pub due_none : (ends : List (ℕ × ℕ)) (i m : ℕ) → due_from ends i (replicate m []) (replicate m []) ≡ 0
unfolding due_from
due_none ends i zero = refl
due_none ends i (suc m) = let r = due_none ends (suc i) m in let z = times_none (into ends i) in omega arith

-- an element more at c, where nothing has restrictions
pub due_element : (ends : List (ℕ × ℕ)) (i c : ℕ) (gs hs : List (List (List ℕ))) (row : List ℕ) → c < length gs → length hs ≡ length gs → get_or hs c [] ≡ [] → due_from ends i (push_at gs c row) hs ≡ due_from ends i gs hs + into ends (i + c)
unfolding due_from push_at
due_element ends i c [] hs row l same none = absurd (omega arith)
due_element ends i c (g ∷ gs) [] row l same none = absurd (omega (arith, same))
due_element ends i zero (g ∷ gs) (h ∷ hs) row l same none =
    let n : length (g ++ row ∷ []) ≡ length g + 1 = length_push g row in
    let m : length h ≡ 0 = ap length none in
    let e : length (g ++ row ∷ []) - length h ≡ suc (length g - length h) = omega arith in
    let t : into ends i * (length (g ++ row ∷ []) - length h) ≡ into ends i * (length g - length h) + into ends i = ap (λ x. into ends i * x) e ∙ times_more (into ends i) (length g - length h) in
    let z : into ends (i + 0) ≡ into ends i = ap (into ends) (let e : i + 0 ≡ i = omega arith in e) in
    omega (arith, t, z)
due_element ends i (suc c) (g ∷ gs) (h ∷ hs) row l same none =
    let r = due_element ends (suc i) c gs hs row (omega arith) (omega (arith, same)) none in
    let z : into ends (suc i + c) ≡ into ends (i + suc c) = ap (into ends) (let e : suc i + c ≡ i + suc c = omega arith in e) in
    omega (arith, r, z)

-- the restrictions of an element that has none
pub due_restrictions : (ends : List (ℕ × ℕ)) (i c : ℕ) (gs hs : List (List (List ℕ))) (row : List ℕ) → c < length gs → length hs ≡ length gs → length (get_or hs c []) < length (get_or gs c []) → due_from ends i gs (push_at hs c row) + into ends (i + c) ≡ due_from ends i gs hs
unfolding due_from push_at
due_restrictions ends i c [] hs row l same open' = absurd (omega arith)
due_restrictions ends i c (g ∷ gs) [] row l same open' = absurd (omega (arith, same))
due_restrictions ends i zero (g ∷ gs) (h ∷ hs) row l same open' =
    let n : length (h ++ row ∷ []) ≡ length h + 1 = length_push h row in
    let e : length g - length h ≡ suc (length g - length (h ++ row ∷ [])) = omega (arith, open', n) in
    let t : into ends i * (length g - length h) ≡ into ends i * (length g - length (h ++ row ∷ [])) + into ends i = ap (λ x. into ends i * x) e ∙ times_more (into ends i) (length g - length (h ++ row ∷ [])) in
    let z : into ends (i + 0) ≡ into ends i = ap (into ends) (let e : i + 0 ≡ i = omega arith in e) in
    omega (arith, t, z)
due_restrictions ends i (suc c) (g ∷ gs) (h ∷ hs) row l same open' =
    let r = due_restrictions ends (suc i) c gs hs row (omega arith) (omega (arith, same)) open' in
    let z : into ends (suc i + c) ≡ into ends (i + suc c) = ap (into ends) (let e : suc i + c ≡ i + suc c = omega arith in e) in
    omega (arith, r, z)

-- widths
pub widths_none : (ends : List (ℕ × ℕ)) (key : Ty) (rows : List (List (List ℕ))) (m : ℕ) → HasWidths ends (record { key = key; rows = rows; restrictions = replicate m [] })
widths_none ends key rows m c k l =
    absurd (omega (arith, l, ap length empty_at))
  where
    empty_at : get_or (replicate {A = List (List ℕ)} m []) c [] ≡ []
    empty_at = elim (cases_lt c m) [
      | inl b ↦ get_or-replicate m c [] [] b
      | inr b ↦ get_or_past (replicate m []) c [] (omega (arith, length-replicate {A = List (List ℕ)} m [], b))
    ]

pub widths_push : (ends : List (ℕ × ℕ)) (key : Ty) (rows gs : List (List (List ℕ))) (c : ℕ) (row : List ℕ) → HasWidths ends (record { key = key; rows = rows; restrictions = gs }) → c < length gs → length row ≡ into ends c → HasWidths ends (record { key = key; rows = rows; restrictions = push_at gs c row })
unfolding push_at
widths_push ends key rows gs c row h l wide o k m =
    elim (cases_eq o c) [
      | inl e ↦
          let at : get_or (set gs c (get_or gs c [] ++ row ∷ [])) o [] ≡ get_or gs c [] ++ row ∷ [] = ap (λ x. get_or (set gs c (get_or gs c [] ++ row ∷ [])) x []) e ∙ get_or-set_same gs c (get_or gs c [] ++ row ∷ []) [] l in
          let n : length (get_or gs c [] ++ row ∷ []) ≡ length (get_or gs c []) + 1 = length_push (get_or gs c []) row in
          let s = ap length at in
          elim (cases_lt k (length (get_or gs c []))) [
            | inl b ↦ ap (λ g. length (get_or g k [])) at ∙ ap length (get_or_append_left (get_or gs c []) (row ∷ []) [] k b) ∙ h c k b ∙ ap (into ends) (sym e)
            | inr b ↦ ap (λ g. length (get_or g k [])) at ∙ ap length (get_or_push (get_or gs c []) row [] k (omega (arith, b, m, n, s))) ∙ wide ∙ ap (into ends) (sym e)
          ]
      | inr ne ↦
          let at : get_or (set gs c (get_or gs c [] ++ row ∷ [])) o [] ≡ get_or gs o [] = get_or-set_other gs c o (get_or gs c [] ++ row ∷ []) [] ne in
          let s = ap length at in
          ap (λ g. length (get_or g k [])) at ∙ h o k (omega (arith, s, m))
    ]
