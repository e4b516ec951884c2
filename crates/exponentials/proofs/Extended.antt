-- Stores to which functors are added behind those that were there.
use Rattle.std.proofs.Common.{◌≡◌, ℕ, zero, suc, ◌+◌, ◌<◌, ◌≤◌, Bool, true, false, not, cond, inl, inr, List, [], ◌∷◌, ◌++◌, length, map, sum, None, refl, sym, ap, subst, ◌∙◌, arith, append_assoc}
use Rattle.std.specs.List.{list_any}
use Rattle.std.proofs.lemmas.Bool.{cases_Bool, false≢true}
use Rattle.std.proofs.lemmas.List.{append-nil, map-append, get_or_append_left, length-append}
use Rattle.std.proofs.lemmas.List.Sums.{sum_by-cons}
use Rattle.topos_model.specs.declared.ty.Ty.{Ty}
use Rattle.finite_lists.specs.Members.{In, Distinct}
use Rattle.finite_lists.proofs.Lists.{In_at, In-map, In-append_left, In-append_right, In-append_cases, some_any, any_some}
use Rattle.topos_model.specs.types.SameType.{same_type}
use Rattle.topos_model.specs.types.SameTypeLaws.{same_types_are_equal, same_as_itself}
use Rattle.topos_model.specs.statements.Cells.{without_repeats}
use Rattle.functor_store.specs.Store.{Functor, Store, functor_at, IsFreeKey}
use Rattle.functor_store.specs.Faithful.{Holds}
use Rattle.type_rows.specs.TypeRows.{IsAdded}
use Rattle.exponentials.specs.Needed.{IsPlaceOf, keys, IsExtended, is_held}

-- a functor at a place is one of the list
in_keys : (Fs : List Functor) (i : ℕ) → i < length Fs → In (keys Fs) (functor_at Fs i).key
unfolding keys functor_at
in_keys [] i low = absurd (omega (arith, low))
in_keys (F ∷ Fs) zero low = inl refl
in_keys (F ∷ Fs) (suc i) low = inr (in_keys Fs i (omega (arith, low)))

place_of : (Fs : List Functor) (T : Ty) → In (keys Fs) T → (i : ℕ) × (i < length Fs) × ((functor_at Fs i).key ≡ T)
unfolding keys functor_at
place_of [] T i = absurd i
place_of (F ∷ Fs) T (inl e) = (0, omega arith, e)
place_of (F ∷ Fs) T (inr i) = let r = place_of Fs T i in (suc r.0, omega (arith, r.1), r.2)

pub free_not : (Fs : List Functor) (T : Ty) → IsFreeKey Fs T → In (keys Fs) T → ⊥
free_not Fs T free i = let r = place_of Fs T i in free r.0 r.1 r.2

pub not_free : (Fs : List Functor) (T : Ty) → (In (keys Fs) T → ⊥) → IsFreeKey Fs T
not_free Fs T h = λ i low e. h (subst (In (keys Fs)) e (in_keys Fs i low))

pub holds_in : (store : Store) (T : Ty) → Holds store T → In (keys store.sealed) T
holds_in store T h = subst (In (keys store.sealed)) h.2 (in_keys store.sealed h.0 h.1)

pub in_holds : (store : Store) (T : Ty) → In (keys store.sealed) T → Holds store T
in_holds store T i = place_of store.sealed T i

pub keys-append : (Fs Gs : List Functor) → keys (Fs ++ Gs) ≡ keys Fs ++ keys Gs
unfolding keys
keys-append Fs Gs = map-append (λ F. F.key) Fs Gs

free_append : (Fs Gs : List Functor) (T : Ty) → IsFreeKey (Fs ++ Gs) T → IsFreeKey Fs T × (In (keys Gs) T → ⊥)
free_append Fs Gs T h = (
  not_free Fs T (λ i. free_not (Fs ++ Gs) T h (subst (λ l. In l T) (sym (keys-append Fs Gs)) (In-append_left (keys Fs) (keys Gs) T i))),
  λ i. free_not (Fs ++ Gs) T h (subst (λ l. In l T) (sym (keys-append Fs Gs)) (In-append_right (keys Fs) (keys Gs) T i)),
)

append_free : (Fs Gs : List Functor) (T : Ty) → IsFreeKey Fs T → (In (keys Gs) T → ⊥) → IsFreeKey (Fs ++ Gs) T
append_free Fs Gs T h n = not_free (Fs ++ Gs) T (λ i. elim (In-append_cases (keys Fs) (keys Gs) T (subst (λ l. In l T) (keys-append Fs Gs) i)) [ inl a ↦ free_not Fs T h a | inr b ↦ n b ])

Distinct-append : (xs ys : List Ty) → Distinct xs → Distinct ys → ((T : Ty) → In xs T → In ys T → ⊥) → Distinct (xs ++ ys)
Distinct-append [] ys d e apart = e
Distinct-append (x ∷ xs) ys d e apart = (λ i. elim (In-append_cases xs ys x i) [ inl a ↦ d.0 a | inr b ↦ apart x (inl refl) b ], Distinct-append xs ys d.1 e (λ T i. apart T (inr i)))

pub kept : (types : List Ty) (store : Store) → IsExtended types store store
unfolding keys
kept types store = record { added = []; store_is = ap (λ (l : List Functor). record store { sealed = l }) (sym (append-nil store.sealed)); distinct = tt; fresh = λ T i. absurd i }

pub kept_as : (types : List Ty) (old new : Store) → new ≡ old → IsExtended types old new
kept_as types old new e = subst (λ (x : Store). IsExtended types old x) (sym e) (kept types old)

pub one_more : (types : List Ty) (T : Ty) (old new : Store) → IsAdded T old new → IsFreeKey old.sealed T → In types T → IsExtended types old new
unfolding keys
one_more types T old new h free i =
    let (F, key, is) = h in
    record {
      added = F ∷ [];
      store_is = is;
      distinct = (λ j. absurd j, tt);
      fresh = λ U j. elim j [ inl e ↦ subst (λ V. In types V × IsFreeKey old.sealed V) (sym key ∙ e) (i, free) | inr n ↦ absurd n ];
    }

module _ (types : List Ty) (old new : Store) (h : IsExtended types old new) where
  pub weaker : (more : List Ty) → ((T : Ty) → In types T → In more T) → IsExtended more old new
  weaker more f = record { added = h.added; store_is = h.store_is; distinct = h.distinct; fresh = λ T i. let r = h.fresh T i in (f T r.0, r.1) }

  sealed_is : new.sealed ≡ old.sealed ++ h.added
  sealed_is = ap (λ (s : Store). s.sealed) h.store_is

  pub idle_after : old.building ≡ None → new.building ≡ None
  idle_after e = ap (λ (s : Store). s.building) h.store_is ∙ e

  pub budget_is : new.budget ≡ old.budget
  budget_is = ap (λ (s : Store). s.budget) h.store_is

  pub held_after : (T : Ty) → Holds old T → Holds new T
  held_after T i =
      in_holds new T (subst (λ (l : List Functor). In (keys l) T) (sym sealed_is) (subst (λ l. In l T) (sym (keys-append old.sealed h.added)) (In-append_left (keys old.sealed) (keys h.added) T (holds_in old T i))))

  pub free_before : (T : Ty) → IsFreeKey new.sealed T → IsFreeKey old.sealed T
  free_before T f = (free_append old.sealed h.added T (subst (λ (l : List Functor). IsFreeKey l T) sealed_is f)).0

  -- what is there and was not is among what was added
  pub added_in : (T : Ty) → Holds new T → IsFreeKey old.sealed T → In (keys h.added) T
  added_in T there free =
      elim (In-append_cases (keys old.sealed) (keys h.added) T (subst (λ l. In l T) (keys-append old.sealed h.added) (subst (λ (l : List Functor). In (keys l) T) sealed_is (holds_in new T there)))) [
        | inl a ↦ absurd (free_not old.sealed T free a)
        | inr b ↦ b
      ]

  pub in_sealed : (T : Ty) → In (keys h.added) T → In (keys new.sealed) T
  in_sealed T i = subst (λ (l : List Functor). In (keys l) T) (sym sealed_is) (subst (λ l. In l T) (sym (keys-append old.sealed h.added)) (In-append_right (keys old.sealed) (keys h.added) T i))

  pub place_after : (id : ℕ) (T : Ty) → IsPlaceOf old id T → IsPlaceOf new id T
  unfolding functor_at
  place_after id T p = (
    let l = p.0 in omega (arith, l, ap length sealed_is, length-append old.sealed h.added),
    ap (λ (l : List Functor). (functor_at l id).key) sealed_is ∙ ap (λ F. F.key) (get_or_append_left old.sealed h.added _ id p.0) ∙ p.1,
  )

  pub extended : (later : Store) → IsExtended types new later → IsExtended types old later
  extended later g = record {
    added = h.added ++ g.added;
    store_is = g.store_is ∙ ap (λ (s : Store). record s { sealed = s.sealed ++ g.added }) h.store_is ∙ ap (λ (l : List Functor). record old { sealed = l }) (append_assoc old.sealed h.added g.added);
    distinct = subst Distinct (sym (keys-append h.added g.added)) (Distinct-append (keys h.added) (keys g.added) h.distinct g.distinct (λ T i j. (free_append old.sealed h.added T (subst (λ (l : List Functor). IsFreeKey l T) sealed_is (g.fresh T j).1)).1 i));
    fresh = λ T i.
        elim (In-append_cases (keys h.added) (keys g.added) T (subst (λ l. In l T) (keys-append h.added g.added) i)) [
          | inl a ↦ h.fresh T a
          | inr b ↦ let r = g.fresh T b in (r.0, free_before T r.1)
        ];
  }

-- sums over distinct members
module _ (f : Ty → ℕ) where
  abbrev total : List Ty → ℕ
  total l = sum (map f l)

  total-cons : (T : Ty) (l : List Ty) → total (T ∷ l) ≡ f T + total l
  total-cons T l = sum_by-cons (λ x. x) (f T) (map f l)

  -- a list without one member
  without : (T : Ty) (l : List Ty) → In l T → (rest : List Ty) × (total l ≡ f T + total rest) × ((U : Ty) → In l U → (T ≡ U → ⊥) → In rest U)
  without T [] i = absurd i
  without T (V ∷ l) (inl e) = (l, total-cons V l ∙ ap (λ W. f W + total l) e, λ U j n. elim j [ inl d ↦ absurd (n (sym e ∙ d)) | inr k ↦ k ])
  without T (V ∷ l) (inr i) =
      let (rest, is, others) = without T l i in
      (V ∷ rest, total-cons V l ∙ omega (arith, is, total-cons V rest), λ U j n. elim j [ inl d ↦ inl d | inr k ↦ inr (others U k n) ])

  pub total_within : (us l : List Ty) → Distinct us → ((T : Ty) → In us T → In l T) → total us ≤ total l
  total_within [] l d h = omega arith
  total_within (T ∷ us) l d h =
      let (rest, is, others) = without T l (h T (inl refl)) in
      let ih = total_within us rest d.1 (λ U i. others U (h U (inr i)) (λ e. d.0 (subst (In us) (sym e) i))) in
      omega (arith, is, ih, total-cons T us)

-- each type once
pub In-once : (types : List Ty) (T : Ty) → In types T → In (without_repeats types) T
unfolding without_repeats
In-once [] T i = i
In-once (U ∷ types) T i =
    elim (cases_Bool (list_any (same_type U) types)) [
      | inl e ↦ subst (λ b. In (cond b (without_repeats types) (U ∷ without_repeats types)) T) (sym e) (In-once types T (elim i [
        | inl s ↦ let m = any_some (same_type U) types e in subst (In types) (sym (same_types_are_equal U m.0 m.2) ∙ s) m.1
        | inr j ↦ j
      ]))
      | inr e ↦ subst (λ b. In (cond b (without_repeats types) (U ∷ without_repeats types)) T) (sym e) (elim i [ inl s ↦ inl s | inr j ↦ inr (In-once types T j) ])
    ]

pub once_In : (types : List Ty) (T : Ty) → In (without_repeats types) T → In types T
unfolding without_repeats
once_In [] T i = i
once_In (U ∷ types) T i =
    elim (cases_Bool (list_any (same_type U) types)) [
      | inl e ↦ inr (once_In types T (subst (λ b. In (cond b (without_repeats types) (U ∷ without_repeats types)) T) e i))
      | inr e ↦ elim (subst (λ b. In (cond b (without_repeats types) (U ∷ without_repeats types)) T) e i) [ inl s ↦ inl s | inr j ↦ inr (once_In types T j) ]
    ]

pub Distinct-once : (types : List Ty) → Distinct (without_repeats types)
unfolding without_repeats
Distinct-once [] = tt
Distinct-once (U ∷ types) =
    elim (cases_Bool (list_any (same_type U) types)) [
      | inl e ↦ subst (λ b. Distinct (cond b (without_repeats types) (U ∷ without_repeats types))) (sym e) (Distinct-once types)
      | inr e ↦ subst (λ b. Distinct (cond b (without_repeats types) (U ∷ without_repeats types))) (sym e) (λ i. false≢true (sym e ∙ some_any (same_type U) types U (once_In types U i) (same_as_itself U)), Distinct-once types)
    ]

pub held_free : (store : Store) (T : Ty) → not (is_held store T) ≡ true → IsFreeKey store.sealed T
unfolding is_held functor_at
held_free store T h = λ i low e. at (list_any (λ F. same_type T F.key) store.sealed) h (some_any (λ F. same_type T F.key) store.sealed (functor_at store.sealed i) (In_at store.sealed i _ low) (subst (λ U. same_type T U ≡ true) (sym e) (same_as_itself T)))
  where
    at : (b : Bool) → not b ≡ true → b ≡ true → ⊥
    at true n s = false≢true n
    at false n s = false≢true s

pub free_held : (store : Store) (T : Ty) → IsFreeKey store.sealed T → not (is_held store T) ≡ true
unfolding is_held keys
free_held store T free =
    elim (cases_Bool (list_any (λ F. same_type T F.key) store.sealed)) [
      | inl e ↦ let m = any_some (λ F. same_type T F.key) store.sealed e in absurd (free_not store.sealed T free (subst (In (keys store.sealed)) (sym (same_types_are_equal T m.0.key m.2)) (key_in store.sealed m.0 m.1)))
      | inr e ↦ ap not e
    ]
  where
    key_in : (Fs : List Functor) (F : Functor) → In Fs F → In (keys Fs) F.key
    key_in Fs F i = In-map (λ F. F.key) Fs F i
