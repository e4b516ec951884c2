-- The cells of a store are those of its presheaves and types, each counted once.
use Rattle.std.proofs.Common.{◌≡◌, ℕ, ◌+◌, ◌<◌, ◌≤◌, Bool, true, false, cond, not, inl, inr, List, [], ◌∷◌, ◌++◌, length, get_or, map, filter, sum, None, refl, sym, ap, subst, ◌∙◌, arith}
use Rattle.std.specs.List.{range_with_len}
use Rattle.std.proofs.lemmas.Bool.{cases_Bool, false≢true}
use Rattle.std.proofs.Math.Seq.{get_or-append_seam}
use Rattle.std.proofs.lemmas.List.{map-append, length_push, append_assoc, append-nil}
use Rattle.std.proofs.lemmas.List.Sums.{sum_by-append, sum_by-cons}
use Rattle.finite_lists.specs.Members.{In, Distinct}
use Rattle.finite_lists.proofs.Lists.{In-append_left, In-append_right, In-append_cases, In-filter, In-filter_from, In-map, In-map_from, any_some, map_same}
use Rattle.finite_lists.proofs.DistinctLists.{Distinct-filter, In-range_from, In-range, Distinct-range, Distinct-map, Distinct-append}
use Rattle.topos_model.specs.declared.ty.Ty.{Ty, Base, One, Omega, Two', Pow', Fun', more_of-Ty as only, end_of-Ty as end}
use Rattle.topos_model.specs.topologies.Cover.{Site}
use Rattle.topos_model.specs.types.Types.{Presheaf}
use Rattle.topos_model.specs.types.SameType.{same_type}
use Rattle.topos_model.specs.types.SameTypeLaws.{same_types_are_equal}
use Rattle.topos_model.specs.statements.Needs.{named}
use Rattle.topos_model.specs.statements.Cells.{presheaf_cells, cells_of, is_named, without_repeats, types_cells}
use Rattle.topos_model.proofs.FormEquations.{named-Base, is_named-Base}
use Rattle.functor_store.specs.Store.{Store, cells, cost, cost_sealed, cost_built, functor_at}
use Rattle.functor_store.specs.Faithful.{Holds, IsFaithful}
use Rattle.functor_store.proofs.Costs.{cost_is}
use Rattle.named_functors.proofs.MoreFunctors.{cells_later}
use Rattle.named_functors.proofs.NamedElements.{base_cells}
use Rattle.exponentials.specs.Needed.{keys, is_held, new_cells}
use Rattle.exponentials.proofs.Extended.{total_within, In-once, once_In, Distinct-once, held_free, free_not, holds_in, in_holds}
use Rattle.exponentials.proofs.NewCells.{costs_are}
use Rattle.sealed_world.specs.SealedWorlds.{InStore, IsInStore, types_in, seen, counted_cells, world_cells, cells_with, with_presheaf}

-- a named type is a presheaf's number
named_is : (T : Ty) → is_named T ≡ true → T ≡ Base (named T)
unfolding is_named named
named_is (Base n) e = refl
named_is One e = absurd (false≢true e)
named_is Omega e = absurd (false≢true e)
named_is (Two' a (only S end) b (only T end)) e = absurd (false≢true e)
named_is (Pow' a (only T end)) e = absurd (false≢true e)
named_is (Fun' a (only S end) b (only T end)) e = absurd (false≢true e)

abbrev unnamed : Ty → Bool
unnamed T = not (is_named T)

pub unnamed_from : (b : Bool) → not b ≡ true → b ≡ false
unnamed_from true e = absurd (false≢true e)
unnamed_from false e = refl

filter_yes : (p : Ty → Bool) (T : Ty) (l : List Ty) → p T ≡ true → filter p (T ∷ l) ≡ T ∷ filter p l
filter_yes p T l e = ap (λ b. cond b (T ∷ filter p l) (filter p l)) e

filter_no : (p : Ty → Bool) (T : Ty) (l : List Ty) → p T ≡ false → filter p (T ∷ l) ≡ filter p l
filter_no p T l e = ap (λ b. cond b (T ∷ filter p l) (filter p l)) e

module _ (f : Ty → ℕ) where
  abbrev total : List Ty → ℕ
  total l = sum (map f l)

  total-append : (l m : List Ty) → total (l ++ m) ≡ total l + total m
  total-append l m = ap sum (map-append f l m) ∙ sum_by-append (λ x. x) (map f l) (map f m)

  -- two lists of distinct members that are the same
  total_same : (l m : List Ty) → Distinct l → Distinct m → ((T : Ty) → In l T → In m T) → ((T : Ty) → In m T → In l T) → total l ≡ total m
  total_same l m d e g h = let a = total_within f l m d g in let b = total_within f m l e h in omega (arith, a, b)

  -- the members that pass a test and those that do not
  total_split : (p : Ty → Bool) (l : List Ty) → total l ≡ total (filter p l) + total (filter (λ T. not (p T)) l)
  total_split p [] = refl
  total_split p (T ∷ l) =
      let ih = total_split p l in
      elim (cases_Bool (p T)) [
        | inl e ↦
            let yes : filter p (T ∷ l) ≡ T ∷ filter p l = filter_yes p T l e in
            let no : filter (λ T. not (p T)) (T ∷ l) ≡ filter (λ T. not (p T)) l = filter_no (λ T. not (p T)) T l (ap not e) in
            sum_by-cons (λ x. x) (f T) (map f l) ∙ omega (arith, ih, ap total yes, ap total no, sum_by-cons (λ x. x) (f T) (map f (filter p l)))
        | inr e ↦
            let no : filter p (T ∷ l) ≡ filter p l = filter_no p T l e in
            let yes : filter (λ T. not (p T)) (T ∷ l) ≡ T ∷ filter (λ T. not (p T)) l = filter_yes (λ T. not (p T)) T l (ap not e) in
            sum_by-cons (λ x. x) (f T) (map f l) ∙ omega (arith, ih, ap total yes, ap total no, sum_by-cons (λ x. x) (f T) (map f (filter (λ T. not (p T)) l)))
      ]

-- no cells beside those of some types: what a type that is not in the list costs does not count
module _ (s : Site) (functors : List Presheaf) where
  abbrev cost_of : Ty → ℕ
  cost_of = cells_of s functors

  abbrev numbered : List Ty
  numbered = map Base (range_with_len 0 (length functors))

  -- a list that has more types costs no less
  pub types_within : (l m : List Ty) → ((T : Ty) → In l T → is_named T ≡ false → In m T) → types_cells s functors l ≤ types_cells s functors m
  unfolding types_cells
  types_within l m h =
      total_within cost_of (filter unnamed (without_repeats l)) (filter unnamed (without_repeats m)) (Distinct-filter unnamed (without_repeats l) (Distinct-once l)) (λ T i.
      let r = In-filter_from unnamed (without_repeats l) T i in
      In-filter unnamed (without_repeats m) T (In-once m T (h T (once_In l T r.0) (unnamed_from (is_named T) r.1))) r.1)

  numbered_cells : (front back : List Presheaf) → functors ≡ front ++ back → sum (map cost_of (map Base (range_with_len (length front) (length back)))) ≡ sum (map (presheaf_cells s.category) back)
  numbered_cells front [] e = refl
  numbered_cells front (X ∷ back) e =
      let here : cost_of (Base (length front)) ≡ presheaf_cells s.category X =
      base_cells s functors (length front) ∙ ap (presheaf_cells s.category) (ap (λ l. get_or l (length front) (record { sizes = []; along = [] })) e ∙ get_or-append_seam front X back (record { sizes = []; along = [] })) in
      let longer : length (front ++ X ∷ []) ≡ length front + 1 = length_push front X in
      let ih = numbered_cells (front ++ X ∷ []) back (e ∙ sym (append_assoc front (X ∷ []) back)) in
      let rest : sum (map cost_of (map Base (range_with_len (length front + 1) (length back)))) ≡ sum (map (presheaf_cells s.category) back) =
      ap (λ n. sum (map cost_of (map Base (range_with_len n (length back))))) (sym longer) ∙ ih in
      sum_by-cons (λ x. x) (cost_of (Base (length front))) (map cost_of (map Base (range_with_len (length front + 1) (length back))))
      ∙ omega (arith, here, rest, sum_by-cons (λ x. x) (presheaf_cells s.category X) (map (presheaf_cells s.category) back))

  -- the types of a store that holds the presheaves, each once
  module _ (store : Store) (faithful : IsFaithful s functors store) (distinct : Distinct (keys store.sealed)) (held : (n : ℕ) → n < length functors → Holds store (Base n)) where
    abbrev all : List Ty
    all = keys store.sealed

    base_in : (T : Ty) → In (filter is_named all) T → In numbered T
    base_in T i =
        let r = In-filter_from is_named all T i in
        let e = named_is T r.1 in
        let there = in_holds store T r.0 in
        let low = (faithful.named (named T) (subst (Holds store) e there)).0 in
        subst (In numbered) (sym e) (In-map Base (range_with_len 0 (length functors)) (named T) (In-range 0 (length functors) (named T) (omega arith) (omega (arith, low))))

    in_base : (T : Ty) → In numbered T → In (filter is_named all) T
    in_base T i =
        let (n, j, e) = In-map_from Base (range_with_len 0 (length functors)) T i in
        let low = (In-range_from 0 (length functors) n j).1 in
        subst (In (filter is_named all)) e (In-filter is_named all (Base n) (holds_in store (Base n) (held n (omega (arith, low)))) (is_named-Base n))

    Distinct-numbered : Distinct numbered
    Distinct-numbered = Distinct-map Base (range_with_len 0 (length functors)) (λ m n e. sym (named-Base m) ∙ ap named e ∙ named-Base n) (Distinct-range 0 (length functors))

    named_part : total cost_of (filter is_named all) ≡ sum (map (presheaf_cells s.category) functors)
    named_part = total_same cost_of (filter is_named all) numbered (Distinct-filter is_named all distinct) Distinct-numbered base_in in_base ∙ numbered_cells [] functors refl

    unnamed_part : total cost_of (filter unnamed all) ≡ types_cells s functors all
    unfolding types_cells
    unnamed_part =
        total_same cost_of (filter unnamed all) (filter unnamed (without_repeats all)) (Distinct-filter unnamed all distinct) (Distinct-filter unnamed (without_repeats all) (Distinct-once all))
        (λ T i. let r = In-filter_from unnamed all T i in In-filter unnamed (without_repeats all) T (In-once all T r.0) r.1)
        (λ T i. let r = In-filter_from unnamed (without_repeats all) T i in In-filter unnamed all T (once_In all T r.0) r.1)

    costs_match : (store.building ≡ None) → cells store ≡ counted_cells s functors (keys store.sealed) store.charges
    unfolding cells counted_cells cost_built
    costs_match idle =
        let each : cost_sealed store.ends store.sealed ≡ total cost_of all =
        costs_are store.ends cost_of store.sealed (λ j low. ap (λ ends. cost ends (functor_at store.sealed j)) faithful.ends ∙ cost_is s functors (functor_at store.sealed j).key (functor_at store.sealed j) (faithful.held j low)) in
        let none : cost_built store.ends store.building ≡ 0 = ap (cost_built store.ends) idle in
        omega (arith, each, none, total_split cost_of is_named all, named_part, unnamed_part)

    held_in_keys : (T : Ty) → is_held store T ≡ true → In all T
    unfolding is_held keys
    held_in_keys T e = let m = any_some (λ F. same_type T F.key) store.sealed e in subst (In all) (sym (same_types_are_equal T m.0.key m.2)) (In-map (λ F. F.key) store.sealed m.0 m.1)

    -- the cells of what is wanted besides
    pub more_cells : (types : List Ty) → ((n : ℕ) → In types (Base n) → n < length functors) → store.building ≡ None →
        cells store + new_cells s functors store types ≡ counted_cells s functors (keys store.sealed ++ types) store.charges
    unfolding new_cells counted_cells types_cells
    more_cells types names idle =
        let fresh = filter (λ T. not (is_held store T)) (without_repeats types) in
        let both = filter unnamed (without_repeats (all ++ types)) in
        let not_named : (T : Ty) → In fresh T → is_named T ≡ false = λ T i. fresh_unnamed types names T i in
        let same : total cost_of (filter unnamed all ++ fresh) ≡ total cost_of both =
        total_same cost_of (filter unnamed all ++ fresh) both
        (Distinct-append (filter unnamed all) fresh (Distinct-filter unnamed all distinct) (Distinct-filter (λ T. not (is_held store T)) (without_repeats types) (Distinct-once types)) (λ T i j.
        free_not store.sealed T (held_free store T (In-filter_from (λ T. not (is_held store T)) (without_repeats types) T j).1) (In-filter_from unnamed all T i).0))
        (Distinct-filter unnamed (without_repeats (all ++ types)) (Distinct-once (all ++ types)))
        (λ T i. elim (In-append_cases (filter unnamed all) fresh T i) [
          | inl a ↦ let r = In-filter_from unnamed all T a in In-filter unnamed (without_repeats (all ++ types)) T (In-once (all ++ types) T (In-append_left all types T r.0)) r.1
          | inr b ↦
              let r = In-filter_from (λ T. not (is_held store T)) (without_repeats types) T b in
              In-filter unnamed (without_repeats (all ++ types)) T (In-once (all ++ types) T (In-append_right all types T (once_In types T r.0))) (ap not (not_named T b))
        ])
        (λ T i.
        let r = In-filter_from unnamed (without_repeats (all ++ types)) T i in
        elim (In-append_cases all types T (once_In (all ++ types) T r.0)) [
          | inl a ↦ In-append_left (filter unnamed all) fresh T (In-filter unnamed all T a r.1)
          | inr b ↦ here_or_fresh types T b r.1
        ]) in
        let parts = total-append cost_of (filter unnamed all) fresh in
        omega (arith, costs_match idle, unnamed_part, parts, same)
      where
        fresh_unnamed : (types : List Ty) → ((n : ℕ) → In types (Base n) → n < length functors) → (T : Ty) → In (filter (λ T. not (is_held store T)) (without_repeats types)) T → is_named T ≡ false
        fresh_unnamed types names T i =
            let r = In-filter_from (λ T. not (is_held store T)) (without_repeats types) T i in
            elim (cases_Bool (is_named T)) [
              | inl e ↦
                  let is = named_is T e in
                  let there = held (named T) (names (named T) (subst (In types) is (once_In types T r.0))) in
                  let free = held_free store T r.1 in
                  absurd (free there.0 there.1 (there.2 ∙ sym is))
              | inr e ↦ e
            ]

        here_or_fresh : (types : List Ty) (T : Ty) → In types T → unnamed T ≡ true → In (filter unnamed all ++ filter (λ T. not (is_held store T)) (without_repeats types)) T
        here_or_fresh types T i u =
            elim (cases_Bool (is_held store T)) [
              | inl e ↦
                  let there : In all T = held_in_keys T e in
                  In-append_left (filter unnamed all) (filter (λ T. not (is_held store T)) (without_repeats types)) T (In-filter unnamed all T there u)
              | inr e ↦ In-append_right (filter unnamed all) (filter (λ T. not (is_held store T)) (without_repeats types)) T (In-filter (λ T. not (is_held store T)) (without_repeats types) T (In-once types T i) (ap not e))
            ]

-- the types that are seen are the sealed ones that name no presheaf
pub seen_in : (store : Store) (T : Ty) → Holds store T → is_named T ≡ false → In (types_in store) T
unfolding types_in
seen_in store T there u = In-filter unnamed (keys store.sealed) T (holds_in store T there) (ap not u)

pub in_seen : (store : Store) (T : Ty) → In (types_in store) T → Holds store T × (is_named T ≡ false)
unfolding types_in
in_seen store T i = let r = In-filter_from unnamed (keys store.sealed) T i in (in_holds store T r.0, unnamed_from (is_named T) r.1)

module _ (v : InStore) (h : IsInStore v) where
  -- presheaves count by themselves
  seen_cells : (types : List Ty) → counted_cells v.site v.functors (keys v.store.sealed ++ types) v.store.charges ≡ counted_cells v.site v.functors (types_in v.store ++ types) v.store.charges
  unfolding counted_cells
  seen_cells types =
      let a = keys v.store.sealed ++ types in
      let b = types_in v.store ++ types in
      let more = types_within v.site v.functors a b (λ T i u. elim (In-append_cases (keys v.store.sealed) types T i) [
        | inl there ↦ In-append_left (types_in v.store) types T (seen_in v.store T (in_holds v.store T there) u)
        | inr j ↦ In-append_right (types_in v.store) types T j
      ]) in
      let less = types_within v.site v.functors b a (λ T i u. elim (In-append_cases (types_in v.store) types T i) [
        | inl there ↦ In-append_left (keys v.store.sealed) types T (holds_in v.store T (in_seen v.store T there).0)
        | inr j ↦ In-append_right (keys v.store.sealed) types T j
      ]) in
      omega (arith, more, less)

  -- the cells of a world in its store
  pub cells_exact : cells v.store ≡ world_cells (seen v)
  cells_exact =
      costs_match v.site v.functors v.store h.faithful h.distinct h.named h.idle
      ∙ ap (λ l. counted_cells v.site v.functors l v.store.charges) (sym (append-nil (keys v.store.sealed))) ∙ seen_cells [] ∙ ap (λ l. counted_cells v.site v.functors l v.store.charges) (append-nil (types_in v.store))

  -- and with what is wanted besides
  pub cells_wanted : (types : List Ty) → ((n : ℕ) → In types (Base n) → n < length v.functors) → cells v.store + new_cells v.site v.functors v.store types ≡ cells_with (seen v) types
  cells_wanted types names = more_cells v.site v.functors v.store h.faithful h.distinct h.named types names h.idle ∙ seen_cells types

  -- a presheaf more adds its own cells, since no sealed type names it
  pub next_cells : (X : Presheaf) → world_cells (with_presheaf (seen v) X) ≡ world_cells (seen v) + presheaf_cells v.site.category X
  unfolding counted_cells types_cells
  next_cells X =
      let later : (T : Ty) → In (filter unnamed (without_repeats (types_in v.store))) T → cells_of v.site (v.functors ++ X ∷ []) T ≡ cells_of v.site v.functors T =
      λ T i. let r = In-filter_from unnamed (without_repeats (types_in v.store)) T i in sym (cells_later v.site v.functors (X ∷ []) v.store T h.faithful (in_seen v.store T (once_In (types_in v.store) T r.0)).0) in
      let types : types_cells v.site (v.functors ++ X ∷ []) (types_in v.store) ≡ types_cells v.site v.functors (types_in v.store) = ap sum (map_same _ _ (filter unnamed (without_repeats (types_in v.store))) later) in
      let more : sum (map (presheaf_cells v.site.category) (v.functors ++ X ∷ [])) ≡ sum (map (presheaf_cells v.site.category) v.functors) + presheaf_cells v.site.category X =
      ap sum (map-append (presheaf_cells v.site.category) v.functors (X ∷ [])) ∙ sum_by-append (λ x. x) (map (presheaf_cells v.site.category) v.functors) (presheaf_cells v.site.category X ∷ []) ∙ alone (sum (map (presheaf_cells v.site.category) v.functors)) (presheaf_cells v.site.category X) in
      omega (arith, types, more)
    where
      alone : (a b : ℕ) → a + sum (b ∷ []) ≡ a + b
      alone a b = omega arith
