-- How a world in a store grows.
use Rattle.std.proofs.Common.{◌≡◌, ◌⊎◌, ℕ, ◌+◌, ◌<◌, ◌≤◌, true, false, cond, not, inl, inr, List, [], ◌∷◌, ◌++◌, length, get_or, take, drop, map, filter, sum, Option, None, Some, is_some, MatchOption, Result, Ok, Err, refl, sym, ap, subst, ◌∙◌, arith}
use Rattle.std.specs.Prelude.{OnOk, OnErr}
use Rattle.std.proofs.lemmas.Bool.{cases_lt, false≢true}
use Rattle.std.specs.List.{flat_map}
use Rattle.std.proofs.lemmas.Grind.{flat_map-append}
use Rattle.std.proofs.lemmas.List.Elements.{filter-append}
use Rattle.std.proofs.lemmas.List.{length_push, take_more, append-nil, append_assoc, take-append-drop}
use Rattle.finite_lists.specs.Members.{In, Distinct}
use Rattle.finite_lists.proofs.Lists.{In-append_left, In-append_right, In-append_cases, In-filter_from, In-flat_map, In_at}
use Rattle.finite_lists.proofs.DistinctLists.{Distinct-append}
use Rattle.topos_model.specs.declared.ty.Ty.{Ty, Base}
use Rattle.topos_model.specs.topologies.Cover.{Site}
use Rattle.topos_model.specs.types.Types.{Presheaf}
use Rattle.topos_model.specs.statements.Needs.{parts}
use Rattle.topos_model.specs.statements.Cells.{cells_of, is_named, without_repeats}
use Rattle.topos_model.proofs.FormEquations.{is_named-Base}
use Rattle.functor_store.specs.declared.fault.StoreFault.{StoreFault}
use Rattle.functor_store.specs.declared.fault.StoreFault.TheVariants.{Over, NoMemory}
use Rattle.functor_store.specs.Store.{Store, cells, IsFreeKey}
use Rattle.functor_store.specs.Faithful.{Holds, IsFaithful}
use Rattle.functor_store.proofs.Faithful.{faithful_empty, faithful_kept, held_before, held_last}
use Rattle.sealed_functors.specs.Rows.{IsOverExactly}
use Rattle.type_rows.specs.TypeRows.{IsAdded}
use Rattle.exponentials.specs.Needed.{keys, new_cells, HoldsAll, IsExtended}
use Rattle.exponentials.proofs.Extended.{free_held, held_after, keys-append, free_not, idle_after}
use Rattle.sealed_world.specs.SealedWorlds.{CountedWorld, InStore, IsInStore, bare_world, types_in, seen, counted_cells, world_cells, cells_with, with_presheaf, with_charges, IsGrown, IsGrownBy, HasTypes, IsStoreOf}
use Rattle.sealed_world.proofs.CountedCells.{types_within, unnamed_from, seen_in, in_seen, cells_wanted}

-- a fault is `Over` in one case exactly if in another
pub over_same : {A : Type 0} (r : Result A StoreFault) (P Q : Type 0) → (P → Q) → (Q → P) → IsOverExactly r P → IsOverExactly r Q
over_same (Ok x) P Q f g h = λ q. h (g q)
over_same (Err Over) P Q f g h = f h
over_same (Err NoMemory) P Q f g h = tt

-- a store without functors
abbrev pub bare_store : Site → ℕ → Store
bare_store s budget = record { objects = s.category.objects; ends = s.category.ends; budget = budget; charges = 0; sealed = []; building = None }

-- what is seen, a part at a time
seen_is : (s : Site) (fs : List Presheaf) (types types' : List Ty) (c c' b b' : ℕ) → types ≡ types' → c ≡ c' → b ≡ b' →
    ◌≡◌ {A = CountedWorld} (record { site = s; functors = fs; types = types; charges = c; budget = b }) (record { site = s; functors = fs; types = types'; charges = c'; budget = b' })
seen_is s fs types types' c c' b b' e f g = rw (e, f, g) refl

-- charges change no type
pub charged_or_not : {A E : Type 0} (P Q : Type 0) (w : InStore) (more : ℕ) (new : Store) (r : Result A E) → OnOk r ((new ≡ record w.store { charges = w.store.charges + more }) × P) → OnErr r ((new ≡ w.store) × Q) → IsInStore w → IsInStore (record w { store = new })
charged_or_not P Q w more new (Ok x) ok err h =
    subst (λ t. IsInStore (record w { store = t })) (sym ok.0)
    (record { idle = h.idle; faithful = faithful_kept w.site w.functors w.store (w.store.charges + more) w.store.building h.faithful; distinct = h.distinct; named = h.named })
charged_or_not P Q w more new (Err x) ok err h = subst (λ t. IsInStore (record w { store = t })) (sym err.0) h

pub charged_types : {A E : Type 0} (P Q : Type 0) (w : InStore) (more : ℕ) (new : Store) (r : Result A E) → OnOk r ((new ≡ record w.store { charges = w.store.charges + more }) × P) → OnErr r ((new ≡ w.store) × Q) → types_in new ≡ types_in w.store
unfolding types_in
charged_types P Q w more new (Ok x) ok err = ap types_in ok.0
charged_types P Q w more new (Err x) ok err = ap types_in err.0

pub charged_seen : (w : InStore) (more : ℕ) → seen (record w { store = record w.store { charges = w.store.charges + more } }) ≡ with_charges (seen w) more
unfolding types_in
charged_seen w more = refl

-- types were added
module _ (w : InStore) (types : List Ty) (new : Store) (h : IsInStore w) (e : IsExtended types w.store new) where
  added_distinct : Distinct (keys new.sealed)
  added_distinct =
      subst (λ l. Distinct l) (sym (ap (λ (t : Store). keys t.sealed) e.store_is ∙ keys-append w.store.sealed e.added))
      (Distinct-append (keys w.store.sealed) (keys e.added) h.distinct e.distinct (λ T i j. free_not w.store.sealed T (e.fresh T j).1 i))

  pub extended_world : IsFaithful w.site w.functors new → IsInStore (record w { store = new })
  extended_world faithful = record {
    idle = idle_after types w.store new e h.idle;
    faithful = faithful;
    distinct = added_distinct;
    named = λ n low. held_after types w.store new e (Base n) (h.named n low);
  }

  types_added : types_in new ≡ types_in w.store ++ filter (λ T. not (is_named T)) (keys e.added)
  unfolding types_in
  types_added =
      ap (filter (λ T. not (is_named T))) (ap (λ (t : Store). keys t.sealed) e.store_is ∙ keys-append w.store.sealed e.added) ∙ filter-append (λ T. not (is_named T)) (keys w.store.sealed) (keys e.added)

  pub extended_grown : IsGrown types (seen w) (seen (record w { store = new }))
  extended_grown = record {
    added = filter (λ T. not (is_named T)) (keys e.added);
    is = seen_is w.site w.functors (types_in new) _ new.charges w.store.charges new.budget w.store.budget types_added (ap (λ (t : Store). t.charges) e.store_is) (ap (λ (t : Store). t.budget) e.store_is);
    only = λ T i. let r = In-filter_from (λ T. not (is_named T)) (keys e.added) T i in ((e.fresh T r.0).0, unnamed_from (is_named T) r.1);
  }

  pub extended_all : HoldsAll new types → HasTypes types (seen (record w { store = new }))
  extended_all held T i u = seen_in new T (held T i) u

-- one type was added
module _ (w : InStore) (T : Ty) (new : Store) (added : IsAdded T w.store new) where
  one_kept : (U : Ty) → Holds w.store U → Holds new U
  one_kept U there = subst (λ (t : Store). Holds t U) (sym added.2) (held_before w.site w.functors w.store added.0 U there)

  one_held : Holds new T
  one_held = subst (Holds new) added.1 (subst (λ (t : Store). Holds t added.0.key) (sym added.2) (held_last w.site w.functors w.store added.0))

  one_keys : keys new.sealed ≡ keys w.store.sealed ++ T ∷ []
  unfolding keys
  one_keys = ap (λ (t : Store). keys t.sealed) added.2 ∙ keys-append w.store.sealed (added.0 ∷ []) ∙ ap (λ U. keys w.store.sealed ++ U ∷ []) added.1

  one_types : types_in new ≡ types_in w.store ++ filter (λ T. not (is_named T)) (T ∷ [])
  unfolding types_in
  one_types = ap (filter (λ T. not (is_named T))) one_keys ∙ filter-append (λ T. not (is_named T)) (keys w.store.sealed) (T ∷ [])

  one_distinct : Distinct (keys w.store.sealed) → IsFreeKey w.store.sealed T → Distinct (keys new.sealed)
  one_distinct d free =
      subst (λ l. Distinct l) (sym one_keys)
      (Distinct-append (keys w.store.sealed) (T ∷ []) d ((λ n. n), tt) (λ U i j. elim j [ inl e ↦ free_not w.store.sealed T free (subst (In (keys w.store.sealed)) (sym e) i) | inr n ↦ n ]))

  pub one_world : IsInStore w → IsFreeKey w.store.sealed T → IsFaithful w.site w.functors new → IsInStore (record w { store = new })
  one_world h free faithful = record {
    idle = ap (λ (t : Store). t.building) added.2 ∙ h.idle;
    faithful = faithful;
    distinct = one_distinct h.distinct free;
    named = λ n low. one_kept (Base n) (h.named n low);
  }

  pub one_grown : is_named T ≡ false → IsGrownBy (T ∷ []) (seen w) (seen (record w { store = new }))
  one_grown u =
      let is : types_in new ≡ types_in w.store ++ T ∷ [] = one_types ∙ ap (λ b. types_in w.store ++ cond (not b) (T ∷ []) []) u in
      record {
        grown = record {
          added = T ∷ [];
          is = seen_is w.site w.functors (types_in new) _ new.charges w.store.charges new.budget w.store.budget is (ap (λ (t : Store). t.charges) added.2) (ap (λ (t : Store). t.budget) added.2);
          only = λ U i. elim i [ inl e ↦ (inl e, sym (ap is_named e) ∙ u) | inr n ↦ absurd n ];
        };
        all = λ U i n. seen_in new U (elim i [ inl e ↦ subst (Holds new) e one_held | inr n ↦ absurd n ]) n;
      }

  -- of a presheaf nothing is seen beside itself
  pub next_seen : (X : Presheaf) → T ≡ Base (length w.functors) → seen (record { site = w.site; functors = w.functors ++ X ∷ []; store = new }) ≡ with_presheaf (seen w) X
  next_seen X e =
      let is : types_in new ≡ types_in w.store = one_types ∙ ap (λ b. types_in w.store ++ cond (not b) (T ∷ []) []) (ap is_named e ∙ is_named-Base (length w.functors)) ∙ append-nil (types_in w.store) in
      seen_is w.site (w.functors ++ X ∷ []) (types_in new) (types_in w.store) new.charges w.store.charges new.budget w.store.budget is (ap (λ (t : Store). t.charges) added.2) (ap (λ (t : Store). t.budget) added.2)

  pub next_world : (X : Presheaf) → T ≡ Base (length w.functors) → IsInStore w → IsFreeKey w.store.sealed T → IsFaithful w.site (w.functors ++ X ∷ []) new → IsInStore (record { site = w.site; functors = w.functors ++ X ∷ []; store = new })
  next_world X e h free faithful = record {
    idle = ap (λ (t : Store). t.building) added.2 ∙ h.idle;
    faithful = faithful;
    distinct = one_distinct h.distinct free;
    named = λ n low. elim (cases_lt n (length w.functors)) [
      | inl before ↦ one_kept (Base n) (h.named n before)
      | inr past ↦
          let last : n ≡ length w.functors = omega (arith, low, past, length_push w.functors X) in
          subst (Holds new) (e ∙ ap Base (sym last)) one_held
    ];
  }

-- the next number is free
pub next_is_free : (w : InStore) → IsInStore w → IsFreeKey w.store.sealed (Base (length w.functors))
next_is_free w h = λ i low e. let r = h.faithful.named (length w.functors) (i, low, e) in omega (arith, r.0)

-- growth, one after another
module _ (types : List Ty) (old : CountedWorld) where
  pub not_grown : IsGrown types old old
  not_grown = record { added = []; is = ap (λ l. record old { types = l }) (sym (append-nil old.types)); only = λ T h. absurd h }

  pub grown_more : (more : List Ty) (new : CountedWorld) → ((T : Ty) → In types T → In more T) → IsGrown types old new → IsGrown more old new
  grown_more more new f h = record { added = h.added; is = h.is; only = λ T i. let r = h.only T i in (f T r.0, r.1) }

  pub grown_on : (mid new : CountedWorld) → IsGrown types old mid → IsGrown types mid new → IsGrown types old new
  grown_on mid new h k = record {
    added = h.added ++ k.added;
    is = k.is ∙ ap (λ (w : CountedWorld). record w { types = w.types ++ k.added }) h.is ∙ ap (λ l. record old { types = l }) (append_assoc old.types h.added k.added);
    only = λ T i. elim (In-append_cases h.added k.added T i) [ inl a ↦ h.only T a | inr b ↦ k.only T b ];
  }

  pub grown_keeps : (new : CountedWorld) → IsGrown types old new → (T : Ty) → In old.types T → In new.types T
  grown_keeps new h T i = subst (λ (w : CountedWorld). In w.types T) (sym h.is) (In-append_left old.types h.added T i)

  pub grown_only : (new : CountedWorld) → IsGrown types old new → (T : Ty) → In new.types T → In old.types T ⊎ In types T
  grown_only new h T i =
      elim (In-append_cases old.types h.added T (subst (λ (w : CountedWorld). In w.types T) h.is i)) [ inl a ↦ inl a | inr b ↦ inr (h.only T b).0 ]

-- a world that has grown by some types costs no more with some than before with all of them, and no less where none is left out
module _ (here types more : List Ty) (old new : CountedWorld) (h : IsGrown here old new) where
  same_but : counted_cells new.site new.functors (new.types ++ types) new.charges ≡ counted_cells old.site old.functors (new.types ++ types) old.charges
  same_but = ap (λ (w : CountedWorld). counted_cells w.site w.functors (new.types ++ types) w.charges) h.is

  pub no_more : ((T : Ty) → In here T → In more T) → ((T : Ty) → In types T → In more T) → cells_with new types ≤ cells_with old more
  unfolding counted_cells
  no_more f g =
      let within = types_within old.site old.functors (new.types ++ types) (old.types ++ more) (λ T i u. elim (In-append_cases new.types types T i) [
        | inl there ↦ elim (grown_only here old new h T there) [
          | inl before ↦ In-append_left old.types more T before
          | inr j ↦ In-append_right old.types more T (f T j)
        ]
        | inr j ↦ In-append_right old.types more T (g T j)
      ]) in
      omega (arith, same_but, within)

  pub no_less : ((T : Ty) → In more T → is_named T ≡ false → In new.types T ⊎ In types T) → cells_with old more ≤ cells_with new types
  unfolding counted_cells
  no_less f =
      let within = types_within old.site old.functors (old.types ++ more) (new.types ++ types) (λ T i u. elim (In-append_cases old.types more T i) [
        | inl there ↦ In-append_left new.types types T (grown_keeps here old new h T there)
        | inr j ↦ elim (f T j u) [
          | inl held ↦ In-append_left new.types types T held
          | inr k ↦ In-append_right new.types types T k
        ]
      ]) in
      omega (arith, same_but, within)

  pub budget_kept : new.budget ≡ old.budget
  budget_kept = ap (λ (w : CountedWorld). w.budget) h.is

-- types that are there cost nothing more
pub nothing_more : (w : CountedWorld) (types : List Ty) → HasTypes types w → cells_with w types ≤ world_cells w
unfolding counted_cells
nothing_more w types held =
    let within = types_within w.site w.functors (w.types ++ types) w.types (λ T i u. elim (In-append_cases w.types types T i) [
      | inl there ↦ there
      | inr j ↦ held T j u
    ]) in
    omega (arith, within)

-- what is not there costs its cells
pub with_new_type : (w : InStore) (T : Ty) → IsInStore w → is_named T ≡ false → IsFreeKey w.store.sealed T → cells w.store + cells_of w.site w.functors T ≡ cells_with (seen w) (T ∷ [])
unfolding new_cells without_repeats
with_new_type w T h u free =
    let alone : new_cells w.site w.functors w.store (T ∷ []) ≡ cells_of w.site w.functors T =
    ap (λ b. sum (map (cells_of w.site w.functors) (cond b (T ∷ []) []))) (free_held w.store T free) ∙ omega arith in
    let more = cells_wanted w h (T ∷ []) (λ n i. elim i [ inl e ↦ absurd (false≢true (sym u ∙ ap is_named e ∙ is_named-Base n)) | inr none ↦ absurd none ]) in
    omega (arith, alone, more)

-- the same for a fault, whatever else a call gives
pub over_kept : (A B : Type 0) (fault : StoreFault) (P Q : Type 0) → (P → Q) → IsOverExactly {A = A} (Err fault) P → IsOverExactly {A = B} (Err fault) Q
over_kept A B Over P Q f h = f h
over_kept A B NoMemory P Q f h = tt

-- where a search found nothing, or something
pub found_none : (A : Type 0) (B : ℕ → Type 0) (o : Option ℕ) → MatchOption o A B → is_some o ≡ false → A
found_none A B None h e = h
found_none A B (Some x) h e = absurd (false≢true (sym e))

pub found_some : (A : Type 0) (B : ℕ → Type 0) (o : Option ℕ) → MatchOption o A B → is_some o ≡ true → (id : ℕ) × B id
found_some A B None h e = absurd (false≢true e)
found_some A B (Some x) h e = (x, h)

-- a world lies in its store
pub lies_in : (w : InStore) → IsInStore w → IsStoreOf (seen w) w.store
lies_in w h = record { idle = h.idle; faithful = h.faithful; presheaves = h.named; types = λ T i. (in_seen w.store T i).0 }

-- a site without presheaves
pub bare_in_store : (s : Site) (budget : ℕ) → IsInStore (record { site = s; functors = []; store = bare_store s budget })
unfolding keys
bare_in_store s budget = record { idle = refl; faithful = faithful_empty s [] budget 0 None; distinct = tt; named = λ n low. absurd (omega (arith, low)) }

pub bare_seen : (s : Site) (budget : ℕ) → seen (record { site = s; functors = []; store = bare_store s budget }) ≡ bare_world s budget
unfolding types_in keys
bare_seen s budget = refl

-- the types of a list, one after another
module _ (types : List Ty) (i : ℕ) (T : Ty) (low : i < length types) (is : T ≡ get_or types i T) where
  pub next_parts : flat_map parts (take (i + 1) types) ≡ flat_map parts (take i types) ++ parts T
  next_parts =
      ap (flat_map parts) (take_more types i T low ∙ ap (λ U. take i types ++ U ∷ []) (sym is)) ∙ flat_map-append parts (take i types) (T ∷ [])
      ∙ ap (λ l. flat_map parts (take i types) ++ l) (append-nil (parts T))

  pub parts_among : (U : Ty) → In (parts T) U → In (flat_map parts types) U
  parts_among U j = In-flat_map parts types T U (subst (In types) (sym is) (In_at types i T low)) j

pub first_among : (types : List Ty) (i : ℕ) (U : Ty) → In (flat_map parts (take i types)) U → In (flat_map parts types) U
first_among types i U j =
    subst (λ l. In (flat_map parts l) U) (take-append-drop i types)
    (subst (λ l. In l U) (sym (flat_map-append parts (take i types) (drop i types))) (In-append_left (flat_map parts (take i types)) (flat_map parts (drop i types)) U j))
