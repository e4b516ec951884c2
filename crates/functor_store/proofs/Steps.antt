-- What each step does to the fields of a store.
use Rattle.std.proofs.Common.{◌≡◌, ℕ, ◌+◌, ◌-◌, ◌<◌, ◌≤◌, List, [], ◌∷◌, ◌++◌, length, get_or, take, replicate, refl, sym, ap, subst, ◌∙◌, arith, Option, Some, None, BuildHasherDefault, FoldHasher}
use Rattle.std.specs.List.{sum_by}
use Rattle.std.specs.Vec.{with_items}
use Rattle.std.proofs.lemmas.List.{length_push, length-take-le, take_all, take-append-le, with_items_is}
use Rattle.std.proofs.lemmas.List.Sums.{sum_by_push}
use Rattle.indexmap.specs.IndexMap.{IndexMap, spare}
use Rattle.topos_model.specs.declared.ty.Ty.{Ty}
use Rattle.std.specs.declared.vec.Vec.{Vec}
use Rattle.std.specs.declared.alloc.Global.{Global}
use Rattle.row_arena.specs.Arena.{Rows}
use Rattle.functor_store.specs.declared.store.Part.{Part}
use Rattle.functor_store.specs.declared.store.FunctorStore.TheInside.{Inside}
use Rattle.functor_store.specs.Groups.{groups, IsCutTo, start, last, raised, IsFilled}
use Rattle.functor_store.specs.Store.{Functor, Store, into, place, cost_from, cost, cost_built, cost_sealed, cells, push_at, bare, with_row, with_restrictions, sealed_with, IsFreeKey, IsDistinct, IsNext, IsFirstOpen, IsWhole, IfBuilding}
use Rattle.functor_store.specs.Fields.{functor_of, sealed_of, building_of, ends_built, sealed_in, built_in, AreParts, IsBuilt, IsOpen, HasRoom, IsFree, HasWidths, HasWidthsBuilt, AreSealed, due_from, due, IsTables, IsStore, view}
use Rattle.functor_store.proofs.Groups.{cut_more, cut_end, groups_push, groups_open, groups_none, cut_push, cut_none, open_at, full, length-groups, length-raised, cut_within, none_there, groups_past, last_none, raised_all, raised_twice, filled_to_end}
use Rattle.functor_store.proofs.Held.{parts_more, parts_push, sealed_rows, sealed_restrictions, sealed_cut, sealed_push, distinct_push, sealed_more, cost_sealed_push, cost_push, cost_none, due_none, due_element, due_restrictions, widths_none, widths_push}

abbrev pub Parts : Type 0
Parts = IndexMap Ty Part (BuildHasherDefault FoldHasher)

pub cells_are : (a : Inside) → IsStore a → a.cells ≡ cells (view a)
unfolding cells
cells_are a h = let s = h.sealed_cells in let t = h.cells in omega arith

base_within : (key : Option Ty) (objects base : ℕ) (ends : List ℕ) (m n : ℕ) → IsOpen key objects base ends m n → (base ≤ n) × (n ≤ m)
unfolding IsOpen
base_within None objects base ends m n h = (omega arith, omega arith)
base_within (Some key) objects base ends m n h = (h.restricted, h.within)

pub base_in : (a : Inside) → IsStore a → (a.base ≤ length a.restrictions.rows) × (length a.restrictions.rows ≤ length a.rows.rows)
base_in a h = base_within a.key a.objects a.base (ends_built a) (length a.rows.rows) (length a.restrictions.rows) h.opened

-- what the arenas hold is within the budget
pub few_rows : (a : Inside) → IsStore a → length a.rows.rows ≤ 64_000_000
few_rows a h = let s = h.held_built in let t = h.within in let u = h.bounded in omega arith

-- the view from its two parts that change
abbrev shown : Inside → List Functor → Option Functor → Store
shown a s b = record { objects = a.objects; ends = a.ends; budget = a.budget; charges = a.charges; sealed = s; building = b }

-- restrictions
record Restricted (E : List (ℕ × ℕ)) (key : Option Ty) (objects base : ℕ) (ends : List ℕ) (rows restr : List (List ℕ)) (c : ℕ) (row : List ℕ) : Type 0 where
  opened : IsOpen key objects base ends (length rows) (length restr + 1)
  building : building_of key base ends rows (restr ++ row ∷ []) ≡ with_restrictions (building_of key base ends rows restr) c row
  costs : cost_built E (building_of key base ends rows (restr ++ row ∷ [])) ≡ cost_built E (building_of key base ends rows restr)
  dues : due E (building_of key base ends rows (restr ++ row ∷ [])) + into E c ≡ due E (building_of key base ends rows restr)
  widths : HasWidthsBuilt E (building_of key base ends rows (restr ++ row ∷ []))

restricted : (E : List (ℕ × ℕ)) (key : Option Ty) (objects base : ℕ) (ends : List ℕ) (rows restr : List (List ℕ)) (c k : ℕ) (row : List ℕ) → IsOpen key objects base ends (length rows) (length restr) → c < objects → IfBuilding (building_of key base ends rows restr) (λ f. IsFirstOpen f c k) → HasWidthsBuilt E (building_of key base ends rows restr) → length row ≡ into E c → Restricted E key objects base ends rows restr c row
unfolding IsOpen building_of with_restrictions functor_of cost_built cost due HasWidthsBuilt
restricted E None objects base ends rows restr c k row h l f w e = absurd f
restricted E (Some key) objects base ends rows restr c k row h l f w e =
    let l' : c < length ends = let e = h.length_is in omega arith in
    let o = open_at c k base ends rows restr h.cut l' h.restricted f.before f.here f.open_here in
    let p : start base ends c + k ≡ length restr = o.0 in
    let q : start base ends c + k < get_or ends c 0 = o.1 in
    let within = cut_within base (length rows) c ends h.cut l' in
    let g : groups base ends (restr ++ row ∷ []) ≡ push_at (groups base ends restr) c row = groups_open c base (length rows) ends restr row h.cut l' (omega arith) (omega arith) in
    let n : length (groups base ends rows) ≡ length ends = length-groups base ends rows in
    let m : length (groups base ends restr) ≡ length ends = length-groups base ends restr in
    let z : into E (0 + c) ≡ into E c = ap (into E) (let e : 0 + c ≡ c = omega arith in e) in
    let few : length (get_or (groups base ends restr) c []) < length (get_or (groups base ends rows) c []) = (let here = f.here in let there = f.open_here in omega (arith, here, there)) in
    let t : due_from E 0 (groups base ends rows) (push_at (groups base ends restr) c row) + into E (0 + c) ≡ due_from E 0 (groups base ends rows) (groups base ends restr) = due_restrictions E 0 c (groups base ends rows) (groups base ends restr) row (omega arith) (m ∙ sym n) few in
    let P : List (List (List ℕ)) → Type 0 = λ x. HasWidths E (record { key = key; rows = groups base ends rows; restrictions = x }) in
    record {
      opened = record { length_is = h.length_is; cut = h.cut; last_is = h.last_is; restricted = (let r = h.restricted in omega arith); within = omega arith };
      building = ap (λ x. Some (record { key = key; rows = groups base ends rows; restrictions = x })) g;
      costs = refl;
      dues = ap (λ x. due_from E 0 (groups base ends rows) x + into E c) g ∙ ap (λ x. due_from E 0 (groups base ends rows) (push_at (groups base ends restr) c row) + x) (sym z) ∙ t;
      widths = subst P (sym g) (widths_push E key (groups base ends rows) (groups base ends restr) c row w (omega arith) e);
    }

-- the numbers of the rows with one row more, and those of its first rows
length_pushed : (xs : List (List ℕ)) (row : List ℕ) → sum_by length (xs ++ row ∷ []) ≡ sum_by length xs + length row
length_pushed xs row = sum_by_push (λ (r : List ℕ). length r) xs row

take_front : (n : ℕ) (xs : List (List ℕ)) (row : List ℕ) → n ≤ length xs → sum_by length (take n (xs ++ row ∷ [])) ≡ sum_by length (take n xs)
take_front n xs row l = ap (sum_by length) (take-append-le n xs (row ∷ []) l)

pub restrict_room : (a : Inside) (c k : ℕ) (row : List ℕ) → IsStore a → c < a.objects → IfBuilding (view a).building (λ f. IsFirstOpen f c k) → length row ≡ into a.ends c → sum_by length a.restrictions.rows + length row ≤ 64_000_000
restrict_room a c k row h l f e =
    let s = restricted a.ends a.key a.objects a.base (ends_built a) a.rows.rows a.restrictions.rows c k row h.opened l f h.widths e in
    let d = s.dues in
    let b = h.held_built in
    let t = h.within in
    let u = h.bounded in
    omega arith

pub restrict_step : (a : Inside) (r : Rows) (c k : ℕ) (row : List ℕ) → IsStore a → r.rows ≡ a.restrictions.rows ++ row ∷ [] → c < a.objects → IfBuilding (view a).building (λ f. IsFirstOpen f c k) → length row ≡ into a.ends c → IsStore (record a { restrictions = r }) × (view (record a { restrictions = r }) ≡ record (view a) { building = with_restrictions (view a).building c row })
restrict_step a r c k row h e l f w =
    let s = restricted a.ends a.key a.objects a.base (ends_built a) a.rows.rows a.restrictions.rows c k row h.opened l f h.widths w in
    let b = base_in a h in
    let n : length r.rows ≡ length a.restrictions.rows + 1 = ap length e ∙ length_push a.restrictions.rows row in
    let same : sealed_of a.rows.rows r.rows a.parts.entries ≡ sealed_in a =
    ap (λ x. sealed_of a.rows.rows x a.parts.entries) e ∙ sealed_restrictions a.objects a.base a.rows.rows a.restrictions.rows (row ∷ []) a.parts.entries h.parts b.0 in
    let built : building_of a.key a.base (ends_built a) a.rows.rows r.rows ≡ building_of a.key a.base (ends_built a) a.rows.rows (a.restrictions.rows ++ row ∷ []) =
    ap (building_of a.key a.base (ends_built a) a.rows.rows) e in
    let sum : sum_by length r.rows ≡ sum_by length a.restrictions.rows + length row = ap (sum_by length) e ∙ length_pushed a.restrictions.rows row in
    let front : sum_by length (take a.base r.rows) ≡ sum_by length (take a.base a.restrictions.rows) = ap (λ x. sum_by length (take a.base x)) e ∙ take_front a.base a.restrictions.rows row b.0 in
    let dues : due a.ends (building_of a.key a.base (ends_built a) a.rows.rows r.rows) + into a.ends c ≡ due a.ends (built_in a) = ap (λ x. due a.ends x + into a.ends c) built ∙ s.dues in
    let held = h.held in
    let held_built = h.held_built in (
      record {
        tables = h.tables;
        parts = h.parts;
        opened = (let P : ℕ → Type 0 = λ x. IsOpen a.key a.objects a.base (ends_built a) (length a.rows.rows) x in subst P (sym n) s.opened);
        room = h.room;
        distinct = (let P : List Functor → Type 0 = λ x. IsDistinct x in subst P (sym same) h.distinct);
        free = (let P : List Functor → Type 0 = λ x. IsFree a.key x in subst P (sym same) h.free);
        laid = (let P : List Functor → Type 0 = λ x. AreSealed a.ends x in subst P (sym same) h.laid);
        widths = (let P : Option Functor → Type 0 = λ x. HasWidthsBuilt a.ends x in subst P (sym built) s.widths);
        sealed_cells = h.sealed_cells ∙ sym (ap (λ x. a.charges + cost_sealed a.ends x) same);
        cells = h.cells ∙ sym (ap (λ x. a.sealed_cells + x) (ap (cost_built a.ends) built ∙ s.costs));
        held = omega (arith, held, front);
        held_built = omega (arith, held_built, sum, dues, w);
        within = h.within;
        bounded = h.bounded;
      },
      ap (λ x. shown a x (building_of a.key a.base (ends_built a) a.rows.rows r.rows)) same
          ∙ ap (λ x. shown a (sealed_in a) x) (built ∙ s.building),
    )

-- elements
record Pushed (E : List (ℕ × ℕ)) (key : Option Ty) (objects base : ℕ) (ends : List ℕ) (rows restr : List (List ℕ)) (c : ℕ) (row : List ℕ) : Type 0 where
  opened : IsOpen key objects base (raised c ends (length rows + 1)) (length rows + 1) (length restr)
  building : building_of key base (raised c ends (length rows + 1)) (rows ++ row ∷ []) restr ≡ with_row (building_of key base ends rows restr) c row
  costs : cost_built E (with_row (building_of key base ends rows restr) c row) ≡ cost_built E (building_of key base ends rows restr) + (1 + into E c + length row)
  dues : due E (with_row (building_of key base ends rows restr) c row) ≡ due E (building_of key base ends rows restr) + into E c
  widths : HasWidthsBuilt E (with_row (building_of key base ends rows restr) c row)

pushed : (E : List (ℕ × ℕ)) (key : Option Ty) (objects base : ℕ) (ends : List ℕ) (rows restr : List (List ℕ)) (c : ℕ) (row : List ℕ) → IsOpen key objects base ends (length rows) (length restr) → c < objects → IfBuilding (building_of key base ends rows restr) (λ f. IsNext f c) → HasWidthsBuilt E (building_of key base ends rows restr) → Pushed E key objects base ends rows restr c row
unfolding IsOpen building_of with_row functor_of cost_built cost due HasWidthsBuilt
pushed E None objects base ends rows restr c row h l f w = absurd f
pushed E (Some key) objects base ends rows restr c row h l f w =
    let l' : c < length ends = let e = h.length_is in omega arith in
    let g = groups_push c base ends rows row h.cut h.last_is l' f.nothing_after in
    let k = cut_push c base (length rows) ends h.cut l' in
    let z : length restr ≤ base = none_there base (length rows) ends restr h.cut h.last_is h.within f.unrestricted in
    let p = groups_past base (length rows) ends restr h.cut z in
    let q = groups_past base (length rows + 1) (raised c ends (length rows + 1)) restr k.0 z in
    let m : replicate (length (raised c ends (length rows + 1))) [] ≡ replicate (length ends) [] = ap (λ x. replicate x []) (length-raised c (length rows + 1) ends) in
    let same : groups base (raised c ends (length rows + 1)) restr ≡ groups base ends restr = q ∙ m ∙ sym p in
    let n : length (groups base ends rows) ≡ length ends = length-groups base ends rows in
    let n' : length (groups base ends restr) ≡ length ends = length-groups base ends restr in
    let zc : into E (0 + c) ≡ into E c = ap (into E) (let e : 0 + c ≡ c = omega arith in e) in
    record {
      opened = record { length_is = length-raised c (length rows + 1) ends ∙ h.length_is; cut = k.0; last_is = k.1; restricted = h.restricted; within = (let r = h.within in omega arith) };
      building = ap (λ x. Some (record { key = key; rows = x; restrictions = groups base (raised c ends (length rows + 1)) restr })) g
          ∙ ap (λ x. Some (record { key = key; rows = push_at (groups base ends rows) c row; restrictions = x })) same;
      costs = cost_push E 0 c (groups base ends rows) row (omega arith) ∙ ap (λ x. cost_from E 0 (groups base ends rows) + (1 + x + length row)) zc;
      dues = due_element E 0 c (groups base ends rows) (groups base ends restr) row (omega arith) (n' ∙ sym n) (f.unrestricted c) ∙ ap (λ x. due_from E 0 (groups base ends rows) (groups base ends restr) + x) zc;
      widths = w;
    }

pub push_step : (a : Inside) (r : Rows) (v : Vec ℕ Global) (need c : ℕ) (row : List ℕ) → IsStore a → r.rows ≡ a.rows.rows ++ row ∷ [] → raised c v.items (length a.rows.rows + 1) ≡ raised c (ends_built a) (length a.rows.rows + 1) → c < a.objects → IfBuilding (view a).building (λ f. IsNext f c) → need ≡ 1 + into a.ends c + length row → need ≤ a.budget - a.cells → IsStore (record a { rows = r; open_ends = v; «open» = c; cells = a.cells + need }) × (view (record a { rows = r; open_ends = v; «open» = c; cells = a.cells + need }) ≡ record (view a) { building = with_row (view a).building c row })
push_step a r v need c row h e ve l f ne room =
    let s = pushed a.ends a.key a.objects a.base (ends_built a) a.rows.rows a.restrictions.rows c row h.opened l f h.widths in
    let b = base_in a h in
    let n : length r.rows ≡ length a.rows.rows + 1 = ap length e ∙ length_push a.rows.rows row in
    let ends : raised c v.items (length r.rows) ≡ raised c (ends_built a) (length a.rows.rows + 1) = ap (raised c v.items) n ∙ ve in
    let same : sealed_of r.rows a.restrictions.rows a.parts.entries ≡ sealed_in a =
    ap (λ x. sealed_of x a.restrictions.rows a.parts.entries) e ∙ sealed_rows a.objects a.base a.rows.rows a.restrictions.rows (row ∷ []) a.parts.entries h.parts (omega arith) in
    let built : building_of a.key a.base (raised c v.items (length r.rows)) r.rows a.restrictions.rows ≡ with_row (built_in a) c row =
    ap (λ x. building_of a.key a.base x r.rows a.restrictions.rows) ends
    ∙ ap (λ x. building_of a.key a.base (raised c (ends_built a) (length a.rows.rows + 1)) x a.restrictions.rows) e
    ∙ s.building in
    let costs : cost_built a.ends (building_of a.key a.base (raised c v.items (length r.rows)) r.rows a.restrictions.rows) ≡ cost_built a.ends (built_in a) + (1 + into a.ends c + length row) =
    ap (cost_built a.ends) built ∙ s.costs in
    let dues : due a.ends (building_of a.key a.base (raised c v.items (length r.rows)) r.rows a.restrictions.rows) ≡ due a.ends (built_in a) + into a.ends c =
    ap (due a.ends) built ∙ s.dues in
    let sum : sum_by length r.rows ≡ sum_by length a.rows.rows + length row = ap (sum_by length) e ∙ length_pushed a.rows.rows row in
    let front : sum_by length (take a.base r.rows) ≡ sum_by length (take a.base a.rows.rows) = ap (λ x. sum_by length (take a.base x)) e ∙ take_front a.base a.rows.rows row (omega (arith, b)) in
    let old = h.cells in
    let within = h.within in
    let held = h.held in
    let held_built = h.held_built in (
      record {
        tables = h.tables;
        parts = h.parts;
        opened = (let P : ℕ → Type 0 = λ x. IsOpen a.key a.objects a.base (raised c v.items (length r.rows)) x (length a.restrictions.rows) in
            let Q : List ℕ → Type 0 = λ x. IsOpen a.key a.objects a.base x (length a.rows.rows + 1) (length a.restrictions.rows) in
            subst P (sym n) (subst Q (sym ends) s.opened));
        room = h.room;
        distinct = (let P : List Functor → Type 0 = λ x. IsDistinct x in subst P (sym same) h.distinct);
        free = (let P : List Functor → Type 0 = λ x. IsFree a.key x in subst P (sym same) h.free);
        laid = (let P : List Functor → Type 0 = λ x. AreSealed a.ends x in subst P (sym same) h.laid);
        widths = (let P : Option Functor → Type 0 = λ x. HasWidthsBuilt a.ends x in subst P (sym built) s.widths);
        sealed_cells = h.sealed_cells ∙ sym (ap (λ x. a.charges + cost_sealed a.ends x) same);
        cells = omega arith;
        held = omega (arith, held, front);
        held_built = omega (arith, held_built, sum, dues, n, ne);
        within = omega arith;
        bounded = h.bounded;
      },
      ap (λ x. shown a x (building_of a.key a.base (raised c v.items (length r.rows)) r.rows a.restrictions.rows)) same
          ∙ ap (λ x. shown a (sealed_in a) x) built,
    )

pub push_room : (a : Inside) (need c : ℕ) (row : List ℕ) → IsStore a → need ≡ 1 + into a.ends c + length row → need ≤ a.budget - a.cells → sum_by length a.rows.rows + length row ≤ 64_000_000
push_room a need c row h ne room =
    let b = h.held_built in
    let t = h.within in
    let u = h.bounded in
    omega arith

-- a seal
sum_all : (n : ℕ) (xs : List (List ℕ)) → length xs ≤ n → sum_by length (take n xs) ≡ sum_by length xs
sum_all n xs l = ap (sum_by length) (take_all n xs l)

pub seal_step : (a : Inside) (key : Ty) (ps : Parts) (p : Part) (w : Vec ℕ Global) (base : ℕ) → IsStore a → a.key ≡ Some key → p.base ≡ a.base → p.ends.items ≡ ends_built a → ps.entries ≡ a.parts.entries ++ (key, p) ∷ [] → base ≡ length a.rows.rows → IfBuilding (view a).building IsWhole → IsStore (record a { key = None; parts = ps; base = base; open_ends = w; sealed_cells = a.cells }) × (view (record a { key = None; parts = ps; base = base; open_ends = w; sealed_cells = a.cells }) ≡ record (view a) { sealed = sealed_with (view a).sealed (view a).building; building = None })
unfolding IsOpen building_of sealed_with cost_built IsFree HasRoom functor_of cost due HasWidthsBuilt
seal_step a key ps p w base h ke pb ve pe be whole =
    let built : built_in a ≡ Some (functor_of key a.base (ends_built a) a.rows.rows a.restrictions.rows) =
    ap (λ x. building_of x a.base (ends_built a) a.rows.rows a.restrictions.rows) ke in
    let opened : IsBuilt a.objects a.base (ends_built a) (length a.rows.rows) (length a.restrictions.rows) =
    (let P : Option Ty → Type 0 = λ x. IsOpen x a.objects a.base (ends_built a) (length a.rows.rows) (length a.restrictions.rows) in subst P ke h.opened) in
    let all : IsWhole (functor_of key a.base (ends_built a) a.rows.rows a.restrictions.rows) = (let P : Option Functor → Type 0 = λ x. IfBuilding x IsWhole in subst P built whole) in
    let wide : HasWidths a.ends (functor_of key a.base (ends_built a) a.rows.rows a.restrictions.rows) = (let P : Option Functor → Type 0 = λ x. HasWidthsBuilt a.ends x in subst P built h.widths) in
    let free : IsFreeKey (sealed_in a) key = (let P : Option Ty → Type 0 = λ x. IsFree x (sealed_in a) in subst P ke h.free) in
    let m : length a.rows.rows ≤ length a.restrictions.rows = full a.base (ends_built a) a.rows.rows a.restrictions.rows opened.cut opened.last_is opened.restricted all in
    let w' = opened.within in
    let be' : base ≡ length a.restrictions.rows = omega arith in
    let bb = cut_end a.base (length a.rows.rows) (ends_built a) opened.cut in
    let long : length p.ends.items ≡ a.objects = ap length ve ∙ opened.length_is in
    let cut : IsCutTo p.base p.ends.items base =
    (let P : List ℕ → Type 0 = λ x. IsCutTo p.base x base in
    let Q : ℕ → Type 0 = λ x. IsCutTo x (ends_built a) base in
    subst P (sym ve) (subst Q (sym pb) (cut_more a.base (length a.rows.rows) base (ends_built a) opened.cut (omega arith)))) in
    let parts : AreParts a.objects base ps.entries =
    (let P : List (Ty × Part) → Type 0 = λ x. AreParts a.objects base x in
    subst P (sym pe) (parts_push a.objects base a.parts.entries (key, p) (parts_more a.objects a.base base a.parts.entries h.parts (omega arith)) long cut)) in
    let sealed : sealed_of a.rows.rows a.restrictions.rows ps.entries ≡ sealed_in a ++ functor_of key a.base (ends_built a) a.rows.rows a.restrictions.rows ∷ [] =
    ap (sealed_of a.rows.rows a.restrictions.rows) pe
    ∙ sealed_push a.rows.rows a.restrictions.rows a.parts.entries (key, p)
    ∙ ap (λ x. sealed_in a ++ functor_of key x p.ends.items a.rows.rows a.restrictions.rows ∷ []) pb
    ∙ ap (λ x. sealed_in a ++ functor_of key a.base x a.rows.rows a.restrictions.rows ∷ []) ve in
    let costs = cost_sealed_push a.ends (sealed_in a) (functor_of key a.base (ends_built a) a.rows.rows a.restrictions.rows) in
    let sc : cost_sealed a.ends (sealed_of a.rows.rows a.restrictions.rows ps.entries) ≡ cost_sealed a.ends (sealed_in a ++ functor_of key a.base (ends_built a) a.rows.rows a.restrictions.rows ∷ []) = ap (cost_sealed a.ends) sealed in
    let bc : cost_built a.ends (built_in a) ≡ cost a.ends (functor_of key a.base (ends_built a) a.rows.rows a.restrictions.rows) = ap (cost_built a.ends) built in
    let old = h.cells in
    let olds = h.sealed_cells in
    let held_built = h.held_built in
    let rows_sum = sum_all base a.rows.rows (omega arith) in
    let restr_sum = sum_all base a.restrictions.rows (omega arith) in (
      record {
        tables = h.tables;
        parts = parts;
        opened = (sym be, sym be');
        room = tt;
        distinct = (let P : List Functor → Type 0 = λ x. IsDistinct x in subst P (sym sealed) (distinct_push (sealed_in a) (functor_of key a.base (ends_built a) a.rows.rows a.restrictions.rows) h.distinct free));
        free = tt;
        laid = (let P : List Functor → Type 0 = λ x. AreSealed a.ends x in subst P (sym sealed) (sealed_more a.ends (sealed_in a) (functor_of key a.base (ends_built a) a.rows.rows a.restrictions.rows) h.laid (record { whole = all; widths = wide })));
        widths = tt;
        sealed_cells = omega arith;
        cells = omega arith;
        held = omega (arith, held_built, rows_sum, restr_sum, be);
        held_built = omega (arith, held_built);
        within = h.within;
        bounded = h.bounded;
      },
      ap (λ x. shown a x None) (sealed ∙ sym (ap (sealed_with (sealed_in a)) built)),
    )

-- a seal, with the key that `take` leaves
pub seal_key : (a : Inside) (key : Ty) (ps : Parts) (p : Part) (w : Vec ℕ Global) (base : ℕ) (left : Option Ty) → left ≡ None → IsStore a → a.key ≡ Some key → p.base ≡ a.base → p.ends.items ≡ ends_built a → ps.entries ≡ a.parts.entries ++ (key, p) ∷ [] → base ≡ length a.rows.rows → IfBuilding (view a).building IsWhole → IsStore (record a { key = left; parts = ps; base = base; open_ends = w; sealed_cells = a.cells }) × (view (record a { key = left; parts = ps; base = base; open_ends = w; sealed_cells = a.cells }) ≡ record (view a) { sealed = sealed_with (view a).sealed (view a).building; building = None })
seal_key a key ps p w base left e h ke pb ve pe be whole =
    let P : Option Ty → Type 0 = λ k. IsStore (record a { key = k; parts = ps; base = base; open_ends = w; sealed_cells = a.cells }) × (view (record a { key = k; parts = ps; base = base; open_ends = w; sealed_cells = a.cells }) ≡ record (view a) { sealed = sealed_with (view a).sealed (view a).building; building = None }) in
    subst P (sym e) (seal_step a key ps p w base h ke pb ve pe be whole)

pub key_there : (a : Inside) → IfBuilding (view a).building IsWhole → a.key ≡ None → ⊥
unfolding building_of
key_there a h e = (let P : Option Ty → Type 0 = λ x. IfBuilding (building_of x a.base (ends_built a) a.rows.rows a.restrictions.rows) IsWhole in subst P e h)

pub room_there : (a : Inside) (key : Ty) → IsStore a → a.key ≡ Some key → 0 < spare a.parts
unfolding HasRoom
room_there a key h e = (let P : Option Ty → Type 0 = λ x. HasRoom x (spare a.parts) in subst P e h.room)

pub key_free : (a : Inside) (key : Ty) → IsStore a → a.key ≡ Some key → IsFreeKey (sealed_in a) key
unfolding IsFree
key_free a key h e = (let P : Option Ty → Type 0 = λ x. IsFree x (sealed_in a) in subst P e h.free)

-- a build that is given up
pub abandon_step : (a : Inside) (r q : Rows) → IsStore a → r.rows ≡ take a.base a.rows.rows → q.rows ≡ take a.base a.restrictions.rows → IsStore (record a { key = None; rows = r; restrictions = q; cells = a.sealed_cells }) × (view (record a { key = None; rows = r; restrictions = q; cells = a.sealed_cells }) ≡ record (view a) { building = None })
unfolding IsOpen building_of cost_built IsFree HasRoom due HasWidthsBuilt
abandon_step a r q h re qe =
    let b = base_in a h in
    let rl : length r.rows ≡ a.base = ap length re ∙ length-take-le a.base a.rows.rows (omega arith) in
    let ql : length q.rows ≡ a.base = ap length qe ∙ length-take-le a.base a.restrictions.rows b.0 in
    let sealed : sealed_of r.rows q.rows a.parts.entries ≡ sealed_in a =
    ap (λ x. sealed_of x q.rows a.parts.entries) re ∙ ap (λ x. sealed_of (take a.base a.rows.rows) x a.parts.entries) qe ∙ sealed_cut a.objects a.base a.rows.rows a.restrictions.rows a.parts.entries h.parts in
    let rs : sum_by length r.rows ≡ sum_by length (take a.base a.rows.rows) = ap (sum_by length) re in
    let qs : sum_by length q.rows ≡ sum_by length (take a.base a.restrictions.rows) = ap (sum_by length) qe in
    let rt = sum_all a.base r.rows (omega (arith, rl)) in
    let qt = sum_all a.base q.rows (omega (arith, ql)) in
    let held = h.held in
    let old = h.cells in
    let w = h.within in (
      record {
        tables = h.tables;
        parts = h.parts;
        opened = (rl, ql);
        room = tt;
        distinct = (let P : List Functor → Type 0 = λ x. IsDistinct x in subst P (sym sealed) h.distinct);
        free = tt;
        laid = (let P : List Functor → Type 0 = λ x. AreSealed a.ends x in subst P (sym sealed) h.laid);
        widths = tt;
        sealed_cells = h.sealed_cells ∙ sym (ap (λ x. a.charges + cost_sealed a.ends x) sealed);
        cells = omega arith;
        held = omega (arith, held, rs, qs, rt, qt);
        held_built = omega (arith, held, rs, qs, rl);
        within = omega arith;
        bounded = h.bounded;
      },
      ap (λ x. shown a x None) sealed,
    )

no_key : (key : Option Ty) (base : ℕ) (ends : List ℕ) (rows restr : List (List ℕ)) → building_of key base ends rows restr ≡ None → key ≡ None
unfolding building_of
no_key None base ends rows restr e = refl
no_key (Some key) base ends rows restr e = absurd (cc)

-- a functor that is begun
pub begin_step : (a : Inside) (key : Ty) (ps : Parts) (v : Vec ℕ Global) → IsStore a → (view a).building ≡ None → IsFreeKey (view a).sealed key → ps.entries ≡ a.parts.entries → 0 < spare ps → v.items ≡ replicate a.objects a.base → IsStore (record a { parts = ps; open_ends = v; «open» = 0; key = Some key }) × (view (record a { parts = ps; open_ends = v; «open» = 0; key = Some key }) ≡ record (view a) { building = Some (bare key a.objects) })
unfolding IsOpen building_of cost_built IsFree HasRoom functor_of bare cost due HasWidthsBuilt
begin_step a key ps v h idle free pe room ve =
    let none : a.key ≡ None = no_key a.key a.base (ends_built a) a.rows.rows a.restrictions.rows idle in
    let opened : (length a.rows.rows ≡ a.base) × (length a.restrictions.rows ≡ a.base) =
    (let P : Option Ty → Type 0 = λ x. IsOpen x a.objects a.base (ends_built a) (length a.rows.rows) (length a.restrictions.rows) in subst P none h.opened) in
    let rl : length a.rows.rows ≡ a.base = opened.0 in
    let ql : length a.restrictions.rows ≡ a.base = opened.1 in
    let ends : raised 0 v.items (length a.rows.rows) ≡ replicate a.objects a.base = ap (λ x. raised 0 x (length a.rows.rows)) ve ∙ raised_all a.objects a.base (length a.rows.rows) ∙ ap (replicate a.objects) rl in
    let sealed : sealed_of a.rows.rows a.restrictions.rows ps.entries ≡ sealed_in a = ap (sealed_of a.rows.rows a.restrictions.rows) pe in
    let g : groups a.base (raised 0 v.items (length a.rows.rows)) a.rows.rows ≡ replicate a.objects [] = ap (λ x. groups a.base x a.rows.rows) ends ∙ groups_none a.objects a.base a.rows.rows in
    let q : groups a.base (raised 0 v.items (length a.rows.rows)) a.restrictions.rows ≡ replicate a.objects [] = ap (λ x. groups a.base x a.restrictions.rows) ends ∙ groups_none a.objects a.base a.restrictions.rows in
    let zero' : cost_from a.ends 0 (groups a.base (raised 0 v.items (length a.rows.rows)) a.rows.rows) ≡ 0 = ap (cost_from a.ends 0) g ∙ cost_none a.ends 0 a.objects in
    let nothing_due : due_from a.ends 0 (groups a.base (raised 0 v.items (length a.rows.rows)) a.rows.rows) (groups a.base (raised 0 v.items (length a.rows.rows)) a.restrictions.rows) ≡ 0 =
    ap (λ x. due_from a.ends 0 x (groups a.base (raised 0 v.items (length a.rows.rows)) a.restrictions.rows)) g ∙ ap (due_from a.ends 0 (replicate a.objects [])) q ∙ due_none a.ends 0 a.objects in
    let before : cost_built a.ends (built_in a) ≡ 0 = ap (cost_built a.ends) idle in
    let old = h.cells in
    let held_built = h.held_built in (
      record {
        tables = h.tables;
        parts = (let P : List (Ty × Part) → Type 0 = λ x. AreParts a.objects a.base x in subst P (sym pe) h.parts);
        opened = record {
          length_is = ap length ends ∙ Rattle.std.proofs.lemmas.List.length-replicate a.objects a.base;
          cut = (let P : List ℕ → Type 0 = λ x. IsCutTo a.base x (length a.rows.rows) in subst P (sym ends) (cut_more a.base a.base (length a.rows.rows) (replicate a.objects a.base) (cut_none a.objects a.base) (omega arith)));
          last_is = ap (last a.base) ends ∙ last_none a.objects a.base ∙ sym rl;
          restricted = omega arith;
          within = omega arith;
        };
        room = room;
        distinct = (let P : List Functor → Type 0 = λ x. IsDistinct x in subst P (sym sealed) h.distinct);
        free = (let P : List Functor → Type 0 = λ x. IsFreeKey x key in subst P (sym sealed) free);
        laid = (let P : List Functor → Type 0 = λ x. AreSealed a.ends x in subst P (sym sealed) h.laid);
        widths = (let P : List (List (List ℕ)) → Type 0 = λ x. HasWidths a.ends (record { key = key; rows = groups a.base (raised 0 v.items (length a.rows.rows)) a.rows.rows; restrictions = x }) in subst P (sym q) (widths_none a.ends key (groups a.base (raised 0 v.items (length a.rows.rows)) a.rows.rows) a.objects));
        sealed_cells = h.sealed_cells ∙ sym (ap (λ x. a.charges + cost_sealed a.ends x) sealed);
        cells = omega arith;
        held = h.held;
        held_built = omega (arith, held_built, nothing_due);
        within = h.within;
        bounded = h.bounded;
      },
      ap (λ x. shown a x (Some (record { key = key; rows = groups a.base (raised 0 v.items (length a.rows.rows)) a.rows.rows; restrictions = groups a.base (raised 0 v.items (length a.rows.rows)) a.restrictions.rows }))) sealed
          ∙ ap (λ x. shown a (sealed_in a) (Some (record { key = key; rows = x; restrictions = groups a.base (raised 0 v.items (length a.rows.rows)) a.restrictions.rows }))) g
          ∙ ap (λ x. shown a (sealed_in a) (Some (record { key = key; rows = replicate a.objects []; restrictions = x }))) q,
    )

-- a store with no functor
pub new_step : (a : Inside) → IsTables a.objects a.ends a.tables.into.items a.tables.places → a.budget ≤ 64_000_000 → a.charges ≡ 0 → a.sealed_cells ≡ 0 → a.cells ≡ 0 → a.parts.entries ≡ [] → a.key ≡ None → a.base ≡ 0 → a.rows.rows ≡ [] → a.restrictions.rows ≡ [] → IsStore a × (view a ≡ record { objects = a.objects; ends = a.ends; budget = a.budget; charges = 0; sealed = []; building = None })
unfolding sealed_of building_of IsOpen HasRoom IsFree AreParts cost_built cost_sealed due HasWidthsBuilt
new_step a tables small charges sealed_cells cells parts key base rows restr =
    let rl : length a.rows.rows ≡ 0 = ap length rows in
    let ql : length a.restrictions.rows ≡ 0 = ap length restr in
    let sealed : sealed_in a ≡ [] = ap (sealed_of a.rows.rows a.restrictions.rows) parts in
    let count : length (sealed_in a) ≡ 0 = ap length sealed in
    let built : built_in a ≡ None = ap (λ k. building_of k a.base (ends_built a) a.rows.rows a.restrictions.rows) key in
    let cs : cost_sealed a.ends (sealed_in a) ≡ 0 = ap (cost_sealed a.ends) sealed in
    let cb : cost_built a.ends (built_in a) ≡ 0 = ap (cost_built a.ends) built in
    let nothing_due : due a.ends (built_in a) ≡ 0 = ap (due a.ends) built in
    let rs : sum_by length a.rows.rows ≡ 0 = ap (sum_by length) rows in
    let qs : sum_by length a.restrictions.rows ≡ 0 = ap (sum_by length) restr in
    let rt = sum_all a.base a.rows.rows (omega arith) in
    let qt = sum_all a.base a.restrictions.rows (omega arith) in (
      record {
        tables = tables;
        parts = (let P : List (Ty × Part) → Type 0 = λ x. AreParts a.objects a.base x in subst P (sym parts) tt);
        opened = (let P : Option _ → Type 0 = λ k. IsOpen k a.objects a.base (ends_built a) (length a.rows.rows) (length a.restrictions.rows) in subst P (sym key) (omega arith, omega arith));
        room = (let P : Option _ → Type 0 = λ k. HasRoom k (spare a.parts) in subst P (sym key) tt);
        distinct = λ i j l m e. absurd (omega (arith, m, count));
        free = (let P : Option _ → Type 0 = λ k. IsFree k (sealed_in a) in subst P (sym key) tt);
        laid = λ i l. absurd (omega (arith, l, count));
        widths = (let P : Option Functor → Type 0 = λ x. HasWidthsBuilt a.ends x in subst P (sym built) tt);
        sealed_cells = omega arith;
        cells = omega arith;
        held = omega (arith, rs, qs, rt, qt, base);
        held_built = omega (arith, rs, qs, rl, nothing_due);
        within = omega arith;
        bounded = small;
      },
      ap (λ x. record { objects = a.objects; ends = a.ends; budget = a.budget; charges = x; sealed = sealed_in a; building = built_in a }) charges
          ∙ ap (λ x. record { objects = a.objects; ends = a.ends; budget = a.budget; charges = 0; sealed = x; building = built_in a }) sealed
          ∙ ap (λ x. record { objects = a.objects; ends = a.ends; budget = a.budget; charges = 0; sealed = []; building = x }) built,
    )

-- the fields after a growth that failed
pub kept_rows : (a : Inside) (r : Rows) → IsStore a → r.rows ≡ a.rows.rows → IsStore (record a { rows = r }) × (view (record a { rows = r }) ≡ view a)
kept_rows a r h e =
    let P : List (List ℕ) → Type 0 = λ x. let b : Inside = record a { rows = record r { rows = x } } in IsStore b × (view b ≡ view a) in
    subst P (sym e) (record { tables = h.tables; parts = h.parts; opened = h.opened; room = h.room; distinct = h.distinct; free = h.free; laid = h.laid; widths = h.widths; sealed_cells = h.sealed_cells; cells = h.cells; held = h.held; held_built = h.held_built; within = h.within; bounded = h.bounded }, refl)

pub kept_restrictions : (a : Inside) (r : Rows) → IsStore a → r.rows ≡ a.restrictions.rows → IsStore (record a { restrictions = r }) × (view (record a { restrictions = r }) ≡ view a)
kept_restrictions a r h e =
    let P : List (List ℕ) → Type 0 = λ x. let b : Inside = record a { restrictions = record r { rows = x } } in IsStore b × (view b ≡ view a) in
    subst P (sym e) (record { tables = h.tables; parts = h.parts; opened = h.opened; room = h.room; distinct = h.distinct; free = h.free; laid = h.laid; widths = h.widths; sealed_cells = h.sealed_cells; cells = h.cells; held = h.held; held_built = h.held_built; within = h.within; bounded = h.bounded }, refl)

room_kept : (key : Option Ty) (few more : ℕ) → HasRoom key few → few ≤ more → HasRoom key more
unfolding HasRoom
room_kept None few more h l = tt
room_kept (Some key) few more h l = omega (arith, h, l)

pub kept_parts : (a : Inside) (ps : Parts) → IsStore a → ps.entries ≡ a.parts.entries → spare a.parts ≤ spare ps → IsStore (record a { parts = ps }) × (view (record a { parts = ps }) ≡ view a)
kept_parts a ps h e room =
    let sealed : sealed_of a.rows.rows a.restrictions.rows ps.entries ≡ sealed_in a = ap (sealed_of a.rows.rows a.restrictions.rows) e in (
      record {
        tables = h.tables;
        parts = (let P : List (Ty × Part) → Type 0 = λ x. AreParts a.objects a.base x in subst P (sym e) h.parts);
        opened = h.opened;
        room = room_kept a.key (spare a.parts) (spare ps) h.room room;
        distinct = (let P : List Functor → Type 0 = λ x. IsDistinct x in subst P (sym sealed) h.distinct);
        free = (let P : List Functor → Type 0 = λ x. IsFree a.key x in subst P (sym sealed) h.free);
        laid = (let P : List Functor → Type 0 = λ x. AreSealed a.ends x in subst P (sym sealed) h.laid);
        widths = h.widths;
        sealed_cells = h.sealed_cells ∙ sym (ap (λ x. a.charges + cost_sealed a.ends x) sealed);
        cells = h.cells;
        held = h.held;
        held_built = h.held_built;
        within = h.within;
        bounded = h.bounded;
      },
      ap (λ x. shown a x (built_in a)) sealed,
    )

-- the ends of the functor in building have a place for each object
open_length : (key : Option Ty) (objects base : ℕ) (ends : List ℕ) (rows restr : List (List ℕ)) (P : Functor → Type 0) → IsOpen key objects base ends (length rows) (length restr) → IfBuilding (building_of key base ends rows restr) P → length ends ≡ objects
unfolding IsOpen building_of
open_length None objects base ends rows restr P h f = absurd f
open_length (Some key) objects base ends rows restr P h f = h.length_is

pub ends_length : (a : Inside) (P : Functor → Type 0) → IsStore a → IfBuilding (view a).building P → length a.open_ends.items ≡ a.objects
ends_length a P h f = sym (length-raised a.open (length a.rows.rows) a.open_ends.items) ∙ open_length a.key a.objects a.base (ends_built a) a.rows.rows a.restrictions.rows P h.opened f

written : (v : Vec ℕ Global) (from to n : ℕ) (old new : List ℕ) → old ≡ v.items → IsFilled from to n old new → (with_items v new).items ≡ new
written v from to n old new e f =
    let l : length new ≡ length v.items = f.length_is ∙ ap length e in
    with_items_is v new (let k = v.ok in omega arith)

-- the ends that are filled up to an object, of which all later ones are raised
pub pushed_ends : (a : Inside) (c place : ℕ) (old new : List ℕ) → old ≡ a.open_ends.items → place ≡ length a.rows.rows → IsFilled a.open c place old new → raised c (with_items a.open_ends new).items (length a.rows.rows + 1) ≡ raised c (ends_built a) (length a.rows.rows + 1)
pushed_ends a c place old new e p f =
    let n : ℕ = length a.rows.rows + 1 in
    ap (λ x. raised c x n) (written a.open_ends a.open c place old new e f)
    ∙ raised_twice a.open c place n old new f
    ∙ ap (λ x. raised c (raised a.open x place) n) e
    ∙ ap (λ x. raised c (raised a.open a.open_ends.items x) n) p

-- the ends that are filled to the last object
pub sealed_ends : (a : Inside) (v : Vec ℕ Global) (n : ℕ) (old new : List ℕ) → v ≡ a.open_ends → old ≡ v.items → length a.open_ends.items ≡ a.objects → n ≡ length a.rows.rows → IsFilled a.open a.objects n old new → (with_items v new).items ≡ ends_built a
sealed_ends a v n old new ve oe l ne f =
    let same : old ≡ a.open_ends.items = oe ∙ ap (λ w. w.items) ve in
    let long : a.objects ≡ length old = sym l ∙ sym (ap length same) in
    let P : ℕ → Type 0 = λ x. IsFilled a.open x n old new in
    written v a.open a.objects n old new oe f
    ∙ filled_to_end a.open n old new (subst P long f)
    ∙ ap (λ x. raised a.open x n) same
    ∙ ap (raised a.open a.open_ends.items) ne
