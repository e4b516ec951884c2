use Rattle.std.proofs.Common.{◌≡◌, ◌+◌, ◌<◌, ◌≤◌, ℕ, List, Option, None, Some, length, refl, sym, ap, subst, ◌∙◌, arith}
use Rattle.std.specs.Prelude.{MatchOption}
use Rattle.std.proofs.lemmas.Result.{on_ok_weaker}
use Rattle.topos_model.specs.declared.ty.Ty.{Ty, Fun}
use Rattle.topos_model.specs.categories.Category.{Category}
use Rattle.topos_model.specs.topologies.Cover.{Site}
use Rattle.topos_model.specs.Laws.{IsCategory}
use Rattle.topos_model.specs.types.Types.{Presheaf}
use Rattle.topos_model.specs.statements.Cells.{cells_of}
use Rattle.functor_store.specs.Store.{Store, functor_at}
use Rattle.functor_store.specs.Faithful.{IsFaithful}
use Rattle.sealed_functors.specs.declared.rows.ElementRows.{ElementRows}
use Rattle.sealed_types.specs.Sealed.{sizes_in, restrictions_in}
use Rattle.type_rows.specs.TypeRows.{HoldsNamed, AreTypeRows}
use Rattle.type_rows.proofs.ArrowPlaces.{few_objects}
use Rattle.type_rows.proofs.Kept.{kept_faithful}
use Rattle.function_objects.specs.Functions.{AreAllRows, AreClosed, function_cells}
use Rattle.function_objects.specs.Parts.{IsPart}
use Rattle.function_objects.proofs.SealedFunctions.{is_part, rows_closed, function_rows_at, cells_are, function_named}
use Rattle.function_objects.proofs.seal.seal_function.Goals as goal

abbrev function_of : Store → ℕ → ℕ → Ty
function_of store i j = Fun (functor_at store.sealed i).key (functor_at store.sealed j).key

abbrev all_cells : Category → Store → ℕ → ℕ → ℕ
all_cells k store i j = function_cells k (sizes_in store i) (restrictions_in store i) (sizes_in store j) (restrictions_in store j)

abbrev Made : Category → Store → ℕ → ℕ → List ElementRows → Type 0
Made k store i j all = AreAllRows k (sizes_in store i) (restrictions_in store i) (sizes_in store j) (restrictions_in store j) all

-- the rows that are made, or that there is no room for them
made : (k : Category) (store : Store) (i j room : ℕ) (found : Option (List ElementRows)) (rows : List ElementRows) → MatchOption found (room < all_cells k store i j) (Made k store i j) → found ≡ Some rows → Made k store i j rows
made k store i j room found rows are e = subst (λ (o : Option (List ElementRows)). MatchOption o (room < all_cells k store i j) (Made k store i j)) e are

over : (k : Category) (store : Store) (i j room : ℕ) (found : Option (List ElementRows)) → MatchOption found (room < all_cells k store i j) (Made k store i j) → found ≡ None → room < all_cells k store i j
over k store i j room found are e = subst (λ (o : Option (List ElementRows)). MatchOption o (room < all_cells k store i j) (Made k store i j)) e are

part : (s : Site) (functors : List Presheaf) (store : Store) (i : ℕ) (k : Category) → IsCategory s.category → IsFaithful s functors store → i < length store.sealed → k ≡ s.category → IsPart k store i
part s functors store i k laws h low e = subst (λ (x : Category). IsPart x store i) (sym e) (is_part s functors store i laws h low)

closed : (s : Site) (functors : List Presheaf) (store : Store) (i j : ℕ) (k : Category) → IsCategory s.category → IsFaithful s functors store → i < length store.sealed → j < length store.sealed → k ≡ s.category →
    AreClosed k (sizes_in store i) (restrictions_in store i) (sizes_in store j) (restrictions_in store j)
closed s functors store i j k laws h low low' e = subst (λ (x : Category). AreClosed x (sizes_in store i) (restrictions_in store i) (sizes_in store j) (restrictions_in store j)) (sym e) (rows_closed s functors store i j laws h low low')

all_rows : (s : Site) (functors : List Presheaf) (store : Store) (i j : ℕ) (k : Category) (all at : List ElementRows) (key : Ty) → IsCategory s.category → IsFaithful s functors store → i < length store.sealed → j < length store.sealed →
    key ≡ function_of store i j → k ≡ s.category → at ≡ all → Made k store i j all → AreTypeRows s functors key at
all_rows s functors store i j k all at key laws h low low' is e l rows =
    let here : Made s.category store i j at = subst (λ (x : Category). Made x store i j at) e (subst (Made k store i j) (sym l) rows) in
    subst (λ T. AreTypeRows s functors T at) (sym is) (record {
      objects = here.objects;
      rows = λ c object. function_rows_at s functors store i j laws h low low' c _ (here.each c object);
    })

named : (s : Site) (functors : List Presheaf) (store : Store) (i j : ℕ) (key : Ty) → IsCategory s.category → IsFaithful s functors store → i < length store.sealed → j < length store.sealed → key ≡ function_of store i j → HoldsNamed store key
named s functors store i j key laws h low low' is = subst (HoldsNamed store) (sym is) (function_named s functors store i j laws h low low')

pub all_element_rows-requires-clause-domain : goal.all_element_rows-requires-clause-domain
all_element_rows-requires-clause-domain c =
    part c.args.site.now c.requires.faithful.0 c.args.store.now c.args.s c.cat-cat.result.now (subst IsCategory c.cat-cat.ensures c.laws.ensures.lawful) c.requires.faithful.1 c.requires.domain c.cat-cat.ensures

pub all_element_rows-requires-clause-codomain : goal.all_element_rows-requires-clause-codomain
all_element_rows-requires-clause-codomain c =
    part c.args.site.now c.requires.faithful.0 c.args.store.now c.args.t c.cat-cat.result.now (subst IsCategory c.cat-cat.ensures c.laws.ensures.lawful) c.requires.faithful.1 c.requires.codomain c.cat-cat.ensures

pub all_element_rows-requires-clause-closed : goal.all_element_rows-requires-clause-closed
all_element_rows-requires-clause-closed c =
    closed c.args.site.now c.requires.faithful.0 c.args.store.now c.args.s c.args.t c.cat-cat.result.now (subst IsCategory c.cat-cat.ensures c.laws.ensures.lawful) c.requires.faithful.1 c.requires.domain c.requires.codomain c.cat-cat.ensures

pub seal_type-requires-clause-few : goal.seal_type-requires-clause-few
seal_type-requires-clause-few c =
    let rows = made c.cat-cat.result.now c.args.store.now c.args.s c.args.t c.room-room.result c.in_ok-all_element_rows.field-0 c.in-Some.rows c.in_ok-all_element_rows.ensures c.in-Some.is in
    let few = few_objects c.cat-cat.result.now c.laws.ensures.lawful in
    let l = c.laws.ensures.few in
    omega (arith, ap length c.as_slice.ensures, rows.objects, few, l)

pub seal_type-requires-clause-rows : goal.seal_type-requires-clause-rows
seal_type-requires-clause-rows c =
    let s = c.args.site.now in
    let laws = subst IsCategory c.cat-cat.ensures c.laws.ensures.lawful in
    let rows = made c.cat-cat.result.now c.args.store.now c.args.s c.args.t c.room-room.result c.in_ok-all_element_rows.field-0 c.in-Some.rows c.in_ok-all_element_rows.ensures c.in-Some.is in (
      s,
      c.requires.faithful.0,
      laws,
      c.requires.faithful.1,
      all_rows s c.requires.faithful.0 c.args.store.now c.args.s c.args.t c.cat-cat.result.now c.in-Some.rows c.as_slice.result.now c.args.key.now laws c.requires.faithful.1 c.requires.domain c.requires.codomain c.requires.key c.cat-cat.ensures c.as_slice.ensures rows,
    )

pub returns-in-None-clause-over : goal.returns-in-None-clause-over
returns-in-None-clause-over c = λ functors h.
    let s = c.args.site.now in
    let store = c.args.store.now in
    let k = c.cat-cat.result.now in
    let laws = subst IsCategory c.cat-cat.ensures c.laws.ensures.lawful in
    let cost : all_cells k store c.args.s c.args.t ≡ cells_of s functors c.args.key.now =
    ap (λ (x : Category). all_cells x store c.args.s c.args.t) c.cat-cat.ensures ∙ cells_are s functors store c.args.s c.args.t laws h c.requires.domain c.requires.codomain ∙ ap (cells_of s functors) (sym c.requires.key) in
    omega (arith, over k store c.args.s c.args.t c.room-room.result c.in_ok-all_element_rows.field-0 c.in_ok-all_element_rows.ensures c.in-None.is, cost, c.room-room.ensures.room)

pub returns-in-Some-clause-faithful : goal.returns-in-Some-clause-faithful
returns-in-Some-clause-faithful c = λ functors h.
    let s = c.args.site.now in
    let store = c.args.store.now in
    let laws = subst IsCategory c.cat-cat.ensures c.laws.ensures.lawful in
    let made_rows = made c.cat-cat.result.now store c.args.s c.args.t c.room-room.result c.in_ok-all_element_rows.field-0 c.in-Some.rows c.in_ok-all_element_rows.ensures c.in-Some.is in
    let rows = all_rows s functors store c.args.s c.args.t c.cat-cat.result.now c.in-Some.rows c.as_slice.result.now c.args.key.now laws h c.requires.domain c.requires.codomain c.requires.key c.cat-cat.ensures c.as_slice.ensures made_rows in
    kept_faithful c.seal_type.result s functors store c.seal_type.new.store
    (on_ok_weaker c.seal_type.result (λ f. f s functors laws h (named s functors store c.args.s c.args.t c.args.key.now laws h c.requires.domain c.requires.codomain c.requires.key) rows) c.seal_type.ensures.faithful) c.seal_type.ensures.err h

pub returns-in-Some-clause-over : goal.returns-in-Some-clause-over
returns-in-Some-clause-over c = λ functors h.
    let s = c.args.site.now in
    let store = c.args.store.now in
    let laws = subst IsCategory c.cat-cat.ensures c.laws.ensures.lawful in
    let made_rows = made c.cat-cat.result.now store c.args.s c.args.t c.room-room.result c.in_ok-all_element_rows.field-0 c.in-Some.rows c.in_ok-all_element_rows.ensures c.in-Some.is in
    let rows = all_rows s functors store c.args.s c.args.t c.cat-cat.result.now c.in-Some.rows c.as_slice.result.now c.args.key.now laws h c.requires.domain c.requires.codomain c.requires.key c.cat-cat.ensures c.as_slice.ensures made_rows in
    c.seal_type.ensures.over s functors laws h rows
