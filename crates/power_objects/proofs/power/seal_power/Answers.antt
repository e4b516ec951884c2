use Rattle.std.proofs.Common.{◌≡◌, ◌<◌, ℕ, List, Err, length, sym, ap, subst, ◌∙◌, arith}
use Rattle.std.proofs.lemmas.Result.{on_ok_weaker}
use Rattle.topos_model.specs.declared.ty.Ty.{Ty, Pow}
use Rattle.topos_model.specs.categories.Category.{Category}
use Rattle.topos_model.specs.topologies.Cover.{Site}
use Rattle.topos_model.specs.Laws.{IsCategory, IsTopology}
use Rattle.topos_model.specs.types.Types.{Presheaf}
use Rattle.topos_model.specs.statements.Cells.{cells_of}
use Rattle.functor_store.specs.declared.fault.StoreFault.{StoreFault}
use Rattle.functor_store.specs.declared.fault.StoreFault.TheVariants.{Over, NoMemory}
use Rattle.functor_store.specs.Store.{Store, functor_at}
use Rattle.functor_store.specs.Faithful.{IsFaithful}
use Rattle.sealed_functors.specs.declared.rows.ElementRows.{ElementRows}
use Rattle.sealed_functors.specs.Rows.{rows_at, IsOverExactly}
use Rattle.sealed_types.specs.Sealed.{sizes_in, restrictions_in}
use Rattle.type_rows.specs.TypeRows.{HoldsNamed, AreTypeRows}
use Rattle.type_rows.proofs.ArrowPlaces.{few_objects}
use Rattle.type_rows.proofs.Kept.{kept_faithful}
use Rattle.power_objects.specs.SubsetRows.{AreSubsetRows, subset_cells}
use Rattle.power_objects.proofs.SubsetElements.{power_rows, power_cells, power_named}
use Rattle.power_objects.proofs.power.seal_power.Goals as goal

abbrev power_of : Store → ℕ → Ty
power_of store t = Pow (functor_at store.sealed t).key

all_rows : (s : Site) (functors : List Presheaf) (store : Store) (t : ℕ) (all at : List ElementRows) (key : Ty) → IsCategory s.category → IsTopology s → IsFaithful s functors store → t < length store.sealed → key ≡ power_of store t → at ≡ all → length all ≡ s.category.objects →
    ((c : ℕ) → c < s.category.objects → AreSubsetRows s (sizes_in store t) (restrictions_in store t) c (rows_at all c)) → AreTypeRows s functors key at
all_rows s functors store t all at key laws top h low is l long rows =
    subst (λ T. AreTypeRows s functors T at) (sym is) (record {
      objects = ap length l ∙ long;
      rows = λ c object. power_rows s functors store t laws top h low c (rows_at at c) object (subst (λ (r : List ElementRows). AreSubsetRows s (sizes_in store t) (restrictions_in store t) c (rows_at r c)) (sym l) (rows c object));
    })

named : (s : Site) (functors : List Presheaf) (store : Store) (t : ℕ) (key : Ty) → IsCategory s.category → IsTopology s → IsFaithful s functors store → t < length store.sealed → key ≡ power_of store t → HoldsNamed store key
named s functors store t key laws top h low is = subst (HoldsNamed store) (sym is) (power_named s functors store t laws top h low)

pub seal_type-requires-clause-few : goal.seal_type-requires-clause-few
seal_type-requires-clause-few c =
    let few = few_objects c.cat.result.now c.laws.ensures.lawful in
    let l = c.laws.ensures.few in
    omega (arith, ap length c.as_slice.ensures, c.in-Ok.ensures.objects, few, l, ap (λ (k : Category). k.objects) c.cat.ensures)

pub seal_type-requires-clause-rows : goal.seal_type-requires-clause-rows
seal_type-requires-clause-rows c =
    let s = c.args.site.now in
    let laws = subst (λ (k : Category). IsCategory k) c.cat.ensures c.laws.ensures.lawful in
    let top = subst (λ (t : Site). IsTopology t) c.top-topology.ensures.site c.top-topology.ensures.topology.topology in (
      s,
      c.requires.faithful.0,
      laws,
      c.requires.faithful.1,
      all_rows s c.requires.faithful.0 c.args.store.now c.args.t c.in-Ok.rows c.as_slice.result.now c.args.key.now laws top c.requires.faithful.1 c.requires.part c.requires.key c.as_slice.ensures c.in-Ok.ensures.objects c.in-Ok.ensures.rows,
    )

over_same : (fault : StoreFault) (P Q : Type 0) → (P → Q) → IsOverExactly {A = List ElementRows} (Err fault) P → IsOverExactly {A = ℕ} (Err fault) Q
over_same Over P Q f h = f h
over_same NoMemory P Q f h = tt

pub returns-in-Err-clause-over : goal.returns-in-Err-clause-over
returns-in-Err-clause-over c = λ functors h.
    let s = c.args.site.now in
    let store = c.args.store.now in
    let laws = subst (λ (k : Category). IsCategory k) c.cat.ensures c.laws.ensures.lawful in
    let top = subst (λ (t : Site). IsTopology t) c.top-topology.ensures.site c.top-topology.ensures.topology.topology in
    let e : subset_cells s (sizes_in store c.args.t) (restrictions_in store c.args.t) ≡ cells_of s functors c.args.key.now = power_cells s functors store c.args.t laws top h c.requires.part ∙ ap (cells_of s functors) (sym c.requires.key) in
    over_same c.in-Err.fault _ _ (λ over. omega (arith, over, e)) c.in-Err.ensures.over

pub returns-in-Ok-clause-faithful : goal.returns-in-Ok-clause-faithful
returns-in-Ok-clause-faithful c = λ functors h.
    let s = c.args.site.now in
    let store = c.args.store.now in
    let laws = subst (λ (k : Category). IsCategory k) c.cat.ensures c.laws.ensures.lawful in
    let top = subst (λ (t : Site). IsTopology t) c.top-topology.ensures.site c.top-topology.ensures.topology.topology in
    let rows = all_rows s functors store c.args.t c.in-Ok.rows c.as_slice.result.now c.args.key.now laws top h c.requires.part c.requires.key c.as_slice.ensures c.in-Ok.ensures.objects c.in-Ok.ensures.rows in
    kept_faithful c.seal_type.result s functors store c.seal_type.new.store
    (on_ok_weaker c.seal_type.result (λ f. f s functors laws h (named s functors store c.args.t c.args.key.now laws top h c.requires.part c.requires.key) rows) c.seal_type.ensures.faithful) c.seal_type.ensures.err h

pub returns-in-Ok-clause-over : goal.returns-in-Ok-clause-over
returns-in-Ok-clause-over c = λ functors h.
    let s = c.args.site.now in
    let laws = subst (λ (k : Category). IsCategory k) c.cat.ensures c.laws.ensures.lawful in
    let top = subst (λ (t : Site). IsTopology t) c.top-topology.ensures.site c.top-topology.ensures.topology.topology in
    let rows = all_rows s functors c.args.store.now c.args.t c.in-Ok.rows c.as_slice.result.now c.args.key.now laws top h c.requires.part c.requires.key c.as_slice.ensures c.in-Ok.ensures.objects c.in-Ok.ensures.rows in
    c.seal_type.ensures.over s functors laws h rows
