use Rattle.std.proofs.Common.{◌≡◌, ◌+◌, ◌*◌, ◌<◌, ◌≤◌, ℕ, List, inl, inr, length, refl, sym, ap, subst, ◌∙◌, arith}
use Rattle.std.proofs.lemmas.Bool.{cases_lt, false≢true}
use Rattle.std.proofs.lemmas.Result.{on_ok_weaker}
use Rattle.topos_model.specs.declared.ty.Ty.{Ty, Two}
use Rattle.topos_model.specs.categories.Category.{Category, into}
use Rattle.topos_model.specs.topologies.Cover.{Site}
use Rattle.topos_model.specs.Laws.{IsCategory}
use Rattle.topos_model.specs.types.Types.{Presheaf}
use Rattle.topos_model.specs.statements.Cells.{cells_of}
use Rattle.functor_store.specs.Store.{Store, functor_at}
use Rattle.functor_store.specs.Faithful.{IsFaithful}
use Rattle.sealed_functors.specs.declared.rows.ElementRows.{ElementRows}
use Rattle.sealed_functors.specs.Rows.{rows_at}
use Rattle.sealed_types.specs.Sealed.{sizes_in, restrictions_in}
use Rattle.type_rows.specs.TypeRows.{HoldsNamed, AreTypeRows}
use Rattle.type_rows.proofs.ArrowPlaces.{few_objects}
use Rattle.type_rows.proofs.CellSums.{cells_below, member_within}
use Rattle.type_rows.proofs.Kept.{kept_faithful}
use Rattle.product_objects.specs.PairRows.{ArePairRows, AreFactors, AreFewPairs, pair_cells}
use Rattle.product_objects.proofs.ProductElements.{product_rows, product_cells, product_named, factors}
use Rattle.product_objects.proofs.product.seal_product.Goals as goal

abbrev product_of : Store → ℕ → ℕ → Ty
product_of store i j = Two (functor_at store.sealed i).key (functor_at store.sealed j).key

abbrev all_cells : Category → Store → ℕ → ℕ → ℕ
all_cells k store i j = pair_cells k (sizes_in store i) (sizes_in store j) (restrictions_in store i) (restrictions_in store j)

few_pairs : (k : Category) (store : Store) (i j room : ℕ) → all_cells k store i j ≤ room → room ≤ 64_000_000 → AreFewPairs k store i j
unfolding pair_cells cells_below
few_pairs k store i j room fits few c low =
    let within = member_within (λ c. sizes_in store i c * sizes_in store j c) (λ c. 1 + length (into k c)) c k.objects low (omega arith) in
    omega (arith, within, fits, few)

all_rows : (s : Site) (functors : List Presheaf) (store : Store) (i j : ℕ) (k : Category) (all at : List ElementRows) (key : Ty) → IsCategory s.category → IsFaithful s functors store → i < length store.sealed → j < length store.sealed →
    key ≡ product_of store i j → k ≡ s.category → at ≡ all → length all ≡ k.objects →
    ((c : ℕ) → c < k.objects → ArePairRows k (sizes_in store i) (sizes_in store j) (restrictions_in store i) (restrictions_in store j) c (rows_at all c)) → AreTypeRows s functors key at
all_rows s functors store i j k all at key laws h low low' is e l long rows =
    subst (λ T. AreTypeRows s functors T at) (sym is) (record {
      objects = ap length l ∙ long ∙ ap (λ (x : Category). x.objects) e;
      rows = λ c object.
          let here = subst (λ (x : Category). (c : ℕ) → c < x.objects → ArePairRows x (sizes_in store i) (sizes_in store j) (restrictions_in store i) (restrictions_in store j) c (rows_at all c)) e rows c object in
          product_rows s functors store i j laws h low low' c (rows_at at c) object (subst (λ (r : List ElementRows). ArePairRows s.category (sizes_in store i) (sizes_in store j) (restrictions_in store i) (restrictions_in store j) c (rows_at r c)) (sym l) here);
    })

all_factors : (s : Site) (functors : List Presheaf) (store : Store) (i j : ℕ) (k : Category) → IsCategory s.category → IsFaithful s functors store → i < length store.sealed → j < length store.sealed → k ≡ s.category → AreFactors k store i j
all_factors s functors store i j k laws h low low' e = subst (λ (x : Category). AreFactors x store i j) (sym e) (factors s functors store i j laws h low low')

named : (s : Site) (functors : List Presheaf) (store : Store) (i j : ℕ) (key : Ty) → IsCategory s.category → IsFaithful s functors store → i < length store.sealed → j < length store.sealed → key ≡ product_of store i j → HoldsNamed store key
named s functors store i j key laws h low low' is = subst (HoldsNamed store) (sym is) (product_named s functors store i j laws h low low')

pub pairs_fit-requires : goal.pairs_fit-requires
pairs_fit-requires c = record {
  factors = all_factors c.args.site.now c.requires.faithful.0 c.args.store.now c.args.s c.args.t c.cat-cat.result.now (subst IsCategory c.cat-cat.ensures c.laws.ensures.lawful) c.requires.faithful.1 c.requires.first c.requires.second c.cat-cat.ensures;
}

pub all_pair_rows-requires-clause-factors : goal.all_pair_rows-requires-clause-factors
all_pair_rows-requires-clause-factors c =
    all_factors c.args.site.now c.requires.faithful.0 c.args.store.now c.args.s c.args.t c.cat-cat.result.now (subst IsCategory c.cat-cat.ensures c.laws.ensures.lawful) c.requires.faithful.1 c.requires.first c.requires.second c.cat-cat.ensures

pub all_pair_rows-requires-clause-few : goal.all_pair_rows-requires-clause-few
all_pair_rows-requires-clause-few c =
    few_pairs c.cat-cat.result.now c.args.store.now c.args.s c.args.t c.room-room.result (c.if-not-pairs_fit.ensures.fit.0 refl)
    (let a = c.room-room.ensures.room in let b = c.room-room.ensures.bounded in omega (arith, a, b))

pub seal_type-requires-clause-few : goal.seal_type-requires-clause-few
seal_type-requires-clause-few c =
    let few = few_objects c.cat-cat.result.now c.laws.ensures.lawful in
    let l = c.laws.ensures.few in
    omega (arith, ap length c.as_slice.ensures, c.in_ok-rows.ensures.objects, few, l)

pub seal_type-requires-clause-rows : goal.seal_type-requires-clause-rows
seal_type-requires-clause-rows c =
    let s = c.args.site.now in
    let laws = subst IsCategory c.cat-cat.ensures c.laws.ensures.lawful in (
      s,
      c.requires.faithful.0,
      laws,
      c.requires.faithful.1,
      all_rows s c.requires.faithful.0 c.args.store.now c.args.s c.args.t c.cat-cat.result.now c.in_ok-rows.rows c.as_slice.result.now c.args.key.now laws c.requires.faithful.1 c.requires.first c.requires.second c.requires.key c.cat-cat.ensures c.as_slice.ensures
          c.in_ok-rows.ensures.objects c.in_ok-rows.ensures.rows,
    )

pub returns-then-not-pairs_fit-clause-over : goal.returns-then-not-pairs_fit-clause-over
returns-then-not-pairs_fit-clause-over c = λ functors h.
    let s = c.args.site.now in
    let store = c.args.store.now in
    let k = c.cat-cat.result.now in
    let laws = subst IsCategory c.cat-cat.ensures c.laws.ensures.lawful in
    let cost : all_cells k store c.args.s c.args.t ≡ cells_of s functors c.args.key.now =
    ap (λ (x : Category). all_cells x store c.args.s c.args.t) c.cat-cat.ensures ∙ product_cells s functors store c.args.s c.args.t laws h c.requires.first c.requires.second ∙ ap (cells_of s functors) (sym c.requires.key) in
    elim (cases_lt c.room-room.result (all_cells k store c.args.s c.args.t)) [
      | inl over ↦ omega (arith, over, cost, c.room-room.ensures.room)
      | inr fits ↦ absurd (false≢true (c.if-not-pairs_fit.ensures.fit.1 fits))
    ]

pub returns-clause-faithful : goal.returns-clause-faithful
returns-clause-faithful c = λ functors h.
    let s = c.args.site.now in
    let store = c.args.store.now in
    let laws = subst IsCategory c.cat-cat.ensures c.laws.ensures.lawful in
    let rows = all_rows s functors store c.args.s c.args.t c.cat-cat.result.now c.in_ok-rows.rows c.as_slice.result.now c.args.key.now laws h c.requires.first c.requires.second c.requires.key c.cat-cat.ensures c.as_slice.ensures c.in_ok-rows.ensures.objects c.in_ok-rows.ensures.rows in
    kept_faithful c.seal_type.result s functors store c.seal_type.new.store
    (on_ok_weaker c.seal_type.result (λ f. f s functors laws h (named s functors store c.args.s c.args.t c.args.key.now laws h c.requires.first c.requires.second c.requires.key) rows) c.seal_type.ensures.faithful) c.seal_type.ensures.err h

pub returns-clause-over : goal.returns-clause-over
returns-clause-over c = λ functors h.
    let s = c.args.site.now in
    let laws = subst IsCategory c.cat-cat.ensures c.laws.ensures.lawful in
    let rows = all_rows s functors c.args.store.now c.args.s c.args.t c.cat-cat.result.now c.in_ok-rows.rows c.as_slice.result.now c.args.key.now laws h c.requires.first c.requires.second c.requires.key c.cat-cat.ensures c.as_slice.ensures c.in_ok-rows.ensures.objects c.in_ok-rows.ensures.rows in
    c.seal_type.ensures.over s functors laws h rows
