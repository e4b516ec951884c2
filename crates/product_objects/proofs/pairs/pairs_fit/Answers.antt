use Rattle.std.proofs.Common.{◌≡◌, ◌+◌, ◌*◌, ℕ, length, refl, sym, ap, ◌∙◌, arith}
use Rattle.std.proofs.lemmas.Bool.{false≢true}
use Rattle.topos_model.specs.categories.Category.{into}
use Rattle.sealed_types.specs.Sealed.{sizes_in}
use Rattle.type_rows.proofs.CellSums.{cells_below, cells_none, cells_more, over_all, over_room, within_room}
use Rattle.product_objects.specs.PairRows.{pair_cells}
use Rattle.product_objects.proofs.pairs.pairs_fit.Goals as goal

pub loop-c-init : goal.loop-c-init
loop-c-init c =
    let k = c.args.cat.now in
    let store = c.args.store.now in
    omega (arith, cells_none (λ x. sizes_in store c.args.s x * sizes_in store c.args.t x) (λ x. 1 + length (into k x)))

pub returns-then-left-cost : goal.returns-then-left-cost
unfolding pair_cells cells_below
returns-then-left-cost c =
    let k = c.args.cat.now in
    let store = c.args.store.now in
    let count : ℕ → ℕ = λ x. sizes_in store c.args.s x * sizes_in store c.args.t x in
    let cost : ℕ → ℕ = λ x. 1 + length (into k x) in
    let x = c.loop-c.c in
    let n : c.from.result * c.from-in-loop-c.result ≡ count x =
    ap (λ m. m * c.from-in-loop-c.result) (c.from.ensures ∙ c.count.ensures.elements) ∙ ap (λ m. sizes_in store c.args.s x * m) (c.from-in-loop-c.ensures ∙ c.count-in-loop-c.ensures.elements) in
    let w : 1 + length c.arrows_into.result.now ≡ cost x = ap (λ l. 1 + length l) c.arrows_into.ensures.value in
    let over = over_room (c.from.result * c.from-in-loop-c.result) c.loop-c.left (1 + length c.arrows_into.result.now) (omega arith) c.if-left-cost.true in
    let same : c.from.result * c.from-in-loop-c.result * (1 + length c.arrows_into.result.now) ≡ count x * cost x = ap (λ m. m * (1 + length c.arrows_into.result.now)) n ∙ ap (λ m. count x * m) w in
    let all = over_all count cost c.args.room c.loop-c.left x k.objects c.loop-c.invariant (omega (arith, c.loop-c-test.true, c.objects-c-end.ensures.count)) (omega (arith, over, same)) in
    record { fit = (λ e. absurd (false≢true e), λ fits. absurd (omega (arith, fits, all))) }

pub loop-c-preserved : goal.loop-c-preserved
loop-c-preserved c =
    let k = c.args.cat.now in
    let store = c.args.store.now in
    let count : ℕ → ℕ = λ x. sizes_in store c.args.s x * sizes_in store c.args.t x in
    let cost : ℕ → ℕ = λ x. 1 + length (into k x) in
    let x = c.loop-c.c in
    let n : c.from.result * c.from-in-loop-c.result ≡ count x =
    ap (λ m. m * c.from-in-loop-c.result) (c.from.ensures ∙ c.count.ensures.elements) ∙ ap (λ m. sizes_in store c.args.s x * m) (c.from-in-loop-c.ensures ∙ c.count-in-loop-c.ensures.elements) in
    let w : 1 + length c.arrows_into.result.now ≡ cost x = ap (λ l. 1 + length l) c.arrows_into.ensures.value in
    let within = within_room (c.from.result * c.from-in-loop-c.result) c.loop-c.left (1 + length c.arrows_into.result.now) (let t = c.if-left-cost.false in omega (arith, t)) in
    let same : c.from.result * c.from-in-loop-c.result * (1 + length c.arrows_into.result.now) ≡ count x * cost x = ap (λ m. m * (1 + length c.arrows_into.result.now)) n ∙ ap (λ m. count x * m) w in
    omega (arith, within, same, c.loop-c.invariant, cells_more count cost x)

pub returns : goal.returns
unfolding pair_cells cells_below
returns c =
    let k = c.args.cat.now in
    let store = c.args.store.now in
    let count : ℕ → ℕ = λ x. sizes_in store c.args.s x * sizes_in store c.args.t x in
    let cost : ℕ → ℕ = λ x. 1 + length (into k x) in
    let end : c.loop-c.c ≡ k.objects = omega (arith, c.loop-c-test.false, c.loop-c.auto.c-end, c.objects-c-end.ensures.count) in
    let all : c.loop-c.left + cells_below count cost k.objects ≡ c.args.room = ap (λ n. c.loop-c.left + cells_below count cost n) (sym end) ∙ c.loop-c.invariant in
    record { fit = (λ e. omega (arith, all), λ fits. refl) }
