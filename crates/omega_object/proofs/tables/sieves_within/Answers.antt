use Rattle.std.proofs.Common.{◌≡◌, ◌<◌, ◌≤◌, ◌+◌, ◌*◌, ◌/◌, List, length, map, Option, sym, ap, subst, ◌∙◌, arith}
use Rattle.std.specs.List.{range_with_len}
use Rattle.std.specs.Prelude.{MatchOption}
use Rattle.std.proofs.lemmas.List.{length-map}
use Rattle.topos_model.specs.categories.Category.{Category, into}
use Rattle.fin_category.specs.declared.mask.ArrowMask.{ArrowMask}
use Rattle.fin_category.specs.ArrowSets.{arrows_in}
use Rattle.omega_object.specs.TruthValues.{closed_sieves}
use Rattle.omega_object.proofs.Precedence.{mapped_pushed}
use Rattle.omega_object.proofs.CellSums.{cells_below, cells_none, cells_more, cells_all, cells_within, over_room, within_room}
use Rattle.omega_object.proofs.tables.sieves_within.Goals as goal

pub loop-c-init : goal.loop-c-init
loop-c-init c = record { spent = omega (arith, cells_none c.args.site.now); made = ap (map (map arrows_in)) c.new-all.ensures }

pub returns-in-None : goal.returns-in-None
returns-in-None c =
    let s = c.args.site.now in
    let n = length (closed_sieves s c.loop-c.c) in
    let cost = 1 + length c.arrows_into.result.now in
    let over : c.loop-c.left / cost < n = subst (λ (o : Option (List ArrowMask)). MatchOption o (c.loop-c.left / cost < length (closed_sieves s c.loop-c.c)) (λ rows. (map arrows_in rows ≡ closed_sieves s c.loop-c.c) × (length rows ≤ c.loop-c.left / cost))) c.in-None.is c.in_ok-sieves_on.ensures in
    let more = over_room n c.loop-c.left cost (omega arith) over in
    let same : n * cost ≡ n * (1 + length (into s.category c.loop-c.c)) = ap (λ l. n * (1 + length l)) (c.arrows_into.ensures.value ∙ ap (λ (k : Category). into k c.loop-c.c) c.cat-cat.ensures) in
    let low : c.loop-c.c + 1 ≤ s.category.objects = omega (arith, c.loop-c-test.true, c.objects-c-end.ensures.count, ap (λ (k : Category). k.objects) c.cat-cat.ensures) in
    omega (arith, more, same, c.loop-c.invariant.spent, cells_more s c.loop-c.c, cells_within s (c.loop-c.c + 1) s.category.objects low, cells_all s)

pub loop-c-preserved : goal.loop-c-preserved
loop-c-preserved c =
    let s = c.args.site.now in
    let n = length (closed_sieves s c.loop-c.c) in
    let cost = 1 + length c.arrows_into.result.now in
    let listed = subst (λ (o : Option (List ArrowMask)). MatchOption o (c.loop-c.left / cost < length (closed_sieves s c.loop-c.c)) (λ rows. (map arrows_in rows ≡ closed_sieves s c.loop-c.c) × (length rows ≤ c.loop-c.left / cost))) c.in-Some.is c.in_ok-sieves_on.ensures in
    let count : length c.in-Some.rows ≡ n = sym (length-map c.in-Some.rows arrows_in) ∙ ap length listed.0 in
    let within : c.len.result * cost ≤ c.loop-c.left = let w = listed.1 in within_room c.len.result c.loop-c.left cost (omega (arith, w, c.len.ensures)) in
    let same : c.len.result * cost ≡ n * (1 + length (into s.category c.loop-c.c)) =
    ap (λ m. m * cost) (c.len.ensures ∙ count) ∙ ap (λ l. n * (1 + length l)) (c.arrows_into.ensures.value ∙ ap (λ (k : Category). into k c.loop-c.c) c.cat-cat.ensures) in
    record {
      spent = omega (arith, within, same, c.loop-c.invariant.spent, cells_more s c.loop-c.c);
      made = mapped_pushed (map arrows_in) (closed_sieves s) c.loop-c.all c.push.new.self c.in-Some.rows c.loop-c.c c.in_ok-push-in-Some.ensures.ok c.loop-c.invariant.made listed.0;
    }

pub returns : goal.returns
returns c =
    let s = c.args.site.now in
    let n : c.loop-c.c ≡ s.category.objects = omega (arith, c.loop-c-test.false, c.loop-c.auto.c-end, c.objects-c-end.ensures.count, ap (λ (k : Category). k.objects) c.cat-cat.ensures) in (
      c.loop-c.invariant.made ∙ ap (λ m. map (closed_sieves s) (range_with_len 0 m)) n,
      omega (arith, c.loop-c.invariant.spent, ap (cells_below s) n, cells_all s),
    )
