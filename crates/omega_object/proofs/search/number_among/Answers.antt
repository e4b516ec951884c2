use Rattle.std.proofs.Common.{◌+◌, ◌-◌, ◌/◌, ◌<◌, [], length, map, sym, subst, arith}
use Rattle.std.proofs.lemmas.List.{length-map}
use Rattle.fin_category.specs.Masks.{IsFirstDifference}
use Rattle.fin_category.specs.ArrowSets.{arrows_in}
use Rattle.omega_object.proofs.Precedence.{mapped_at, stands, stands_later, stands_before}
use Rattle.omega_object.proofs.search.number_among.Goals as goal

pub halves-init : goal.halves-init
halves-init c =
    let rows = c.args.rows.now in
    record {
      within = omega arith;
      between = λ r i. let s = stands (map arrows_in rows) (arrows_in c.args.set) [] i in (s.0, omega arith, omega (arith, s.1, length-map rows arrows_in), s.2);
    }

pub halves-preserved-then-contains : goal.halves-preserved-then-contains
halves-preserved-then-contains c =
    let rows = c.args.rows.now in
    let m = c.halves.low + (c.halves.high - c.halves.low) / 2 in
    record {
      within = c.halves.invariant.within;
      between = λ r i.
          let (n, low, high, is) = c.halves.invariant.between r i in
          let inside : m < length rows = omega (arith, c.halves-test.true, c.halves.invariant.within) in
          let first = subst (λ S. IsFirstDifference c.in-Some.f S (arrows_in c.args.set)) (sym (mapped_at arrows_in rows m _ [] inside)) c.in-Some.ensures in
          let later = stands_later (map arrows_in rows) r (arrows_in c.args.set) n m c.in-Some.f is (omega (arith, high, c.halves.invariant.within, length-map rows arrows_in)) (omega (arith, inside, length-map rows arrows_in)) first
          (sym c.if-contains.ensures) in
          (n, omega (arith, later), high, is);
    }

pub halves-preserved : goal.halves-preserved
halves-preserved c =
    let rows = c.args.rows.now in
    let m = c.halves.low + (c.halves.high - c.halves.low) / 2 in
    let inside : m < length rows = omega (arith, c.halves-test.true, c.halves.invariant.within) in
    record {
      within = omega (arith, inside);
      between = λ r i.
          let (n, low, high, is) = c.halves.invariant.between r i in
          let first = subst (λ S. IsFirstDifference c.in-Some.f S (arrows_in c.args.set)) (sym (mapped_at arrows_in rows m _ [] inside)) c.in-Some.ensures in
          let before = stands_before (map arrows_in rows) r (arrows_in c.args.set) n m c.in-Some.f is (omega (arith, high, c.halves.invariant.within, length-map rows arrows_in)) (omega (arith, inside, length-map rows arrows_in)) first
          (sym c.if-contains.ensures) in
          (n, low, before, is);
    }
