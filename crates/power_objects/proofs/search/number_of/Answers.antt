use Rattle.std.proofs.Common.{◌+◌, ◌-◌, ◌/◌, ◌<◌, [], length, get_or, sym, subst, ◌∙◌, arith}
use Rattle.std.proofs.lemmas.List.{get_or_default}
use Rattle.power_objects.specs.BitOrder.{Precedes, IsOrdered, read_along}
use Rattle.power_objects.proofs.Order.{at_place, only_place, stands_later, stands_before}
use Rattle.power_objects.specs.BitOrder.{place_in}
use Rattle.power_objects.proofs.search.number_of.Goals as goal

pub halves-init : goal.halves-init
halves-init c = record {
  within = omega arith;
  between = λ r i. let p = at_place c.args.sets.now (read_along c.args.along.now c.args.other.now) i in (place_in c.args.sets.now (read_along c.args.along.now c.args.other.now), omega arith, p.0, p.1);
}

pub returns-in-None : goal.returns-in-None
returns-in-None c =
    let sets = c.args.sets.now in
    let m = c.halves.low + (c.halves.high - c.halves.low) / 2 in
    let inside : m < length sets = omega (arith, c.halves-test.true, c.halves.invariant.within) in
    record { found = λ r i. only_place sets (read_along c.args.along.now c.args.other.now) m r inside (sym (c.index-sets-middle.is ∙ get_or_default sets m _ [] inside) ∙ c.in-None.ensures.ordered) }

pub halves-preserved-then-has : goal.halves-preserved-then-has
halves-preserved-then-has c =
    let sets = c.args.sets.now in
    let a = read_along c.args.along.now c.args.other.now in
    let m = c.halves.low + (c.halves.high - c.halves.low) / 2 in
    let inside : m < length sets = omega (arith, c.halves-test.true, c.halves.invariant.within) in
    let order : Precedes (get_or sets m []) a = subst (λ x. Precedes x a) (c.index-sets-middle.is ∙ get_or_default sets m _ [] inside) (subst (λ b. IsOrdered b c.index-sets-middle.result a) c.if-has.true c.in-Some.ensures.ordered) in
    record {
      within = c.halves.invariant.within;
      between = λ r i.
          let (n, low, high, is) = c.halves.invariant.between r i in
          let later = stands_later sets r a n m is (omega (arith, high, c.halves.invariant.within)) inside order in
          (n, omega (arith, later), high, is);
    }

pub halves-preserved : goal.halves-preserved
halves-preserved c =
    let sets = c.args.sets.now in
    let a = read_along c.args.along.now c.args.other.now in
    let m = c.halves.low + (c.halves.high - c.halves.low) / 2 in
    let inside : m < length sets = omega (arith, c.halves-test.true, c.halves.invariant.within) in
    let order : Precedes a (get_or sets m []) = subst (λ x. Precedes a x) (c.index-sets-middle.is ∙ get_or_default sets m _ [] inside) (subst (λ b. IsOrdered b c.index-sets-middle.result a) c.if-has.false c.in-Some.ensures.ordered) in
    record {
      within = omega (arith, inside);
      between = λ r i.
          let (n, low, high, is) = c.halves.invariant.between r i in
          let before = stands_before sets r a n m is (omega (arith, high, c.halves.invariant.within)) inside order in
          (n, low, before, is);
    }
