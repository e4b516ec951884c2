use Rattle.std.proofs.Common.{◌≡◌, ◌+◌, ℕ, List, [], ◌∷◌, set, length, get_or, sym, ap, ◌∙◌, arith}
use Rattle.std.proofs.lemmas.List.{take_all, length-append}
use Rattle.natural_search.specs.declared.domains.Change.{Change}
use Rattle.natural_search.specs.Domains.{at_level}
use Rattle.natural_search.proofs.Narrowing.{level_now, rewound_more, popped, undone_length, whole_level}
use Rattle.natural_search.proofs.domains.Domains.rewind.Goals as goal

pub changes-init : goal.changes-init
changes-init c = record {
  high = c.requires.level;
  low = omega arith;
  trail = sym (take_all (length c.args.self.now.trail.items) c.args.self.now.trail.items (omega arith));
  masks = sym (level_now c.args.self.now (length c.args.self.now.trail.items) (omega arith));
}

pub index_mut-requires : goal.index_mut-requires
index_mut-requires c =
    let trail = c.args.self.now.trail.items in
    let now = c.changes.self.trail.items in
    let is = popped trail now c.pop.new.self.items c.in-Some.change c.in-Some.ensures.items c.changes.invariant.low c.changes.invariant.trail in
    let n : length c.changes.self.masks.items ≡ length c.args.self.now.masks.items = ap length c.changes.invariant.masks ∙ undone_length c.args.self.now.masks.items _ in
    let p : c.in-Some.change.place ≡ (get_or trail (length c.pop.new.self.items) c.in-Some.change).place = ap (λ (x : Change). x.place) is.is in
    omega (arith, n, p, c.requires.whole (length c.pop.new.self.items) c.in-Some.change is.low)

pub changes-preserved-in-Some : goal.changes-preserved-in-Some
changes-preserved-in-Some c =
    let d = c.args.self.now in
    let now = c.changes.self.trail.items in
    let rest = c.pop.new.self.items in
    let is = popped d.trail.items now rest c.in-Some.change c.in-Some.ensures.items c.changes.invariant.low c.changes.invariant.trail in
    let n : length now ≡ length rest + 1 = ap length c.in-Some.ensures.items ∙ length-append rest (c.in-Some.change ∷ []) in
    record {
      high = omega (arith, n, c.changes-test.true, c.len.ensures);
      low = omega (arith, is.low);
      trail = is.kept;
      masks = ap (λ (l : List ℕ). set l c.in-Some.change.place c.in-Some.change.before) (c.changes.invariant.masks ∙ ap (at_level d) n) ∙ rewound_more d (length rest) c.in-Some.change is.low is.is;
    }

pub returns-clause-whole : goal.returns-clause-whole
returns-clause-whole c = whole_level c.args.self.now c.changes.self (length c.changes.self.trail.items) c.requires.whole c.changes.invariant.low c.changes.invariant.trail c.changes.invariant.masks
