use Rattle.std.proofs.Common.{◌≡◌, ◌≤◌, length, take}
use Rattle.natural_search.specs.Domains.{at_level}
use Rattle.natural_search.proofs.domains.Domains.rewind.Given as goal

abbrev pub invariant-changes : goal.invariant-changes
invariant-changes l = record {
  high : l.level ≤ length l.self.trail.items;
  low : length l.self.trail.items ≤ length l.fn.self.trail.items;
  trail : l.self.trail.items ≡ take (length l.self.trail.items) l.fn.self.trail.items;
  masks : l.self.masks.items ≡ at_level l.fn.self (length l.self.trail.items);
}

abbrev pub decreases-changes : goal.decreases-changes
decreases-changes l = length l.self.trail.items
