use Rattle.std.proofs.Common.{length, sym, ap, subst, ◌∙◌}
use Rattle.closed_sets.specs.IdealLaws.{length-lowered}
use Rattle.place_closures.specs.Passes.{moves, covered, two_passes, IsRestrictionClosed}
use Rattle.place_closures.specs.PassLaws.{restricted_moves}
use Rattle.place_closures.proofs.passes.TwoPassesClosing.close.Goals as goal

pub cover-requires-clause-places : goal.cover-requires-clause-places
cover-requires-clause-places c = ap length c.restrict.ensures ∙ length-lowered (moves c.args.self.now.below) c.args.set.now ∙ c.requires

pub cover-requires-clause-moved : goal.cover-requires-clause-moved
cover-requires-clause-moved c =
    let s = c.args.self.now in
    subst (IsRestrictionClosed s.below) (sym c.restrict.ensures) (restricted_moves s.below s.covers s.lawful c.args.set.now c.requires)

pub returns : goal.returns
unfolding two_passes
returns c = c.cover.ensures ∙ ap (covered c.args.self.now.covers) c.restrict.ensures
