use Rattle.std.proofs.Common.{◌≡◌, map}
use Rattle.topos_text.specs.Names.{change_by}
use Rattle.topos_text.specs.SiteNames as names
use Rattle.topos_text.specs.Tokens.{written}
use Rattle.topos_names.specs.Spaces.{space_of, limits}
use Rattle.topos_names.proofs.Changes.{left}
use Rattle.topos_names.proofs.space.Space.add_arrows.Given as goal

abbrev pub invariant-loop-f : goal.invariant-loop-f
invariant-loop-f l = record {
  left : change_by (names.with_arrow limits) (space_of l.initial.self) (map written l.fs) ≡ left (names.with_arrow limits) written (space_of l.self) l.fs l.f-index;
  objects : l.self.objects ≡ l.initial.self.objects;
}
