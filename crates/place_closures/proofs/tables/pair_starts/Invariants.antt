use Rattle.std.proofs.Common.{◌≡◌, ℕ, length, get_or, take}
use Rattle.finite_lists.specs.Members.{In}
use Rattle.topos_model.specs.categories.Category.{dom}
use Rattle.place_closures.specs.Pairs.{start}
use Rattle.place_closures.proofs.PairNumbers.{total}
use Rattle.place_closures.proofs.tables.pair_starts.Given as goal

abbrev pub invariant-loop-f : goal.invariant-loop-f
invariant-loop-f g l = record {
  arrows : length l.starts.items ≡ length l.cat.ends;
  before_is : l.before ≡ total (λ f. g.X.Elements.size l.x (dom l.cat f)) (take l.f-index l.f-items);
  done : (f : ℕ) → In (take l.f-index l.f-items) f → get_or l.starts.items f 0 ≡ start l.cat (g.X.Elements.size l.x) (g.X.Elements.restriction l.x) l.c f;
}
