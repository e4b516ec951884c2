use Rattle.std.proofs.Common.{◌≡◌, ℕ, List, length, sym, ap, subst, ◌∙◌, arith}
use Rattle.topos_model.specs.categories.Category.{Category, into}
use Rattle.topos_model.specs.Laws.{IsCategory, IsTopology}
use Rattle.topos_model.specs.topologies.Cover.{Site}
use Rattle.place_closures.specs.Passes.{AreTables}
use Rattle.place_closures.specs.Pairs.{pairs, table}
use Rattle.place_closures.proofs.PairTables.{length-table, tables}
use Rattle.place_closures.proofs.tables.pair_passes.Goals as goal

pub new-requires : goal.new-requires
new-requires g c =
    let s = c.args.site.now in
    let size = g.X.Elements.size c.args.x.now in
    let move = g.X.Elements.restriction c.args.x.now in
    let laws = subst (λ (k : Category). IsCategory k) c.cat-cat.ensures c.laws.ensures.lawful in
    let top = subst (λ (t : Site). IsTopology t) c.top-topology.ensures.site c.top-topology.ensures.topology.topology in
    let below : c.in_ok-below.below ≡ table s.category size move (into s.category) c.args.c = c.in_ok-below.ensures ∙ ap (λ (k : Category). table k size move (into k) c.args.c) c.cat-cat.ensures in
    record {
      lawful = subst (λ (t : List (List ℕ)). AreTables t c.in_ok-covers.covers) (sym below) (subst (λ (t : List (List ℕ)). AreTables (table s.category size move (into s.category) c.args.c) t) (sym c.in_ok-covers.ensures) (tables s laws top size move c.requires.restricts c.args.c));
      few = (let e : length c.in_ok-below.below ≡ length (pairs s.category size move c.args.c) = ap length below ∙ length-table s.category size move (into s.category) c.args.c in omega (arith, e, c.requires.few));
    }
