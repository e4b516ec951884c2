use Rattle.std.proofs.Common.{length, List, ℕ, sym, ap, subst, ◌∙◌}
use Rattle.finite_lists.proofs.Lists.{Contains_In}
use Rattle.topos_model.specs.presheaves.Maps.{IsNatural}
use Rattle.topos_model.specs.presheaves.NaturalMaps.{maps}
use Rattle.natural_maps.specs.Places.{offset, cut}
use Rattle.natural_maps.proofs.AllMaps.{maps_are_natural}
use Rattle.natural_maps.proofs.listing.map_of.Goals as goal

pub cut_rows-requires : goal.cut_rows-requires
cut_rows-requires c = c.requires.places ∙ ap (λ (l : List ℕ). offset l (length l)) (sym c.sizes.ensures)

pub from_rows-requires : goal.from_rows-requires
from_rows-requires c =
    let k = c.args.cat.now in
    let P = c.args.p.now in
    let Q = c.args.q.now in
    record {
      natural =
          subst (IsNatural k P Q) (sym (c.in_ok-rows.ensures ∙ ap (λ (l : List ℕ). cut l c.args.values.now) c.sizes.ensures))
          ((maps_are_natural k P Q c.laws.ensures.lawful c.requires.domain c.requires.codomain).0 (cut P.sizes c.args.values.now) (Contains_In (maps k P Q) (cut P.sizes c.args.values.now) c.requires.natural));
    }
