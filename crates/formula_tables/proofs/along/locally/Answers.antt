use Rattle.std.proofs.lemmas.Result.{IfOk-weaker}
use Rattle.topos_model.specs.topologies.LeastCovers.{least}
use Rattle.formula_tables.proofs.AlongArrows.{site_is, restricted_slice, places_slice, locally_stands}
use Rattle.formula_tables.proofs.along.locally.Goals as goal

pub everywhere-requires-clause-site : goal.everywhere-requires-clause-site
everywhere-requires-clause-site c = site_is _ _ _ _ _ _ c.requires.parts.3.known

pub everywhere-requires-clause-restricted : goal.everywhere-requires-clause-restricted
everywhere-requires-clause-restricted c = restricted_slice _ _ _ _ _ _ c.requires.parts.3.known _ c.as_slice.ensures

pub everywhere-requires-clause-chosen : goal.everywhere-requires-clause-chosen
everywhere-requires-clause-chosen c =
    let known = c.requires.parts.3.known in
    places_slice _ _ _ _ _ _ known (least c.requires.parts.0.site) _ _ _ known.stands.least_cover c.as_slice.ensures c.as_slice-2.ensures

pub returns : goal.returns
returns c =
    IfOk-weaker c.everywhere.result _ _
    (λ truths is w Γ φ h. locally_stands w Γ _ _ _ _ h.known _ _ c.as_slice.ensures c.as_slice-2.ensures φ c.args.truths.now truths h.stands is)
    c.everywhere.ensures
