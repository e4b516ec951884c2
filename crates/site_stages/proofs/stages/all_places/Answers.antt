use Rattle.std.proofs.Common.{◌∙◌, ap}
use Rattle.topos_model.specs.categories.Category.{into}
use Rattle.site_stages.specs.Places.{places_among}
use Rattle.site_stages.proofs.SiteStages.{one_more}
use Rattle.site_stages.proofs.stages.all_places.Goals as goal

pub loop-c-preserved : goal.loop-c-preserved
loop-c-preserved c = one_more _ c.loop-c.c c.loop-c.rows _ c.in_ok-places_of.field-0 c.loop-c.invariant c.in_ok-push.ensures.ok (c.in_ok-places_of.ensures ∙ ap (places_among (into c.args.cat.now c.loop-c.c)) c.maximal.ensures.arrows)
