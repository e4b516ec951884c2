use Rattle.std.proofs.Common.{◌∙◌, ap}
use Rattle.topos_model.specs.categories.Category.{into}
use Rattle.topos_model.specs.topologies.LeastCovers.{least}
use Rattle.topologies.specs.Topologies.{site_of}
use Rattle.sieve_table.specs.Sieves.{sieve_arrows}
use Rattle.site_stages.specs.Places.{places_among}
use Rattle.site_stages.proofs.SiteStages.{one_more}
use Rattle.site_stages.proofs.stages.least_places.Goals as goal

pub loop-c-preserved : goal.loop-c-preserved
loop-c-preserved c =
    let o = c.loop-c.c in
    one_more _ o c.loop-c.rows _ c.in_ok-places_of.field-0 c.loop-c.invariant c.in_ok-push.ensures.ok
    (c.in_ok-places_of.ensures ∙ ap (λ k. places_among (into k o) (sieve_arrows c.least.result)) c.cat-cat.ensures
    ∙ ap (places_among (into c.args.site.now.category o)) (c.least.ensures.arrows ∙ ap (λ k. least (site_of k c.top.result.now) o) c.cat-cat.ensures ∙ ap (λ s. least s o) c.top.ensures.site))
