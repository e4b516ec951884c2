use Rattle.site_stages.proofs.SiteStages.{one_more}
use Rattle.site_stages.proofs.stages.all_sources.Goals as goal

pub loop-c-preserved : goal.loop-c-preserved
loop-c-preserved c = one_more _ c.loop-c.c c.loop-c.rows _ c.in_ok-sources_into.field-0 c.loop-c.invariant c.in_ok-push.ensures.ok c.in_ok-sources_into.ensures
