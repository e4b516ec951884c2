use Rattle.std.proofs.Common.{sym}
use Rattle.topos_session.proofs.StatementForms.{range-other}
use Rattle.topos_session.proofs.range.is_in_range.Goals as goal

pub returns-in_default : goal.returns-in_default
returns-in_default c =
    let d = c.in_default in
    sym (range-other c.args.objects c.args.ends.now c.args.counts.functors c.args.counts.maps c.args.stmt.now d.not-Presheaf d.not-Map d.not-Product d.not-Coproduct d.not-Equalizer d.not-Coequalizer d.not-Pullback d.not-Pushout d.not-Image d.not-Sheaf d.not-Hom d.not-Show d.not-Classify d.not-Valid d.not-Let d.not-Build d.not-Sub)
