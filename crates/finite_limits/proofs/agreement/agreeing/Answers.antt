use Rattle.std.proofs.Common.{◌≡◌, true, false, get_or}
use Rattle.std.proofs.lemmas.Result.{IfOk-weaker}
use Rattle.finite_limits.specs.Kept.{AreKept}
use Rattle.finite_limits.proofs.KeptNumbers.{kept_agreeing}
use Rattle.finite_limits.proofs.agreement.agreeing.Goals as goal

pub returns : goal.returns
returns c =
    IfOk-weaker c.kept.result (λ kept. AreKept (λ x. get_or c.in_ok-marks.marks x false ≡ true) c.args.size kept.0 kept.1)
    (λ kept. AreKept (λ x. get_or c.args.m.now x 0 ≡ get_or c.args.n.now x 0) c.args.size kept.0 kept.1)
    (λ kept. kept_agreeing c.args.m.now c.args.n.now c.args.size c.in_ok-marks.marks kept.0 kept.1 c.requires.first c.in_ok-marks.ensures) c.kept.ensures
