use Rattle.std.proofs.Common.{◌≡◌, true, false, get_or}
use Rattle.std.proofs.lemmas.Result.{IfOk-weaker}
use Rattle.finite_limits.specs.Kept.{AreKept, IsValue}
use Rattle.finite_limits.proofs.ImageParts.{kept_values}
use Rattle.finite_limits.proofs.values.values.Goals as goal

pub returns : goal.returns
returns c =
    IfOk-weaker c.kept.result (λ kept. AreKept (λ x. get_or c.in_ok-marks.marks x false ≡ true) c.args.size kept.0 kept.1) (λ kept. AreKept (IsValue c.args.m.now) c.args.size kept.0 kept.1)
    (λ kept. kept_values c.args.m.now c.args.size c.in_ok-marks.marks kept.0 kept.1 c.in_ok-marks.ensures) c.kept.ensures
