use Rattle.std.proofs.Common.{◌∙◌}
use Rattle.std.proofs.lemmas.Result.{IfOk-weaker}
use Rattle.sieve_table.proofs.SieveMembers.{sieve_of}
use Rattle.sheaf_test.proofs.FirstFamilies.{enough}
use Rattle.sheaf_test.proofs.families.failing_family.Goals as goal

pub returns : goal.returns
returns c =
    let k = c.args.cat.now in
    let S = c.args.arrows.now in
    IfOk-weaker c.failing_row.result _ _ (λ failing h. h ∙ enough k c.args.x.now c.args.c S (sieve_of k c.args.c S c.requires.sieve).rises) c.failing_row.ensures
