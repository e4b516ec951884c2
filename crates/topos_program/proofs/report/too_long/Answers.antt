use Rattle.std.proofs.Common.{ℕ, ◌<◌, List, length}
use Rattle.std.specs.Prelude.{Result, Ok, Err, IfOk}
use Rattle.topos_model.specs.declared.fault.Fault.TheVariants.{TooMany}
use Rattle.topos_model.specs.declared.fault.Kind.TheVariants.{Document}
use Rattle.topos_text.specs.TextFaults as fault
use Rattle.topos_text.specs.TextFaults.{TextFault}
use Rattle.topos_program.specs.declared.report.Report.{Report}
use Rattle.topos_program.specs.Outcome.{limit, IsTextRefusal}
use Rattle.topos_program.proofs.report.too_long.Goals as goal

refused : {E : Type 0} (found : Result Report E) → IfOk found (λ report. (text : List ℕ) → TextFault text (TooMany Document 1048576) → IsTextRefusal text report.text.items report.status)
    → IfOk found (λ report. (text : List ℕ) → limit < length text → IsTextRefusal text report.text.items report.status)
refused (Ok report) h = λ text long. h text (fault.too_long long)
refused (Err e) h = h

pub returns-clause-report : goal.returns-clause-report
returns-clause-report c = refused c.refusal.result c.refusal.ensures.report
