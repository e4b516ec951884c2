use Rattle.document_limits.proofs.Dropped.{resolved_kept}
use Rattle.document_limits.proofs.DocumentsFit.{document_fits}
use Rattle.document_limits.proofs.DocumentsReturned.{document_returns}
use Rattle.document_limits.proofs.laws.limit_laws.Goals as goal

pub returns : goal.returns
returns c = record { fit = λ tree doc. (λ h. (resolved_kept tree doc h, document_fits tree doc h), λ h. document_returns tree doc h.0 h.1) }
