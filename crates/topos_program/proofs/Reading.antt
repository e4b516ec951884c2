-- From what was taken from a source to the report of its text.
use Rattle.std.proofs.Common.{◌≡◌, ℕ, ◌+◌, ◌<◌, ◌≤◌, List, ◌++◌, length, drop, Option, None, Some, IfSome, arith, ap, inr, sym, subst, ◌∙◌, append-nil, length-append}
use Rattle.std.proofs.lemmas.List.{drop_all}
use Rattle.std.proofs.Math.Seq.{drop-append_seam}
use Rattle.std.specs.Io.KnownBytes.{Consumes, IsAtEnd}
use Rattle.topos_program.specs.declared.status.Status.{Status}
use Rattle.topos_program.specs.Outcome.{limit, IsReportOf, IsTextRefusal, Reports}

-- a text that was read to its end
pub whole_reports : (a b : Option (List ℕ)) (bytes written : List ℕ) (ended : Status) → Consumes a b bytes → IsAtEnd b → length bytes ≤ limit
    → IsReportOf bytes written ended → IfSome a (λ text. Reports text written ended b)
whole_reports None b bytes written ended taken at_end short report = tt
whole_reports (Some text) None bytes written ended taken at_end short report = absurd taken
whole_reports (Some text) (Some rest) bytes written ended taken at_end short report =
    let joined : text ≡ bytes ++ rest = taken in
    let same : text ≡ bytes = joined ∙ ap (λ l. bytes ++ l) at_end ∙ append-nil bytes in
    let fits : length text ≤ limit = omega (arith, ap length same, short) in
    let within : length text ≤ limit + 1 = omega (arith, fits) in
    record {
      report_is = subst (λ l. IsReportOf l written ended) (sym same) report;
      read_out = ap Some (at_end ∙ sym (drop_all (limit + 1) text within));
    }

-- a text of which one byte past the limit was taken
pub beyond_reports : (a b : Option (List ℕ)) (bytes written : List ℕ) (ended : Status) → Consumes a b bytes → length bytes ≡ limit + 1
    → ((text : List ℕ) → limit < length text → IsTextRefusal text written ended) → IfSome a (λ text. Reports text written ended b)
beyond_reports None b bytes written ended taken long refusal = tt
beyond_reports (Some text) None bytes written ended taken long refusal = absurd taken
beyond_reports (Some text) (Some rest) bytes written ended taken long refusal =
    let joined : text ≡ bytes ++ rest = taken in
    let size : length text ≡ length bytes + length rest = ap length joined ∙ length-append bytes rest in
    let past : limit < length text = omega (arith, size, long) in
    let left : drop (limit + 1) text ≡ rest = ap (λ n. drop n text) (sym long) ∙ ap (drop (length bytes)) joined ∙ drop-append_seam bytes rest in
    record {
      report_is = inr (refusal text past);
      read_out = ap Some (sym left);
    }
