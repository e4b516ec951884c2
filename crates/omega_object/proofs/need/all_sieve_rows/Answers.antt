use Rattle.std.proofs.Common.{◌≡◌, List, [], ◌∷◌, ◌++◌, inl, inr, length, sym, ap, subst, ◌∙◌, arith}
use Rattle.std.proofs.lemmas.Bool.{cases_lt}
use Rattle.std.proofs.lemmas.List.{length_push, get_or_append_left, get_or_push}
use Rattle.sealed_functors.specs.declared.rows.ElementRows.{ElementRows}
use Rattle.sealed_functors.specs.Rows.{rows_at}
use Rattle.omega_object.specs.Tables.{AreSieveRows}
use Rattle.omega_object.proofs.need.all_sieve_rows.Goals as goal

pub loop-c-preserved : goal.loop-c-preserved
loop-c-preserved c =
    let s = c.args.site.now in
    let all = c.loop-c.all in
    let row : ElementRows = c.in_ok-sieve_rows.field-0 in
    let is : c.push.new.self ≡ all ++ row ∷ [] = c.in_ok-push.ensures.ok in
    let i = c.loop-c.invariant in
    record {
      objects = ap length is ∙ omega (arith, length_push all row, i.objects);
      rows = λ x low.
          elim (cases_lt x c.loop-c.c) [
            | inl b ↦ subst (λ (l : List ElementRows). AreSieveRows s x (rows_at l x)) (sym is) (subst (λ (r : ElementRows). AreSieveRows s x r) (sym (get_or_append_left all (row ∷ []) _ x (omega (arith, b, i.objects)))) (i.rows x b))
            | inr h ↦
                let same : x ≡ c.loop-c.c = omega (arith, low, h) in
                subst (λ (l : List ElementRows). AreSieveRows s x (rows_at l x)) (sym is)
                (subst (λ (r : ElementRows). AreSieveRows s x r) (sym (get_or_push all row _ x (omega (arith, same, i.objects)))) (subst (λ y. AreSieveRows s y row) (sym same) c.in_ok-sieve_rows.ensures.rows))
          ];
    }
