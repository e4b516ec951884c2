use Rattle.std.proofs.Common.{◌++◌, ◌∷◌, [], ℕ, List, map, sym, ap, ◌∙◌, arith}
use Rattle.std.specs.List.{range_with_len}
use Rattle.std.proofs.lemmas.List.FromFn.{map-range_with_len_more}
use Rattle.topos_model.specs.Laws.{size}
use Rattle.finite_colimits.proofs.sum.first_rows.Goals as goal

pub loop-c-preserved : goal.loop-c-preserved
loop-c-preserved c =
    let value : ℕ → List ℕ = λ d. range_with_len 0 (size c.args.x.now d) in
    c.in_ok-push.ensures.ok ∙ ap (λ rows. rows ++ c.in_ok-run.field-0 ∷ []) c.loop-c.invariant
    ∙ ap (λ row. map value (range_with_len 0 c.loop-c.c) ++ row ∷ []) (c.in_ok-run.ensures ∙ ap (range_with_len 0) c.size.ensures) ∙ sym (map-range_with_len_more value 0 c.loop-c.c c.loop-c.c (omega arith))
