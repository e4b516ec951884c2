use Rattle.std.proofs.Common.{ℕ, [], ◌∷◌, ◌++◌, map, sym, ap, ◌∙◌, arith}
use Rattle.std.specs.List.{range_with_len}
use Rattle.std.proofs.lemmas.List.{take_all}
use Rattle.std.proofs.lemmas.List.FromFn.{map-range_with_len_more}
use Rattle.topos_model.specs.categories.Listed.{all_ends}
use Rattle.fin_category.proofs.ends.all_ends.Goals as goal

pub loop-c-preserved : goal.loop-c-preserved
loop-c-preserved c =
    c.in_ok-push.ensures.ok
    ∙ ap (λ ends. ends ++ (c.loop-c.c, c.loop-c.c) ∷ []) c.loop-c.invariant
    ∙ sym (map-range_with_len_more (λ (c : ℕ). (c, c)) 0 c.loop-c.c c.loop-c.c (omega arith))

pub returns : goal.returns
unfolding all_ends
returns c =
    c.loop-declared.invariant
    ∙ ap (λ ends. map (λ (c : ℕ). (c, c)) (range_with_len 0 c.args.raw.now.objects) ++ ends) (take_all c.loop-declared.declared-index c.args.raw.now.ends (rw c.as_slice-declared-items.ensures at c.loop-declared-test.false))
