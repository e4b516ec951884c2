use Rattle.std.proofs.Common.{◌≡◌, ℕ, ◌+◌, List, ◌++◌, flat_map, replicate, ap, ◌∙◌, arith}
use Rattle.std.specs.List.{range_with_len}
use Rattle.topos_model.specs.Laws.{size}
use Rattle.natural_maps.proofs.JoinedBounds.{joined_more}
use Rattle.natural_maps.proofs.bounds.bounds.Goals as goal

pub loop-c-preserved : goal.loop-c-preserved
loop-c-preserved c =
    let f : ℕ → List ℕ = λ c'. replicate (size c.args.p.now c') (size c.args.q.now c') in
    let n : c.loop-c.c ≡ 0 + c.loop-c.c = omega arith in
    c.in_ok-push_times.ensures ∙ ap (λ (l : List ℕ). l ++ replicate c.size-in-loop-c.result c.size.result) c.loop-c.invariant
    ∙ ap (λ a. flat_map f (range_with_len 0 c.loop-c.c) ++ replicate a c.size.result) c.size-in-loop-c.ensures
    ∙ ap (λ b. flat_map f (range_with_len 0 c.loop-c.c) ++ replicate (size c.args.p.now c.loop-c.c) b) c.size.ensures
    ∙ ap (λ a. flat_map f (range_with_len 0 c.loop-c.c) ++ f a) n ∙ joined_more f c.loop-c.c 0
