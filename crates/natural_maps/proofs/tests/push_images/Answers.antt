use Rattle.std.proofs.Common.{ℕ, ◌++◌, [], ◌∷◌, List, map, get_or, ap, sym, ◌∙◌, arith}
use Rattle.std.specs.List.{range_with_len}
use Rattle.std.proofs.lemmas.List.{append_assoc}
use Rattle.std.proofs.lemmas.List.FromFn.{map-range_with_len_more}
use Rattle.topos_model.specs.declared.raw.RawEntry.{RawEntry}
use Rattle.natural_maps.proofs.tests.push_images.Goals as goal

pub loop-x-preserved : goal.loop-x-preserved
loop-x-preserved c =
    let f : ℕ → RawEntry = λ x. record { at = c.args.c; from = x; to = get_or c.args.row.now x 0 } in
    c.in_ok-push.ensures.ok ∙ ap (λ (l : List RawEntry). l ++ f c.loop-x.x ∷ []) c.loop-x.invariant
    ∙ append_assoc c.args.entries.now (map f (range_with_len 0 c.loop-x.x)) (f c.loop-x.x ∷ [])
    ∙ ap (λ (l : List RawEntry). c.args.entries.now ++ l) (sym (map-range_with_len_more f 0 c.loop-x.x c.loop-x.x (omega arith)))
