use Rattle.std.proofs.Common.{◌≡◌, ℕ, ◌+◌, ◌++◌, [], ◌∷◌, List, map, get_or, ap, sym, ◌∙◌, arith}
use Rattle.std.specs.List.{range_with_len}
use Rattle.std.proofs.lemmas.List.FromFn.{map-range_with_len_more}
use Rattle.std.proofs.lemmas.Option.{get_or_from_slice_get}
use Rattle.topos_model.specs.declared.raw.RawAlong.{RawAlong}
use Rattle.natural_maps.specs.Tables.{table_entries, along_at}
use Rattle.exponentials.proofs.tests.along.Goals as goal

pub loop-i-preserved : goal.loop-i-preserved
loop-i-preserved c =
    let rows = c.args.rows.now in
    let i = c.loop-i.i in
    let row : c.as_slice.result.now ≡ get_or rows i [] = c.as_slice.ensures ∙ sym (get_or_from_slice_get rows i c.get.result.now [] c.get.ensures) in
    let made : List (ℕ × ℕ) → RawAlong = λ entries. record { arrow = c.args.objects + i; entries = entries } in
    c.in_ok-push.ensures.ok ∙ ap (λ (l : List RawAlong). l ++ made c.in_ok-entries.entries ∷ []) c.loop-i.invariant
    ∙ ap (λ (e : List (ℕ × ℕ)). map (along_at c.args.objects rows) (range_with_len 0 i) ++ made e ∷ []) (c.in_ok-entries.ensures ∙ ap table_entries row)
    ∙ sym (map-range_with_len_more (along_at c.args.objects rows) 0 i i (omega arith))
