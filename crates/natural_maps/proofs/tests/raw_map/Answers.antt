use Rattle.std.proofs.Common.{◌≡◌, ℕ, ◌+◌, ◌++◌, [], List, length, flat_map, get_or, ap, sym, subst, ◌∙◌, arith}
use Rattle.std.specs.List.{range_with_len}
use Rattle.std.proofs.lemmas.Option.{get_or_from_slice_get}
use Rattle.topos_model.specs.declared.raw.RawEntry.{RawEntry}
use Rattle.topos_model.specs.presheaves.MapFaults.{IsMapListing}
use Rattle.natural_maps.specs.Tables.{row_images}
use Rattle.natural_maps.proofs.JoinedBounds.{joined_more}
use Rattle.natural_maps.proofs.TableListings.{map_listing}
use Rattle.natural_maps.proofs.tests.raw_map.Goals as goal

pub loop-c-preserved : goal.loop-c-preserved
loop-c-preserved c =
    let rows = c.args.rows.now in
    let f : ℕ → List RawEntry = λ c. row_images c (get_or rows c []) in
    let row : c.as_slice-row.result.now ≡ get_or rows c.loop-c.c [] = c.as_slice-row.ensures ∙ sym (get_or_from_slice_get rows c.loop-c.c c.get.result.now [] c.get.ensures) in
    c.in_ok-push_images.ensures ∙ ap (λ (l : List RawEntry). l ++ row_images c.loop-c.c c.as_slice-row.result.now) c.loop-c.invariant
    ∙ ap (λ (r : List ℕ). flat_map f (range_with_len 0 c.loop-c.c) ++ row_images c.loop-c.c r) row
    ∙ (let e : c.loop-c.c ≡ 0 + c.loop-c.c = omega arith in ap (λ n. flat_map f (range_with_len 0 c.loop-c.c) ++ f n) e)
    ∙ joined_more f c.loop-c.c 0

pub returns : goal.returns
returns c =
    let rows = c.args.rows.now in
    let n : c.loop-c.c ≡ length rows = omega (arith, c.len-c-end.ensures) in
    let all = c.loop-c.invariant ∙ ap (λ n. flat_map (λ c. row_images c (get_or rows c [])) (range_with_len 0 n)) n in
    subst (λ (l : List RawEntry). IsMapListing c.args.cat.now (record { entries = l })) (sym all) (map_listing c.args.cat.now rows (omega (arith, c.len.ensures, c.objects.ensures.count)))
