use Rattle.std.proofs.Common.{◌+◌, ℕ, List, [], ◌∷◌, ◌++◌, get_or, take, drop, sym, ap, ◌∙◌, arith}
use Rattle.natural_maps.specs.Places.{cut}
use Rattle.natural_maps.proofs.Offsets.{offset-none, offset-more}
use Rattle.natural_maps.proofs.CutRows.{cut-more, piece_within}
use Rattle.natural_maps.proofs.listing.cut_rows.Goals as goal

pub loop-size-init : goal.loop-size-init
loop-size-init c = record { rows = c.new-rows.ensures; start = sym (offset-none c.args.sizes.now) }

pub piece-requires : goal.piece-requires
piece-requires c = omega (arith, c.loop-size.invariant.start, c.requires, piece_within c.args.sizes.now c.loop-size.size-index c.loop-size-test.true)

pub loop-size-preserved : goal.loop-size-preserved
loop-size-preserved c =
    let sizes = c.args.sizes.now in
    let values = c.args.values.now in
    let i = c.loop-size.size-index in
    record {
      rows =
          c.in_ok-push.ensures.ok ∙ ap (λ (l : List (List ℕ)). l ++ c.in_ok-piece.field-0 ∷ []) c.loop-size.invariant.rows
          ∙ ap (λ (r : List ℕ). cut (take i sizes) values ++ r ∷ []) (c.in_ok-piece.ensures ∙ ap (λ n. take (get_or sizes i 0) (drop n values)) c.loop-size.invariant.start)
          ∙ sym (cut-more sizes values i c.loop-size-test.true);
      start = ap (λ n. n + get_or sizes i 0) c.loop-size.invariant.start ∙ sym (offset-more sizes i c.loop-size-test.true);
    }
