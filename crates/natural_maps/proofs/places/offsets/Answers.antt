use Rattle.std.proofs.Common.{◌≡◌, ◌+◌, List, [], ◌∷◌, ◌++◌, map, get_or, ℕ, sym, ap, ◌∙◌, arith}
use Rattle.std.specs.List.{range_with_len}
use Rattle.std.proofs.lemmas.List.FromFn.{map-range_with_len_more}
use Rattle.natural_maps.specs.Places.{offset}
use Rattle.natural_maps.proofs.Offsets.{offset-none, offset-more}
use Rattle.natural_maps.proofs.places.offsets.Goals as goal

pub loop-size-init : goal.loop-size-init
loop-size-init c = record {
  offsets = c.in_ok-push.ensures.ok ∙ ap (λ (l : List ℕ). l ++ 0 ∷ []) c.new-offsets.ensures ∙ ap (λ n. n ∷ []) (sym (offset-none c.args.sizes.now));
  before = sym (offset-none c.args.sizes.now);
  few = omega arith;
}

pub loop-size-preserved : goal.loop-size-preserved
loop-size-preserved c =
    let sizes = c.args.sizes.now in
    let i = c.loop-size.size-index in
    let more : c.loop-size.before + get_or sizes i 0 ≡ offset sizes (i + 1) = ap (λ n. n + get_or sizes i 0) c.loop-size.invariant.before ∙ sym (offset-more sizes i c.loop-size-test.true) in
    record {
      offsets =
          c.in_ok-push-2.ensures.ok ∙ ap (λ (l : List ℕ). l ++ (c.loop-size.before + get_or sizes i 0) ∷ []) c.loop-size.invariant.offsets
          ∙ ap (λ n. map (offset sizes) (range_with_len 0 (i + 1)) ++ n ∷ []) more
          ∙ sym (map-range_with_len_more (offset sizes) 0 (i + 1) (i + 1) (omega arith));
      before = more;
      few = omega (arith, c.loop-size.invariant.few, c.type_inv.sizes);
    }
