use Rattle.std.proofs.Common.{◌≡◌, ◌++◌, ◌∷◌, [], ℕ, List, map, sym, ap, ◌∙◌, arith}
use Rattle.std.specs.List.{range_with_len}
use Rattle.std.proofs.lemmas.List.FromFn.{map-range_with_len_more}
use Rattle.topos_model.specs.Laws.{size}
use Rattle.finite_limits.specs.Pairs.{firsts, seconds, starts, whole_fibres, whole_places}
use Rattle.finite_limits.proofs.all_pairs.all_pairs.Goals as goal

pub loop-c-preserved : goal.loop-c-preserved
loop-c-preserved c =
    let d : ℕ = c.loop-c.c in
    let whole : ℕ → ℕ → List ℕ = λ n _. range_with_len 0 n in
    let a : c.size-a.result ≡ size c.args.x.now d = c.size-a.ensures in
    let b : c.size-b.result ≡ size c.args.y.now d = c.size-b.ensures in
    let first : ℕ → List ℕ = λ e. firsts (whole_fibres c.args.y.now e) (size c.args.x.now e) in
    let second : ℕ → List ℕ = λ e. seconds (whole_fibres c.args.y.now e) (size c.args.x.now e) in
    let start : ℕ → List ℕ = λ e. starts (whole_fibres c.args.y.now e) (size c.args.x.now e) in
    record {
      first =
          c.in_ok-push.ensures.ok ∙ ap (λ (rows : List (List ℕ)). rows ++ c.in_ok-left.left ∷ []) c.loop-c.invariant.first
          ∙ ap (λ (row : List ℕ). map first (range_with_len 0 d) ++ row ∷ [])
          (c.in_ok-left.ensures.first ∙ ap (λ (n : ℕ). firsts (whole n) c.size-a.result) b ∙ ap (firsts (whole (size c.args.y.now d))) a)
          ∙ sym (map-range_with_len_more first 0 d d (omega arith));
      second =
          c.in_ok-push-2.ensures.ok ∙ ap (λ (rows : List (List ℕ)). rows ++ c.in_ok-left.right ∷ []) c.loop-c.invariant.second
          ∙ ap (λ (row : List ℕ). map second (range_with_len 0 d) ++ row ∷ [])
          (c.in_ok-left.ensures.second ∙ ap (λ (n : ℕ). seconds (whole n) c.size-a.result) b ∙ ap (seconds (whole (size c.args.y.now d))) a)
          ∙ sym (map-range_with_len_more second 0 d d (omega arith));
      starts =
          c.in_ok-push-3.ensures.ok ∙ ap (λ (rows : List (List ℕ)). rows ++ c.in_ok-start.start ∷ []) c.loop-c.invariant.starts
          ∙ ap (λ (row : List ℕ). map start (range_with_len 0 d) ++ row ∷ [])
          (c.in_ok-start.ensures ∙ ap (λ (n : ℕ). starts (whole n) c.size-a.result) b ∙ ap (starts (whole (size c.args.y.now d))) a)
          ∙ sym (map-range_with_len_more start 0 d d (omega arith));
      places =
          c.in_ok-push-4.ensures.ok ∙ ap (λ (rows : List (List ℕ)). rows ++ c.in_ok-place.place ∷ []) c.loop-c.invariant.places
          ∙ ap (λ (row : List ℕ). map (whole_places c.args.y.now) (range_with_len 0 d) ++ row ∷ []) (c.in_ok-place.ensures ∙ ap (range_with_len 0) b)
          ∙ sym (map-range_with_len_more (whole_places c.args.y.now) 0 d d (omega arith));
    }
