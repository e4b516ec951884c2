use Rattle.std.proofs.Common.{◌≡◌, ℕ, suc, ◌+◌, ◌-◌, ◌*◌, min, cond, length, get_or, sym, ap, ◌∙◌, arith}
use Rattle.natural_search.specs.FreePlaces.{is_free, free_choices}
use Rattle.natural_search.proofs.FreeCounts.{capped}
use Rattle.natural_search.proofs.free_places.free_choices.Goals as goal

pub places-init : goal.places-init
unfolding free_choices
places-init c =
    let n = length c.args.bounds.now in
    let z : n - n ≡ 0 = omega arith in
    let one : min 1 (c.args.room + 1) ≡ 1 = omega arith in
    record { low = omega arith; choices = sym (ap (λ m. min (free_choices c.args.squares.now c.args.bounds.now n m) (c.args.room + 1)) z ∙ one) }

pub places-preserved : goal.places-preserved
unfolding free_choices
places-preserved c =
    let squares = c.args.squares.now in
    let bounds = c.args.bounds.now in
    let most = c.args.room + 1 in
    let before = c.places.place - 1 in
    let x : ℕ = cond (is_free squares before) (get_or bounds before 0) 1 in
    let rest = free_choices squares bounds c.places.place (length bounds - c.places.place) in
    let n : length bounds - before ≡ suc (length bounds - c.places.place) = omega (arith, c.places.invariant.low, c.places-test.true) in
    let p : before + 1 ≡ c.places.place = omega (arith, c.places-test.true) in
    record {
      low = omega (arith, c.places.invariant.low);
      choices =
          c.min-choices.ensures ∙ ap (λ y. min (y * c.places.choices) most) c.choices_at.ensures ∙ ap (λ y. min (x * y) most) c.places.invariant.choices ∙ capped x rest most
          ∙ sym (ap (λ m. min (free_choices squares bounds before m) most) n ∙ ap (λ q. min (x * free_choices squares bounds q (length bounds - c.places.place)) most) p);
    }
