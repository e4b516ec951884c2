use Rattle.std.proofs.Common.{ℕ, Bool, get_or, sym, ap, ◌∙◌, length, filter, arith}
use Rattle.std.specs.List.{range_with_len}
use Rattle.topos_model.specs.categories.Category.{has, into}
use Rattle.sieve_table.specs.Sieves.{sieve_arrows}
use Rattle.site_stages.specs.Places.{places_among}
use Rattle.site_stages.proofs.PlaceLists.{kept_there, kept_not}
use Rattle.site_stages.proofs.stages.places_of.Goals as goal
use Rattle.site_stages.proofs.stages.places_of.Goals.{then-has+in_ok-push, else-has}

pub loop-j-preserved : goal.loop-j-preserved
loop-j-preserved c =
    let S = sieve_arrows c.args.sieve.now in
    let p : ℕ → Bool = λ j. has (get_or (into c.args.cat.now c.args.c) j 0) S in
    let j = c.loop-j.j in
    let tested = ap (λ l. has (get_or l j 0) S) (sym c.arrows_into-arrows.ensures.value) ∙ sym c.has.ensures in
    elim c.if-has.branch [
      | then-has+in_ok-push w ↦ kept_there p j c.loop-j.row c.if-has.row c.loop-j.invariant (tested ∙ w.if-has.true) (w.row-is ∙ w.in_ok-push.ensures.ok)
      | else-has w ↦ w.row-is ∙ kept_not p j c.loop-j.row c.loop-j.invariant (tested ∙ w.if-has.false)
    ]

pub returns : goal.returns
unfolding places_among
returns c =
    let S = sieve_arrows c.args.sieve.now in
    let all = into c.args.cat.now c.args.c in
    let e = ap length c.arrows_into-arrows.ensures.value in
    c.loop-j.invariant ∙ ap (λ n. filter (λ j. has (get_or all j 0) S) (range_with_len 0 n)) (omega (arith, c.loop-j-test.false, c.loop-j.auto.j-end, e))
