use Rattle.std.proofs.Common.{reverse, sym, ◌∙◌, arith}
use Rattle.topos_model.specs.formulas.Forcing.{tuples}
use Rattle.formula_answers.proofs.KeptTuples.{is_same, is_other, kept_none, kept_more, kept_so_far, kept_all}
use Rattle.formula_answers.proofs.ReadTuples.{tuples_counted, store_faithful, tuple_low, tuple_known, truth_is}
use Rattle.formula_answers.proofs.stages.tuples_at.Goals as goal
use Rattle.formula_answers.proofs.stages.tuples_at.Goals.{then-bit-wanted+in_ok-tuple_value+in_ok-push, else-bit-wanted}

pub loop-k-init : goal.loop-k-init
loop-k-init c = λ w φ h. c.new-found.ensures ∙ kept_none c.args.wanted (φ c.args.c)

pub tuple_value-requires : goal.tuple_value-requires
tuple_value-requires c =
    let (w, φ, h) = c.requires.known in
    record { tuple = (w, tuple_known c.args.elements.now w (reverse c.args.types.now) c.args.sizes.now c.args.c c.loop-k.k c.requires.object (omega (arith, c.loop-k-test.true)) h.tuples) }

pub loop-k-preserved : goal.loop-k-preserved
loop-k-preserved c = λ w φ h.
    let e = c.args.elements.now in
    let Γ = reverse c.args.types.now in
    let inside = c.loop-k-test.true in
    let low = tuple_low e w Γ c.args.sizes.now c.args.c c.loop-k.k c.requires.object inside h.tuples in
    let truth = truth_is e w Γ c.args.sizes.now c.args.c c.loop-k.k c.requires.object inside φ c.args.truths.now h in
    let known = c.loop-k.invariant w φ h in
    elim c.if-bit-wanted.branch [
      | then-bit-wanted+in_ok-tuple_value+in_ok-push b ↦
          (b.found-is ∙ kept_more c.args.wanted (φ c.args.c) (tuples w Γ c.args.c) c.loop-k.k low c.loop-k.found b.push.new.self known b.in_ok-tuple_value.field-0
          (sym truth ∙ sym c.bit.ensures ∙ is_same c.bit.result c.args.wanted b.if-bit-wanted.true) (b.in_ok-tuple_value.ensures.value w h.tuples.world.site (store_faithful e w Γ c.args.sizes.now h.tuples)) b.in_ok-push.ensures.ok)
      | else-bit-wanted b ↦
          (b.found-is ∙ kept_so_far c.args.wanted (φ c.args.c) (tuples w Γ c.args.c) c.loop-k.k low c.loop-k.found c.loop-k.found known
          (λ same. is_other c.bit.result c.args.wanted b.if-bit-wanted.false (c.bit.ensures ∙ truth ∙ same)))
    ]

pub returns : goal.returns
returns c = λ w φ h.
    kept_all c.args.wanted (φ c.args.c) (tuples w (reverse c.args.types.now) c.args.c) c.loop-k.k c.loop-k.found
    (let n = tuples_counted c.args.elements.now w (reverse c.args.types.now) c.args.sizes.now h.tuples c.args.c c.requires.object in omega (arith, n, c.loop-k-test.false))
    (c.loop-k.invariant w φ h)
