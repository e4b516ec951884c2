use Rattle.std.proofs.Common.{◌≡◌, ◌+◌, ◌-◌, length, get_or, drop, sym, ap, subst, ◌∙◌, arith, []}
use Rattle.topos_model.specs.declared.ty.Ty.{One}
use Rattle.truth_tables.specs.Standing.{IsNumberTable}
use Rattle.internal_interp.proofs.TupleVariables.{variable_at}
use Rattle.internal_interp.proofs.ContextVariables.{few_objects, widths_at, last_at, long_at, rows_at, outer_at, variable_is}
use Rattle.internal_interp.proofs.variables.variable_table.Goals as goal

pub last_variable-requires-clause-objects : goal.last_variable-requires-clause-objects
last_variable-requires-clause-objects c =
    let (w, Γ, h) = c.requires.known in
    few_objects w Γ c.args.context.now h c.args.k (omega (arith, c.requires.bound, ap length h.types)) _ c.row_at-2.result.now (c.row_at.ensures ∙ ap (λ l. get_or l c.args.k []) c.as_slice-sizes.ensures) (c.row_at-2.ensures ∙ ap (λ l. get_or l c.args.k []) c.as_slice-widths.ensures) c.requires.objects

pub last_variable-requires-clause-widths : goal.last_variable-requires-clause-widths
last_variable-requires-clause-widths c =
    let (w, Γ, h) = c.requires.known in
    widths_at w Γ c.args.context.now h c.args.k (omega (arith, c.requires.bound, ap length h.types)) _ _ (c.row_at.ensures ∙ ap (λ l. get_or l c.args.k []) c.as_slice-sizes.ensures) (c.row_at-2.ensures ∙ ap (λ l. get_or l c.args.k []) c.as_slice-widths.ensures)

pub loop-within-init : goal.loop-within-init
loop-within-init c = λ w Γ h.
    let k = c.args.k in
    let z : k - 0 ≡ k = omega arith in
    subst (λ m. IsNumberTable w (drop m Γ) (get_or Γ k One) (variable_at w 0) c.in_ok-numbers.numbers) (sym z)
    (last_at w Γ c.args.context.now h k (omega (arith, c.requires.bound, ap length h.types)) _ _ (c.row_at.ensures ∙ ap (λ l. get_or l k []) c.as_slice-sizes.ensures) (c.row_at-2.ensures ∙ ap (λ l. get_or l k []) c.as_slice-widths.ensures) _ c.in_ok-numbers.ensures)

pub returns : goal.returns
returns c = λ w Γ h.
    let k = c.args.k in
    let all : c.loop-within.within ≡ k = omega (arith, c.loop-within-test.false, c.loop-within.auto.within-end) in
    let z : k - c.loop-within.within ≡ 0 = omega (arith, all) in
    variable_is w Γ (get_or Γ k One) k c.loop-within.numbers
    (subst (λ m. IsNumberTable w Γ (get_or Γ k One) (variable_at w m) c.loop-within.numbers) all
    (subst (λ m. IsNumberTable w (drop m Γ) (get_or Γ k One) (variable_at w c.loop-within.within) c.loop-within.numbers) z (c.loop-within.invariant w Γ h)))

pub outer_variable-requires-clause-objects : goal.outer_variable-requires-clause-objects
outer_variable-requires-clause-objects c =
    let (w, Γ, h) = c.requires.known in
    let k = c.args.k in
    let j = k - 1 - c.loop-within.within in
    few_objects w Γ c.args.context.now h j (omega (arith, c.requires.bound, ap length h.types, c.loop-within-test.true)) _ c.row_at-in-loop-within-2.result.now (c.row_at-in-loop-within.ensures ∙ ap (λ l. get_or l j []) c.as_slice-sizes.ensures) (c.row_at-in-loop-within-2.ensures ∙ ap (λ l. get_or l j []) c.as_slice-widths.ensures) c.requires.objects

pub outer_variable-requires-clause-widths : goal.outer_variable-requires-clause-widths
outer_variable-requires-clause-widths c =
    let (w, Γ, h) = c.requires.known in
    let k = c.args.k in
    let j = k - 1 - c.loop-within.within in
    widths_at w Γ c.args.context.now h j (omega (arith, c.requires.bound, ap length h.types, c.loop-within-test.true)) _ _ (c.row_at-in-loop-within.ensures ∙ ap (λ l. get_or l j []) c.as_slice-sizes.ensures) (c.row_at-in-loop-within-2.ensures ∙ ap (λ l. get_or l j []) c.as_slice-widths.ensures)

pub outer_variable-requires-clause-outer : goal.outer_variable-requires-clause-outer
outer_variable-requires-clause-outer c =
    let (w, Γ, h) = c.requires.known in
    let k = c.args.k in
    let j = k - 1 - c.loop-within.within in
    long_at w Γ c.args.context.now h j (omega (arith, c.requires.bound, ap length h.types, c.loop-within-test.true)) _ _ (c.row_at-in-loop-within.ensures ∙ ap (λ l. get_or l j []) c.as_slice-sizes.ensures) (c.row_at-in-loop-within-2.ensures ∙ ap (λ l. get_or l j []) c.as_slice-widths.ensures) (get_or Γ k One) c.loop-within.within (k - c.loop-within.within) (omega (arith, c.loop-within-test.true)) c.loop-within.numbers (c.loop-within.invariant w Γ h)

pub outer_variable-requires-clause-tuples : goal.outer_variable-requires-clause-tuples
outer_variable-requires-clause-tuples c = λ o below.
    let (w, Γ, h) = c.requires.known in
    let k = c.args.k in
    let j = k - 1 - c.loop-within.within in
    rows_at w Γ c.args.context.now h j (omega (arith, c.requires.bound, ap length h.types, c.loop-within-test.true)) _ _ (c.row_at-in-loop-within.ensures ∙ ap (λ l. get_or l j []) c.as_slice-sizes.ensures) (c.row_at-in-loop-within-2.ensures ∙ ap (λ l. get_or l j []) c.as_slice-widths.ensures) (get_or Γ k One) c.loop-within.within (k - c.loop-within.within) (omega (arith, c.loop-within-test.true)) c.loop-within.numbers (c.loop-within.invariant w Γ h) o below

pub loop-within-preserved : goal.loop-within-preserved
loop-within-preserved c = λ w Γ h.
    let k = c.args.k in
    let j = k - 1 - c.loop-within.within in
    let next : k - (c.loop-within.within + 1) ≡ j = omega (arith, c.loop-within-test.true) in
    subst (λ m. IsNumberTable w (drop m Γ) (get_or Γ k One) (variable_at w (c.loop-within.within + 1)) c.in_ok-numbers-2.numbers) (sym next)
    (outer_at w Γ c.args.context.now h j (omega (arith, c.requires.bound, ap length h.types, c.loop-within-test.true)) _ _ (c.row_at-in-loop-within.ensures ∙ ap (λ l. get_or l j []) c.as_slice-sizes.ensures) (c.row_at-in-loop-within-2.ensures ∙ ap (λ l. get_or l j []) c.as_slice-widths.ensures) (get_or Γ k One) c.loop-within.within (k - c.loop-within.within) (omega (arith, c.loop-within-test.true)) c.loop-within.numbers (c.loop-within.invariant w Γ h) _
    c.in_ok-numbers-2.ensures)
