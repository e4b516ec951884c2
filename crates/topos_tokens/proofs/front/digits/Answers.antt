use Rattle.std.proofs.Common.{◌≡◌, ◌≤◌, ◌<◌, sym, ◌∙◌, subst, arith}
use Rattle.std.specs.Str.{chars}
use Rattle.topos_text.specs.Spelling.{is_digit}
use Rattle.topos_tokens.proofs.Digits.{counted_none, counted_more, counted_digits, counted_nothing, counted_ten, digit_range, power_bound}
use Rattle.topos_tokens.specs.Fronts.{EndsDigits}
use Rattle.topos_tokens.proofs.front.digits.Goals as goal
use Rattle.topos_tokens.proofs.front.digits.Goals.{in-Some+then-not-is_decimal, in_default}

pub loop-c-init : goal.loop-c-init
loop-c-init c = record { counted = counted_none (chars c.args.text.now); utf8 = c.utf8.text }

pub returns-then-count-eq-DIGITS-clause-number : goal.returns-then-count-eq-DIGITS-clause-number
returns-then-count-eq-DIGITS-clause-number c =
    counted_ten (chars c.args.text.now) (chars c.loop-c.rest.now) (chars c.in-Some.behind.now) c.loop-c.value c.loop-c.count c.in-Some.c c.in-Some.ensures.characters (sym c.is_decimal.ensures ∙ c.if-not-is_decimal.false) c.if-count-eq-DIGITS.true c.loop-c.invariant.counted

pub overflow_mul-value : goal.overflow_mul-value
overflow_mul-value c =
    let k = c.loop-c.invariant.counted in
    let few : c.loop-c.count ≤ 8 = omega (arith, k.few, c.if-count-eq-DIGITS.false) in
    omega (arith, k.bound, power_bound c.loop-c.count few)

pub overflow_add-value : goal.overflow_add-value
overflow_add-value c =
    let k = c.loop-c.invariant.counted in
    let few : c.loop-c.count ≤ 8 = omega (arith, k.few, c.if-count-eq-DIGITS.false) in
    let digit : is_digit c.in-Some.c ≡ _ = sym c.is_decimal.ensures ∙ c.if-not-is_decimal.false in
    omega (arith, k.bound, power_bound c.loop-c.count few, digit_range c.in-Some.c digit)

pub loop-c-preserved : goal.loop-c-preserved
loop-c-preserved c =
    let k = c.loop-c.invariant.counted in
    let few : c.loop-c.count < 9 = omega (arith, k.few, c.if-count-eq-DIGITS.false) in
    record {
      counted = counted_more (chars c.args.text.now) (chars c.loop-c.rest.now) (chars c.in-Some.behind.now) c.loop-c.value c.loop-c.count c.in-Some.c c.in-Some.ensures.characters (sym c.is_decimal.ensures ∙ c.if-not-is_decimal.false) few k;
      utf8 = c.in-Some.ensures.utf8;
    }

pub returns-clause-number : goal.returns-clause-number
returns-clause-number c =
    let ends : EndsDigits (chars c.loop-c.rest.now) = elim c.match-next_char.branch [
      | in-Some+then-not-is_decimal w ↦ subst EndsDigits (sym w.in-Some.ensures.characters) (sym w.is_decimal.ensures ∙ w.if-not-is_decimal.true)
      | in_default w ↦ subst EndsDigits (sym w.in_default.ensures.characters) tt
    ] in
    counted_digits (chars c.args.text.now) (chars c.loop-c.rest.now) c.loop-c.value c.loop-c.count c.loop-c.invariant.counted c.if-count-eq0.false ends

pub returns-then-count-eq0-clause-number : goal.returns-then-count-eq0-clause-number
returns-then-count-eq0-clause-number c =
    let ends : EndsDigits (chars c.loop-c.rest.now) = elim c.match-next_char.branch [
      | in-Some+then-not-is_decimal w ↦ subst EndsDigits (sym w.in-Some.ensures.characters) (sym w.is_decimal.ensures ∙ w.if-not-is_decimal.true)
      | in_default w ↦ subst EndsDigits (sym w.in_default.ensures.characters) tt
    ] in
    counted_nothing (chars c.args.text.now) (chars c.loop-c.rest.now) c.loop-c.value c.loop-c.count c.loop-c.invariant.counted c.if-count-eq0.true ends
