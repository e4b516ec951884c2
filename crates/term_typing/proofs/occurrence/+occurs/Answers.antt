use Rattle.std.proofs.Common.{◌||◌, ap, sym, ◌∙◌}
use Rattle.term_typing.proofs.Occurrences.{occurs, occurs-One, occurs-Omega, occurs-Two, occurs-Pow, occurs-Fun}
use Rattle.term_typing.proofs.occurrence.+occurs.Goals as goal

pub returns-in-One : goal.returns-in-One
returns-in-One t c = sym (ap (occurs c.args.functor) c.in-One.is ∙ occurs-One c.args.functor)

pub returns-in-Omega : goal.returns-in-Omega
returns-in-Omega t c = sym (ap (occurs c.args.functor) c.in-Omega.is ∙ occurs-Omega c.args.functor)

pub returns-in-Pow : goal.returns-in-Pow
returns-in-Pow t c =
    let n = c.args.functor in
    sym (ap (occurs n) c.in-Pow.is ∙ occurs-Pow n c.in-Pow.of ∙ ap (occurs n) (sym c.get-in-Pow.ensures) ∙ sym c.occurs-in-Pow.ensures)

pub returns-then-occurs : goal.returns-then-occurs
returns-then-occurs t c =
    let n = c.args.functor in
    let first = ap (occurs n) (sym c.get.ensures) ∙ sym c.occurs.ensures ∙ c.if-occurs.true in
    c.if-occurs.true ∙ sym (ap (occurs n) c.in-Two.is ∙ occurs-Two n c.in-Two.left c.in-Two.right ∙ ap (λ b. b || occurs n c.in-Two.right) first)

pub returns-else-occurs : goal.returns-else-occurs
returns-else-occurs t c =
    let n = c.args.functor in
    let first = ap (occurs n) (sym c.get.ensures) ∙ sym c.occurs.ensures ∙ c.if-occurs.false in
    let second = ap (occurs n) (sym c.get-else-occurs.ensures) ∙ sym c.occurs-else-occurs.ensures in
    sym (ap (occurs n) c.in-Two.is ∙ occurs-Two n c.in-Two.left c.in-Two.right ∙ ap (λ b. b || occurs n c.in-Two.right) first ∙ second)

pub returns-then-occurs-2 : goal.returns-then-occurs-2
returns-then-occurs-2 t c =
    let n = c.args.functor in
    let first = ap (occurs n) (sym c.get-in-Fun.ensures) ∙ sym c.occurs-in-Fun.ensures ∙ c.if-occurs-2.true in
    c.if-occurs-2.true ∙ sym (ap (occurs n) c.in-Fun.is ∙ occurs-Fun n c.in-Fun.domain c.in-Fun.codomain ∙ ap (λ b. b || occurs n c.in-Fun.codomain) first)

pub returns-else-occurs-2 : goal.returns-else-occurs-2
returns-else-occurs-2 t c =
    let n = c.args.functor in
    let first = ap (occurs n) (sym c.get-in-Fun.ensures) ∙ sym c.occurs-in-Fun.ensures ∙ c.if-occurs-2.false in
    let second = ap (occurs n) (sym c.get-else-occurs-2.ensures) ∙ sym c.occurs-else-occurs-2.ensures in
    sym (ap (occurs n) c.in-Fun.is ∙ occurs-Fun n c.in-Fun.domain c.in-Fun.codomain ∙ ap (λ b. b || occurs n c.in-Fun.codomain) first ∙ second)
