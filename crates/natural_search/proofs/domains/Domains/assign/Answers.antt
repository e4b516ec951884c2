use Rattle.std.proofs.Common.{◌≡◌, ℕ, true, false, List, get_or, refl, ap, ◌∙◌}
use Rattle.std.proofs.lemmas.Result.{IfOk-weaker}
use Rattle.natural_search.specs.Domains.{allows, AllFit, Narrows}
use Rattle.natural_search.proofs.Narrowing.{narrows_refl, narrows_then}
use Rattle.natural_search.proofs.domains.Domains.assign.Goals as goal

pub returns-then-not-branch : goal.returns-then-not-branch
returns-then-not-branch c =
    let both : List ℕ → Type 0 = λ values. AllFit c.args.along.now c.args.squares.now values × (get_or values c.args.place 0 ≡ c.args.number) in
    let sole : List ℕ → Type 0 = λ values. allows c.one.result (get_or values c.args.place 0) ≡ true in
    narrows_then both sole c.args.self.now c.args.self.now c.narrow.new.self c.in_ok-narrow.field-0 false (narrows_refl both c.args.self.now c.requires.whole) c.in_ok-narrow.ensures
    (λ values good all. ap (allows c.one.result) good.1 ∙ c.one.ensures) c.if-not-branch.true

pub returns : goal.returns
returns c =
    let number : List ℕ → Type 0 = λ values. get_or values c.args.place 0 ≡ c.args.number in
    let fit = AllFit c.args.along.now c.args.squares.now in
    let both : List ℕ → Type 0 = λ values. fit values × number values in
    let sole : List ℕ → Type 0 = λ values. allows c.one.result (get_or values c.args.place 0) ≡ true in
    IfOk-weaker c.propagate.result (Narrows fit c.narrow.new.self c.propagate.new.self) (Narrows both c.args.self.now c.propagate.new.self)
    (λ some is.
    narrows_then both fit c.args.self.now c.narrow.new.self c.propagate.new.self some some
    (narrows_then both sole c.args.self.now c.args.self.now c.narrow.new.self c.in_ok-narrow.field-0 true (narrows_refl both c.args.self.now c.requires.whole) c.in_ok-narrow.ensures
    (λ values good all. ap (allows c.one.result) good.1 ∙ c.one.ensures) c.if-not-branch.false)
    is (λ values good all. good.0) refl)
    c.propagate.ensures
