use Rattle.std.proofs.Common.{◌≡◌, true, not, cond, ◌∷◌, [], ◌++◌, get_or, set, bit_and, sym, ap, ◌∙◌, refl, subst}
use Rattle.std.proofs.lemmas.List.{get_or_default}
use Rattle.natural_search.specs.Domains.{allows, AllAllowed}
use Rattle.natural_search.proofs.Narrowing.{narrows_refl, narrows_none, extends_refl, extends_one, still_allowed, none_allowed}
use Rattle.natural_search.proofs.domains.Domains.narrow.Goals as goal

pub returns-then-after-before : goal.returns-then-after-before
returns-then-after-before c = narrows_refl (λ values. allows c.args.mask (get_or values c.args.place 0) ≡ true) c.args.self.now c.requires.whole

pub returns-then-after-eq0 : goal.returns-then-after-eq0
returns-then-after-eq0 c =
    let masks = c.args.self.now.masks.items in
    let was : c.index-before.result.now ≡ get_or masks c.args.place 0 = c.index-before.ensures ∙ get_or_default masks c.args.place c.index-before.result.now 0 c.requires.place in
    narrows_none (λ values. allows c.args.mask (get_or values c.args.place 0) ≡ true) c.args.self.now c.args.self.now (extends_refl c.args.self.now c.requires.whole)
    (λ values good all. none_allowed masks values c.args.place c.args.mask c.requires.place all good (ap (λ b. bit_and b c.args.mask) (sym was) ∙ c.if-after-eq0.true))

pub returns : goal.returns
returns c =
    let masks = c.args.self.now.masks.items in
    let before = c.index-before.result.now in
    let was : before ≡ get_or masks c.args.place 0 = c.index-before.ensures ∙ get_or_default masks c.args.place before 0 c.requires.place in
    record {
      extends =
          extends_one c.args.self.now _ c.args.place (bit_and before c.args.mask) before c.requires.place c.requires.whole was refl
          (c.push.ensures.items ∙ ap (λ b. cond b (c.args.self.now.trail.items ++ record { place = c.args.place; before = before } ∷ []) c.args.self.now.trail.items) (c.is_err.ensures.negation ∙ ap not c.if-is_err.false));
      allowed = λ values good all. (refl, subst (λ b. AllAllowed (set masks c.args.place (bit_and b c.args.mask)) values) (sym was) (still_allowed masks values c.args.place c.args.mask c.requires.place all good));
    }
