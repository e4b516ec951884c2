use Rattle.std.proofs.Common.{◌∷◌, ℕ, List, sym, ap, ◌∙◌, subst}
use Rattle.std.specs.Str.{chars}
use Rattle.topos_tokens.proofs.Fronts.{no_place_front, place_by_bytes}
use Rattle.topos_tokens.specs.Fronts.{NoToken}
use Rattle.topos_tokens.proofs.front.place.Goals as goal

pub returns-in_default-clause-token : goal.returns-in_default-clause-token
returns-in_default-clause-token c = subst NoToken (sym c.requires) (no_place_front (chars c.args.behind.now) c.in_default.ensures.number)

pub bytes_before-requires : goal.bytes_before-requires
bytes_before-requires c = let d = c.in-Some.ensures.number in record { rest = (35 ∷ d.digits, c.requires ∙ ap (λ (z : List ℕ). 35 ∷ z) d.parts) }

pub returns-clause-token : goal.returns-clause-token
returns-clause-token c =
    let d = c.in-Some.ensures.number in
    place_by_bytes c.args.number (chars c.args.text.now) (chars c.args.behind.now) (chars c.in-Some.rest.now) c.bytes_before.result.now c.in-Some.value d c.requires (c.bytes_before.ensures (35 ∷ d.digits) (c.requires ∙ ap (λ (z : List ℕ). 35 ∷ z) d.parts))
