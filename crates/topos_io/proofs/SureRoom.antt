-- The room that a sink is sure of, over several writes.
use Rattle.std.proofs.Common.{◌≡◌, ℕ, ◌+◌, ◌≤◌, List, length, Option, None, Some, IfSome, IsSomeAnd, arith}
use Rattle.topos_io.specs.declared.sink.Put.TheVariants.{Took}
use Rattle.topos_io.specs.Sink.{WritesSurely}

-- where there was room for all, what a write of the rest took is off the room
pub room_on : (before now after : Option ℕ) (all done n : ℕ) (rest : List ℕ) → done + length rest ≡ all
    → IfSome before (λ room. all ≤ room → IsSomeAnd now (λ left. room ≡ done + left))
    → WritesSurely now after rest (Took n)
    → IfSome before (λ room. all ≤ room → IsSomeAnd after (λ left. room ≡ done + n + left))
room_on None now after all done n rest split so_far word = tt
room_on (Some room) None after all done n rest split so_far word = λ le. absurd (so_far le)
room_on (Some room) (Some left) None all done n rest split so_far word = λ le.
    let is = so_far le in
    absurd (word (omega (arith, is, split)))
room_on (Some room) (Some left) (Some less) all done n rest split so_far word = λ le.
    let is = so_far le in
    let took = word (omega (arith, is, split)) in
    omega (arith, is, took)
