use Rattle.std.proofs.Common.{◌≡◌, ◌+◌, ◌-◌, List, ℕ, length, take, drop, arith, subst}
use Rattle.std.proofs.lemmas.Grind.{common_steps}
use Rattle.std.specs.Io.KnownBytes.{Appends}
use Rattle.std.proofs.KnownBytes.{Appends-trans}
use Rattle.topos_io.proofs.Parts.{take_on}
use Rattle.topos_io.proofs.SureRoom.{room_on}
use Rattle.topos_io.proofs.sink.write_all.Goals as goal

pub turns-preserved : goal.turns-preserved
turns-preserved g c =
    let all : List ℕ = c.args.bytes.now in
    let at : ℕ = c.turns.done in
    let n : ℕ = c.in-Took.n in
    let piece : List ℕ = take (length all - at) (drop at all) in
    let (within, held, sure, unsettled, later) = c.turns.invariant in
    let wrote = c.in-Took.ensures.bytes in
    let split : at + length piece ≡ length all = grind (arith, common_steps) in (
      omega (arith, split, wrote.1),
      subst (Appends (g.K.Sink.held c.args.out.now) (g.K.Sink.held c.write.new.self)) (take_on at n all) (Appends-trans _ _ _ (take at all) (take n piece) held wrote.2),
      room_on _ _ _ (length all) at n piece split sure c.in-Took.ensures.sure,
      λ _. c.write.ensures.unsettled,
      omega (arith, later, c.write.ensures.later),
    )
