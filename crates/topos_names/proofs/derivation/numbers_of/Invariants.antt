use Rattle.std.proofs.Common.{◌≡◌, map, take}
use Rattle.topos_text.specs.Views as view
use Rattle.topos_names.proofs.derivation.numbers_of.Given as goal

abbrev pub invariant-loop-place : goal.invariant-loop-place
invariant-loop-place l = l.numbers ≡ map (λ p. p.number) (map view.place_of (take l.place-index l.places))
