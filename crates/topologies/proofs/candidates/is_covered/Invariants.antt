use Rattle.std.proofs.Common.{◌≡◌, ◌&&◌, eqb, drop}
use Rattle.std.specs.List.{list_any}
use Rattle.topos_model.specs.topologies.Cover.{contains}
use Rattle.sieve_table.specs.Sieves.{sieve_arrows}
use Rattle.topologies.proofs.candidates.is_covered.Given as goal

-- what is left gives the whole
abbrev pub invariant-loop-listed : goal.invariant-loop-listed
invariant-loop-listed l =
    list_any (λ m. eqb m.at l.s.at && contains (sieve_arrows m) (sieve_arrows l.s)) (drop l.listed-index l.sieves)
    ≡ list_any (λ m. eqb m.at l.s.at && contains (sieve_arrows m) (sieve_arrows l.s)) l.sieves
