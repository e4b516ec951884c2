use Rattle.std.proofs.Common.{◌≡◌, drop, filter, []}
use Rattle.topos_model.specs.categories.Category.{has, compose}
use Rattle.fin_category.specs.Masks.{all_added}
use Rattle.fin_category.specs.ArrowSets.{arrows_in}
use Rattle.sieve_table.specs.Sieves.{sieve_arrows}
use Rattle.sieve_table.proofs.sieve.Sieve.pull.Given as goal

-- what is left gives the whole
abbrev pub invariant-loop-g : goal.invariant-loop-g
invariant-loop-g l =
    all_added (arrows_in l.arrows) (filter (λ g. has (compose l.cat l.f g) (sieve_arrows l.self)) (drop l.g-index l.g-items))
    ≡ all_added [] (filter (λ g. has (compose l.cat l.f g) (sieve_arrows l.self)) l.g-items)
