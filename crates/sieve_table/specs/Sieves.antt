-- Sieves as the code keeps them.
use Rattle.std.specs.Prelude.{ℕ, List}
use Rattle.finite_lists.specs.Members.{In}
use Rattle.topos_model.specs.categories.Category.{Category, sieves}
use Rattle.fin_category.specs.ArrowSets.{arrows_in}
use Rattle.sieve_table.specs.declared.sieve.Sieve.{Sieve}

-- in rising order
abbrev pub sieve_arrows : Sieve → List ℕ
sieve_arrows s = arrows_in s.arrows

-- a sieve of the category
abbrev pub IsSieveOf : Category → Sieve → Type 0
IsSieveOf k s = In (sieves k s.at) (sieve_arrows s)
