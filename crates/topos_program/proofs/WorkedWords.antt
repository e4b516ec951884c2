-- Worked examples, by computation: words that are accepted, and words that are not.
use Rattle.std.specs.Prelude.{◌≡◌, [], ◌∷◌, codes, Some, None, refl}
use Rattle.topos_program.specs.declared.words.Mode.TheVariants.{Run, Check, Make}
use Rattle.topos_program.specs.CommandLine.{number_within, budget_said, size_said, behind, mode_said, one_word, two_words, given, accepted}

-- what the examples compute with
opened : Unit {0}
unfolding number_within budget_said size_said behind mode_said one_word two_words given accepted
opened = tt

run : accepted (codes "topos" ∷ codes "run" ∷ []) ≡ Some (record { mode = Run; budget = 4000000; size = 0 })
unfolding opened
run = refl

-- an option may stand before the mode, as two words or as one
budget_first : accepted (codes "topos" ∷ codes "--budget" ∷ codes "29" ∷ codes "run" ∷ []) ≡ Some (record { mode = Run; budget = 29; size = 0 })
unfolding opened
budget_first = refl

budget_behind : accepted (codes "topos" ∷ codes "check" ∷ codes "--budget=00000029" ∷ []) ≡ Some (record { mode = Check; budget = 29; size = 0 })
unfolding opened
budget_behind = refl

make : accepted (codes "topos" ∷ codes "make" ∷ codes "--size" ∷ codes "256" ∷ codes "--budget=64000000" ∷ []) ≡ Some (record { mode = Make; budget = 64000000; size = 256 })
unfolding opened
make = refl

-- the program's name is any word
run_run : accepted (codes "run" ∷ codes "run" ∷ []) ≡ Some (record { mode = Run; budget = 4000000; size = 0 })
unfolding opened
run_run = refl

no_mode : accepted (codes "topos" ∷ []) ≡ None
unfolding opened
no_mode = refl

no_name : accepted [] ≡ None
unfolding opened
no_name = refl

two_modes : accepted (codes "topos" ∷ codes "run" ∷ codes "run" ∷ []) ≡ None
unfolding opened
two_modes = refl

two_budgets : accepted (codes "topos" ∷ codes "run" ∷ codes "--budget" ∷ codes "5" ∷ codes "--budget" ∷ codes "5" ∷ []) ≡ None
unfolding opened
two_budgets = refl

-- a size exactly where a document is made
size_of_run : accepted (codes "topos" ∷ codes "run" ∷ codes "--size" ∷ codes "5" ∷ []) ≡ None
unfolding opened
size_of_run = refl

no_size : accepted (codes "topos" ∷ codes "make" ∷ []) ≡ None
unfolding opened
no_size = refl

-- values out of range, and what is no value
size_too_large : accepted (codes "topos" ∷ codes "make" ∷ codes "--size" ∷ codes "257" ∷ []) ≡ None
unfolding opened
size_too_large = refl

size_zero : accepted (codes "topos" ∷ codes "make" ∷ codes "--size=0" ∷ []) ≡ None
unfolding opened
size_zero = refl

budget_too_large : accepted (codes "topos" ∷ codes "run" ∷ codes "--budget=64000001" ∷ []) ≡ None
unfolding opened
budget_too_large = refl

nine_digits : accepted (codes "topos" ∷ codes "run" ∷ codes "--budget" ∷ codes "000000029" ∷ []) ≡ None
unfolding opened
nine_digits = refl

no_value : accepted (codes "topos" ∷ codes "run" ∷ codes "--budget=" ∷ []) ≡ None
unfolding opened
no_value = refl

nothing_behind : accepted (codes "topos" ∷ codes "run" ∷ codes "--budget" ∷ []) ≡ None
unfolding opened
nothing_behind = refl

signed : accepted (codes "topos" ∷ codes "run" ∷ codes "--budget" ∷ codes "+5" ∷ []) ≡ None
unfolding opened
signed = refl

dashes : accepted (codes "topos" ∷ codes "run" ∷ codes "--" ∷ []) ≡ None
unfolding opened
dashes = refl

help : accepted (codes "topos" ∷ codes "--help" ∷ []) ≡ None
unfolding opened
help = refl
