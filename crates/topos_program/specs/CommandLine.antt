-- Which words of the command line are accepted, and what they say.
use Rattle.std.specs.Prelude.{◌≡◌, ℕ, Bool, cond, ◌&&◌, ◌||◌, List, [], ◌∷◌, length, drop, eqb, leb, codes, bytes_eq, Option, Some, None}
use Rattle.std.specs.List.{starts_with}
use Rattle.std.specs.Str.{all_ascii_digits}
use Rattle.std.specs.Str.Parse.{digits_value}
use Rattle.topos_program.specs.declared.words.Mode.{Mode}
use Rattle.topos_program.specs.declared.words.Mode.TheVariants.{Run, Check, Make}
use Rattle.topos_program.specs.declared.words.Words.{Words}

-- the budget where none is given, and the greatest one
abbrev pub default_budget : ℕ
default_budget = 4000000

abbrev pub max_budget : ℕ
max_budget = 64000000

-- the greatest size of a document that is made
abbrev pub max_size : ℕ
max_size = 256

-- what a word says, or an option with its value
pub data Said : Type 0 where
  ModeIs : Mode → Said
  BudgetIs : ℕ → Said
  SizeIs : ℕ → Said

-- 1 to 8 digits, and a number within these bounds
unfoldable pub number_within : ℕ → ℕ → List ℕ → Option ℕ
number_within least most text =
    cond (leb 1 (length text) && leb (length text) 8 && all_ascii_digits text && leb least (digits_value 10 text) && leb (digits_value 10 text) most)
    (Some (digits_value 10 text)) None

-- the value of each option
unfoldable pub budget_said : List ℕ → Option Said
budget_said value = elim (number_within 0 max_budget value) [ Some n ↦ Some (BudgetIs n) | None ↦ None ]

unfoldable pub size_said : List ℕ → Option Said
size_said value = elim (number_within 1 max_size value) [ Some n ↦ Some (SizeIs n) | None ↦ None ]

-- what follows a beginning of a word
unfoldable pub behind : List ℕ → List ℕ → Option (List ℕ)
behind front word = cond (starts_with eqb word front) (Some (drop (length front) word)) None

-- the word of a mode
unfoldable pub mode_said : List ℕ → Option Said
mode_said word =
    cond (bytes_eq word (codes "run")) (Some (ModeIs Run)) (cond (bytes_eq word (codes "check")) (Some (ModeIs Check))
    (cond (bytes_eq word (codes "make")) (Some (ModeIs Make)) None))

-- a mode, or an option that has its value behind an equals sign
unfoldable pub one_word : List ℕ → Option Said
one_word word =
    elim (behind (codes "--budget=") word) [
      | Some value ↦ budget_said value
      | None ↦
          elim (behind (codes "--size=") word) [ Some value ↦ size_said value | None ↦ mode_said word ]
    ]

-- an option whose value is the next word
unfoldable pub two_words : List ℕ → List ℕ → Option Said
two_words word value =
    cond (bytes_eq word (codes "--budget")) (budget_said value) (cond (bytes_eq word (codes "--size")) (size_said value) None)

-- whether a word is one of the two options
abbrev pub is_option : List ℕ → Bool
is_option word = bytes_eq word (codes "--budget") || bytes_eq word (codes "--size")

-- what words say together
pub record Given : Type 0 where
  pub mode : Option Mode
  pub budget : Option ℕ
  pub size : Option ℕ

-- no word is read yet
abbrev pub nothing : Given
nothing = record { mode = None; budget = None; size = None }

-- one thing more, which none of the other words says
abbrev pub saying : Said → Given → Option Given
saying (ModeIs m) given = elim given.mode [ None ↦ Some (record given { mode = Some m }) | Some other ↦ None ]
saying (BudgetIs n) given = elim given.budget [ None ↦ Some (record given { budget = Some n }) | Some other ↦ None ]
saying (SizeIs n) given = elim given.size [ None ↦ Some (record given { size = Some n }) | Some other ↦ None ]

-- nothing where either is nothing
abbrev pub with : Option Said → Option Given → Option Given
with (Some said) (Some given) = saying said given
with _ _ = None

-- in any order, each at most once
unfoldable pub given : List (List ℕ) → Option Given
given [] = Some nothing
given (word ∷ []) = with (one_word word) (Some nothing)
given (word ∷ next ∷ rest) = cond (is_option word) (with (two_words word next) (given rest)) (with (one_word word) (given (next ∷ rest)))

-- the budget that is given, or the default one
abbrev pub or_default : Option ℕ → ℕ
or_default None = default_budget
or_default (Some n) = n

-- exactly one mode, and a size exactly where a document is made
abbrev pub completed : Given → Option Words
completed given = elim given.mode [
  | None ↦ None
  | Some mode ↦ elim mode [
    | Make ↦ elim given.size [ None ↦ None | Some n ↦ Some (record { mode = Make; budget = or_default given.budget; size = n }) ]
    | Run ↦ elim given.size [ None ↦ Some (record { mode = Run; budget = or_default given.budget; size = 0 }) | Some n ↦ None ]
    | Check ↦ elim given.size [ None ↦ Some (record { mode = Check; budget = or_default given.budget; size = 0 }) | Some n ↦ None ]
  ]
]

-- the program's name stands first
unfoldable pub accepted : List (List ℕ) → Option Words
accepted [] = None
accepted (name ∷ words) = elim (given words) [ None ↦ None | Some given ↦ completed given ]

-- the words are accepted, and say w
abbrev pub Accepts : List (List ℕ) → Words → Type 0
Accepts words w = accepted words ≡ Some w
