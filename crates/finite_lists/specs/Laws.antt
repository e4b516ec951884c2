-- The laws of sublists and of first answers.
use Rattle.std.specs.Prelude.{◌≡◌, ℕ, Bool, true, List, filter, Option, Some, None}
use Rattle.finite_lists.specs.Members.{In, Distinct}
use Rattle.finite_lists.specs.Sublists.{sublists}
use Rattle.finite_lists.specs.Rising.{Rising, SublistBelow}
use Rattle.finite_lists.specs.First.{first}

-- a member of a sublist is a member of the list
abbrev pub SublistsAreWithin : Type 0
SublistsAreWithin = (xs s : List ℕ) (x : ℕ) → In (sublists xs) s → In s x → In xs x

-- what a test keeps is a sublist
abbrev pub FiltersAreSublists : Type 0
FiltersAreSublists = (p : ℕ → Bool) (xs : List ℕ) → In (sublists xs) (filter p xs)

-- and where no member stands twice, a sublist is what a test of its membership keeps
abbrev pub SublistsAreFilters : Type 0
SublistsAreFilters =
    (p : ℕ → Bool) (xs s : List ℕ) → Distinct xs → In (sublists xs) s → ((x : ℕ) → In xs x → p x ≡ true → In s x) → ((x : ℕ) → In s x → p x ≡ true) → filter p xs ≡ s

-- of two sublists the one without the first member that they do not share stands first
abbrev pub SublistsRise : Type 0
SublistsRise = (xs : List ℕ) → Distinct xs → Rising (SublistBelow xs) (sublists xs)

abbrev pub NoAnswerIsNoneAnywhere : Type 0
NoAnswerIsNoneAnywhere = (test : ℕ → Option ℕ) (xs : List ℕ) (x : ℕ) → first test xs ≡ None → In xs x → test x ≡ None

abbrev pub AnswersComeFromMembers : Type 0
AnswersComeFromMembers = (test : ℕ → Option ℕ) (xs : List ℕ) (y : ℕ) → first test xs ≡ Some y → (x : ℕ) × In xs x × (test x ≡ Some y)
