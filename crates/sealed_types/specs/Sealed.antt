-- A functor that is sealed in a store, as elements by their numbers.
use Rattle.std.specs.Prelude.{ℕ, ◌<◌, length, get_or}
use Rattle.functor_store.specs.Store.{Store, functor_at, size_at, restriction_along}

-- how many elements there are at each object
abbrev pub sizes_in : Store → ℕ → ℕ → ℕ
sizes_in store id c = size_at (functor_at store.sealed id) c

-- the restriction of each element
abbrev pub restrictions_in : Store → ℕ → ℕ → ℕ → ℕ
restrictions_in store id f k = restriction_along store.ends (functor_at store.sealed id) f k

-- the numbers are in range
abbrev pub IsObjectOf : Store → ℕ → ℕ → Type 0
IsObjectOf store id c = (id < length store.sealed) × (c < store.objects)

abbrev pub IsElementOf : Store → ℕ → ℕ → ℕ → Type 0
IsElementOf store id f k = (id < length store.sealed) × (f < length store.ends) × (k < sizes_in store id ((get_or store.ends f (0, 0)).1))
