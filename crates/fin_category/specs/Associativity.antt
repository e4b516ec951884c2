-- The first failing triple, by one search for each arrow.
use Rattle.std.specs.Prelude.{ℕ, not, eqb, Option}
use Rattle.topos_model.specs.categories.Category.{Category, into, dom, compose, arrows}
use Rattle.finite_lists.specs.First.{first, some_if}

-- h, g, f, if h.(g.f) is other than (h.g).f
unfoldable pub triple_at : Category → ℕ → ℕ → ℕ → Option (ℕ × ℕ × ℕ)
triple_at k h g f = some_if (not (eqb (compose k h (compose k g f)) (compose k (compose k h g) f))) (h, g, f)

-- the first failing triple that begins with h and g
unfoldable pub triple_from_pair : Category → ℕ → ℕ → Option (ℕ × ℕ × ℕ)
triple_from_pair k h g = first (triple_at k h g) (into k (dom k g))

-- the first that begins with h
unfoldable pub triple_from : Category → ℕ → Option (ℕ × ℕ × ℕ)
triple_from k h = first (triple_from_pair k h) (into k (dom k h))

-- the first of all
unfoldable pub failing_triple : Category → Option (ℕ × ℕ × ℕ)
failing_triple k = first (triple_from k) (arrows k)
