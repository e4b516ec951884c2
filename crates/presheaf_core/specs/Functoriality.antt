-- The first failing instance of functoriality, by one search for each arrow.
use Rattle.std.specs.Prelude.{ℕ, not, eqb, Option}
use Rattle.std.specs.List.{range_with_len}
use Rattle.topos_model.specs.categories.Category.{Category, into, dom, cod, compose, arrows}
use Rattle.topos_model.specs.types.Types.{Presheaf}
use Rattle.topos_model.specs.Laws.{act, size}
use Rattle.finite_lists.specs.First.{first, some_if}

-- g, f, x, if (x.g).f is other than x.(g.f)
unfoldable pub instance_at : Category → Presheaf → ℕ → ℕ → ℕ → Option (ℕ × ℕ × ℕ)
instance_at k X g f x = some_if (not (eqb (act X f (act X g x)) (act X (compose k g f) x))) (g, f, x)

-- the first failing instance of g and f
unfoldable pub instance_from_pair : Category → Presheaf → ℕ → ℕ → Option (ℕ × ℕ × ℕ)
instance_from_pair k X g f = first (instance_at k X g f) (range_with_len 0 (size X (cod k g)))

-- the first that begins with g
unfoldable pub instance_from : Category → Presheaf → ℕ → Option (ℕ × ℕ × ℕ)
instance_from k X g = first (instance_from_pair k X g) (into k (dom k g))

-- the first of all
unfoldable pub failing_instance : Category → Presheaf → Option (ℕ × ℕ × ℕ)
failing_instance k X = first (instance_from k X) (arrows k)
