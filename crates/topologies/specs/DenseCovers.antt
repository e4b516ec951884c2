-- The least cover of the dense topology (III).
use Rattle.std.specs.Prelude.{ℕ, Bool, List, filter, eqb}
use Rattle.std.specs.List.{list_any, list_all}
use Rattle.topos_model.specs.categories.Category.{Category, into, dom, compose}

-- whether some h has f.g.h = f
abbrev pub goes_back : Category → ℕ → ℕ → Bool
goes_back k f g = list_any (λ h. eqb (compose k (compose k f g) h) f) (into k (dom k g))

-- whether each g into dom f has such an h
abbrev pub comes_back : Category → ℕ → Bool
comes_back k f = list_all (goes_back k f) (into k (dom k f))

-- the arrows into c from which one always comes back
unfoldable pub dense_least : Category → ℕ → List ℕ
dense_least k c = filter (comes_back k) (into k c)
