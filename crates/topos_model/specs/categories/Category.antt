-- Categories, their arrows and sieves (Mac Lane and Moerdijk, Sheaves in Geometry and Logic, Categorical Preliminaries and I).
use Rattle.std.specs.Prelude.{ℕ, Bool, cond, ◌&&◌, List, [], ◌∷◌, length, get_or, eqb, filter}
use Rattle.std.specs.List.{list_any, list_all, range_with_len}
use Rattle.finite_lists.specs.Sublists.{sublists}

-- a category: the ends of each arrow, and a table of composites (g, f, g.f)
pub record Category : Type 0 where
  pub objects : ℕ
  pub ends : List (ℕ × ℕ)
  pub table : List (ℕ × ℕ × ℕ)

-- whether a number is in the list
abbrev pub has : ℕ → List ℕ → Bool
has n ns = list_any (eqb n) ns

-- g.f, by the table
abbrev pub composite : List (ℕ × ℕ × ℕ) → ℕ → ℕ → ℕ
composite [] g f = 0
composite (entry ∷ rest) g f = cond (eqb entry.0 g && eqb entry.1 f) entry.2 (composite rest g f)

module _ (k : Category) where
  abbrev pub dom : ℕ → ℕ
  dom f = (get_or k.ends f (0, 0)).0

  abbrev pub cod : ℕ → ℕ
  cod f = (get_or k.ends f (0, 0)).1

  abbrev pub compose : ℕ → ℕ → ℕ
  compose g f = composite k.table g f

  abbrev pub arrows : List ℕ
  arrows = range_with_len 0 (length k.ends)

  -- the arrows into c, in order
  unfoldable pub into : ℕ → List ℕ
  into c = filter (λ f. eqb (cod f) c) arrows

  -- closed under composition on the right
  unfoldable pub is_sieve : List ℕ → Bool
  is_sieve s = list_all (λ f. list_all (λ g. has (compose f g) s) (into (dom f))) s

  unfoldable pub sieves : ℕ → List (List ℕ)
  sieves c = filter is_sieve (sublists (into c))

  -- the sieve on c that arrows into c generate: all g.f with g among them
  unfoldable pub generated : ℕ → List ℕ → List ℕ
  generated c gs = filter (λ h. list_any (λ g. list_any (λ f. eqb (compose g f) h) (into (dom g))) gs) (into c)

  -- the g into dom f with f.g in s
  unfoldable pub pull : ℕ → List ℕ → List ℕ
  pull f s = filter (λ g. has (compose f g) s) (into (dom f))
