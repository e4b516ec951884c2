-- Small categories for worked examples: one arrow, graphs, an idempotent and an involution.
use Rattle.std.specs.Prelude.{[], ◌∷◌}
use Rattle.topos_model.specs.categories.Category.{Category}

-- sets: a category with one arrow
abbrev pub point : Category
point = record { objects = 1; ends = (0, 0) ∷ []; table = (0, 0, 0) ∷ [] }

-- graphs: an edge e has the source e.s and the target e.t, s and t being the arrows 2 and 3
abbrev pub graph : Category
graph = record {
  objects = 2;
  ends = (0, 0) ∷ (1, 1) ∷ (0, 1) ∷ (0, 1) ∷ [];
  table = (0, 0, 0) ∷ (1, 1, 1) ∷ (2, 0, 2) ∷ (3, 0, 3) ∷ (1, 2, 2) ∷ (1, 3, 3) ∷ [];
}

-- one object with an arrow u, u.u = u
abbrev pub idempotent : Category
idempotent = record { objects = 1; ends = (0, 0) ∷ (0, 0) ∷ []; table = (0, 0, 0) ∷ (0, 1, 1) ∷ (1, 0, 1) ∷ (1, 1, 1) ∷ [] }

-- one object with an arrow r, r.r the identity
abbrev pub involution : Category
involution = record { objects = 1; ends = (0, 0) ∷ (0, 0) ∷ []; table = (0, 0, 0) ∷ (0, 1, 1) ∷ (1, 0, 1) ∷ (1, 1, 0) ∷ [] }
