-- The list of all natural maps between two presheaves, with its cells.
use Rattle.std.specs.Prelude.{◌≡◌, ℕ, ◌≤◌, ◌<◌, map, length, ⊤}
use Rattle.topos_model.specs.categories.Category.{Category}
use Rattle.topos_model.specs.types.Types.{Presheaf}
use Rattle.topos_model.specs.presheaves.NaturalMaps.{maps}
use Rattle.topos_model.specs.statements.Cells.{hom_cells}
use Rattle.topos_model.specs.statements.Answers.{map_shape, functor_map}
use Rattle.topos_session.specs.declared.stop.Stop.{Stop}
use Rattle.topos_session.specs.declared.stop.Stop.TheVariants as stop
use Rattle.topos_session.specs.declared.homs.Hom.{Hom}

module _ (k : Category) (x y : ℕ) (X Y : Presheaf) (budget : ℕ) where
  -- all maps, within the budget
  pub record IsHom (hom : Hom) : Type 0 where
    pub shapes : hom.shapes ≡ map (λ m. map_shape (functor_map x y m)) (maps k X Y)
    pub cells : hom.cells ≡ hom_cells (length (maps k X Y)) X
    pub within : hom.cells ≤ budget

-- they cost more than the budget
abbrev pub IsUnlisted : Category → Presheaf → Presheaf → ℕ → Stop → Type 0
IsUnlisted k X Y budget (stop.Refused fault) = ⊥
IsUnlisted k X Y budget stop.Budget = budget < hom_cells (length (maps k X Y)) X
IsUnlisted k X Y budget stop.NoMemory = ⊤
