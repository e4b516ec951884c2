-- How much of the language this program runs.
use Rattle.std.specs.Prelude.{Bool, true, false, eqb}
use Rattle.topos_model.specs.declared.stmt.Stmt.{Stmt}
use Rattle.topos_model.specs.declared.stmt.Stmt.TheVariants.{Presheaf, Map, Product, Coproduct, Equalizer, Coequalizer, Pullback, Pushout, Image, Empty, Sheaf, Hom, Build, Sub, Let, Show, Classify, Valid}
use Rattle.topos_model.specs.statements.Run.{Extent}
use Rattle.topos_session.specs.Ranges.{is_single}

-- presheaves, natural maps and their lists, limits, images and colimits; tests of sheaves, formulas, and what types and terms make, under the first topology
unfoldable pub is_built : Stmt → Bool
is_built (Presheaf functor raw) = true
is_built (Map m x y raw) = true
is_built (Product x y z p q) = true
is_built (Coproduct x y z p q) = true
is_built (Equalizer m n z i) = true
is_built (Coequalizer m n z q) = true
is_built (Pullback m n z p q) = true
is_built (Pushout m n z i j) = true
is_built (Image m z e j) = true
is_built (Empty z) = true
is_built (Sheaf under x) = eqb under 0
is_built (Hom x y) = true
is_built (Show under ctx φ) = eqb under 0
is_built (Classify under ctx φ) = eqb under 0
is_built (Valid under ctx φ) = eqb under 0
is_built (Build under z T u v) = eqb under 0
is_built (Sub under z T φ i) = eqb under 0
is_built (Let under m T t) = eqb under 0
is_built _ = false

-- one topology
abbrev pub today : Extent
today = record { statements = is_built; topologies = is_single }
