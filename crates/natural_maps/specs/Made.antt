-- What holds of a presheaf that a construction makes, and what holds where it is over the room.
use Rattle.std.specs.Prelude.{⊤}
use Rattle.topos_model.specs.types.Types.{Presheaf}
use Rattle.topos_model.specs.presheaves.Maps.{Components}
use Rattle.natural_maps.specs.declared.made.Made1.{Made1}
use Rattle.natural_maps.specs.declared.made.Made1.TheVariants as one
use Rattle.natural_maps.specs.declared.made.Made2.{Made2}
use Rattle.natural_maps.specs.declared.made.Made2.TheVariants as two

abbrev pub IfMade1 : Made1 → (Presheaf → Components → Type 0) → Type 0
IfMade1 (one.Made Z m) P = P Z m
IfMade1 one.Over P = ⊤

abbrev pub IfOver1 : Made1 → Type 0 → Type 0
IfOver1 (one.Made Z m) P = ⊤
IfOver1 one.Over P = P

abbrev pub IfMade2 : Made2 → (Presheaf → Components → Components → Type 0) → Type 0
IfMade2 (two.Made Z m n) P = P Z m n
IfMade2 two.Over P = ⊤

abbrev pub IfOver2 : Made2 → Type 0 → Type 0
IfOver2 (two.Made Z m n) P = ⊤
IfOver2 two.Over P = P
