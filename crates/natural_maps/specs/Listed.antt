-- What a listing of natural maps says.
use Rattle.std.specs.Prelude.{List, ⊤}
use Rattle.topos_model.specs.presheaves.Maps.{Components}
use Rattle.natural_maps.specs.declared.listing.Listing.{Listing}
use Rattle.natural_maps.specs.declared.listing.Listing.TheVariants.{All, Over}

abbrev pub IfAll : Listing → (List Components → Type 0) → Type 0
IfAll (All found) P = P found
IfAll Over P = ⊤

abbrev pub IfOver : Listing → Type 0 → Type 0
IfOver (All found) P = ⊤
IfOver Over P = P
