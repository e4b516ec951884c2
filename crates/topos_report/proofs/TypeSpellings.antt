-- The spelling of types, a form of type at a time.
use Rattle.std.proofs.Common.{◌≡◌, ℕ, ◌++◌, refl}
use Rattle.std.specs.Prelude.{codes}
use denote.Hole.Carrier
use Rattle.topos_model.specs.declared.ty.Ty.{Ty, Base, One, Omega, Two, Pow, Fun}
use Rattle.topos_model.specs.declared.ty.Ty.TheBlock.{hidden-the_row-Ty-0}
use Rattle.topos_model.specs.declared.doc.Doc.{Doc}
use Rattle.topos_report.specs.Names.{functor_name}
use Rattle.topos_report.specs.TypeTexts.{type_text}

pub type_text-Base : (doc : Doc) (n : ℕ) → type_text doc (Base n) ≡ functor_name doc n
unfolding type_text
type_text-Base doc n = refl

pub type_text-One : (doc : Doc) → type_text doc One ≡ codes "One"
unfolding type_text
type_text-One doc = refl

pub type_text-Omega : (doc : Doc) → type_text doc Omega ≡ codes "Omega"
unfolding type_text
type_text-Omega doc = refl

pub type_text-Two : (doc : Doc) (S T : Ty) → type_text doc (Two S T) ≡ codes "(" ++ type_text doc S ++ codes " * " ++ type_text doc T ++ codes ")"
unfolding type_text hidden-the_row-Ty-0 Carrier.hidden
type_text-Two doc S T = refl

pub type_text-Pow : (doc : Doc) (T : Ty) → type_text doc (Pow T) ≡ codes "Pow " ++ type_text doc T
unfolding type_text hidden-the_row-Ty-0 Carrier.hidden
type_text-Pow doc T = refl

pub type_text-Fun : (doc : Doc) (S T : Ty) → type_text doc (Fun S T) ≡ codes "(" ++ type_text doc S ++ codes " -> " ++ type_text doc T ++ codes ")"
unfolding type_text hidden-the_row-Ty-0 Carrier.hidden
type_text-Fun doc S T = refl

pub ruleset type_rules = (type_text-Base, type_text-One, type_text-Omega, type_text-Two, type_text-Pow, type_text-Fun)
