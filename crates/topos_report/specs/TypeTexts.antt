-- How types are spelled.
use Rattle.std.specs.Prelude.{List, ℕ, ◌++◌, codes}
use Rattle.topos_model.specs.declared.ty.Ty.{Ty, Base, One, Omega, Two', Pow', Fun', more_of-Ty as only, end_of-Ty as end}
use Rattle.topos_model.specs.declared.doc.Doc.{Doc}
use Rattle.topos_report.specs.Names.{functor_name}

module _ (doc : Doc) where
  -- a functor by its name; inner types likewise
  unfoldable pub type_text : Ty → List ℕ
  type_text (Base n) = functor_name doc n
  type_text One = codes "One"
  type_text Omega = codes "Omega"
  type_text (Two' _ (only S end) _ (only T end)) = codes "(" ++ type_text S ++ codes " * " ++ type_text T ++ codes ")"
  type_text (Pow' _ (only T end)) = codes "Pow " ++ type_text T
  type_text (Fun' _ (only S end) _ (only T end)) = codes "(" ++ type_text S ++ codes " -> " ++ type_text T ++ codes ")"
