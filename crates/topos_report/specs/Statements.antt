-- What a report needs of statements: their words, and the names of what they make and speak of.
use Rattle.std.specs.Prelude.{ℕ, ◌-◌, List, [], ◌∷◌, get_or, codes, Option, Some}
use Rattle.std.specs.List.{slice_get}
use Rattle.topos_model.specs.declared.doc.Doc.{Doc}
use Rattle.topos_model.specs.declared.stmt.Stmt.{Stmt}
use Rattle.topos_model.specs.declared.stmt.Stmt.TheVariants.{Presheaf, Map, Product, Coproduct, Equalizer, Coequalizer, Pullback, Pushout, Image, Empty, Sheafify, Build, Sub, Local, Category, CatFunctor, Along, PresheafOf, Lan, Ran}
use Rattle.topos_report.specs.Names.{Naming, naming, second_naming, nameless, functor_name, on_functor}

-- the first word of a statement that makes a functor
unfoldable pub word_of : Stmt → List ℕ
word_of (Product x y z p q) = codes "product"
word_of (Coproduct x y z i j) = codes "coproduct"
word_of (Equalizer m n z i) = codes "equalizer"
word_of (Coequalizer m n z q) = codes "coequalizer"
word_of (Pullback m n z p q) = codes "pullback"
word_of (Pushout m n z i j) = codes "pushout"
word_of (Image m z e j) = codes "image"
word_of (Empty z) = codes "empty"
word_of (Sheafify under x z e) = codes "sheafify"
word_of (Build under z T u v) = codes "build"
word_of (Sub under z T φ i) = codes "sub"
word_of (Along f x on) = codes "functor"
word_of (Lan f on z e) = codes "lan"
word_of (Ran f on z e) = codes "ran"
word_of _ = []

-- the maps that a statement makes with a functor, in the order of the text
unfoldable pub made_maps : Stmt → List ℕ
made_maps (Product x y z p q) = p ∷ q ∷ []
made_maps (Coproduct x y z i j) = i ∷ j ∷ []
made_maps (Equalizer m n z i) = i ∷ []
made_maps (Coequalizer m n z q) = q ∷ []
made_maps (Pullback m n z p q) = p ∷ q ∷ []
made_maps (Pushout m n z i j) = i ∷ j ∷ []
made_maps (Image m z e j) = e ∷ j ∷ []
made_maps (Sheafify under x z e) = e ∷ []
made_maps (Build under z T u v) = u ∷ v ∷ []
made_maps (Sub under z T φ i) = i ∷ []
made_maps _ = []

-- the maps whose ends a statement tests
unfoldable pub tested_maps : Stmt → List ℕ
tested_maps (Equalizer m n z i) = m ∷ n ∷ []
tested_maps (Coequalizer m n z q) = m ∷ n ∷ []
tested_maps (Pullback m n z p q) = m ∷ n ∷ []
tested_maps (Pushout m n z i j) = m ∷ n ∷ []
tested_maps (Image m z e j) = m ∷ []
tested_maps (Local m) = m ∷ []
tested_maps _ = []

module _ (doc : Doc) where
  -- the statement number k, where it stands after the site
  unfoldable pub statement_at : ℕ → Option Stmt
  statement_at k = slice_get doc.stmts (k - doc.site_len - 1)

  -- the name of the functor that a statement makes
  unfoldable pub made_name : Stmt → List ℕ
  made_name (Product x y z p q) = functor_name doc z
  made_name (Coproduct x y z i j) = functor_name doc z
  made_name (Equalizer m n z i) = functor_name doc z
  made_name (Coequalizer m n z q) = functor_name doc z
  made_name (Pullback m n z p q) = functor_name doc z
  made_name (Pushout m n z i j) = functor_name doc z
  made_name (Image m z e j) = functor_name doc z
  made_name (Empty z) = functor_name doc z
  made_name (Sheafify under x z e) = functor_name doc z
  made_name (Build under z T u v) = functor_name doc z
  made_name (Sub under z T φ i) = functor_name doc z
  made_name (Along f x on) = (on_functor doc on).name
  made_name (Lan f on z e) = functor_name doc z
  made_name (Ran f on z e) = functor_name doc z
  made_name _ = []

  -- the category that the instances of a statement's faults are of: the document's, or a second one
  unfoldable pub naming_of : Stmt → Naming
  naming_of (Category cat) = second_naming doc cat
  naming_of (CatFunctor f cat raw) = second_naming doc cat
  naming_of (PresheafOf cat on raw) = second_naming doc cat
  naming_of _ = naming doc

  -- the names of the elements that they are of: those of the presheaf, or of the domain of the map
  unfoldable pub elements_of : Stmt → Option (List (List (List ℕ)))
  elements_of (Presheaf functor raw) = (get_or doc.functors functor nameless).elements
  elements_of (Map m x y raw) = (get_or doc.functors x nameless).elements
  elements_of (PresheafOf cat on raw) = (on_functor doc on).elements
  elements_of _ = Some []
