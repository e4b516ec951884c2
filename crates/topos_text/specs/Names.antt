-- Names and what they stand for. A name that a statement declares can be used from the next statement on.
use Rattle.std.specs.Prelude.{ℕ, ◌+◌, List, [], ◌∷◌, ◌++◌, length, map, eqb, leb, bytes_eq, position, Option, Some, None, Result, Ok, Err}
use Rattle.std.specs.List.{list_any}
use Rattle.finite_lists.specs.First.{or_else, some_if}
use Rattle.topos_model.specs.declared.fault.Fault.{Fault}
use Rattle.topos_model.specs.declared.fault.Fault.TheVariants.{TooMany, NameTwice, NameUnknown}
use Rattle.topos_model.specs.declared.fault.Kind.{Kind}
use Rattle.topos_model.specs.declared.doc.FunctorName.{FunctorName}
use Rattle.topos_model.specs.declared.doc.CatDecl.{CatDecl}
use Rattle.topos_model.specs.declared.doc.OnName.{OnName}
use Rattle.topos_text.specs.Tokens.{Written}

-- a name, in bytes
abbrev pub Name : Type 0
Name = List ℕ

-- what is found, or the first fault in the order of the tokens
abbrev pub Checked : Type 0 → Type 0
Checked A = Result A Fault

infixl 10 ◌>>=◌
infixr 10 ◌>>◌
-- one after the other
abbrev pub ◌>>=◌ : {A B : Type 0} → Checked A → (A → Checked B) → Checked B
◌>>=◌ (Ok a) next = next a
◌>>=◌ (Err fault) next = Err fault

-- go on where there is no fault
abbrev pub ◌>>◌ : {A : Type 0} → Option Fault → Checked A → Checked A
◌>>◌ None next = next
◌>>◌ (Some fault) next = Err fault

-- what is found for each of a list
unfoldable pub for_each : {A B : Type 0} → (A → Checked B) → List A → Checked (List B)
for_each find [] = Ok []
for_each find (a ∷ rest) = do
  b ← find a
  bs ← for_each find rest
  Ok (b ∷ bs)

-- one change for each of a list
unfoldable pub change_by : {S A : Type 0} → (S → A → Checked S) → S → List A → Checked S
change_by change s [] = Ok s
change_by change s (a ∷ rest) = do
  t ← change s a
  change_by change t rest

-- the most that there may be of a kind, or no limit
abbrev pub Limits : Type 0
Limits = Kind → Option ℕ

-- one more than n are too many
unfoldable pub limit_fault : Kind → Option ℕ → ℕ → Option Fault
limit_fault kind None n = None
limit_fault kind (Some most) n = some_if (leb most n) (TooMany kind most)

-- the name is there already
unfoldable pub twice_fault : List Name → Written → Option Fault
twice_fault names x = some_if (list_any (λ y. bytes_eq y x.text) names) (NameTwice x.token x.text)

-- a name is there already, or stands among those before it
unfoldable pub new_fault : List Name → List Written → Option Fault
new_fault names [] = None
new_fault names (x ∷ xs) = or_else (twice_fault names x) (new_fault (x.text ∷ names) xs)

-- the number is there already
unfoldable pub again_fault : List ℕ → ℕ → Written → Option Fault
again_fault numbers k x = some_if (list_any (λ n. eqb n k) numbers) (NameTwice x.token x.text)

abbrev pub unknown : {A : Type 0} → Written → Checked A
unknown x = Err (NameUnknown x.token x.text)

abbrev pub found : Written → Option ℕ → Checked ℕ
found x (Some k) = Ok k
found x None = unknown x

unfoldable pub number_in : List Name → List ℕ → Option ℕ
number_in names text = position (λ y. bytes_eq y text) names

-- the number of a name
unfoldable pub look_up : List Name → Written → Checked ℕ
look_up names x = found x (number_in names x.text)

-- The names of a category: its objects and declared arrows so far, the ends of the arrows, and the composites that are listed. `total` is the number of all its objects,
-- also of those that are declared later: the arrows are numbered behind the identities.
pub record Space : Type 0 where
  pub total : ℕ
  pub objects : List Name
  pub arrows : List Name
  pub ends : List (ℕ × ℕ)
  pub listed : List (ℕ × ℕ × ℕ)

-- What a statement may name: what stands in one space of names, and the elements of the functors.
pub record Scope : Type 0 where
  pub site : Space
  pub topologies : List Name
  pub functors : List FunctorName
  pub maps : List Name
  pub cats : List CatDecl
  -- each with the category that it goes from
  pub cat_functors : List (Name × ℕ)
  pub on_functors : List OnName
  pub on_maps : List Name

abbrev pub functor_names : Scope → List Name
functor_names s = map (λ x. x.name) s.functors

abbrev pub category_names : Scope → List Name
category_names s = map (λ d. d.name) s.cats

abbrev pub category_functor_names : Scope → List Name
category_functor_names s = map (λ f. f.0) s.cat_functors

abbrev pub on_functor_names : Scope → List Name
on_functor_names s = map (λ p. p.name) s.on_functors

-- the names of one category
abbrev pub names_of : Space → List Name
names_of s = s.objects ++ s.arrows

-- all names of the document
unfoldable pub known : Scope → List Name
known s = names_of s.site ++ s.topologies ++ functor_names s ++ s.maps ++ category_names s ++ category_functor_names s ++ on_functor_names s ++ s.on_maps

-- what declares a functor, a map, a presheaf on a second category, and a map of such a presheaf
abbrev pub with_functor : Scope → Written → Option (List (List Name)) → Scope
with_functor s x elements = record s { functors = s.functors ++ record { name = x.text; elements = elements } ∷ [] }

abbrev pub with_maps : Scope → List Written → Scope
with_maps s ms = record s { maps = s.maps ++ map (λ m. m.text) ms }

-- the number of the next functor and of the next map
abbrev pub next_functor : Scope → ℕ
next_functor s = length s.functors

abbrev pub next_map : Scope → ℕ
next_map s = length s.maps

-- the functor, the map, the topology of a name; topology number 0 has none
abbrev pub functor_of : Scope → Written → Checked ℕ
functor_of s x = look_up (functor_names s) x

abbrev pub map_of : Scope → Written → Checked ℕ
map_of s x = look_up s.maps x

unfoldable pub topology_of : Scope → Written → Checked ℕ
topology_of s x = do
  k ← look_up s.topologies x
  Ok (k + 1)

-- the topology in force
abbrev pub under_of : Scope → Option Written → Checked ℕ
under_of s None = Ok 0
under_of s (Some j) = topology_of s j
