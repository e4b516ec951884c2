-- The grammar of the statements behind the site, in a document of the first or the second version.
use Rattle.std.specs.Prelude.{ℕ, List, [], ◌∷◌, ◌++◌, Option, Some, None}
use Rattle.topos_text.specs.declared.word.Word.{Word}
use Rattle.topos_text.specs.declared.word.Word.TheVariants as word
use Rattle.topos_text.specs.declared.symbol.Symbol.TheVariants as symbol
use Rattle.topos_text.specs.Tokens.{Written}
use Rattle.topos_text.specs.Trees.{TypeTree, Binding, TermTree, ArrowTree, SiteTree, EntryTree, SectionTree, At, Along, ByName, ByPlace, MappingTree, MapAtTree, SentTree, ObjectTo, ArrowTo, PlaceTree, StepTree, Construction, ProductOf, CoproductOf, PullbackOf, PushoutOf, Fork, EqualizerOf, CoequalizerOf, Show, Classify, Valid, Extension, Lan, Ran, Presheaf, Map, Construct, Forked, Image, Empty, Sheafify, Sheaf, Hom, Build, Sub, Let, Ask, Why, Derive, Local, LocalAs, Category, CategoryFunctor, Restricted, PresheafOn, Extended}
use Rattle.topos_text.specs.Phrases.{Part, StatementPhrase, type, term, site, statement, AnyType, AnyTerm, Context, SiteStatement, ArrowName, Section, Element, MapAt, Under, Step, Sent, Statement, the, sign, name, place, names, commas, each}

-- NAME "->" NAME
abbrev pub entry : EntryTree → List Part
entry e = name e.from ∷ sign symbol.Arrow ∷ name e.to ∷ []

-- element "->" element
abbrev pub mapping : MappingTree → List Part
mapping e = statement (Element e.from) ∷ sign symbol.Arrow ∷ statement (Element e.to) ∷ []

-- [ PLACE {{ "," PLACE }} ]
abbrev pub places : List PlaceTree → List Part
places [] = []
places (p ∷ ps) = commas (λ q. place q.number q.written ∷ []) p ps

-- [ term {{ "," term }} ]
abbrev pub terms : List TermTree → List Part
terms [] = []
terms (t ∷ ts) = commas (λ s. term (AnyTerm s) ∷ []) t ts

-- [ "with" term ]
abbrev pub with_term : Option TermTree → List Part
with_term None = []
with_term (Some t) = the word.With ∷ term (AnyTerm t) ∷ []

abbrev pub construction_word : Construction → Word
construction_word ProductOf = word.Product
construction_word CoproductOf = word.Coproduct
construction_word PullbackOf = word.Pullback
construction_word PushoutOf = word.Pushout

abbrev pub fork_word : Fork → Word
fork_word EqualizerOf = word.Equalizer
fork_word CoequalizerOf = word.Coequalizer

abbrev pub extension_word : Extension → Word
extension_word Lan = word.Lan
extension_word Ran = word.Ran

-- A right side of a phrase of the statements.
pub data StatementSide : StatementPhrase → List Part → Type 0 where
  -- section = "at" NAME ":" NAME {{ "," NAME }} | "along" NAME ":" NAME "->" NAME {{ "," NAME "->" NAME }}
  at : {u x : Written} {xs : List Written} → StatementSide (Section (At u (x ∷ xs))) (the word.At ∷ name u ∷ sign symbol.Colon ∷ names x xs)
  along : {f : Written} {e : EntryTree} {es : List EntryTree} → StatementSide (Section (Along f (e ∷ es))) (the word.Along ∷ name f ∷ sign symbol.Colon ∷ commas entry e es)
  -- map_at = "at" NAME ":" element "->" element {{ "," element "->" element }}
  map_at : {u : Written} {e : MappingTree} {es : List MappingTree}
      → StatementSide (MapAt (record { object = u; entries = e ∷ es })) (the word.At ∷ name u ∷ sign symbol.Colon ∷ commas mapping e es)
  -- element = NAME | PLACE
  by_name : {x : Written} → StatementSide (Element (ByName x)) (name x ∷ [])
  by_place : {n : ℕ} {x : Written} → StatementSide (Element (ByPlace n x)) (place n x ∷ [])
  -- under = [ "under" NAME ], in the second version alone
  not_under : {version : ℕ} → StatementSide (Under version None) []
  under : {j : Written} → StatementSide (Under 2 (Some j)) (the word.Under ∷ name j ∷ [])
  -- step = NAME [ PLACE {{ "," PLACE }} ] ":" context "|" [ term {{ "," term }} ] "->" term [ "with" term ]
  step : {s : StepTree}
      → StatementSide (Step s) (name s.rule ∷ places s.from ++ (sign symbol.Colon ∷ term (Context s.context) ∷ sign symbol.Bar ∷ terms s.hypotheses ++ (sign symbol.Arrow ∷ term (AnyTerm s.conclusion) ∷ with_term s.with_term)))
  -- sent = "at" NAME ":" NAME | "along" NAME ":" arrow_name
  object_to : {d c : Written} → StatementSide (Sent (ObjectTo d c)) (the word.At ∷ name d ∷ sign symbol.Colon ∷ name c ∷ [])
  arrow_to : {u : Written} {f : ArrowTree} → StatementSide (Sent (ArrowTo u f)) (the word.Along ∷ name u ∷ sign symbol.Colon ∷ site (ArrowName f) ∷ [])
  -- "presheaf" NAME "{" {{ section ";" }} "}"
  presheaf : {version : ℕ} {x : Written} {sections : List SectionTree}
      → StatementSide (Statement version (Presheaf x sections)) (the word.Presheaf ∷ name x ∷ sign symbol.OpenBrace ∷ each (λ x. statement (Section x)) sections ++ sign symbol.CloseBrace ∷ [])
  -- "map" NAME ":" NAME "->" NAME "{" {{ map_at ";" }} "}"
  map : {version : ℕ} {m x y : Written} {parts : List MapAtTree}
      → StatementSide (Statement version (Map m x y parts))
      (the word.Map ∷ name m ∷ sign symbol.Colon ∷ name x ∷ sign symbol.Arrow ∷ name y ∷ sign symbol.OpenBrace ∷ each (λ x. statement (MapAt x)) parts ++ sign symbol.CloseBrace ∷ [])
  -- ("product" | "coproduct" | "pullback" | "pushout") NAME NAME "as" NAME "with" NAME "," NAME
  construct : {version : ℕ} {of : Construction} {x y z p q : Written}
      → StatementSide (Statement version (Construct of x y z p q))
      (the (construction_word of) ∷ name x ∷ name y ∷ the word.As ∷ name z ∷ the word.With ∷ name p ∷ sign symbol.Comma ∷ name q ∷ [])
  -- ("equalizer" | "coequalizer") NAME NAME "as" NAME "with" NAME
  forked : {version : ℕ} {of : Fork} {m n z i : Written}
      → StatementSide (Statement version (Forked of m n z i)) (the (fork_word of) ∷ name m ∷ name n ∷ the word.As ∷ name z ∷ the word.With ∷ name i ∷ [])
  -- "image" NAME "as" NAME "with" NAME "," NAME
  image : {version : ℕ} {m z e i : Written}
      → StatementSide (Statement version (Image m z e i)) (the word.Image ∷ name m ∷ the word.As ∷ name z ∷ the word.With ∷ name e ∷ sign symbol.Comma ∷ name i ∷ [])
  -- "empty" "as" NAME
  empty : {version : ℕ} {z : Written} → StatementSide (Statement version (Empty z)) (the word.Empty ∷ the word.As ∷ name z ∷ [])
  -- "sheafify" under NAME "as" NAME "with" NAME
  sheafify : {version : ℕ} {j : Option Written} {x a e : Written}
      → StatementSide (Statement version (Sheafify j x a e)) (the word.Sheafify ∷ statement (Under version j) ∷ name x ∷ the word.As ∷ name a ∷ the word.With ∷ name e ∷ [])
  -- "sheaf" under NAME
  sheaf : {version : ℕ} {j : Option Written} {x : Written} → StatementSide (Statement version (Sheaf j x)) (the word.Sheaf ∷ statement (Under version j) ∷ name x ∷ [])
  -- "hom" NAME NAME
  hom : {version : ℕ} {x y : Written} → StatementSide (Statement version (Hom x y)) (the word.Hom ∷ name x ∷ name y ∷ [])
  -- "build" under NAME "of" type "with" NAME "," NAME
  build : {version : ℕ} {j : Option Written} {e : Written} {T : TypeTree} {u v : Written}
      → StatementSide (Statement version (Build j e T u v))
      (the word.Build ∷ statement (Under version j) ∷ name e ∷ the word.Of ∷ type (AnyType T) ∷ the word.With ∷ name u ∷ sign symbol.Comma ∷ name v ∷ [])
  -- "sub" under NAME "of" "{" NAME ":" type "|" term "}" "with" NAME
  sub : {version : ℕ} {j : Option Written} {s : Written} {b : Binding} {t : TermTree} {i : Written}
      → StatementSide (Statement version (Sub j s b t i))
      (the word.Sub ∷ statement (Under version j) ∷ name s ∷ the word.Of ∷ sign symbol.OpenBrace ∷ name b.variable ∷ sign symbol.Colon ∷ type (AnyType b.type) ∷ sign symbol.Bar ∷ term (AnyTerm t) ∷ sign symbol.CloseBrace ∷ the word.With ∷ name i ∷ [])
  -- "let" under NAME "=" NAME ":" type "." term
  let_be : {version : ℕ} {j : Option Written} {m : Written} {b : Binding} {t : TermTree}
      → StatementSide (Statement version (Let j m b t))
      (the word.Let ∷ statement (Under version j) ∷ name m ∷ sign symbol.Equals ∷ name b.variable ∷ sign symbol.Colon ∷ type (AnyType b.type) ∷ sign symbol.Dot ∷ term (AnyTerm t) ∷ [])
  -- ("show" | "classify") under "{" context "|" term "}"
  show : {version : ℕ} {j : Option Written} {Γ : List Binding} {t : TermTree}
      → StatementSide (Statement version (Ask Show j Γ t)) (the word.Show ∷ statement (Under version j) ∷ sign symbol.OpenBrace ∷ term (Context Γ) ∷ sign symbol.Bar ∷ term (AnyTerm t) ∷ sign symbol.CloseBrace ∷ [])
  classify : {version : ℕ} {j : Option Written} {Γ : List Binding} {t : TermTree}
      → StatementSide (Statement version (Ask Classify j Γ t)) (the word.Classify ∷ statement (Under version j) ∷ sign symbol.OpenBrace ∷ term (Context Γ) ∷ sign symbol.Bar ∷ term (AnyTerm t) ∷ sign symbol.CloseBrace ∷ [])
  -- "valid" under context "|" term
  valid : {version : ℕ} {j : Option Written} {Γ : List Binding} {t : TermTree}
      → StatementSide (Statement version (Ask Valid j Γ t)) (the word.Valid ∷ statement (Under version j) ∷ term (Context Γ) ∷ sign symbol.Bar ∷ term (AnyTerm t) ∷ [])
  -- "why" under NAME PLACE "of" "{" context "|" term "}"
  why : {version : ℕ} {j : Option Written} {u : Written} {k : PlaceTree} {Γ : List Binding} {t : TermTree}
      → StatementSide (Statement version (Why j u k Γ t))
      (the word.Why ∷ statement (Under version j) ∷ name u ∷ place k.number k.written ∷ the word.Of ∷ sign symbol.OpenBrace ∷ term (Context Γ) ∷ sign symbol.Bar ∷ term (AnyTerm t) ∷ sign symbol.CloseBrace ∷ [])
  -- "derive" under "{" {{ step ";" }} "}"
  derive : {version : ℕ} {j : Option Written} {steps : List StepTree}
      → StatementSide (Statement version (Derive j steps)) (the word.Derive ∷ statement (Under version j) ∷ sign symbol.OpenBrace ∷ each (λ x. statement (Step x)) steps ++ sign symbol.CloseBrace ∷ [])
  -- "local" NAME [ "as" NAME ]
  local : {version : ℕ} {m : Written} → StatementSide (Statement version (Local m)) (the word.Local ∷ name m ∷ [])
  local_as : {version : ℕ} {j m : Written} → StatementSide (Statement version (LocalAs j m)) (the word.Local ∷ name j ∷ the word.As ∷ name m ∷ [])
  -- "category" NAME "{" {{ (objects | arrows | composite) ";" }} "}"
  category : {version : ℕ} {d : Written} {statements : List SiteTree}
      → StatementSide (Statement version (Category d statements)) (the word.Category ∷ name d ∷ sign symbol.OpenBrace ∷ each (λ x. site (SiteStatement x)) statements ++ sign symbol.CloseBrace ∷ [])
  -- "functor" NAME ":" NAME "{" {{ sent ";" }} "}"
  category_functor : {version : ℕ} {f d : Written} {sent : List SentTree}
      → StatementSide (Statement version (CategoryFunctor f d sent))
      (the word.Functor ∷ name f ∷ sign symbol.Colon ∷ name d ∷ sign symbol.OpenBrace ∷ each (λ x. statement (Sent x)) sent ++ sign symbol.CloseBrace ∷ [])
  -- "functor" NAME NAME "as" NAME
  restricted : {version : ℕ} {f x y : Written} → StatementSide (Statement version (Restricted f x y)) (the word.Functor ∷ name f ∷ name x ∷ the word.As ∷ name y ∷ [])
  -- "presheaf" NAME "of" NAME "{" {{ section ";" }} "}"
  presheaf_on : {version : ℕ} {p d : Written} {sections : List SectionTree}
      → StatementSide (Statement version (PresheafOn p d sections))
      (the word.Presheaf ∷ name p ∷ the word.Of ∷ name d ∷ sign symbol.OpenBrace ∷ each (λ x. statement (Section x)) sections ++ sign symbol.CloseBrace ∷ [])
  -- ("lan" | "ran") NAME NAME "as" NAME "with" NAME
  extended : {version : ℕ} {of : Extension} {f p l e : Written}
      → StatementSide (Statement version (Extended of f p l e)) (the (extension_word of) ∷ name f ∷ name p ∷ the word.As ∷ name l ∷ the word.With ∷ name e ∷ [])
