-- The grammar as codes for reading: what is read one behind the other, as the token in front decides.
use Rattle.std.specs.Prelude.{◌≡◌, ℕ, ◌⊎◌, Bool, true, false, List, [], ◌∷◌, Option, Some, None}
use Rattle.topos_text.specs.declared.word.Word.{Word}
use Rattle.topos_text.specs.declared.word.Word.TheVariants as word
use Rattle.topos_text.specs.declared.symbol.Symbol.{Symbol}
use Rattle.topos_text.specs.declared.symbol.Symbol.TheVariants as symbol
use Rattle.topos_text.specs.Tokens.{Token, Written, Name, Place, Reserved, Sign}
use Rattle.topos_text.specs.Trees.{TypeTree, Binding, Binder, Forall, Exists, Unique, Fun, TermTree}
use Rattle.topos_text.specs.Trees as tree
use Rattle.topos_text.specs.Terms.{ends_with_body, binder_word}
use Rattle.topos_grammar.specs.Kinds.{Sort, OfTerm, OfContext, OfBinding, Tree, Kind, AnyType, ProductType, MoreFactors, PrefixType, AnyTerm, Disjunction, MoreDisjuncts, Conjunction, MoreConjuncts, Negation, BinderTerm, Comparison, Application, MoreArguments, Atom, Parentheses, Context, ArrowName, SiteStatement, Cover, OfName, OfArrow, Covers, Topology, Section, Element, MapAt, Sent, OfEntry, OfMapping, Under, Step, Statement, Version, First, Second, OfPlace, OfStatement, OfDocument}

-- a class of tokens
pub data Class : Type 0 where
  This : Token → Class
  AnyName : Class
  AnyPlace : Class
  -- a place that stands for this number
  Numbered : ℕ → Class
  Any : Class
  Either : Class → Class → Class

abbrev pub the : Word → Class
the w = This (Reserved w)

abbrev pub sign : Symbol → Class
sign s = This (Sign s)

-- the tokens begin with one of the class
abbrev pub Is : Class → List Token → Type 0
Is (This u) toks = (ts : List Token) × (toks ≡ u ∷ ts)
Is AnyName toks = (x : Written) × (ts : List Token) × (toks ≡ Name x ∷ ts)
Is AnyPlace toks = (n : ℕ) × (x : Written) × (ts : List Token) × (toks ≡ Place n x ∷ ts)
Is (Numbered n) toks = (x : Written) × (ts : List Token) × (toks ≡ Place n x ∷ ts)
Is Any toks = (t : Token) × (ts : List Token) × (toks ≡ t ∷ ts)
Is (Either C D) toks = Is C toks ⊎ Is D toks

-- the words of binders
abbrev pub binders : Class
binders = Either (the word.Forall) (Either (the word.Exists) (Either (the word.Unique) (the word.Fun)))

-- the words with which an entry of a presheaf or of a functor of categories, and a statement of a site begin
abbrev pub section_words : Class
section_words = Either (the word.At) (the word.Along)

abbrev pub site_words : Class
site_words = Either (the word.Object) (Either (the word.Arrow) (the word.Compose))

-- What is read, with the tree that it gives.
pub data Code : Sort → Type 0 where
  give : {s : Sort} → Tree s → Code s
  -- this token
  eat : {s : Sort} → Token → Code s → Code s
  -- a name
  name : {s : Sort} → (Written → Code s) → Code s
  -- a place
  place : {s : Sort} → (ℕ → Written → Code s) → Code s
  -- a place that stands for this number
  numbered : {s : Sort} → ℕ → (Written → Code s) → Code s
  -- a phrase
  call : {s u : Sort} → Kind u → (Tree u → Code s) → Code s
  -- the first where a token of the class stands in front, and else the second
  peek : {s : Sort} → Class → Code s → Code s → Code s
  -- items, as long as a token of the class stands in front
  loop : {s u : Sort} → Class → Code u → (List (Tree u) → Code s) → Code s

abbrev pub eat_word : {s : Sort} → Word → Code s → Code s
eat_word w k = eat (Reserved w) k

abbrev pub eat_sign : {s : Sort} → Symbol → Code s → Code s
eat_sign c k = eat (Sign c) k

abbrev pub unless : {s : Sort} → Bool → Code s → Code s → Code s
unless true c d = d
unless false c d = c

-- NAME ":" type
abbrev pub bind : {s : Sort} → (Binding → Code s) → Code s
bind k = name (λ x. eat_sign symbol.Colon (call AnyType (λ T. k (record { variable = x; type = T }))))

-- the four words of binders
abbrev pub bound : Binder → Code OfTerm
bound b = eat_word (binder_word b) (bind (λ x. eat_sign symbol.Dot (call AnyTerm (λ t. give (tree.Bound b x t)))))

abbrev pub in_parentheses : (TermTree → TermTree) → Code OfTerm
in_parentheses f = eat_sign symbol.OpenParenthesis (call AnyTerm (λ t. eat_sign symbol.CloseParenthesis (give (f t))))

-- NAME {{ "," NAME }}
abbrev pub names : {s : Sort} → (Written → List Written → Code s) → Code s
names {s} k = name (λ x. loop {s = s} {u = OfName} (sign symbol.Comma) (eat_sign symbol.Comma (name (λ y. give {s = OfName} y))) (λ ys. k x ys))

-- {{ X ";" }}, where X begins with a token of the class
abbrev pub each : {s u : Sort} → Class → Kind u → (List (Tree u) → Code s) → Code s
each C K k = loop C (call K (λ x. eat_sign symbol.Semicolon (give x))) k

-- "{" {{ X ";" }} "}"
abbrev pub braced : {s u : Sort} → Class → Kind u → (List (Tree u) → Code s) → Code s
braced C K k = eat_sign symbol.OpenBrace (each C K (λ xs. eat_sign symbol.CloseBrace (k xs)))

-- NAME "->" NAME
abbrev pub entry : {s : Sort} → (tree.EntryTree → Code s) → Code s
entry k = name (λ x. eat_sign symbol.Arrow (name (λ y. k (record { from = x; to = y }))))

-- element "->" element
abbrev pub mapping : {s : Sort} → (tree.MappingTree → Code s) → Code s
mapping k = call Element (λ x. eat_sign symbol.Arrow (call Element (λ y. k (record { from = x; to = y }))))

-- PLACE
abbrev pub a_place : {s : Sort} → (tree.PlaceTree → Code s) → Code s
a_place k = place (λ n x. k (record { number = n; written = x }))

-- [ PLACE {{ "," PLACE }} ]
abbrev pub places : {s : Sort} → (List tree.PlaceTree → Code s) → Code s
places {s} k = peek AnyPlace (a_place (λ p. loop {s = s} {u = OfPlace} (sign symbol.Comma) (eat_sign symbol.Comma (a_place (λ q. give q))) (λ ps. k (p ∷ ps)))) (k [])

-- [ term {{ "," term }} ], before "->"
abbrev pub terms : {s : Sort} → (List TermTree → Code s) → Code s
terms {s} k = peek (sign symbol.Arrow) (k []) (call AnyTerm (λ t. loop {s = s} {u = OfTerm} (sign symbol.Comma) (eat_sign symbol.Comma (call AnyTerm (λ q. give q))) (λ ts. k (t ∷ ts))))

-- [ "with" term ]
abbrev pub with_term : {s : Sort} → (Option TermTree → Code s) → Code s
with_term k = peek (the word.With) (eat_word word.With (call AnyTerm (λ t. k (Some t)))) (k None)

-- "as" NAME
abbrev pub as_name : {s : Sort} → (Written → Code s) → Code s
as_name k = eat_word word.As (name k)

-- "with" NAME
abbrev pub with_name : {s : Sort} → (Written → Code s) → Code s
with_name k = eat_word word.With (name k)

-- "with" NAME "," NAME
abbrev pub with_names : {s : Sort} → (Written → Written → Code s) → Code s
with_names k = with_name (λ x. eat_sign symbol.Comma (name (λ y. k x y)))

-- context "|" term
abbrev pub sequent : {s : Sort} → (List Binding → TermTree → Code s) → Code s
sequent k = call Context (λ g. eat_sign symbol.Bar (call AnyTerm (λ t. k g t)))

-- "{" context "|" term "}"
abbrev pub comprehension : {s : Sort} → (List Binding → TermTree → Code s) → Code s
comprehension k = eat_sign symbol.OpenBrace (sequent (λ g t. eat_sign symbol.CloseBrace (k g t)))

-- a first word, and what stands behind it
abbrev pub Branch : Sort → Type 0
Branch s = Word × Code s

-- the branch whose word stands in front
unfoldable pub choose : {s : Sort} → Branch s → List (Branch s) → Code s
choose b [] = eat_word b.0 b.1
choose b (c ∷ cs) = peek (the b.0) (eat_word b.0 b.1) (choose c cs)

-- what stands behind the first word of a statement

abbrev pub presheaf : Code OfStatement
presheaf = name (λ x.
    peek (the word.Of) (eat_word word.Of (name (λ d. braced section_words Section (λ ss. give (tree.PresheafOn x d ss)))))
    (braced section_words Section (λ ss. give (tree.Presheaf x ss))))

abbrev pub map_of : Code OfStatement
map_of = name (λ m. eat_sign symbol.Colon (name (λ x. eat_sign symbol.Arrow (name (λ y. braced (the word.At) MapAt (λ ps. give (tree.Map m x y ps)))))))

abbrev pub construct : tree.Construction → Code OfStatement
construct of_two = name (λ x. name (λ y. as_name (λ z. with_names (λ p q. give (tree.Construct of_two x y z p q)))))

abbrev pub forked : tree.Fork → Code OfStatement
forked of_two = name (λ m. name (λ n. as_name (λ z. with_name (λ i. give (tree.Forked of_two m n z i)))))

abbrev pub image : Code OfStatement
image = name (λ m. as_name (λ z. with_names (λ e i. give (tree.Image m z e i))))

abbrev pub empty : Code OfStatement
empty = as_name (λ z. give (tree.Empty z))

abbrev pub sheafify : Version → Code OfStatement
sheafify v = call (Under v) (λ j. name (λ x. as_name (λ a. with_name (λ e. give (tree.Sheafify j x a e)))))

abbrev pub sheaf : Version → Code OfStatement
sheaf v = call (Under v) (λ j. name (λ x. give (tree.Sheaf j x)))

abbrev pub hom : Code OfStatement
hom = name (λ x. name (λ y. give (tree.Hom x y)))

abbrev pub build : Version → Code OfStatement
build v = call (Under v) (λ j. name (λ e. eat_word word.Of (call AnyType (λ T. with_names (λ x y. give (tree.Build j e T x y))))))

abbrev pub subobject : Version → Code OfStatement
subobject v = call (Under v) (λ j. name (λ x. eat_word word.Of (eat_sign symbol.OpenBrace (bind (λ b. eat_sign symbol.Bar (call AnyTerm (λ t. eat_sign symbol.CloseBrace (with_name (λ i. give (tree.Sub j x b t i))))))))))

abbrev pub let_be : Version → Code OfStatement
let_be v = call (Under v) (λ j. name (λ m. eat_sign symbol.Equals (bind (λ b. eat_sign symbol.Dot (call AnyTerm (λ t. give (tree.Let j m b t)))))))

abbrev pub asked : tree.Question → Version → Code OfStatement
asked question v = call (Under v) (λ j. comprehension (λ g t. give (tree.Ask question j g t)))

abbrev pub valid : Version → Code OfStatement
valid v = call (Under v) (λ j. sequent (λ g t. give (tree.Ask tree.Valid j g t)))

abbrev pub why : Version → Code OfStatement
why v = call (Under v) (λ j. name (λ u. a_place (λ n. eat_word word.Of (comprehension (λ g t. give (tree.Why j u n g t))))))

abbrev pub derive : Version → Code OfStatement
derive v = call (Under v) (λ j. braced AnyName Step (λ ss. give (tree.Derive j ss)))

abbrev pub local : Code OfStatement
local = name (λ m. peek (the word.As) (as_name (λ n. give (tree.LocalAs m n))) (give (tree.Local m)))

abbrev pub category : Code OfStatement
category = name (λ d. braced site_words SiteStatement (λ ss. give (tree.Category d ss)))

abbrev pub category_functor : Code OfStatement
category_functor = name (λ f.
    peek (sign symbol.Colon) (eat_sign symbol.Colon (name (λ d. braced section_words Sent (λ ss. give (tree.CategoryFunctor f d ss)))))
    (name (λ x. as_name (λ y. give (tree.Restricted f x y)))))

abbrev pub extended : tree.Extension → Code OfStatement
extended side = name (λ f. name (λ p. as_name (λ l. with_name (λ e. give (tree.Extended side f p l e)))))

-- the statements by their first words, the first of them apart
abbrev pub first_branch : Branch OfStatement
first_branch = (word.Presheaf, presheaf)

abbrev pub other_branches : Version → List (Branch OfStatement)
other_branches v =
    (word.Map, map_of) ∷
    (word.Product, construct tree.ProductOf) ∷
    (word.Equalizer, forked tree.EqualizerOf) ∷
    (word.Pullback, construct tree.PullbackOf) ∷
    (word.Image, image) ∷
    (word.Empty, empty) ∷
    (word.Coproduct, construct tree.CoproductOf) ∷
    (word.Coequalizer, forked tree.CoequalizerOf) ∷
    (word.Pushout, construct tree.PushoutOf) ∷
    (word.Sheafify, sheafify v) ∷
    (word.Sheaf, sheaf v) ∷
    (word.Hom, hom) ∷
    (word.Build, build v) ∷
    (word.Sub, subobject v) ∷
    (word.Let, let_be v) ∷
    (word.Show, asked tree.Show v) ∷
    (word.Classify, asked tree.Classify v) ∷
    (word.Valid, valid v) ∷
    (word.Why, why v) ∷
    (word.Derive, derive v) ∷
    (word.Local, local) ∷
    (word.Category, category) ∷
    (word.Functor, category_functor) ∷
    (word.Lan, extended tree.Lan) ∷
    (word.Ran, extended tree.Ran) ∷
    []

unfoldable pub code : {s : Sort} → Kind s → Code s
code AnyType = call ProductType (λ S. peek (sign symbol.Arrow) (eat_sign symbol.Arrow (call AnyType (λ T. give (tree.Function S T)))) (give S))
code ProductType = call PrefixType (λ S. call (MoreFactors S) give)
code (MoreFactors R) = peek (sign symbol.Star) (eat_sign symbol.Star (call PrefixType (λ S. call (MoreFactors (tree.Product R S)) give))) (give R)
code PrefixType =
    peek (the word.Pow) (eat_word word.Pow (call PrefixType (λ T. give (tree.Power T))))
    (peek AnyName (name (λ x. give (tree.Functor x)))
    (peek (the word.One) (eat_word word.One (give tree.One))
    (peek (the word.Omega) (eat_word word.Omega (give tree.Omega))
    (eat_sign symbol.OpenParenthesis (call AnyType (λ T. eat_sign symbol.CloseParenthesis (give T)))))))
code AnyTerm = call Disjunction (λ s. unless (ends_with_body s) (peek (sign symbol.Implies) (eat_sign symbol.Implies (call AnyTerm (λ t. give (tree.Implies s t)))) (give s)) (give s))
code Disjunction = call Conjunction (λ s. call (MoreDisjuncts s) give)
code (MoreDisjuncts r) = unless (ends_with_body r) (peek (the word.Or) (eat_word word.Or (call Conjunction (λ s. call (MoreDisjuncts (tree.Or r s)) give))) (give r)) (give r)
code Conjunction = call Negation (λ s. call (MoreConjuncts s) give)
code (MoreConjuncts r) = unless (ends_with_body r) (peek (the word.And) (eat_word word.And (call Negation (λ s. call (MoreConjuncts (tree.And r s)) give))) (give r)) (give r)
code Negation =
    peek (the word.Not) (eat_word word.Not (call Negation (λ t. give (tree.Not t))))
    (peek binders (call BinderTerm give)
    (call Comparison give))
code BinderTerm =
    peek (the word.Forall) (bound Forall)
    (peek (the word.Exists) (bound Exists)
    (peek (the word.Unique) (bound Unique)
    (bound Fun)))
code Comparison = call Application (λ s.
    peek (sign symbol.Equals) (eat_sign symbol.Equals (call Application (λ t. give (tree.Equal s t))))
    (peek (the word.In) (eat_word word.In (call Application (λ t. give (tree.Member s t))))
    (give s)))
code Application = call Atom (λ s. call (MoreArguments s) give)
code (MoreArguments r) = peek (sign symbol.OpenParenthesis) (call Parentheses (λ s. call (MoreArguments (tree.Applied r s)) give)) (give r)
code Atom =
    peek AnyName (name (λ x. give (tree.Named x)))
    (peek (the word.True) (eat_word word.True (give tree.Truth))
    (peek (the word.False) (eat_word word.False (give tree.Falsity))
    (peek (sign symbol.OpenBrace) (eat_sign symbol.OpenBrace (bind (λ b. eat_sign symbol.Bar (call AnyTerm (λ t. eat_sign symbol.CloseBrace (give (tree.Subset b t)))))))
    (peek (the word.Fst) (eat_word word.Fst (in_parentheses tree.First))
    (peek (the word.Snd) (eat_word word.Snd (in_parentheses tree.Second))
    (call Parentheses give))))))
code Parentheses = eat_sign symbol.OpenParenthesis
    (peek (sign symbol.CloseParenthesis) (eat_sign symbol.CloseParenthesis (give tree.Unit))
    (call AnyTerm (λ s.
    peek (sign symbol.Comma) (eat_sign symbol.Comma (call AnyTerm (λ t. eat_sign symbol.CloseParenthesis (give (tree.Paired s t)))))
    (eat_sign symbol.CloseParenthesis (give (tree.Grouped s))))))
code Context = peek AnyName (bind (λ b. loop {s = OfContext} {u = OfBinding} (sign symbol.Comma) (eat_sign symbol.Comma (bind (λ c. give {s = OfBinding} c))) (λ bs. give (b ∷ bs)))) (give [])
code ArrowName = peek (the word.Id) (eat_word word.Id (name (λ x. give (tree.Identity x)))) (name (λ f. give (tree.Declared f)))
code SiteStatement =
    peek (the word.Object) (eat_word word.Object (names (λ x xs. give (tree.Objects (x ∷ xs)))))
    (peek (the word.Arrow) (eat_word word.Arrow (names (λ f fs. eat_sign symbol.Colon (name (λ d. eat_sign symbol.Arrow (name (λ c. give (tree.Arrows (f ∷ fs) d c))))))))
    (eat_word word.Compose (name (λ g. eat_sign symbol.Dot (name (λ f. eat_sign symbol.Equals (call ArrowName (λ h. give (tree.Composite g f h)))))))))
code Cover = eat_word word.Cover (name (λ x. eat_word word.By
    (peek (the word.None) (eat_word word.None (give (record { object = x; arrows = [] })))
    (call ArrowName (λ f. loop {u = OfArrow} (sign symbol.Comma) (eat_sign symbol.Comma (call ArrowName (λ g. give g))) (λ fs. give (record { object = x; arrows = f ∷ fs })))))))
code Covers = peek (the word.Topology) (eat_word word.Topology (eat_word word.Dense (eat_sign symbol.Semicolon (give tree.Dense)))) (each (the word.Cover) Cover (λ cs. give (tree.Listed cs)))
code Topology = eat_word word.Topology (name (λ j.
    peek (sign symbol.Equals) (eat_sign symbol.Equals (eat_word word.Dense (give (record { name = j; covers = tree.Dense }))))
    (eat_sign symbol.OpenBrace (each (the word.Cover) Cover (λ cs. eat_sign symbol.CloseBrace (give (record { name = j; covers = tree.Listed cs })))))))
code Section =
    peek (the word.At) (eat_word word.At (name (λ u. eat_sign symbol.Colon (names (λ x xs. give (tree.At u (x ∷ xs)))))))
    (eat_word word.Along (name (λ f. eat_sign symbol.Colon (entry (λ e. loop {u = OfEntry} (sign symbol.Comma) (eat_sign symbol.Comma (entry (λ g. give g))) (λ es. give (tree.Along f (e ∷ es))))))))
code Element = peek AnyName (name (λ x. give (tree.ByName x))) (place (λ n x. give (tree.ByPlace n x)))
code MapAt = eat_word word.At (name (λ u. eat_sign symbol.Colon (mapping (λ e. loop {u = OfMapping} (sign symbol.Comma) (eat_sign symbol.Comma (mapping (λ g. give g))) (λ es. give (record { object = u; entries = e ∷ es }))))))
code Sent =
    peek (the word.At) (eat_word word.At (name (λ d. eat_sign symbol.Colon (name (λ c. give (tree.ObjectTo d c))))))
    (eat_word word.Along (name (λ u. eat_sign symbol.Colon (call ArrowName (λ f. give (tree.ArrowTo u f))))))
code (Under First) = give None
code (Under Second) = peek (the word.Under) (eat_word word.Under (name (λ j. give (Some j)))) (give None)
code Step = name (λ r. places (λ ps. eat_sign symbol.Colon (call Context (λ g. eat_sign symbol.Bar (terms (λ hs. eat_sign symbol.Arrow (call AnyTerm (λ t. with_term (λ w.
    give (record { rule = r; from = ps; context = g; hypotheses = hs; conclusion = t; with_term = w }))))))))))
code (Statement v) = choose first_branch (other_branches v)

-- the statements of a site, and statements up to the end of the tokens
abbrev pub sites : {s : Sort} → (List tree.SiteTree → Code s) → Code s
sites k = each site_words SiteStatement k

abbrev pub statements : {s : Sort} → Version → (List tree.StatementTree → Code s) → Code s
statements v k = each Any (Statement v) k

-- a document
unfoldable pub document : Code OfDocument
document =
    peek (the word.Version) (eat_word word.Version (numbered 2 (λ x. eat_sign symbol.Semicolon (sites (λ ss. each (the word.Topology) Topology (λ ts. statements Second (λ rest. give (tree.SecondVersion ss ts rest))))))))
    (sites (λ ss. call Covers (λ c. statements First (λ rest. give (tree.FirstVersion ss c rest)))))
