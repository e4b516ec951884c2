-- Which right sides a code reads, and derivations over kinds.
use Rattle.std.proofs.Common.{◌≡◌, ◌⊎◌, ℕ, zero, suc, ◌+◌, ◌≤◌, List, [], ◌∷◌, ◌++◌, refl, sym, ap, ◌∙◌, arith, append_assoc}
use Rattle.topos_text.specs.Tokens.{Token, Written, Name, Place}
use Rattle.topos_text.specs.Phrases.{Part, token, type, term, site, statement}
use Rattle.topos_text.specs.Phrases as phrase
use Rattle.topos_text.specs.Types.{TypeSide}
use Rattle.topos_text.specs.Terms.{TermSide}
use Rattle.topos_text.specs.SiteStatements.{SiteSide}
use Rattle.topos_text.specs.Statements.{StatementSide}
use Rattle.topos_text.specs.Documents.{Derives, nothing, this, by_type, by_term, by_site, by_statement}
use Rattle.topos_grammar.specs.Kinds.{Sort, Tree, Kind, AnyType, ProductType, MoreFactors, PrefixType, AnyTerm, Disjunction, MoreDisjuncts, Conjunction, MoreConjuncts, Negation, BinderTerm, Comparison, Application, MoreArguments, Atom, Parentheses, Context, ArrowName, SiteStatement, Cover, part, Side, Covers, Topology, Section, Element, MapAt, Sent, Under, Step, Statement, version_number}
use Rattle.topos_grammar.specs.Codes.{Code, give, eat, name, call, peek, loop, place, numbered}

-- the parts are those of the items, one behind the other
abbrev pub All : {A : Type 0} → (A → List Part → Type 0) → List A → List Part → Type 0
All P [] side = side ≡ []
All P (v ∷ vs) side = (front : List Part) × (rest : List Part) × (side ≡ front ++ rest) × P v front × All P vs rest

-- the code reads this right side, and gives this tree
abbrev pub Accepts : {s : Sort} → Code s → Tree s → List Part → Type 0
Accepts (give v) t side = (t ≡ v) × (side ≡ [])
Accepts (eat u k) t side = (rest : List Part) × (side ≡ token u ∷ rest) × Accepts k t rest
Accepts (name k) t side = (x : Written) × (rest : List Part) × (side ≡ token (Name x) ∷ rest) × Accepts (k x) t rest
Accepts (place k) t side = (n : ℕ) × (x : Written) × (rest : List Part) × (side ≡ token (Place n x) ∷ rest) × Accepts (k n x) t rest
Accepts (numbered n k) t side = (x : Written) × (rest : List Part) × (side ≡ token (Place n x) ∷ rest) × Accepts (k x) t rest
Accepts (call {u = u} K k) t side = (v : Tree u) × (rest : List Part) × (side ≡ part K v ∷ rest) × Accepts (k v) t rest
Accepts (peek C a b) t side = Accepts a t side ⊎ Accepts b t side
Accepts (loop {u = u} C item k) t side = (vs : List (Tree u)) × (front : List Part) × (rest : List Part) × (side ≡ front ++ rest) × All (λ v z. Accepts item v z) vs front × Accepts (k vs) t rest

-- a phrase of the kind by one of its right sides
pub derive_by : {s : Sort} (K : Kind s) (v : Tree s) {side ps : List Part} {xs ys : List Token} → Side K v side → Derives side xs → Derives ps ys → Derives (part K v ∷ ps) (xs ++ ys)
derive_by AnyType v r d f = by_type r d f
derive_by ProductType v r d f = by_type r d f
derive_by (MoreFactors R) v r d f = by_type r d f
derive_by PrefixType v r d f = by_type r d f
derive_by AnyTerm v r d f = by_term r d f
derive_by Disjunction v r d f = by_term r d f
derive_by (MoreDisjuncts a) v r d f = by_term r d f
derive_by Conjunction v r d f = by_term r d f
derive_by (MoreConjuncts a) v r d f = by_term r d f
derive_by Negation v r d f = by_term r d f
derive_by BinderTerm v r d f = by_term r d f
derive_by Comparison v r d f = by_term r d f
derive_by Application v r d f = by_term r d f
derive_by (MoreArguments a) v r d f = by_term r d f
derive_by Atom v r d f = by_term r d f
derive_by Parentheses v r d f = by_term r d f
derive_by Context v r d f = by_term r d f
derive_by ArrowName v r d f = by_site r d f
derive_by SiteStatement v r d f = by_site r d f
derive_by Cover v r d f = by_site r d f
derive_by Covers v r d f = by_site r d f
derive_by Topology v r d f = by_site r d f
derive_by Section v r d f = by_statement r d f
derive_by Element v r d f = by_statement r d f
derive_by MapAt v r d f = by_statement r d f
derive_by Sent v r d f = by_statement r d f
derive_by (Under w) v r d f = by_statement r d f
derive_by Step v r d f = by_statement r d f
derive_by (Statement w) v r d f = by_statement r d f

-- how many steps a derivation has
unfoldable pub size : {ps : List Part} {xs : List Token} → Derives ps xs → ℕ
size nothing = 0
size (this d) = suc (size d)
size (by_type r d f) = suc (size d + size f)
size (by_term r d f) = suc (size d + size f)
size (by_site r d f) = suc (size d + size f)
size (by_statement r d f) = suc (size d + size f)

abbrev pub Sized : ℕ → List Part → List Token → Type 0
Sized n ps xs = (d : Derives ps xs) × (size d ≤ n)

-- a derivation of a phrase of the kind, undone
pub record Undone {s : Sort} (n : ℕ) (K : Kind s) (v : Tree s) (ps : List Part) (zs : List Token) : Type 0 where
  pub less : ℕ
  pub is_less : suc less ≡ n
  pub side : List Part
  pub front : List Token
  pub rest : List Token
  pub parts : zs ≡ front ++ rest
  pub right_side : Side K v side
  pub first : Sized less side front
  pub others : Sized less ps rest

less_of : (n a b : ℕ) → suc (a + b) ≤ n → (m : ℕ) × (suc m ≡ n) × (a ≤ m) × (b ≤ m)
less_of zero a b le = absurd (omega (arith, le))
less_of (suc n) a b le = (n, refl, omega (arith, le), omega (arith, le))

undone_type : {s : Sort} (n : ℕ) (K : Kind s) (v : Tree s) (N : phrase.TypePhrase) (ps : List Part) (zs : List Token) → part K v ≡ type N → ((side : List Part) → TypeSide N side → Side K v side) → (d : Derives (type N ∷ ps) zs) → size d ≤ n → Undone n K v ps zs
unfolding size
undone_type n K v N ps zs is to (by_type {side = side} {xs = xs} {ys = ys} r d f) le =
    let m = less_of n (size d) (size f) le in
    record { less = m.0; is_less = m.1; side = side; front = xs; rest = ys; parts = refl; right_side = to side r; first = (d, m.2); others = (f, m.3) }

undone_term : {s : Sort} (n : ℕ) (K : Kind s) (v : Tree s) (N : phrase.TermPhrase) (ps : List Part) (zs : List Token) → part K v ≡ term N → ((side : List Part) → TermSide N side → Side K v side) → (d : Derives (term N ∷ ps) zs) → size d ≤ n → Undone n K v ps zs
unfolding size
undone_term n K v N ps zs is to (by_term {side = side} {xs = xs} {ys = ys} r d f) le =
    let m = less_of n (size d) (size f) le in
    record { less = m.0; is_less = m.1; side = side; front = xs; rest = ys; parts = refl; right_side = to side r; first = (d, m.2); others = (f, m.3) }

undone_statement : {s : Sort} (n : ℕ) (K : Kind s) (v : Tree s) (N : phrase.StatementPhrase) (ps : List Part) (zs : List Token) → part K v ≡ statement N → ((side : List Part) → StatementSide N side → Side K v side) → (d : Derives (statement N ∷ ps) zs) → size d ≤ n → Undone n K v ps zs
unfolding size
undone_statement n K v N ps zs is to (by_statement {side = side} {xs = xs} {ys = ys} r d f) le =
    let m = less_of n (size d) (size f) le in
    record { less = m.0; is_less = m.1; side = side; front = xs; rest = ys; parts = refl; right_side = to side r; first = (d, m.2); others = (f, m.3) }

undone_site : {s : Sort} (n : ℕ) (K : Kind s) (v : Tree s) (N : phrase.SitePhrase) (ps : List Part) (zs : List Token) → part K v ≡ site N → ((side : List Part) → SiteSide N side → Side K v side) → (d : Derives (site N ∷ ps) zs) → size d ≤ n → Undone n K v ps zs
unfolding size
undone_site n K v N ps zs is to (by_site {side = side} {xs = xs} {ys = ys} r d f) le =
    let m = less_of n (size d) (size f) le in
    record { less = m.0; is_less = m.1; side = side; front = xs; rest = ys; parts = refl; right_side = to side r; first = (d, m.2); others = (f, m.3) }

pub undone : {s : Sort} (n : ℕ) (K : Kind s) (v : Tree s) (ps : List Part) (zs : List Token) → Sized n (part K v ∷ ps) zs → Undone n K v ps zs
undone n AnyType v ps zs w = undone_type n AnyType v (phrase.AnyType v) ps zs refl (λ side r. r) w.0 w.1
undone n ProductType v ps zs w = undone_type n ProductType v (phrase.ProductType v) ps zs refl (λ side r. r) w.0 w.1
undone n (MoreFactors R) v ps zs w = undone_type n (MoreFactors R) v (phrase.MoreFactors R v) ps zs refl (λ side r. r) w.0 w.1
undone n PrefixType v ps zs w = undone_type n PrefixType v (phrase.PrefixType v) ps zs refl (λ side r. r) w.0 w.1
undone n AnyTerm v ps zs w = undone_term n AnyTerm v (phrase.AnyTerm v) ps zs refl (λ side r. r) w.0 w.1
undone n Disjunction v ps zs w = undone_term n Disjunction v (phrase.Disjunction v) ps zs refl (λ side r. r) w.0 w.1
undone n (MoreDisjuncts a) v ps zs w = undone_term n (MoreDisjuncts a) v (phrase.MoreDisjuncts a v) ps zs refl (λ side r. r) w.0 w.1
undone n Conjunction v ps zs w = undone_term n Conjunction v (phrase.Conjunction v) ps zs refl (λ side r. r) w.0 w.1
undone n (MoreConjuncts a) v ps zs w = undone_term n (MoreConjuncts a) v (phrase.MoreConjuncts a v) ps zs refl (λ side r. r) w.0 w.1
undone n Negation v ps zs w = undone_term n Negation v (phrase.Negation v) ps zs refl (λ side r. r) w.0 w.1
undone n BinderTerm v ps zs w = undone_term n BinderTerm v (phrase.BinderTerm v) ps zs refl (λ side r. r) w.0 w.1
undone n Comparison v ps zs w = undone_term n Comparison v (phrase.Comparison v) ps zs refl (λ side r. r) w.0 w.1
undone n Application v ps zs w = undone_term n Application v (phrase.Application v) ps zs refl (λ side r. r) w.0 w.1
undone n (MoreArguments a) v ps zs w = undone_term n (MoreArguments a) v (phrase.MoreArguments a v) ps zs refl (λ side r. r) w.0 w.1
undone n Atom v ps zs w = undone_term n Atom v (phrase.Atom v) ps zs refl (λ side r. r) w.0 w.1
undone n Parentheses v ps zs w = undone_term n Parentheses v (phrase.Parentheses v) ps zs refl (λ side r. r) w.0 w.1
undone n Context v ps zs w = undone_term n Context v (phrase.Context v) ps zs refl (λ side r. r) w.0 w.1
undone n ArrowName v ps zs w = undone_site n ArrowName v (phrase.ArrowName v) ps zs refl (λ side r. r) w.0 w.1
undone n SiteStatement v ps zs w = undone_site n SiteStatement v (phrase.SiteStatement v) ps zs refl (λ side r. r) w.0 w.1
undone n Cover v ps zs w = undone_site n Cover v (phrase.Cover v) ps zs refl (λ side r. r) w.0 w.1
undone n Covers v ps zs w = undone_site n Covers v (phrase.Covers v) ps zs refl (λ side r. r) w.0 w.1
undone n Topology v ps zs w = undone_site n Topology v (phrase.Topology v) ps zs refl (λ side r. r) w.0 w.1
undone n Section v ps zs w = undone_statement n Section v (phrase.Section v) ps zs refl (λ side r. r) w.0 w.1
undone n Element v ps zs w = undone_statement n Element v (phrase.Element v) ps zs refl (λ side r. r) w.0 w.1
undone n MapAt v ps zs w = undone_statement n MapAt v (phrase.MapAt v) ps zs refl (λ side r. r) w.0 w.1
undone n Sent v ps zs w = undone_statement n Sent v (phrase.Sent v) ps zs refl (λ side r. r) w.0 w.1
undone n (Under z) v ps zs w = undone_statement n (Under z) v (phrase.Under (version_number z) v) ps zs refl (λ side r. r) w.0 w.1
undone n Step v ps zs w = undone_statement n Step v (phrase.Step v) ps zs refl (λ side r. r) w.0 w.1
undone n (Statement z) v ps zs w = undone_statement n (Statement z) v (phrase.Statement (version_number z) v) ps zs refl (λ side r. r) w.0 w.1

-- a derivation that begins with a token, undone
pub record Taken (n : ℕ) (u : Token) (ps : List Part) (zs : List Token) : Type 0 where
  pub less : ℕ
  pub is_less : suc less ≡ n
  pub rest : List Token
  pub parts : zs ≡ u ∷ rest
  pub others : Sized less ps rest

taken_by : (n : ℕ) (u : Token) (ps : List Part) (zs : List Token) (d : Derives (token u ∷ ps) zs) → size d ≤ n → Taken n u ps zs
unfolding size
taken_by zero u ps zs (this d) le = absurd (omega (arith, le))
taken_by (suc n) u ps zs (this {toks = toks} d) le = record { less = n; is_less = refl; rest = toks; parts = refl; others = (d, omega (arith, le)) }

pub taken : (n : ℕ) (u : Token) (ps : List Part) (zs : List Token) → Sized n (token u ∷ ps) zs → Taken n u ps zs
taken n u ps zs w = taken_by n u ps zs w.0 w.1

nothing_derives : (zs : List Token) → Derives [] zs → zs ≡ []
nothing_derives zs nothing = refl

pub none : (n : ℕ) (zs : List Token) → Sized n [] zs → zs ≡ []
none n zs w = nothing_derives zs w.0

-- a derivation cut in two
pub record Cut (n : ℕ) (ps qs : List Part) (zs : List Token) : Type 0 where
  pub front : List Token
  pub rest : List Token
  pub parts : zs ≡ front ++ rest
  pub first : Sized n ps front
  pub others : Sized n qs rest

pub cut_at : (ps qs : List Part) (zs : List Token) (d : Derives (ps ++ qs) zs) (n : ℕ) → size d ≤ n → Cut n ps qs zs
unfolding size
cut_at [] qs zs d n le = record { front = []; rest = zs; parts = refl; first = (nothing, omega arith); others = (d, le) }
cut_at (token t ∷ ps) qs zs (this {toks = toks} d) n le =
    let c = cut_at ps qs toks d (size d) (omega arith) in
    record { front = t ∷ c.front; rest = c.rest; parts = ap (λ z. t ∷ z) c.parts; first = (this c.first.0, omega (arith, c.first.1, le)); others = (c.others.0, omega (arith, c.others.1, le)) }
cut_at (type N ∷ ps) qs zs (by_type {xs = xs} {ys = ys} r d f) n le =
    let c = cut_at ps qs ys f (size f) (omega arith) in
    record { front = xs ++ c.front; rest = c.rest; parts = ap (λ z. xs ++ z) c.parts ∙ sym (append_assoc xs c.front c.rest); first = (by_type r d c.first.0, omega (arith, c.first.1, le)); others = (c.others.0, omega (arith, c.others.1, le)) }
cut_at (term N ∷ ps) qs zs (by_term {xs = xs} {ys = ys} r d f) n le =
    let c = cut_at ps qs ys f (size f) (omega arith) in
    record { front = xs ++ c.front; rest = c.rest; parts = ap (λ z. xs ++ z) c.parts ∙ sym (append_assoc xs c.front c.rest); first = (by_term r d c.first.0, omega (arith, c.first.1, le)); others = (c.others.0, omega (arith, c.others.1, le)) }
cut_at (site N ∷ ps) qs zs (by_site {xs = xs} {ys = ys} r d f) n le =
    let c = cut_at ps qs ys f (size f) (omega arith) in
    record { front = xs ++ c.front; rest = c.rest; parts = ap (λ z. xs ++ z) c.parts ∙ sym (append_assoc xs c.front c.rest); first = (by_site r d c.first.0, omega (arith, c.first.1, le)); others = (c.others.0, omega (arith, c.others.1, le)) }
cut_at (statement N ∷ ps) qs zs (by_statement {xs = xs} {ys = ys} r d f) n le =
    let c = cut_at ps qs ys f (size f) (omega arith) in
    record { front = xs ++ c.front; rest = c.rest; parts = ap (λ z. xs ++ z) c.parts ∙ sym (append_assoc xs c.front c.rest); first = (by_statement r d c.first.0, omega (arith, c.first.1, le)); others = (c.others.0, omega (arith, c.others.1, le)) }
