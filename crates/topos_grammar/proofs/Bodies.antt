-- What does not stand behind a term that ends with the body of a binder, once it is read.
use Rattle.std.proofs.Common.{◌≡◌, Bool, true, false, List, [], ◌∷◌, refl, ℕ}
use Rattle.topos_text.specs.declared.word.Word.TheVariants as word
use Rattle.topos_text.specs.Tokens.{Token, Written}
use Rattle.topos_text.specs.Trees.{TermTree, Binder, Forall, Exists, Unique, Fun}
use Rattle.topos_text.specs.Terms.{ends_with_body}
use Rattle.topos_grammar.specs.Kinds.{Sort, Tree, Kind, AnyType, ProductType, MoreFactors, PrefixType, AnyTerm, Disjunction, MoreDisjuncts, Conjunction, MoreConjuncts, Negation, BinderTerm, Comparison, Application, MoreArguments, Atom, Parentheses, Context, ArrowName, SiteStatement, Cover, Covers, Topology, Section, Element, MapAt, Sent, Under, Step, Statement, Version, First, Second}
use Rattle.topos_grammar.specs.Codes.{Is, the, Code, give, eat, name, call, peek, loop, code, bound, place, numbered, Branch, choose, first_branch, other_branches}
use Rattle.topos_grammar.specs.Reading.{Read, Whole, Stops, Reading, gives, eats, eats_not, names, names_not, calls, calls_not, peeks, peeks_not, loops, loops_not, loops_end, Closed, Ready, places, places_not, numbers, numbers_not}
use Rattle.topos_grammar.proofs.Sides.{more_disjuncts, more_conjuncts, after_disjunction}
use Rattle.topos_grammar.proofs.StatementSides.{Each}

-- what holds of the tokens behind a phrase that was read
abbrev pub After : {s : Sort} → Kind s → Tree s → List Token → Type 0
After AnyTerm t ts = Closed ts
After Disjunction t ts = (Is (the word.And) ts → ⊥) × (Is (the word.Or) ts → ⊥) × (ends_with_body t ≡ true → Closed ts)
After (MoreDisjuncts r) t ts = (Is (the word.And) ts → ⊥) × (Is (the word.Or) ts → ⊥) × (ends_with_body t ≡ true → Closed ts)
After Conjunction t ts = (Is (the word.And) ts → ⊥) × (ends_with_body t ≡ true → Closed ts)
After (MoreConjuncts r) t ts = (Is (the word.And) ts → ⊥) × (ends_with_body t ≡ true → Closed ts)
After Negation t ts = ends_with_body t ≡ true → Closed ts
After BinderTerm t ts = Closed ts
After Comparison t ts = ends_with_body t ≡ false
After Application t ts = ends_with_body t ≡ false
After (MoreArguments r) t ts = ends_with_body t ≡ false
After Atom t ts = ends_with_body t ≡ false
After Parentheses t ts = ends_with_body t ≡ false
After _ t ts = Unit {0}

-- Where S holds of the tokens that are read, Q holds of the tree and of the tokens behind it.
abbrev pub Post : {s : Sort} → Code s → (List Token → Type 0) → (Tree s → List Token → Type 0) → Type 0
Post (give v) S Q = (ts : List Token) → S ts → Q v ts
Post (eat u k) S Q = Post k (λ ts. Unit {0}) Q
Post (name k) S Q = (x : Written) → Post (k x) (λ ts. Unit {0}) Q
Post (place k) S Q = (n : ℕ) (x : Written) → Post (k n x) (λ ts. Unit {0}) Q
Post (numbered n k) S Q = (x : Written) → Post (k x) (λ ts. Unit {0}) Q
Post (call {u = u} K k) S Q = ((ts : List Token) → S ts → Ready K ts) × ((v : Tree u) → Post (k v) (After K v) Q)
Post (peek C a b) S Q = Post a (λ ts. S ts × Is C ts) Q × Post b (λ ts. S ts × (Is C ts → ⊥)) Q
Post (loop {u = u} C item k) S Q = (vs : List (Tree u)) → Post (k vs) (λ ts. Is C ts → ⊥) Q

any_term_post : (b : Bool) (s : TermTree) → ends_with_body s ≡ b → Post (after_disjunction b s) (After Disjunction s) (After AnyTerm)
any_term_post true s is = λ ts h. h.2 is
any_term_post false s is = (((λ ts h. tt), λ t ts h. h), λ ts h. (h.0.0, h.0.1, h.1))

disjuncts_post : (b : Bool) (r : TermTree) → ends_with_body r ≡ b → Post (more_disjuncts b r) (Ready (MoreDisjuncts r)) (After (MoreDisjuncts r))
unfolding ends_with_body
disjuncts_post true r is = λ ts h. (h.0, (h.1 is).1, h.1)
disjuncts_post false r is = (((λ ts h. tt), λ s. ((λ ts h. h), λ t ts h. h)), λ ts h. (h.0.0, h.1, h.0.1))

conjuncts_post : (b : Bool) (r : TermTree) → ends_with_body r ≡ b → Post (more_conjuncts b r) (Ready (MoreConjuncts r)) (After (MoreConjuncts r))
unfolding ends_with_body
conjuncts_post true r is = λ ts h. ((h is).0, h)
conjuncts_post false r is = (((λ ts h. tt), λ s. ((λ ts h. h), λ t ts h. h)), λ ts h. (h.1, h.0))

bound_post : (b : Binder) → Post (bound b) (λ ts. Unit {0}) (After BinderTerm)
bound_post b = λ x. ((λ ts h. tt), λ T. ((λ ts h. tt), λ t ts h. h))

not_body : (t : TermTree) (ts : List Token) → ends_with_body t ≡ false → ends_with_body t ≡ true → Closed ts
not_body t ts e f = absurd cc

choose_post : {s : Sort} (b : Branch s) (bs : List (Branch s)) (S : List Token → Type 0) (Q : Tree s → List Token → Type 0) → Each (λ c. Post c.1 (λ ts. Unit {0}) Q) (b ∷ bs) → Post (choose b bs) S Q
unfolding choose
choose_post b [] S Q h = h.0
choose_post b (c ∷ cs) S Q h = (h.0, choose_post c cs (λ ts. S ts × (Is (the b.0) ts → ⊥)) Q h.1)

statements_post : (v : Version) (S : List Token → Type 0) → Post (choose first_branch (other_branches v)) S (λ t ts. Unit {0})
statements_post v S = choose_post first_branch (other_branches v) S (λ t ts. Unit {0}) (λ x. ((λ d ss ts h. tt), λ ss ts h. tt), (λ m x y ps ts h. tt, (λ x y z p q ts h. tt, (λ m n z i ts h. tt, (λ x y z p q ts h. tt, (λ m z e i ts h. tt, (λ z ts h. tt, (λ x y z p q ts h. tt, (λ m n z i ts h. tt, (λ x y z p q ts h. tt, (((λ ts h. tt), λ j x a e ts h. tt), (((λ ts h. tt), λ j x ts h. tt), (λ x y ts h. tt, (((λ ts h. tt), λ j e. ((λ ts h. tt), λ y p q ts h. tt)), (((λ ts h. tt), λ j x y. ((λ ts h. tt), λ z. ((λ ts h. tt), λ t i ts h. tt))), (((λ ts h. tt), λ j m x. ((λ ts h. tt), λ z. ((λ ts h. tt), λ t ts h. tt))), (((λ ts h. tt), λ j. ((λ ts h. tt), λ g. ((λ ts h. tt), λ t ts h. tt))), (((λ ts h. tt), λ j. ((λ ts h. tt), λ g. ((λ ts h. tt), λ t ts h. tt))), (((λ ts h. tt), λ j. ((λ ts h. tt), λ g. ((λ ts h. tt), λ t ts h. tt))), (((λ ts h. tt), λ j u n x. ((λ ts h. tt), λ g. ((λ ts h. tt), λ t ts h. tt))), (((λ ts h. tt), λ j ss ts h. tt), (λ m. ((λ n ts h. tt), λ ts h. tt), (λ d ss ts h. tt, (λ f. ((λ d ss ts h. tt), λ x y ts h. tt), (λ f p l e ts h. tt, (λ f p l e ts h. tt, tt))))))))))))))))))))))))))

post_of : {s : Sort} (K : Kind s) → Post (code K) (Ready K) (After K)
unfolding code ends_with_body
post_of AnyType = ((λ ts h. tt), λ S. (((λ ts h. tt), λ T ts h. tt), λ ts h. tt))
post_of ProductType = ((λ ts h. tt), λ S. ((λ ts h. tt), λ t ts h. tt))
post_of (MoreFactors R) = (((λ ts h. tt), λ S. ((λ ts h. tt), λ t ts h. tt)), λ ts h. tt)
post_of PrefixType = (((λ ts h. tt), λ T ts h. tt), ((λ x ts h. tt), ((λ ts h. tt), ((λ ts h. tt), ((λ ts h. tt), λ T ts h. tt)))))
post_of AnyTerm = ((λ ts h. tt), λ s. any_term_post (ends_with_body s) s refl)
post_of Disjunction = ((λ ts h. tt), λ s. ((λ ts h. h), λ t ts h. h))
post_of (MoreDisjuncts r) = disjuncts_post (ends_with_body r) r refl
post_of Conjunction = ((λ ts h. tt), λ s. ((λ ts h. h), λ t ts h. h))
post_of (MoreConjuncts r) = conjuncts_post (ends_with_body r) r refl
post_of Negation = (((λ ts h. tt), λ t ts h. h), (((λ ts h. tt), λ t ts h e. h), ((λ ts h. tt), λ t ts h. not_body t ts h)))
post_of BinderTerm = (bound_post Forall, (bound_post Exists, (bound_post Unique, bound_post Fun)))
post_of Comparison = ((λ ts h. tt), λ s. (((λ ts h. tt), λ t ts h. refl), (((λ ts h. tt), λ t ts h. refl), λ ts h. h.0.0)))
post_of Application = ((λ ts h. tt), λ s. ((λ ts h. h), λ t ts h. h))
post_of (MoreArguments r) = (((λ ts h. tt), λ s. ((λ ts h. refl), λ t ts h. h)), λ ts h. h.0)
post_of Atom = (
  (λ x ts h. refl),
  (
    (λ ts h. refl),
    (
      (λ ts h. refl),
      (
        (λ x. ((λ ts h. tt), λ T. ((λ ts h. tt), λ t ts h. refl))),
        (((λ ts h. tt), λ t ts h. refl), (((λ ts h. tt), λ t ts h. refl), ((λ ts h. tt), λ t ts h. h))),
      ),
    ),
  ),
)
post_of Parentheses = ((λ ts h. refl), ((λ ts h. tt), λ s. (((λ ts h. tt), λ t ts h. refl), λ ts h. refl)))
post_of Context = ((λ x. ((λ ts h. tt), λ T vs ts h. tt)), λ ts h. tt)
post_of ArrowName = ((λ x ts h. tt), λ f ts h. tt)
post_of SiteStatement = ((λ x xs ts h. tt), ((λ f fs d c ts h. tt), λ g f. ((λ ts h. tt), λ h ts k. tt)))
post_of Cover = λ x. ((λ ts h. tt), ((λ ts h. tt), λ f fs ts h. tt))
post_of Covers = ((λ ts h. tt), λ cs ts h. tt)
post_of Topology = λ j. ((λ ts h. tt), λ cs ts h. tt)
post_of Section = ((λ u x xs ts h. tt), λ f a b es ts h. tt)
post_of Element = ((λ x ts h. tt), λ n x ts h. tt)
post_of MapAt = λ u. ((λ ts h. tt), λ a. ((λ ts h. tt), λ b es ts h. tt))
post_of Sent = ((λ d c ts h. tt), λ u. ((λ ts h. tt), λ f ts h. tt))
post_of (Under First) = λ ts h. tt
post_of (Under Second) = ((λ j ts h. tt), λ ts h. tt)
post_of Step = λ r. ((λ n x ps. ((λ ts h. tt), λ g. (((λ ts h. tt), λ t. (((λ ts h. tt), λ u ts h. tt), λ ts h. tt)), ((λ ts h. tt), λ t us. ((λ ts h. tt), λ t. (((λ ts h. tt), λ u ts h. tt), λ ts h. tt)))))), ((λ ts h. tt), λ g. (((λ ts h. tt), λ t. (((λ ts h. tt), λ u ts h. tt), λ ts h. tt)), ((λ ts h. tt), λ t us. ((λ ts h. tt), λ t. (((λ ts h. tt), λ u ts h. tt), λ ts h. tt))))))
post_of (Statement v) = statements_post v (λ ts. Unit {0})

abbrev pub Held : {s : Sort} → Read s → (Tree s → List Token → Type 0) → Type 0
Held (Whole v rest) Q = Q v rest
Held (Stops rest) Q = Unit {0}

pub held : {s : Sort} {c : Code s} {toks : List Token} {r : Read s} (S : List Token → Type 0) (Q : Tree s → List Token → Type 0) → Reading s c toks r → Post c S Q → S toks → Held r Q
held S Q (gives {toks = toks}) p h = p toks h
held S Q (eats d) p h = held (λ ts. Unit {0}) Q d p tt
held S Q (eats_not other) p h = tt
held S Q (names {x = x} d) p h = held (λ ts. Unit {0}) Q d (p x) tt
held S Q (names_not other) p h = tt
held S Q (places {n = n} {x = x} d) p h = held (λ ts. Unit {0}) Q d (p n x) tt
held S Q (places_not other) p h = tt
held S Q (numbers {x = x} d) p h = held (λ ts. Unit {0}) Q d (p x) tt
held S Q (numbers_not other) p h = tt
held S Q (calls {K = K} {v = v} {toks = toks} d e) p h = held (After K v) Q e (p.1 v) (held (Ready K) (After K) d (post_of K) (p.0 toks h))
held S Q (calls_not d) p h = tt
held S Q (peeks {C = C} is d) p h = held (λ ts. S ts × Is C ts) Q d p.0 (h, is)
held S Q (peeks_not {C = C} other d) p h = held (λ ts. S ts × (Is C ts → ⊥)) Q d p.1 (h, other)
held S Q (loops {v = v} {rest = rest} is d e) p h = held (λ ts. Unit {0}) Q e (λ vs. p (v ∷ vs)) tt
held S Q (loops_not is d) p h = tt
held S Q (loops_end {C = C} other d) p h = held (λ ts. Is C ts → ⊥) Q d (p []) other

pub after : {s : Sort} (K : Kind s) (toks rest : List Token) (v : Tree s) → Reading s (code K) toks (Whole v rest) → Ready K toks → After K v rest
after K toks rest v d h = held (Ready K) (After K) d (post_of K) h
