-- What derives is read, whatever follows that may stand behind it.
use Rattle.std.proofs.Common.{◌≡◌, ◌⊎◌, inl, inr, ℕ, zero, suc, ◌<◌, ◌≤◌, Bool, true, false, List, [], ◌∷◌, ◌++◌, refl, sym, ap, subst, ◌∙◌, arith, append_assoc}
use Rattle.topos_text.specs.declared.word.Word.{Word}
use Rattle.topos_text.specs.declared.word.Word.TheVariants as word
use Rattle.topos_text.specs.declared.symbol.Symbol.TheVariants as symbol
use Rattle.topos_text.specs.Tokens.{Token, Written, Name, Reserved, Sign, Place}
use Rattle.topos_text.specs.Trees.{TypeTree, TermTree, StatementTree, Binding, Binder, Forall, Exists, Unique, Fun, Construction, Fork, Question, Extension}
use Rattle.topos_text.specs.Trees as tree
use Rattle.topos_text.specs.Phrases.{Part, token}
use Rattle.topos_text.specs.Terms.{ends_with_body}
use Rattle.topos_text.specs.Documents.{Derives}
use Rattle.topos_grammar.specs.Kinds.{Sort, OfBinding, OfContext, OfStep, Version, Tree, Kind, AnyType, ProductType, MoreFactors, PrefixType, AnyTerm, Disjunction, MoreDisjuncts, Conjunction, MoreConjuncts, Negation, BinderTerm, Comparison, Application, MoreArguments, Atom, Parentheses, Context, part, Side, ArrowName, SiteStatement, Cover, Covers, Topology, Section, Element, MapAt, Sent, Under, Step, Statement, First, Second}
use Rattle.topos_grammar.specs.Codes.{AnyName, Class, This, Is, the, sign, binders, Code, give, eat, name, call, peek, loop, code, bound, bind, eat_sign, place, numbered, Branch, choose, section_words, site_words, first_branch, other_branches, presheaf, map_of, construct, forked, image, empty, sheafify, sheaf, hom, build, subobject, let_be, asked, valid, why, derive, local, category, category_functor, extended}
use Rattle.topos_grammar.specs.Follows.{type_level, level, limit, Follow}
use Rattle.topos_grammar.specs.Reading.{Whole, Reading, gives, eats, names, calls, peeks, peeks_not, loops, loops_end, places, numbers}
use Rattle.topos_grammar.proofs.Accepting.{Accepts, All, Sized, undone, taken, none, cut_at, size}
use Rattle.topos_grammar.proofs.Sides.{accepts_side, more_disjuncts, more_conjuncts, after_disjunction}
use Rattle.topos_grammar.proofs.Fronts.{begins_atom, BeginsTerm, Leads, sized_by, leads_to, leads_always, choose_leads}
use Rattle.topos_grammar.proofs.StatementSides.{Each, after_terms, after_places}

-- what may stand behind a loop
abbrev pub Ends : {A : Type 0} {s : Sort} → (A → Code s) → (Tree s → List Token → Type 0) → List Token → Type 0
Ends {A} {s} k F ts = (vs : A) × (v : Tree s) × (side : List Part) × (n : ℕ) × (xs : List Token) × (ys : List Token) × Accepts (k vs) v side × Sized n side xs × F v ys × (ts ≡ xs ++ ys)

-- in the code, the token in front decides, if what stands behind its trees passes F
abbrev pub Fits : {s : Sort} → Code s → (Tree s → List Token → Type 0) → Type 0
Fits (give v) F = Unit {0}
Fits (eat u k) F = Fits k F
Fits (name k) F = (x : Written) → Fits (k x) F
Fits (place k) F = (n : ℕ) (x : Written) → Fits (k n x) F
Fits (numbered n k) F = (x : Written) → Fits (k x) F
Fits (call {u = u} K k) F = (v : Tree u) → Fits (k v) F × Leads (k v) (Follow K v) (λ t. (ys : List Token) → F t ys → Follow K v ys)
Fits (peek C a b) F = Fits a F × Fits b F × Leads a (Is C) (λ t. (ys : List Token) → F t ys → Is C ys) × Leads b (λ ts. Is C ts → ⊥) (λ t. (ys : List Token) → F t ys → Is C ys → ⊥)
Fits (loop {u = u} C item k) F = ((vs : List (Tree u)) → Fits (k vs) F × Leads (k vs) (λ ts. Is C ts → ⊥) (λ t. (ys : List Token) → F t ys → Is C ys → ⊥)) × Leads item (Is C) (λ a. ⊥) × Fits item (λ a ys. Is C ys ⊎ Ends k F ys)

-- ---- the codes of the kinds fit

not_type : (n m : ℕ) (u : Token) (ys : List Token) → n < type_level ys → Is (This u) ys → ((ts : List Token) → type_level (u ∷ ts) ≡ m) → m ≤ n → ⊥
not_type n m u ys lt (ts, e) is le = let at : n < type_level (u ∷ ts) = subst (λ z. n < type_level z) e lt in omega (arith, at, is ts, le)

not_level : (n m : ℕ) (u : Token) (ys : List Token) → n < level ys → Is (This u) ys → ((ts : List Token) → level (u ∷ ts) ≡ m) → m ≤ n → ⊥
not_level n m u ys lt (ts, e) is le = let at : n < level (u ∷ ts) = subst (λ z. n < level z) e lt in omega (arith, at, is ts, le)

at_level : (n m : ℕ) (u : Token) (ys : List Token) → Is (This u) ys → ((ts : List Token) → level (u ∷ ts) ≡ m) → n < m → n < level ys
at_level n m u ys (ts, e) is lt = subst (λ z. n < level z) (sym e) (omega (arith, is ts, lt))

limit_least : (n : ℕ) (b : Bool) → n ≤ 5 → n ≤ limit n b
limit_least n true le = le
limit_least n false le = omega arith

limit_most : (n : ℕ) (b : Bool) → n ≤ 5 → limit n b ≤ 5
limit_most n true le = omega arith
limit_most n false le = le

lower : (n m : ℕ) (b : Bool) → n ≤ m → limit n b ≤ limit m b
lower n m true le = omega arith
lower n m false le = le

without_body : (n : ℕ) (b : Bool) → b ≡ false → limit n b ≡ n
without_body n true e = absurd cc
without_body n false e = refl

-- what goes on with a list of operands may stand behind an operand
goes_on : (n m : ℕ) (u : Token) (s : TermTree) (ts : List Token) → (ends_with_body s ≡ false) × Is (This u) ts → ((us : List Token) → level (u ∷ us) ≡ m) → n < m → limit n (ends_with_body s) < level ts
goes_on n m u s ts (body, is) lev lt = subst (λ z. z < level ts) (sym (without_body n (ends_with_body s) body)) (at_level n m u ts is lev lt)

ends_list : (n m : ℕ) (s v : TermTree) (ys : List Token) → v ≡ s → n ≤ m → limit m (ends_with_body v) < level ys → limit n (ends_with_body s) < level ys
ends_list n m s v ys e le lt = let at : limit m (ends_with_body s) < level ys = subst (λ z. limit m (ends_with_body z) < level ys) e lt in omega (arith, at, lower n m (ends_with_body s) le)

no_operator : (n m : ℕ) (u : Token) (s : TermTree) (ys : List Token) → limit n (ends_with_body s) < level ys → Is (This u) ys → ((ts : List Token) → level (u ∷ ts) ≡ m) → m ≤ n → n ≤ 5 → ⊥
no_operator n m u s ys lt is lev le small = not_level n m u ys (omega (arith, lt, limit_least n (ends_with_body s) small)) is lev le

term_not_close : (ts : List Token) → BeginsTerm ts → Is (sign symbol.CloseParenthesis) ts → ⊥
term_not_close ts (inl h) is = cc
term_not_close ts (inr (inl (inl h))) is = cc
term_not_close ts (inr (inl (inr (inl h)))) is = cc
term_not_close ts (inr (inl (inr (inr (inl h))))) is = cc
term_not_close ts (inr (inl (inr (inr (inr h))))) is = cc
term_not_close ts (inr (inr h)) (us, e) = let bad : false ≡ true = subst (λ z. begins_atom z ≡ true) e h in absurd cc

atom_not_binder : (ts : List Token) → begins_atom ts ≡ true → Is binders ts → ⊥
atom_not_binder ts h (inl (us, e)) = let bad : false ≡ true = subst (λ z. begins_atom z ≡ true) e h in absurd cc
atom_not_binder ts h (inr (inl (us, e))) = let bad : false ≡ true = subst (λ z. begins_atom z ≡ true) e h in absurd cc
atom_not_binder ts h (inr (inr (inl (us, e)))) = let bad : false ≡ true = subst (λ z. begins_atom z ≡ true) e h in absurd cc
atom_not_binder ts h (inr (inr (inr (us, e)))) = let bad : false ≡ true = subst (λ z. begins_atom z ≡ true) e h in absurd cc

binder_not_not : (ts : List Token) → Is binders ts → Is (the word.Not) ts → ⊥
binder_not_not ts (inl h) is = cc
binder_not_not ts (inr (inl h)) is = cc
binder_not_not ts (inr (inr (inl h))) is = cc
binder_not_not ts (inr (inr (inr h))) is = cc

atom_not_not : (ts : List Token) → begins_atom ts ≡ true → Is (the word.Not) ts → ⊥
atom_not_not ts h (us, e) = let bad : false ≡ true = subst (λ z. begins_atom z ≡ true) e h in absurd cc

comma_type : (ts : List Token) → Is (sign symbol.Comma) ts → 2 < type_level ts
comma_type ts (us, e) = subst (λ z. 2 < type_level z) (sym e) (omega arith)

bar_type : (ts : List Token) → Is (sign symbol.Bar) ts → 2 < type_level ts
bar_type ts (us, e) = subst (λ z. 2 < type_level z) (sym e) (omega arith)

any_term_fits : (b : Bool) (s : TermTree) → ends_with_body s ≡ b → Fits (after_disjunction b s) (Follow AnyTerm) × Leads (after_disjunction b s) (Follow Disjunction s) (λ t. (ys : List Token) → 5 < level ys → Follow Disjunction s ys)
any_term_fits true s is = (tt, λ ys h. omega (arith, h, limit_most 4 (ends_with_body s) (omega arith)))
any_term_fits false s is = (
  ((λ t. (tt, λ ys h. h)), tt, λ ts. (ts, refl), λ ys h is. not_level 5 5 (Sign symbol.Implies) ys h is (λ ts. refl) (omega arith)),
  (λ ts. goes_on 4 5 (Sign symbol.Implies) s (Sign symbol.Implies ∷ ts) (is, (ts, refl)) (λ us. refl) (omega arith), λ ys h. omega (arith, h, limit_most 4 (ends_with_body s) (omega arith))),
)

more_disjuncts_fits : (b : Bool) (r : TermTree) → Fits (more_disjuncts b r) (λ t ts. limit 4 (ends_with_body t) < level ts)
unfolding ends_with_body
more_disjuncts_fits true r = tt
more_disjuncts_fits false r = ((λ s. ((λ t. (tt, λ ys h. h)), (λ ts h. goes_on 3 4 (Reserved word.Or) s ts h (λ us. refl) (omega arith), λ v e ys h. ends_list 3 4 (tree.Or r s) v ys e (omega arith) h))), tt, λ ts. (ts, refl), λ ys h is. no_operator 4 4 (Reserved word.Or) r ys h is (λ us. refl) (omega arith) (omega arith))

more_conjuncts_fits : (b : Bool) (r : TermTree) → Fits (more_conjuncts b r) (λ t ts. limit 3 (ends_with_body t) < level ts)
unfolding ends_with_body
more_conjuncts_fits true r = tt
more_conjuncts_fits false r = ((λ s. ((λ t. (tt, λ ys h. h)), (λ ts h. goes_on 2 3 (Reserved word.And) s ts h (λ us. refl) (omega arith), λ v e ys h. ends_list 2 3 (tree.And r s) v ys e (omega arith) h))), tt, λ ts. (ts, refl), λ ys h is. no_operator 3 3 (Reserved word.And) r ys h is (λ us. refl) (omega arith) (omega arith))

bound_fits : (b : Binder) → Fits (bound b) (λ t ts. limit 2 (ends_with_body t) < level ts)
unfolding ends_with_body
bound_fits b = λ x T. ((λ t. (tt, λ ys h. h)), λ ts. omega arith)

item_fits : (b : Binding) → Fits {s = OfBinding} (eat_sign symbol.Comma (bind (λ c. give c))) (λ a ys. Is (sign symbol.Comma) ys ⊎ Ends {A = List Binding} {s = OfContext} (λ bs. give (b ∷ bs)) (Follow Context) ys)
item_fits b = λ x T. (tt, λ ys g. follow ys g T)
  where
    follow : (ys : List Token) → Is (sign symbol.Comma) ys ⊎ Ends {A = List Binding} {s = OfContext} (λ bs. give (b ∷ bs)) (Follow Context) ys → (T : TypeTree) → 2 < type_level ys
    follow ys (inl is) T = comma_type ys is
    follow ys (inr (vs, v, side, n, xs, zs, acc, w, f, e)) T = subst (λ z. 2 < type_level z) (sym e) (leads_to {s = OfContext} (give (b ∷ vs)) (λ z. 2 < type_level z) (Follow Context) v side n xs zs (λ z h. bar_type z h) acc w f)

arrow_not_none : (ts : List Token) → Is (the word.Id) ts ⊎ Is AnyName ts → Is (the word.None) ts → ⊥
arrow_not_none ts (inl h) is = cc
arrow_not_none ts (inr h) is = cc

-- no statement of a site, no entry and no step begins with the closing brace
closed_section : (ts : List Token) → Is section_words (Sign symbol.CloseBrace ∷ ts) → ⊥
closed_section ts (inl is) = cc
closed_section ts (inr is) = cc

closed_site : (ts : List Token) → Is site_words (Sign symbol.CloseBrace ∷ ts) → ⊥
closed_site ts (inl is) = cc
closed_site ts (inr (inl is)) = cc
closed_site ts (inr (inr is)) = cc

term_not_arrow : (ts : List Token) → BeginsTerm ts → Is (sign symbol.Arrow) ts → ⊥
term_not_arrow ts (inl h) is = cc
term_not_arrow ts (inr (inl (inl h))) is = cc
term_not_arrow ts (inr (inl (inr (inl h)))) is = cc
term_not_arrow ts (inr (inl (inr (inr (inl h))))) is = cc
term_not_arrow ts (inr (inl (inr (inr (inr h))))) is = cc
term_not_arrow ts (inr (inr h)) (us, e) = let bad : false ≡ true = subst (λ z. begins_atom z ≡ true) e h in absurd cc

-- ---- statements

-- no branch has the word of another
abbrev pub Differ : {s : Sort} → List (Branch s) → Type 0
Differ [] = Unit {0}
Differ (b ∷ bs) = Each (λ c. c.0 ≡ b.0 → ⊥) bs × Differ bs

others_lead : {s : Sort} (w : Word) (c : Branch s) (cs : List (Branch s)) (E : Tree s → Type 0) → Each (λ d. d.0 ≡ w → ⊥) (c ∷ cs) → Leads (choose c cs) (λ ts. Is (the w) ts → ⊥) E
others_lead {s} w c cs E h = choose_leads c cs (λ ts. Is (the w) ts → ⊥) E (all (c ∷ cs) h)
  where
    not_it : (d : Word) → (d ≡ w → ⊥) → (ts : List Token) → Is (the w) (Reserved d ∷ ts) → ⊥
    not_it d h ts is = h cc

    all : (ds : List (Branch s)) → Each (λ d. d.0 ≡ w → ⊥) ds → Each (λ d. (ts : List Token) → Is (the w) (Reserved d.0 ∷ ts) → ⊥) ds
    all [] h = tt
    all (d ∷ ds) h = (not_it d.0 h.0, all ds h.1)

choose_fits : {s : Sort} (b : Branch s) (bs : List (Branch s)) (F : Tree s → List Token → Type 0) → Each (λ c. Fits c.1 F) (b ∷ bs) → Differ (b ∷ bs) → Fits (choose b bs) F
unfolding choose
choose_fits b [] F h d = h.0
choose_fits b (c ∷ cs) F h d = (h.0, choose_fits c cs F h.1 d.1, λ ts. (ts, refl), others_lead b.0 c cs _ d.0)

semicolon_term : (ys : List Token) → Is (sign symbol.Semicolon) ys → 5 < level ys
semicolon_term ys is = at_level 5 6 (Sign symbol.Semicolon) ys is (λ ts. refl) (omega arith)

abbrev Ended : StatementTree → List Token → Type 0
Ended t ts = Is (sign symbol.Semicolon) ts

presheaf_fits : Fits presheaf Ended
presheaf_fits = λ x. ((λ d. ((λ ss. (tt, closed_section)), (λ ts h. h, λ v e. absurd e), λ c. (tt, λ ts. (ts, refl)))), ((λ ss. (tt, closed_section)), (λ ts h. h, λ v e. absurd e), λ c. (tt, λ ts. (ts, refl))), λ ts. (ts, refl), λ ts is. cc)

map_of_fits : Fits map_of Ended
map_of_fits = λ m x y. ((λ ps. (tt, λ ts is. cc)), (λ ts h. h, λ v e. absurd e), λ c. (tt, λ ts. (ts, refl)))

construct_fits : (c : Construction) → Fits (construct c) Ended
construct_fits c = λ x y z p q. tt

forked_fits : (f : Fork) → Fits (forked f) Ended
forked_fits f = λ m n z i. tt

image_fits : Fits image Ended
image_fits = λ m z e i. tt

empty_fits : Fits empty Ended
empty_fits = λ z. tt

sheafify_fits : (v : Version) → Fits (sheafify v) Ended
sheafify_fits v = λ j. ((λ x a e. tt), λ x ts is. cc)

sheaf_fits : (v : Version) → Fits (sheaf v) Ended
sheaf_fits v = λ j. ((λ x. tt), λ x ts is. cc)

hom_fits : Fits hom Ended
hom_fits = λ x y. tt

build_fits : (v : Version) → Fits (build v) Ended
build_fits v = λ j. ((λ e T. ((λ x y. tt), λ ts. omega arith)), λ x ts is. cc)

subobject_fits : (v : Version) → Fits (subobject v) Ended
subobject_fits v = λ j. ((λ x y T. ((λ t. ((λ i. tt), λ ts. omega arith)), λ ts. omega arith)), λ x ts is. cc)

let_be_fits : (v : Version) → Fits (let_be v) Ended
let_be_fits v = λ j. ((λ m x T. ((λ t. (tt, λ ys h. semicolon_term ys h)), λ ts. omega arith)), λ x ts is. cc)

asked_fits : (q : Question) (v : Version) → Fits (asked q v) Ended
asked_fits q v = λ j. ((λ g. ((λ t. (tt, λ ts. omega arith)), λ ts. (ts, refl))), λ ts is. cc)

valid_fits : (v : Version) → Fits (valid v) Ended
valid_fits v = λ j. ((λ g. ((λ t. (tt, λ ys h. semicolon_term ys h)), λ ts. (ts, refl))), (λ ts h is. cc, λ g e ts is. cc))

why_fits : (v : Version) → Fits (why v) Ended
why_fits v = λ j. ((λ u n x g. ((λ t. (tt, λ ts. omega arith)), λ ts. (ts, refl))), λ x ts is. cc)

derive_fits : (v : Version) → Fits (derive v) Ended
derive_fits v = λ j. (((λ ps. (tt, λ ts is. cc)), (λ ts h. h, λ v e. absurd e), λ c. (tt, λ ts. (ts, refl))), λ ts is. cc)

local_fits : Fits local Ended
local_fits = λ m. ((λ n. tt), tt, λ ts. (ts, refl), λ ys h is. cc)

category_fits : Fits category Ended
category_fits = λ d. ((λ ss. (tt, closed_site)), (λ ts h. h, λ v e. absurd e), λ c. (tt, λ ts. (ts, refl)))

category_functor_fits : Fits category_functor Ended
category_functor_fits = λ f. ((λ d. ((λ ss. (tt, closed_section)), (λ ts h. h, λ v e. absurd e), λ c. (tt, λ ts. (ts, refl)))), (λ x y. tt), λ ts. (ts, refl), λ x ts is. cc)

extended_fits : (x : Extension) → Fits (extended x) Ended
extended_fits x = λ f p l e. tt

pub statements_differ : (v : Version) → Differ (first_branch ∷ other_branches v)
statements_differ v = ((λ e. cc, (λ e. cc, (λ e. cc, (λ e. cc, (λ e. cc, (λ e. cc, (λ e. cc, (λ e. cc, (λ e. cc, (λ e. cc, (λ e. cc, (λ e. cc, (λ e. cc, (λ e. cc, (λ e. cc, (λ e. cc, (λ e. cc, (λ e. cc, (λ e. cc, (λ e. cc, (λ e. cc, (λ e. cc, (λ e. cc, (λ e. cc, (λ e. cc, tt))))))))))))))))))))))))), ((λ e. cc, (λ e. cc, (λ e. cc, (λ e. cc, (λ e. cc, (λ e. cc, (λ e. cc, (λ e. cc, (λ e. cc, (λ e. cc, (λ e. cc, (λ e. cc, (λ e. cc, (λ e. cc, (λ e. cc, (λ e. cc, (λ e. cc, (λ e. cc, (λ e. cc, (λ e. cc, (λ e. cc, (λ e. cc, (λ e. cc, (λ e. cc, tt)))))))))))))))))))))))), ((λ e. cc, (λ e. cc, (λ e. cc, (λ e. cc, (λ e. cc, (λ e. cc, (λ e. cc, (λ e. cc, (λ e. cc, (λ e. cc, (λ e. cc, (λ e. cc, (λ e. cc, (λ e. cc, (λ e. cc, (λ e. cc, (λ e. cc, (λ e. cc, (λ e. cc, (λ e. cc, (λ e. cc, (λ e. cc, (λ e. cc, tt))))))))))))))))))))))), ((λ e. cc, (λ e. cc, (λ e. cc, (λ e. cc, (λ e. cc, (λ e. cc, (λ e. cc, (λ e. cc, (λ e. cc, (λ e. cc, (λ e. cc, (λ e. cc, (λ e. cc, (λ e. cc, (λ e. cc, (λ e. cc, (λ e. cc, (λ e. cc, (λ e. cc, (λ e. cc, (λ e. cc, (λ e. cc, tt)))))))))))))))))))))), ((λ e. cc, (λ e. cc, (λ e. cc, (λ e. cc, (λ e. cc, (λ e. cc, (λ e. cc, (λ e. cc, (λ e. cc, (λ e. cc, (λ e. cc, (λ e. cc, (λ e. cc, (λ e. cc, (λ e. cc, (λ e. cc, (λ e. cc, (λ e. cc, (λ e. cc, (λ e. cc, (λ e. cc, tt))))))))))))))))))))), ((λ e. cc, (λ e. cc, (λ e. cc, (λ e. cc, (λ e. cc, (λ e. cc, (λ e. cc, (λ e. cc, (λ e. cc, (λ e. cc, (λ e. cc, (λ e. cc, (λ e. cc, (λ e. cc, (λ e. cc, (λ e. cc, (λ e. cc, (λ e. cc, (λ e. cc, (λ e. cc, tt)))))))))))))))))))), ((λ e. cc, (λ e. cc, (λ e. cc, (λ e. cc, (λ e. cc, (λ e. cc, (λ e. cc, (λ e. cc, (λ e. cc, (λ e. cc, (λ e. cc, (λ e. cc, (λ e. cc, (λ e. cc, (λ e. cc, (λ e. cc, (λ e. cc, (λ e. cc, (λ e. cc, tt))))))))))))))))))), ((λ e. cc, (λ e. cc, (λ e. cc, (λ e. cc, (λ e. cc, (λ e. cc, (λ e. cc, (λ e. cc, (λ e. cc, (λ e. cc, (λ e. cc, (λ e. cc, (λ e. cc, (λ e. cc, (λ e. cc, (λ e. cc, (λ e. cc, (λ e. cc, tt)))))))))))))))))), ((λ e. cc, (λ e. cc, (λ e. cc, (λ e. cc, (λ e. cc, (λ e. cc, (λ e. cc, (λ e. cc, (λ e. cc, (λ e. cc, (λ e. cc, (λ e. cc, (λ e. cc, (λ e. cc, (λ e. cc, (λ e. cc, (λ e. cc, tt))))))))))))))))), ((λ e. cc, (λ e. cc, (λ e. cc, (λ e. cc, (λ e. cc, (λ e. cc, (λ e. cc, (λ e. cc, (λ e. cc, (λ e. cc, (λ e. cc, (λ e. cc, (λ e. cc, (λ e. cc, (λ e. cc, (λ e. cc, tt)))))))))))))))), ((λ e. cc, (λ e. cc, (λ e. cc, (λ e. cc, (λ e. cc, (λ e. cc, (λ e. cc, (λ e. cc, (λ e. cc, (λ e. cc, (λ e. cc, (λ e. cc, (λ e. cc, (λ e. cc, (λ e. cc, tt))))))))))))))), ((λ e. cc, (λ e. cc, (λ e. cc, (λ e. cc, (λ e. cc, (λ e. cc, (λ e. cc, (λ e. cc, (λ e. cc, (λ e. cc, (λ e. cc, (λ e. cc, (λ e. cc, (λ e. cc, tt)))))))))))))), ((λ e. cc, (λ e. cc, (λ e. cc, (λ e. cc, (λ e. cc, (λ e. cc, (λ e. cc, (λ e. cc, (λ e. cc, (λ e. cc, (λ e. cc, (λ e. cc, (λ e. cc, tt))))))))))))), ((λ e. cc, (λ e. cc, (λ e. cc, (λ e. cc, (λ e. cc, (λ e. cc, (λ e. cc, (λ e. cc, (λ e. cc, (λ e. cc, (λ e. cc, (λ e. cc, tt)))))))))))), ((λ e. cc, (λ e. cc, (λ e. cc, (λ e. cc, (λ e. cc, (λ e. cc, (λ e. cc, (λ e. cc, (λ e. cc, (λ e. cc, (λ e. cc, tt))))))))))), ((λ e. cc, (λ e. cc, (λ e. cc, (λ e. cc, (λ e. cc, (λ e. cc, (λ e. cc, (λ e. cc, (λ e. cc, (λ e. cc, tt)))))))))), ((λ e. cc, (λ e. cc, (λ e. cc, (λ e. cc, (λ e. cc, (λ e. cc, (λ e. cc, (λ e. cc, (λ e. cc, tt))))))))), ((λ e. cc, (λ e. cc, (λ e. cc, (λ e. cc, (λ e. cc, (λ e. cc, (λ e. cc, (λ e. cc, tt)))))))), ((λ e. cc, (λ e. cc, (λ e. cc, (λ e. cc, (λ e. cc, (λ e. cc, (λ e. cc, tt))))))), ((λ e. cc, (λ e. cc, (λ e. cc, (λ e. cc, (λ e. cc, (λ e. cc, tt)))))), ((λ e. cc, (λ e. cc, (λ e. cc, (λ e. cc, (λ e. cc, tt))))), ((λ e. cc, (λ e. cc, (λ e. cc, (λ e. cc, tt)))), ((λ e. cc, (λ e. cc, (λ e. cc, tt))), ((λ e. cc, (λ e. cc, tt)), ((λ e. cc, tt), (tt, tt))))))))))))))))))))))))))

statement_fits : (v : Version) → Fits (choose first_branch (other_branches v)) Ended
statement_fits v = choose_fits first_branch (other_branches v) Ended (presheaf_fits, (map_of_fits, (construct_fits tree.ProductOf, (forked_fits tree.EqualizerOf, (construct_fits tree.PullbackOf, (image_fits, (empty_fits, (construct_fits tree.CoproductOf, (forked_fits tree.CoequalizerOf, (construct_fits tree.PushoutOf, (sheafify_fits v, (sheaf_fits v, (hom_fits, (build_fits v, (subobject_fits v, (let_be_fits v, (asked_fits tree.Show v, (asked_fits tree.Classify v, (valid_fits v, (why_fits v, (derive_fits v, (local_fits, (category_fits, (category_functor_fits, (extended_fits tree.Lan, (extended_fits tree.Ran, tt)))))))))))))))))))))))))) (statements_differ v)

hypotheses_end : (r : Written) (ps : List tree.PlaceTree) (g : List Binding) (t : TermTree) (ys : List Token) → Is (sign symbol.Comma) ys ⊎ Ends {A = List TermTree} {s = OfStep} (λ ts. after_terms r ps g (t ∷ ts)) (Follow Step) ys → 5 < level ys
hypotheses_end r ps g t ys (inl is) = at_level 5 6 (Sign symbol.Comma) ys is (λ ts. refl) (omega arith)
hypotheses_end r ps g t ys (inr (ts, v, side, n, xs, zs, acc, w, f, e)) = subst (λ z. 5 < level z) (sym e) (leads_to {s = OfStep} (after_terms r ps g (t ∷ ts)) (λ z. 5 < level z) (Follow Step) v side n xs zs (λ us. omega arith) acc w f)

concluded : (r : Written) (ps : List tree.PlaceTree) (g : List Binding) (hs : List TermTree) → Fits (after_terms r ps g hs) (Follow Step)
concluded r ps g hs = λ t. (((λ u. (tt, λ ys h. semicolon_term ys h)), tt, λ ts. (ts, refl), λ ys h is. cc), (λ ts. omega arith, λ ys h. semicolon_term ys h))

step_fits : (r : Written) (ps : List tree.PlaceTree) → Fits (after_places r ps) (Follow Step)
step_fits r ps = λ g. (
  (
    concluded r ps g [],
    (λ t. (((λ ts. (concluded r ps g (t ∷ ts), λ us is. cc)), λ us. (us, refl), λ u. (tt, λ ys h. hypotheses_end r ps g t ys h)), (λ us. omega arith, λ us. omega arith))),
    λ ts. (ts, refl),
    (λ ts h is. term_not_arrow ts h is, λ v e. absurd e),
  ),
  λ ts. (ts, refl),
)

fits_of : {s : Sort} (K : Kind s) → Fits (code K) (Follow K)
unfolding code ends_with_body
fits_of AnyType = λ S. (((λ T. (tt, λ ys h. h)), tt, λ ts. (ts, refl), λ ys h is. not_type 2 2 (Sign symbol.Arrow) ys h is (λ ts. refl) (omega arith)), (λ ts. omega arith, λ ys h. omega (arith, h)))
fits_of ProductType = λ S. ((λ t. (tt, λ ys h. h)), (λ ts h. tt, λ v e ys h. tt))
fits_of (MoreFactors R) = ((λ S. ((λ t. (tt, λ ys h. h)), (λ ts h. tt, λ v e ys h. tt))), tt, λ ts. (ts, refl), λ ys h is. not_type 1 1 (Sign symbol.Star) ys h is (λ ts. refl) (omega arith))
fits_of PrefixType = (
  (λ T. (tt, λ ys h. tt)),
  (
    (λ x. tt),
    (
      tt,
      (tt, (λ T. (tt, λ ts. omega arith)), λ ts. (ts, refl), λ ts is. cc),
      λ ts. (ts, refl),
      (λ ts is. cc, λ ts is. cc),
    ),
    λ x ts. (x, ts, refl),
    (λ ts is. cc, (λ ts is. cc, λ ts is. cc)),
  ),
  λ ts. (ts, refl),
  (λ x ts is. cc, (λ ts is. cc, (λ ts is. cc, λ ts is. cc))),
)
fits_of AnyTerm = λ s. any_term_fits (ends_with_body s) s refl
fits_of Disjunction = λ s. ((λ t. (tt, λ ys h. h)), (λ ts h. goes_on 3 4 (Reserved word.Or) s ts h (λ us. refl) (omega arith), λ v e ys h. ends_list 3 4 s v ys e (omega arith) h))
fits_of (MoreDisjuncts r) = more_disjuncts_fits (ends_with_body r) r
fits_of Conjunction = λ s. ((λ t. (tt, λ ys h. h)), (λ ts h. goes_on 2 3 (Reserved word.And) s ts h (λ us. refl) (omega arith), λ v e ys h. ends_list 2 3 s v ys e (omega arith) h))
fits_of (MoreConjuncts r) = more_conjuncts_fits (ends_with_body r) r
fits_of Negation = (
  (λ t. (tt, λ ys h. h)),
  ((λ t. (tt, λ ys h. h)), (λ t. (tt, λ ys h. omega (arith, h, limit_least 2 (ends_with_body t) (omega arith)))), (λ ts h. h, λ v e. absurd e), (λ ts h. atom_not_binder ts h, λ v e. absurd e)),
  λ ts. (ts, refl),
  ((λ ts h. binder_not_not ts h, λ v e. absurd e), (λ ts h. atom_not_not ts h, λ v e. absurd e)),
)
fits_of BinderTerm = (
  bound_fits Forall,
  (
    bound_fits Exists,
    (bound_fits Unique, bound_fits Fun, λ ts. (ts, refl), λ ts is. cc),
    λ ts. (ts, refl),
    (λ ts is. cc, λ ts is. cc),
  ),
  λ ts. (ts, refl),
  (λ ts is. cc, (λ ts is. cc, λ ts is. cc)),
)
fits_of Comparison = λ s. (
  (
    (λ t. (tt, λ ys h. omega (arith, h))),
    ((λ t. (tt, λ ys h. omega (arith, h))), tt, λ ts. (ts, refl), λ ys h is. not_level 2 2 (Reserved word.In) ys h is (λ ts. refl) (omega arith)),
    λ ts. (ts, refl),
    (λ ts is. cc, λ ys h is. not_level 2 2 (Sign symbol.Equals) ys h is (λ ts. refl) (omega arith)),
  ),
  (λ ts. omega arith, (λ ts. omega arith, λ ys h. omega (arith, h))),
)
fits_of Application = λ s. ((λ t. (tt, λ ys h. h)), (λ ts h. tt, λ v e ys h. tt))
fits_of (MoreArguments r) = ((λ s. ((λ t. (tt, λ ys h. h)), (λ ts h. tt, λ v e ys h. tt))), tt, (λ ts h. h, λ v e. absurd e), λ ys h is. not_level 1 1 (Sign symbol.OpenParenthesis) ys h is (λ ts. refl) (omega arith))
fits_of Atom = (
  (λ x. tt),
  (
    tt,
    (
      tt,
      (
        (λ x T. ((λ t. (tt, λ ts. omega arith)), λ ts. omega arith)),
        (
          (λ t. (tt, λ ts. omega arith)),
          ((λ t. (tt, λ ts. omega arith)), (λ t. (tt, λ ys h. tt)), λ ts. (ts, refl), (λ ts h is. cc, λ v e. absurd e)),
          λ ts. (ts, refl),
          (λ ts is. cc, (λ ts h is. cc, λ v e. absurd e)),
        ),
        λ ts. (ts, refl),
        (λ ts is. cc, (λ ts is. cc, (λ ts h is. cc, λ v e. absurd e))),
      ),
      λ ts. (ts, refl),
      (λ ts is. cc, (λ ts is. cc, (λ ts is. cc, (λ ts h is. cc, λ v e. absurd e)))),
    ),
    λ ts. (ts, refl),
    (λ ts is. cc, (λ ts is. cc, (λ ts is. cc, (λ ts is. cc, (λ ts h is. cc, λ v e. absurd e))))),
  ),
  λ x ts. (x, ts, refl),
  (λ ts is. cc, (λ ts is. cc, (λ ts is. cc, (λ ts is. cc, (λ ts is. cc, (λ ts h is. cc, λ v e. absurd e)))))),
)
fits_of Parentheses = (
  tt,
  (λ s. (((λ t. (tt, λ ts. omega arith)), tt, λ ts. (ts, refl), λ ts is. cc), (λ ts. omega arith, λ ts. omega arith))),
  λ ts. (ts, refl),
  (λ ts h. term_not_close ts h, λ v e. absurd e),
)
fits_of Context = (
  (λ x T. (((λ vs. (tt, λ ys h is. cc)), λ ts. (ts, refl), item_fits (record { variable = x; type = T })), (λ ts. omega arith, λ ys h. bar_type ys h))),
  tt,
  λ x ts. (x, ts, refl),
  λ ys h is. cc,
)
fits_of ArrowName = ((λ x. tt), (λ f. tt), λ ts. (ts, refl), λ f ts is. cc)
fits_of SiteStatement = (
  (λ x. ((λ xs. (tt, λ ys h is. cc)), λ ts. (ts, refl), λ y. tt)),
  (
    (λ f. ((λ fs. ((λ d c. tt), λ ts is. cc)), λ ts. (ts, refl), λ y. tt)),
    (λ g f h. (tt, λ ys k. tt)),
    λ ts. (ts, refl),
    λ ts is. cc,
  ),
  λ ts. (ts, refl),
  (λ ts is. cc, λ ts is. cc),
)
fits_of Cover = λ x. (
  tt,
  (λ f. (((λ fs. (tt, λ ys h is. cc)), λ ts. (ts, refl), λ g. (tt, λ ys h. tt)), (λ ts. tt, λ ys h. tt))),
  λ ts. (ts, refl),
  (λ ts h is. arrow_not_none ts h is, λ v e. absurd e),
)
fits_of Covers = (
  tt,
  ((λ cs. (tt, λ ys h is. h.1 is)), (λ ts h. h, λ v e. absurd e), λ c. (tt, λ ts. (ts, refl))),
  λ ts. (ts, refl),
  ((λ ts h is. cc, λ v e. absurd e), λ ys h is. h.0 is),
)
fits_of Topology = λ j. (tt, ((λ cs. (tt, λ ts is. cc)), (λ ts h. h, λ v e. absurd e), λ c. (tt, λ ts. (ts, refl))), λ ts. (ts, refl), λ ts is. cc)
fits_of Section = (
  (λ u x. ((λ xs. (tt, λ ys h is. cc)), λ ts. (ts, refl), λ y. tt)),
  (λ f a b. ((λ es. (tt, λ ys h is. cc)), λ ts. (ts, refl), λ c d. tt)),
  λ ts. (ts, refl),
  λ ts is. cc,
)
fits_of Element = ((λ x. tt), (λ n x. tt), λ x ts. (x, ts, refl), λ n x ts is. cc)
fits_of MapAt = λ u a.
    ((λ b. (((λ es. (tt, λ ys h is. cc)), λ ts. (ts, refl), λ c. ((λ d. (tt, λ ys g. tt)), λ ts. tt)), (λ ts. tt, λ ys h. tt))), λ ts. tt)
fits_of Sent = ((λ d c. tt), (λ u f. (tt, λ ys h. tt)), λ ts. (ts, refl), λ ts is. cc)
fits_of (Under First) = tt
fits_of (Under Second) = ((λ j. tt), tt, λ ts. (ts, refl), λ ys h is. h is)
fits_of Step = λ r. (
  (λ n x. ((λ ps. (step_fits r (record { number = n; written = x } ∷ ps), λ ts is. cc)), λ ts. (ts, refl), λ m y. tt)),
  step_fits r [],
  λ n x ts. (n, x, ts, refl),
  λ ts is. cc,
)
fits_of (Statement v) = statement_fits v

-- ---- what derives is read

abbrev pub CompleteAll : ℕ → Type 1
CompleteAll n = (s : Sort) (c : Code s) (F : Tree s → List Token → Type 0) (v : Tree s) (side : List Part) (xs zs : List Token) → Fits c F → Accepts c v side → Sized n side xs → F v zs → Reading s c (xs ++ zs) (Whole v zs)

-- items behind an item
behind_items : {u : Sort} (C : Class) (item : Code u) (End : List Token → Type 0) (n : ℕ) (vs : List (Tree u)) (front : List Part) (xs ys : List Token) → ((v : Tree u) (side : List Part) (xs zs : List Token) → Accepts item v side → Sized n side xs → Is C (xs ++ zs))
    → All (λ v z. Accepts item v z) vs front → Sized n front xs → End ys → Is C (xs ++ ys) ⊎ End (xs ++ ys)
behind_items C item End n [] front xs ys lead all w ends = inr (subst (λ z. End (z ++ ys)) (sym (none n xs (sized_by n front [] xs all w))) ends)
behind_items C item End n (v ∷ vs) front xs ys lead (f1, f2, e, acc, all) w ends =
    let s = sized_by n front (f1 ++ f2) xs e w in
    let d = cut_at f1 f2 xs s.0 n s.1 in
    inl (subst (λ z. Is C z) (sym (append_assoc d.front d.rest ys) ∙ ap (λ z. z ++ ys) (sym d.parts)) (lead v f1 d.front (d.rest ++ ys) acc d.first))

read_items : {s u : Sort} (C : Class) (item : Code u) (k : List (Tree u) → Code s) (End : List Token → Type 0) (n : ℕ) (vs : List (Tree u)) (front : List Part) (v : Tree s) (xs ys zs : List Token)
    → ((v : Tree u) (side : List Part) (xs zs : List Token) → Accepts item v side → Sized n side xs → Is C (xs ++ zs))
    → ((v : Tree u) (side : List Part) (xs zs : List Token) → Accepts item v side → Sized n side xs → (Is C zs ⊎ End zs) → Reading u item (xs ++ zs) (Whole v zs))
    → All (λ v z. Accepts item v z) vs front → Sized n front xs → Reading s (k vs) ys (Whole v zs) → (Is C ys → ⊥) → End ys → Reading s (loop C item k) (xs ++ ys) (Whole v zs)
read_items {s} {u} C item k End n [] front v xs ys zs lead read all w behind other ends =
    subst (λ z. Reading s (loop C item k) (z ++ ys) (Whole v zs)) (sym (none n xs (sized_by n front [] xs all w))) (loops_end other behind)
read_items {s} {u} C item k End n (a ∷ as') front v xs ys zs lead read (f1, f2, e, acc, all) w behind other ends =
    let t = sized_by n front (f1 ++ f2) xs e w in
    let d = cut_at f1 f2 xs t.0 n t.1 in
    subst (λ z. Reading s (loop C item k) z (Whole v zs)) (sym (append_assoc d.front d.rest ys) ∙ ap (λ z. z ++ ys) (sym d.parts))
    (loops (lead a f1 d.front (d.rest ++ ys) acc d.first) (read a f1 d.front (d.rest ++ ys) acc d.first (behind_items C item End n as' f2 d.rest ys lead all d.others ends))
    (read_items C item (λ vs. k (a ∷ vs)) End n as' f2 v d.rest ys zs lead read all d.others behind other ends))

read_code : (n : ℕ) → ((m : ℕ) → suc m ≡ n → CompleteAll m) → {s : Sort} (c : Code s) (F : Tree s → List Token → Type 0) (v : Tree s) (side : List Part) (xs zs : List Token) → Fits c F → Accepts c v side → Sized n side xs → F v zs → Reading s c (xs ++ zs) (Whole v zs)
read_code n ih {s = s} (give t) F v side xs zs fits (e, e1) w follows =
    subst (λ y. Reading s (give t) (xs ++ zs) (Whole y zs)) (sym e) (subst (λ z. Reading s (give t) (z ++ zs) (Whole t zs)) (sym (none n xs (sized_by n side [] xs e1 w))) gives)
read_code n ih {s = s} (eat u k) F v side xs zs fits (rest, e, acc) w follows =
    let t = taken n u rest xs (sized_by n side (token u ∷ rest) xs e w) in
    subst (λ z. Reading s (eat u k) (z ++ zs) (Whole v zs)) (sym t.parts) (eats (ih t.less t.is_less s k F v rest t.rest zs fits acc t.others follows))
read_code n ih {s = s} (name k) F v side xs zs fits (x, rest, e, acc) w follows =
    let t = taken n (Name x) rest xs (sized_by n side (token (Name x) ∷ rest) xs e w) in
    subst (λ z. Reading s (name k) (z ++ zs) (Whole v zs)) (sym t.parts) (names (ih t.less t.is_less s (k x) F v rest t.rest zs (fits x) acc t.others follows))
read_code n ih {s = s} (place k) F v side xs zs fits (i, x, rest, e, acc) w follows =
    let t = taken n (Place i x) rest xs (sized_by n side (token (Place i x) ∷ rest) xs e w) in
    subst (λ z. Reading s (place k) (z ++ zs) (Whole v zs)) (sym t.parts) (places (ih t.less t.is_less s (k i x) F v rest t.rest zs (fits i x) acc t.others follows))
read_code n ih {s = s} (numbered i k) F v side xs zs fits (x, rest, e, acc) w follows =
    let t = taken n (Place i x) rest xs (sized_by n side (token (Place i x) ∷ rest) xs e w) in
    subst (λ z. Reading s (numbered i k) (z ++ zs) (Whole v zs)) (sym t.parts) (numbers (ih t.less t.is_less s (k x) F v rest t.rest zs (fits x) acc t.others follows))
read_code n ih {s = s} (call {u = r} K k) F v side xs zs fits (a, rest, e, acc) w follows =
    let u = undone n K a rest xs (sized_by n side (part K a ∷ rest) xs e w) in
    subst (λ z. Reading s (call K k) z (Whole v zs)) (sym (append_assoc u.front u.rest zs) ∙ ap (λ z. z ++ zs) (sym u.parts))
    (calls (ih u.less u.is_less r (code K) (Follow K) a u.side u.front (u.rest ++ zs) (fits_of K) (accepts_side K a u.side u.right_side) u.first (leads_to (k a) (Follow K a) F v rest u.less u.rest zs (fits a).1 acc u.others follows))
    (ih u.less u.is_less s (k a) F v rest u.rest zs (fits a).0 acc u.others follows))
read_code n ih (peek C a b) F v side xs zs fits (inl acc) w follows = peeks (leads_to a (Is C) F v side n xs zs fits.2 acc w follows) (read_code n ih a F v side xs zs fits.0 acc w follows)
read_code n ih (peek C a b) F v side xs zs fits (inr acc) w follows = peeks_not (leads_to b (λ ts. Is C ts → ⊥) F v side n xs zs fits.3 acc w follows) (read_code n ih b F v side xs zs fits.1 acc w follows)
read_code n ih {s = s} (loop {u = u} C item k) F v side xs zs fits (vs, front, rest, e, all, acc) w follows =
    let t = sized_by n side (front ++ rest) xs e w in
    let c = cut_at front rest xs t.0 n t.1 in
    subst (λ z. Reading s (loop C item k) z (Whole v zs)) (sym (append_assoc c.front c.rest zs) ∙ ap (λ z. z ++ zs) (sym c.parts))
    (read_items C item k (Ends k F) n vs front v c.front (c.rest ++ zs) zs
    (λ a f x y acc1 w1. leads_always item (Is C) a f n x y fits.1 acc1 w1)
    (λ a f x y acc1 w1 g. read_code n ih item (λ b ys. Is C ys ⊎ Ends k F ys) a f x y fits.2 acc1 w1 g)
    all c.first
    (read_code n ih (k vs) F v rest c.rest zs (fits.0 vs).0 acc c.others follows)
    (leads_to (k vs) (λ ts. Is C ts → ⊥) F v rest n c.rest zs (fits.0 vs).1 acc c.others follows)
    (vs, v, rest, n, c.rest, zs, acc, c.others, follows, refl))

pub complete_all : (n : ℕ) → CompleteAll n
complete_all zero s c F v side xs zs fits acc w follows = read_code zero (λ m e. absurd (omega (arith, e))) c F v side xs zs fits acc w follows
complete_all (suc n) s c F v side xs zs fits acc w follows = read_code (suc n) (λ m e. subst CompleteAll (same m e) (complete_all n)) c F v side xs zs fits acc w follows
  where
    same : (m : ℕ) → suc m ≡ suc n → n ≡ m
    same m e = omega (arith, e)

pub complete : {s : Sort} (K : Kind s) (v : Tree s) (side : List Part) (xs zs : List Token) → Side K v side → Derives side xs → Follow K v zs → Reading s (code K) (xs ++ zs) (Whole v zs)
complete {s} K v side xs zs r d follows = complete_all (size d) s (code K) (Follow K) v side xs zs (fits_of K) (accepts_side K v side r) (d, omega arith) follows
