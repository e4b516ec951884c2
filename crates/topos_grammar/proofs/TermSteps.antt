-- How the reading of a term follows from the reading of its parts.
use Rattle.std.proofs.Common.{◌≡◌, inl, inr, Bool, true, false, List, ◌∷◌, refl, sym, subst}
use Rattle.topos_text.specs.declared.word.Word.TheVariants as word
use Rattle.topos_text.specs.declared.symbol.Symbol.TheVariants as symbol
use Rattle.topos_text.specs.Tokens.{Token, Written, Name, Reserved, Sign}
use Rattle.topos_text.specs.Trees.{TypeTree, TermTree, Binding, Binder, Forall, Exists, Unique, Fun}
use Rattle.topos_text.specs.Trees as tree
use Rattle.topos_text.specs.Terms.{ends_with_body, binder_word}
use Rattle.topos_grammar.specs.Kinds.{Sort, OfTerm, AnyType, AnyTerm, Disjunction, MoreDisjuncts, Conjunction, MoreConjuncts, Negation, BinderTerm, Comparison, Application, MoreArguments, Atom, Parentheses}
use Rattle.topos_grammar.specs.Codes.{AnyName, Is, the, sign, binders, Code, give, call, code, eat_sign, bind, bound, in_parentheses}
use Rattle.topos_grammar.specs.Reading.{Read, Whole, Stops, Reading, Reads, gives, eats, eats_not, names_not, calls, calls_not, peeks, peeks_not, Closed, Ready}
use Rattle.topos_grammar.specs.Gives.{Binds, Unbound, Opens, Unopened, NoLeaf, Fails, Misses}
use Rattle.topos_grammar.specs.declared.stop.Stop.{Stop}
use Rattle.topos_grammar.specs.declared.stop.Stop.TheVariants.{NoMemory, At}
use Rattle.topos_grammar.proofs.Sides.{after_disjunction, more_disjuncts, more_conjuncts}
use Rattle.topos_grammar.proofs.Bodies.{after}
use Rattle.topos_grammar.proofs.Steps.{eats_at, names_at, last_call}

-- ---- terms

pub term_stops : (toks rest : List Token) → Reads (code Disjunction) toks (Stops rest) → Reads (code AnyTerm) toks (Stops rest)
unfolding code
term_stops toks rest d = calls_not d

alone : (b : Bool) (s : TermTree) (rest : List Token) → (Is (sign symbol.Implies) rest → ⊥) → Reads (after_disjunction b s) rest (Whole s rest)
alone true s rest other = gives
alone false s rest other = peeks_not other gives

pub term_alone : (toks rest : List Token) (s : TermTree) → Reads (code Disjunction) toks (Whole s rest) → (Is (sign symbol.Implies) rest → ⊥) → Reads (code AnyTerm) toks (Whole s rest)
unfolding code
term_alone toks rest s d other = calls d (alone (ends_with_body s) s rest other)

implies_by : (b : Bool) (s : TermTree) (rest behind : List Token) (x : Read OfTerm) → ends_with_body s ≡ b → (ends_with_body s ≡ true → Closed rest) → rest ≡ Sign symbol.Implies ∷ behind → Reads (call AnyTerm (λ t. give (tree.Implies s t))) behind x → Reads (after_disjunction b s) rest x
implies_by true s rest behind x body closed is d = absurd ((closed body).2 (behind, is))
implies_by false s rest behind x body closed is d = peeks (behind, is) (eats_at is d)

pub implication_stops : (toks rest behind end : List Token) (s : TermTree) → Reads (code Disjunction) toks (Whole s rest) → rest ≡ Sign symbol.Implies ∷ behind → Reads (code AnyTerm) behind (Stops end) → Reads (code AnyTerm) toks (Stops end)
unfolding code
implication_stops toks rest behind end s d is e = calls d (implies_by (ends_with_body s) s rest behind (Stops end) refl (after Disjunction toks rest s d tt).2 is (calls_not e))

pub implication_read : (toks rest behind end : List Token) (s t : TermTree) → Reads (code Disjunction) toks (Whole s rest) → rest ≡ Sign symbol.Implies ∷ behind → Reads (code AnyTerm) behind (Whole t end) → Reads (code AnyTerm) toks (Whole (tree.Implies s t) end)
unfolding code
implication_read toks rest behind end s t d is e = calls d (implies_by (ends_with_body s) s rest behind (Whole (tree.Implies s t) end) refl (after Disjunction toks rest s d tt).2 is (calls e gives))

-- ---- `or`

pub disjunction_stops : (toks rest : List Token) → Reads (code Conjunction) toks (Stops rest) → Reads (code Disjunction) toks (Stops rest)
unfolding code
disjunction_stops toks rest d = calls_not d

pub disjunction_read : (toks rest : List Token) (s : TermTree) (x : Read OfTerm) → Reads (code Conjunction) toks (Whole s rest) → Reads (code (MoreDisjuncts s)) rest x → Reads (code Disjunction) toks x
unfolding code
disjunction_read toks rest s x d e = calls d (last_call e)

pub disjuncts_ready : (toks rest : List Token) (s : TermTree) → Reads (code Conjunction) toks (Whole s rest) → Ready (MoreDisjuncts s) rest
disjuncts_ready toks rest s d = after Conjunction toks rest s d tt

pub more_disjuncts_ready : (toks rest : List Token) (r s : TermTree) → Reads (code Conjunction) toks (Whole s rest) → Ready (MoreDisjuncts (tree.Or r s)) rest
unfolding ends_with_body
more_disjuncts_ready toks rest r s d = after Conjunction toks rest s d tt

disjuncts_end_by : (b : Bool) (r : TermTree) (toks : List Token) → (Is (the word.Or) toks → ⊥) → Reads (more_disjuncts b r) toks (Whole r toks)
disjuncts_end_by true r toks other = gives
disjuncts_end_by false r toks other = peeks_not other gives

pub disjuncts_end : (toks : List Token) (r : TermTree) → (Is (the word.Or) toks → ⊥) → Reads (code (MoreDisjuncts r)) toks (Whole r toks)
unfolding code
disjuncts_end toks r other = disjuncts_end_by (ends_with_body r) r toks other

disjuncts_on : (b : Bool) (r : TermTree) (toks behind : List Token) (x : Read OfTerm) → ends_with_body r ≡ b → Ready (MoreDisjuncts r) toks → toks ≡ Reserved word.Or ∷ behind → Reads (call Conjunction (λ s. call (MoreDisjuncts (tree.Or r s)) give)) behind x → Reads (more_disjuncts b r) toks x
disjuncts_on true r toks behind x body ready is d = absurd ((ready.1 body).1 (behind, is))
disjuncts_on false r toks behind x body ready is d = peeks (behind, is) (eats_at is d)

pub disjuncts_stop : (toks behind rest : List Token) (r : TermTree) → Ready (MoreDisjuncts r) toks → toks ≡ Reserved word.Or ∷ behind → Reads (code Conjunction) behind (Stops rest) → Reads (code (MoreDisjuncts r)) toks (Stops rest)
unfolding code
disjuncts_stop toks behind rest r ready is d = disjuncts_on (ends_with_body r) r toks behind (Stops rest) refl ready is (calls_not d)

pub disjuncts_more : (toks behind rest : List Token) (r s : TermTree) (x : Read OfTerm) → Ready (MoreDisjuncts r) toks → toks ≡ Reserved word.Or ∷ behind → Reads (code Conjunction) behind (Whole s rest) → Reads (code (MoreDisjuncts (tree.Or r s))) rest x → Reads (code (MoreDisjuncts r)) toks x
unfolding code
disjuncts_more toks behind rest r s x ready is d e = disjuncts_on (ends_with_body r) r toks behind x refl ready is (calls d (last_call e))

-- ---- `and`

pub conjunction_stops : (toks rest : List Token) → Reads (code Negation) toks (Stops rest) → Reads (code Conjunction) toks (Stops rest)
unfolding code
conjunction_stops toks rest d = calls_not d

pub conjunction_read : (toks rest : List Token) (s : TermTree) (x : Read OfTerm) → Reads (code Negation) toks (Whole s rest) → Reads (code (MoreConjuncts s)) rest x → Reads (code Conjunction) toks x
unfolding code
conjunction_read toks rest s x d e = calls d (last_call e)

pub conjuncts_ready : (toks rest : List Token) (s : TermTree) → Reads (code Negation) toks (Whole s rest) → Ready (MoreConjuncts s) rest
conjuncts_ready toks rest s d = after Negation toks rest s d tt

pub more_conjuncts_ready : (toks rest : List Token) (r s : TermTree) → Reads (code Negation) toks (Whole s rest) → Ready (MoreConjuncts (tree.And r s)) rest
unfolding ends_with_body
more_conjuncts_ready toks rest r s d = after Negation toks rest s d tt

conjuncts_end_by : (b : Bool) (r : TermTree) (toks : List Token) → (Is (the word.And) toks → ⊥) → Reads (more_conjuncts b r) toks (Whole r toks)
conjuncts_end_by true r toks other = gives
conjuncts_end_by false r toks other = peeks_not other gives

pub conjuncts_end : (toks : List Token) (r : TermTree) → (Is (the word.And) toks → ⊥) → Reads (code (MoreConjuncts r)) toks (Whole r toks)
unfolding code
conjuncts_end toks r other = conjuncts_end_by (ends_with_body r) r toks other

conjuncts_on : (b : Bool) (r : TermTree) (toks behind : List Token) (x : Read OfTerm) → ends_with_body r ≡ b → Ready (MoreConjuncts r) toks → toks ≡ Reserved word.And ∷ behind → Reads (call Negation (λ s. call (MoreConjuncts (tree.And r s)) give)) behind x → Reads (more_conjuncts b r) toks x
conjuncts_on true r toks behind x body ready is d = absurd ((ready body).0 (behind, is))
conjuncts_on false r toks behind x body ready is d = peeks (behind, is) (eats_at is d)

pub conjuncts_stop : (toks behind rest : List Token) (r : TermTree) → Ready (MoreConjuncts r) toks → toks ≡ Reserved word.And ∷ behind → Reads (code Negation) behind (Stops rest) → Reads (code (MoreConjuncts r)) toks (Stops rest)
unfolding code
conjuncts_stop toks behind rest r ready is d = conjuncts_on (ends_with_body r) r toks behind (Stops rest) refl ready is (calls_not d)

pub conjuncts_more : (toks behind rest : List Token) (r s : TermTree) (x : Read OfTerm) → Ready (MoreConjuncts r) toks → toks ≡ Reserved word.And ∷ behind → Reads (code Negation) behind (Whole s rest) → Reads (code (MoreConjuncts (tree.And r s))) rest x → Reads (code (MoreConjuncts r)) toks x
unfolding code
conjuncts_more toks behind rest r s x ready is d e = conjuncts_on (ends_with_body r) r toks behind x refl ready is (calls d (last_call e))

-- ---- negations and binders

pub not_stops : (toks behind rest : List Token) → toks ≡ Reserved word.Not ∷ behind → Reads (code Negation) behind (Stops rest) → Reads (code Negation) toks (Stops rest)
unfolding code
not_stops toks behind rest is d = peeks (behind, is) (eats_at is (calls_not d))

pub not_read : (toks behind rest : List Token) (t : TermTree) → toks ≡ Reserved word.Not ∷ behind → Reads (code Negation) behind (Whole t rest) → Reads (code Negation) toks (Whole (tree.Not t) rest)
unfolding code
not_read toks behind rest t is d = peeks (behind, is) (eats_at is (calls d gives))

is_binder : (b : Binder) (toks behind : List Token) → toks ≡ Reserved (binder_word b) ∷ behind → Is binders toks
is_binder Forall toks behind e = inl (behind, e)
is_binder Exists toks behind e = inr (inl (behind, e))
is_binder Unique toks behind e = inr (inr (inl (behind, e)))
is_binder Fun toks behind e = inr (inr (inr (behind, e)))

pub quantified_read : (b : Binder) (toks behind : List Token) (x : Read OfTerm) → (Is (the word.Not) toks → ⊥) → toks ≡ Reserved (binder_word b) ∷ behind → Reads (code BinderTerm) (Reserved (binder_word b) ∷ behind) x → Reads (code Negation) toks x
unfolding code
quantified_read b toks behind x other is d = peeks_not other (peeks (is_binder b toks behind is) (last_call (subst (λ z. Reading OfTerm (code BinderTerm) z x) (sym is) d)))

pub compared_read : (toks : List Token) (x : Read OfTerm) → (Is (the word.Not) toks → ⊥) → (Is binders toks → ⊥) → Reads (code Comparison) toks x → Reads (code Negation) toks x
unfolding code
compared_read toks x other no_binder d = peeks_not other (peeks_not no_binder (last_call d))

binder_by : (b : Binder) (behind : List Token) (x : Read OfTerm) → Reads (bound b) (Reserved (binder_word b) ∷ behind) x → Reads (code BinderTerm) (Reserved (binder_word b) ∷ behind) x
unfolding code
binder_by Forall behind x d = peeks (behind, refl) d
binder_by Exists behind x d = peeks_not (λ is. cc) (peeks (behind, refl) d)
binder_by Unique behind x d = peeks_not (λ is. cc) (peeks_not (λ is. cc) (peeks (behind, refl) d))
binder_by Fun behind x d = peeks_not (λ is. cc) (peeks_not (λ is. cc) (peeks_not (λ is. cc) d))

bind_at : {s : Sort} (k : Binding → Code s) (toks rest : List Token) (x : Binding) (r : Read s) → Binds toks x rest → Reads (k x) rest r → Reads (bind k) toks r
bind_at k toks rest x r b d = names_at b.head (eats (calls b.type d))

abbrev behind_binder : Binder → Binding → Code OfTerm
behind_binder b x = eat_sign symbol.Dot (call AnyTerm (λ t. give (tree.Bound b x t)))

abbrev in_subset : Binding → Code OfTerm
in_subset b = eat_sign symbol.Bar (call AnyTerm (λ t. eat_sign symbol.CloseBrace (give (tree.Subset b t))))

pub unbound_binder : (e : Stop) (b : Binder) (toks : List Token) → Unbound toks e → Fails BinderTerm (Reserved (binder_word b) ∷ toks) e
unbound_binder NoMemory b toks h = tt
unbound_binder (At left) b toks (rest, stops, is) = (rest, binder_by b toks (Stops rest) (eats (stops OfTerm (behind_binder b))), is)

pub undotted_binder : (b : Binder) (toks rest : List Token) (x : Binding) → Binds toks x rest → (Is (sign symbol.Dot) rest → ⊥) → Reads (code BinderTerm) (Reserved (binder_word b) ∷ toks) (Stops rest)
undotted_binder b toks rest x bs other = binder_by b toks (Stops rest) (eats (bind_at (behind_binder b) toks rest x (Stops rest) bs (eats_not other)))

pub bound_stops : (b : Binder) (toks rest inner end : List Token) (x : Binding) → Binds toks x rest → rest ≡ Sign symbol.Dot ∷ inner → Reads (code AnyTerm) inner (Stops end) → Reads (code BinderTerm) (Reserved (binder_word b) ∷ toks) (Stops end)
bound_stops b toks rest inner end x bs is d = binder_by b toks (Stops end) (eats (bind_at (behind_binder b) toks rest x (Stops end) bs (eats_at is (calls_not d))))

pub bound_read : (b : Binder) (toks rest inner end : List Token) (x : Binding) (t : TermTree) → Binds toks x rest → rest ≡ Sign symbol.Dot ∷ inner → Reads (code AnyTerm) inner (Whole t end) → Reads (code BinderTerm) (Reserved (binder_word b) ∷ toks) (Whole (tree.Bound b x t) end)
bound_read b toks rest inner end x t bs is d = binder_by b toks (Whole (tree.Bound b x t) end) (eats (bind_at (behind_binder b) toks rest x (Whole (tree.Bound b x t) end) bs (eats_at is (calls d gives))))

-- ---- comparisons and applications

pub comparison_stops : (toks rest : List Token) → Reads (code Application) toks (Stops rest) → Reads (code Comparison) toks (Stops rest)
unfolding code
comparison_stops toks rest d = calls_not d

pub comparison_alone : (toks rest : List Token) (s : TermTree) → Reads (code Application) toks (Whole s rest) → (Is (sign symbol.Equals) rest → ⊥) → (Is (the word.In) rest → ⊥) → Reads (code Comparison) toks (Whole s rest)
unfolding code
comparison_alone toks rest s d no_equals no_in = calls d (peeks_not no_equals (peeks_not no_in gives))

pub equal_stops : (toks rest behind end : List Token) (s : TermTree) → Reads (code Application) toks (Whole s rest) → rest ≡ Sign symbol.Equals ∷ behind → Reads (code Application) behind (Stops end) → Reads (code Comparison) toks (Stops end)
unfolding code
equal_stops toks rest behind end s d is e = calls d (peeks (behind, is) (eats_at is (calls_not e)))

pub equal_read : (toks rest behind end : List Token) (s t : TermTree) → Reads (code Application) toks (Whole s rest) → rest ≡ Sign symbol.Equals ∷ behind → Reads (code Application) behind (Whole t end) → Reads (code Comparison) toks (Whole (tree.Equal s t) end)
unfolding code
equal_read toks rest behind end s t d is e = calls d (peeks (behind, is) (eats_at is (calls e gives)))

pub member_stops : (toks rest behind end : List Token) (s : TermTree) → Reads (code Application) toks (Whole s rest) → (Is (sign symbol.Equals) rest → ⊥) → rest ≡ Reserved word.In ∷ behind → Reads (code Application) behind (Stops end) → Reads (code Comparison) toks (Stops end)
unfolding code
member_stops toks rest behind end s d other is e = calls d (peeks_not other (peeks (behind, is) (eats_at is (calls_not e))))

pub member_read : (toks rest behind end : List Token) (s t : TermTree) → Reads (code Application) toks (Whole s rest) → (Is (sign symbol.Equals) rest → ⊥) → rest ≡ Reserved word.In ∷ behind → Reads (code Application) behind (Whole t end) → Reads (code Comparison) toks (Whole (tree.Member s t) end)
unfolding code
member_read toks rest behind end s t d other is e = calls d (peeks_not other (peeks (behind, is) (eats_at is (calls e gives))))

pub application_stops : (toks rest : List Token) → Reads (code Atom) toks (Stops rest) → Reads (code Application) toks (Stops rest)
unfolding code
application_stops toks rest d = calls_not d

pub application_read : (toks rest : List Token) (s : TermTree) (x : Read OfTerm) → Reads (code Atom) toks (Whole s rest) → Reads (code (MoreArguments s)) rest x → Reads (code Application) toks x
unfolding code
application_read toks rest s x d e = calls d (last_call e)

pub arguments_end : (toks : List Token) (r : TermTree) → (Is (sign symbol.OpenParenthesis) toks → ⊥) → Reads (code (MoreArguments r)) toks (Whole r toks)
unfolding code
arguments_end toks r other = peeks_not other gives

pub arguments_stop : (toks behind rest : List Token) (r : TermTree) → toks ≡ Sign symbol.OpenParenthesis ∷ behind → Reads (code Parentheses) toks (Stops rest) → Reads (code (MoreArguments r)) toks (Stops rest)
unfolding code
arguments_stop toks behind rest r is d = peeks (behind, is) (calls_not d)

pub arguments_more : (toks behind rest : List Token) (r s : TermTree) (x : Read OfTerm) → toks ≡ Sign symbol.OpenParenthesis ∷ behind → Reads (code Parentheses) toks (Whole s rest) → Reads (code (MoreArguments (tree.Applied r s))) rest x → Reads (code (MoreArguments r)) toks x
unfolding code
arguments_more toks behind rest r s x is d e = peeks (behind, is) (calls d (last_call e))

-- ---- atoms

pub named_read : (toks rest : List Token) (x : Written) → toks ≡ Name x ∷ rest → Reads (code Atom) toks (Whole (tree.Named x) rest)
unfolding code
named_read toks rest x is = peeks (x, rest, is) (names_at is gives)

pub truth_read : (toks rest : List Token) → (Is AnyName toks → ⊥) → toks ≡ Reserved word.True ∷ rest → Reads (code Atom) toks (Whole tree.Truth rest)
unfolding code
truth_read toks rest no_name is = peeks_not no_name (peeks (rest, is) (eats_at is gives))

pub falsity_read : (toks rest : List Token) → (Is AnyName toks → ⊥) → (Is (the word.True) toks → ⊥) → toks ≡ Reserved word.False ∷ rest → Reads (code Atom) toks (Whole tree.Falsity rest)
unfolding code
falsity_read toks rest no_name no_true is = peeks_not no_name (peeks_not no_true (peeks (rest, is) (eats_at is gives)))

abbrev pub AfterBrace : List Token → Read OfTerm → Type 0
AfterBrace behind x = Reads (bind (λ b. eat_sign symbol.Bar (call AnyTerm (λ t. eat_sign symbol.CloseBrace (give (tree.Subset b t)))))) behind x

brace : (toks behind : List Token) (x : Read OfTerm) → NoLeaf toks → toks ≡ Sign symbol.OpenBrace ∷ behind → AfterBrace behind x → Reads (code Atom) toks x
unfolding code
brace toks behind x n is d = peeks_not n.no_name (peeks_not n.no_true (peeks_not n.no_false (peeks (behind, is) (eats_at is d))))

pub unbound_subset : (e : Stop) (toks behind : List Token) → NoLeaf toks → toks ≡ Sign symbol.OpenBrace ∷ behind → Unbound behind e → Fails Atom toks e
unbound_subset NoMemory toks behind n is h = tt
unbound_subset (At left) toks behind n is (rest, stops, same) = (rest, brace toks behind (Stops rest) n is (stops OfTerm in_subset), same)

pub unbarred_subset : (toks behind rest : List Token) (x : Binding) → NoLeaf toks → toks ≡ Sign symbol.OpenBrace ∷ behind → Binds behind x rest → (Is (sign symbol.Bar) rest → ⊥) → Reads (code Atom) toks (Stops rest)
unbarred_subset toks behind rest x n is b other = brace toks behind (Stops rest) n is (bind_at in_subset behind rest x (Stops rest) b (eats_not other))

pub subset_stops : (toks behind rest inner end : List Token) (x : Binding) → NoLeaf toks → toks ≡ Sign symbol.OpenBrace ∷ behind → Binds behind x rest → rest ≡ Sign symbol.Bar ∷ inner → Reads (code AnyTerm) inner (Stops end) → Reads (code Atom) toks (Stops end)
subset_stops toks behind rest inner end x n is b bar d = brace toks behind (Stops end) n is (bind_at in_subset behind rest x (Stops end) b (eats_at bar (calls_not d)))

pub unclosed_subset : (toks behind rest inner last : List Token) (x : Binding) (t : TermTree) → NoLeaf toks → toks ≡ Sign symbol.OpenBrace ∷ behind → Binds behind x rest → rest ≡ Sign symbol.Bar ∷ inner → Reads (code AnyTerm) inner (Whole t last) → (Is (sign symbol.CloseBrace) last → ⊥) → Reads (code Atom) toks (Stops last)
unclosed_subset toks behind rest inner last x t n is b bar d other = brace toks behind (Stops last) n is (bind_at in_subset behind rest x (Stops last) b (eats_at bar (calls d (eats_not other))))

pub subset_read : (toks behind rest inner last end : List Token) (x : Binding) (t : TermTree) → NoLeaf toks → toks ≡ Sign symbol.OpenBrace ∷ behind → Binds behind x rest → rest ≡ Sign symbol.Bar ∷ inner → Reads (code AnyTerm) inner (Whole t last) → last ≡ Sign symbol.CloseBrace ∷ end → Reads (code Atom) toks (Whole (tree.Subset x t) end)
subset_read toks behind rest inner last end x t n is b bar d closed = brace toks behind (Whole (tree.Subset x t) end) n is (bind_at in_subset behind rest x (Whole (tree.Subset x t) end) b (eats_at bar (calls d (eats_at closed gives))))

opened : (f : TermTree → TermTree) (toks rest : List Token) (t : TermTree) → Opens toks t rest → Reads (in_parentheses f) toks (Whole (f t) rest)
opened f toks rest t o = eats_at o.opening (calls o.inner (eats_at o.closing gives))

pub fst_fails : (e : Stop) (toks behind : List Token) → NoLeaf toks → (Is (sign symbol.OpenBrace) toks → ⊥) → toks ≡ Reserved word.Fst ∷ behind → Unopened behind e → Fails Atom toks e
unfolding code
fst_fails NoMemory toks behind n no_brace is h = tt
fst_fails (At left) toks behind n no_brace is (rest, stops, same) = (rest, peeks_not n.no_name (peeks_not n.no_true (peeks_not n.no_false (peeks_not no_brace (peeks (behind, is) (eats_at is (stops tree.First)))))), same)

pub fst_read : (toks behind rest : List Token) (t : TermTree) → NoLeaf toks → (Is (sign symbol.OpenBrace) toks → ⊥) → toks ≡ Reserved word.Fst ∷ behind → Opens behind t rest → Reads (code Atom) toks (Whole (tree.First t) rest)
unfolding code
fst_read toks behind rest t n no_brace is o = peeks_not n.no_name (peeks_not n.no_true (peeks_not n.no_false (peeks_not no_brace (peeks (behind, is) (eats_at is (opened tree.First behind rest t o))))))

pub snd_fails : (e : Stop) (toks behind : List Token) → NoLeaf toks → (Is (sign symbol.OpenBrace) toks → ⊥) → (Is (the word.Fst) toks → ⊥) → toks ≡ Reserved word.Snd ∷ behind → Unopened behind e → Fails Atom toks e
unfolding code
snd_fails NoMemory toks behind n no_brace no_fst is h = tt
snd_fails (At left) toks behind n no_brace no_fst is (rest, stops, same) = (rest, peeks_not n.no_name (peeks_not n.no_true (peeks_not n.no_false (peeks_not no_brace (peeks_not no_fst (peeks (behind, is) (eats_at is (stops tree.Second))))))), same)

pub snd_read : (toks behind rest : List Token) (t : TermTree) → NoLeaf toks → (Is (sign symbol.OpenBrace) toks → ⊥) → (Is (the word.Fst) toks → ⊥) → toks ≡ Reserved word.Snd ∷ behind → Opens behind t rest → Reads (code Atom) toks (Whole (tree.Second t) rest)
unfolding code
snd_read toks behind rest t n no_brace no_fst is o = peeks_not n.no_name (peeks_not n.no_true (peeks_not n.no_false (peeks_not no_brace (peeks_not no_fst (peeks (behind, is) (eats_at is (opened tree.Second behind rest t o)))))))

pub parenthesized_read : (toks : List Token) (x : Read OfTerm) → NoLeaf toks → (Is (sign symbol.OpenBrace) toks → ⊥) → (Is (the word.Fst) toks → ⊥) → (Is (the word.Snd) toks → ⊥) → Reads (code Parentheses) toks x → Reads (code Atom) toks x
unfolding code
parenthesized_read toks x n no_brace no_fst no_snd d = peeks_not n.no_name (peeks_not n.no_true (peeks_not n.no_false (peeks_not no_brace (peeks_not no_fst (peeks_not no_snd (last_call d))))))

-- ---- one term in parentheses

pub unopened_fails : (e : Stop) (toks : List Token) → Misses (sign symbol.OpenParenthesis) toks e → Unopened toks e
unopened_fails NoMemory toks h = tt
unopened_fails (At left) toks (other, is) = (toks, λ f. eats_not other, is)

pub inner_fails : (e : Stop) (toks inside : List Token) → toks ≡ Sign symbol.OpenParenthesis ∷ inside → Fails AnyTerm inside e → Unopened toks e
inner_fails NoMemory toks inside is h = tt
inner_fails (At left) toks inside is (rest, d, same) = (rest, λ f. eats_at is (calls_not d), same)

pub unclosed_fails : (e : Stop) (toks inside rest : List Token) (t : TermTree) → toks ≡ Sign symbol.OpenParenthesis ∷ inside → Reads (code AnyTerm) inside (Whole t rest) → Misses (sign symbol.CloseParenthesis) rest e → Unopened toks e
unclosed_fails NoMemory toks inside rest t is d h = tt
unclosed_fails (At left) toks inside rest t is d (other, same) = (rest, λ f. eats_at is (calls d (eats_not other)), same)

-- ---- parentheses

pub unopened : (toks : List Token) → (Is (sign symbol.OpenParenthesis) toks → ⊥) → Reads (code Parentheses) toks (Stops toks)
unfolding code
unopened toks other = eats_not other

pub unit_read : (toks inside rest : List Token) → toks ≡ Sign symbol.OpenParenthesis ∷ inside → inside ≡ Sign symbol.CloseParenthesis ∷ rest → Reads (code Parentheses) toks (Whole tree.Unit rest)
unfolding code
unit_read toks inside rest is closed = eats_at is (peeks (rest, closed) (eats_at closed gives))

pub parentheses_stop : (toks inside rest : List Token) → toks ≡ Sign symbol.OpenParenthesis ∷ inside → (Is (sign symbol.CloseParenthesis) inside → ⊥) → Reads (code AnyTerm) inside (Stops rest) → Reads (code Parentheses) toks (Stops rest)
unfolding code
parentheses_stop toks inside rest is other d = eats_at is (peeks_not other (calls_not d))

pub unclosed : (toks inside rest : List Token) (s : TermTree) → toks ≡ Sign symbol.OpenParenthesis ∷ inside → (Is (sign symbol.CloseParenthesis) inside → ⊥) → Reads (code AnyTerm) inside (Whole s rest) → (Is (sign symbol.Comma) rest → ⊥) → (Is (sign symbol.CloseParenthesis) rest → ⊥) → Reads (code Parentheses) toks (Stops rest)
unfolding code
unclosed toks inside rest s is other d no_comma still_open = eats_at is (peeks_not other (calls d (peeks_not no_comma (eats_not still_open))))

pub grouped_read : (toks inside rest end : List Token) (s : TermTree) → toks ≡ Sign symbol.OpenParenthesis ∷ inside → (Is (sign symbol.CloseParenthesis) inside → ⊥) → Reads (code AnyTerm) inside (Whole s rest) → (Is (sign symbol.Comma) rest → ⊥) → rest ≡ Sign symbol.CloseParenthesis ∷ end → Reads (code Parentheses) toks (Whole (tree.Grouped s) end)
unfolding code
grouped_read toks inside rest end s is other d no_comma closed = eats_at is (peeks_not other (calls d (peeks_not no_comma (eats_at closed gives))))

pub second_stops : (toks inside rest behind end : List Token) (s : TermTree) → toks ≡ Sign symbol.OpenParenthesis ∷ inside → (Is (sign symbol.CloseParenthesis) inside → ⊥) → Reads (code AnyTerm) inside (Whole s rest) → rest ≡ Sign symbol.Comma ∷ behind → Reads (code AnyTerm) behind (Stops end) → Reads (code Parentheses) toks (Stops end)
unfolding code
second_stops toks inside rest behind end s is other d comma e = eats_at is (peeks_not other (calls d (peeks (behind, comma) (eats_at comma (calls_not e)))))

pub unclosed_pair : (toks inside rest behind last : List Token) (s t : TermTree) → toks ≡ Sign symbol.OpenParenthesis ∷ inside → (Is (sign symbol.CloseParenthesis) inside → ⊥) → Reads (code AnyTerm) inside (Whole s rest) → rest ≡ Sign symbol.Comma ∷ behind → Reads (code AnyTerm) behind (Whole t last) → (Is (sign symbol.CloseParenthesis) last → ⊥) → Reads (code Parentheses) toks (Stops last)
unfolding code
unclosed_pair toks inside rest behind last s t is other d comma e still_open = eats_at is (peeks_not other (calls d (peeks (behind, comma) (eats_at comma (calls e (eats_not still_open))))))

pub pair_read : (toks inside rest behind last end : List Token) (s t : TermTree) → toks ≡ Sign symbol.OpenParenthesis ∷ inside → (Is (sign symbol.CloseParenthesis) inside → ⊥) → Reads (code AnyTerm) inside (Whole s rest) → rest ≡ Sign symbol.Comma ∷ behind → Reads (code AnyTerm) behind (Whole t last) → last ≡ Sign symbol.CloseParenthesis ∷ end → Reads (code Parentheses) toks (Whole (tree.Paired s t) end)
unfolding code
pair_read toks inside rest behind last end s t is other d comma e closed = eats_at is (peeks_not other (calls d (peeks (behind, comma) (eats_at comma (calls e (eats_at closed gives))))))

-- ---- a variable and its type

pub unnamed_fails : (e : Stop) (toks : List Token) → Misses AnyName toks e → Unbound toks e
unnamed_fails NoMemory toks h = absurd h
unnamed_fails (At left) toks (other, is) = (toks, λ s k. names_not other, is)

pub uncoloned_fails : (e : Stop) (toks rest : List Token) (x : Written) → toks ≡ Name x ∷ rest → Misses (sign symbol.Colon) rest e → Unbound toks e
uncoloned_fails NoMemory toks rest x is h = absurd h
uncoloned_fails (At left) toks rest x is (other, same) = (rest, λ s k. names_at is (eats_not other), same)

pub untyped_fails : (e : Stop) (toks rest behind : List Token) (x : Written) → toks ≡ Name x ∷ rest → rest ≡ Sign symbol.Colon ∷ behind → Fails AnyType behind e → Unbound toks e
untyped_fails NoMemory toks rest behind x is colon h = tt
untyped_fails (At left) toks rest behind x is colon (r, d, same) = (r, λ s k. names_at is (eats_at colon (calls_not d)), same)
