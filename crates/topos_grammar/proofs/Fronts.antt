-- What a phrase begins with, and what may stand behind it.
use Rattle.std.proofs.Common.{◌≡◌, ◌⊎◌, inl, inr, ℕ, zero, suc, Bool, true, false, List, [], ◌∷◌, ◌++◌, refl, sym, ap, subst, ◌∙◌, arith, append_assoc, None}
use Rattle.topos_text.specs.declared.word.Word.TheVariants as word
use Rattle.topos_text.specs.declared.symbol.Symbol.TheVariants as symbol
use Rattle.topos_text.specs.Tokens.{Token, Written, Name, Reserved, Sign, Place}
use Rattle.topos_text.specs.Trees.{TermTree}
use Rattle.topos_text.specs.Trees as tree
use Rattle.topos_text.specs.Phrases.{Part, token}
use Rattle.topos_text.specs.Terms.{ends_with_body}
use Rattle.topos_grammar.specs.Kinds.{Sort, Tree, Kind, AnyType, ProductType, MoreFactors, PrefixType, AnyTerm, Disjunction, MoreDisjuncts, Conjunction, MoreConjuncts, Negation, BinderTerm, Comparison, Application, MoreArguments, Atom, Parentheses, Context, part, ArrowName, SiteStatement, Cover, Covers, Topology, Section, Element, MapAt, Sent, Under, Step, Statement, Version, First, Second}
use Rattle.topos_grammar.specs.Codes.{AnyName, Is, the, sign, binders, Code, give, eat, name, call, peek, loop, code, place, AnyPlace, numbered, Branch, choose, first_branch, other_branches}
use Rattle.topos_grammar.proofs.Accepting.{Accepts, Sized, undone, taken, none, cut_at}
use Rattle.topos_grammar.proofs.Sides.{accepts_side, more_disjuncts, more_conjuncts}
use Rattle.topos_grammar.proofs.StatementSides.{Each}

-- the tokens with which a type, an atom and a term begin
abbrev pub begins_type : List Token → Bool
begins_type (Reserved word.Pow ∷ ts) = true
begins_type (Name x ∷ ts) = true
begins_type (Reserved word.One ∷ ts) = true
begins_type (Reserved word.Omega ∷ ts) = true
begins_type (Sign symbol.OpenParenthesis ∷ ts) = true
begins_type _ = false

abbrev pub begins_atom : List Token → Bool
begins_atom (Name x ∷ ts) = true
begins_atom (Reserved word.True ∷ ts) = true
begins_atom (Reserved word.False ∷ ts) = true
begins_atom (Sign symbol.OpenBrace ∷ ts) = true
begins_atom (Reserved word.Fst ∷ ts) = true
begins_atom (Reserved word.Snd ∷ ts) = true
begins_atom (Sign symbol.OpenParenthesis ∷ ts) = true
begins_atom _ = false

abbrev pub begins_statement : List Token → Bool
begins_statement (Reserved word.Presheaf ∷ ts) = true
begins_statement (Reserved word.Map ∷ ts) = true
begins_statement (Reserved word.Product ∷ ts) = true
begins_statement (Reserved word.Equalizer ∷ ts) = true
begins_statement (Reserved word.Pullback ∷ ts) = true
begins_statement (Reserved word.Image ∷ ts) = true
begins_statement (Reserved word.Empty ∷ ts) = true
begins_statement (Reserved word.Coproduct ∷ ts) = true
begins_statement (Reserved word.Coequalizer ∷ ts) = true
begins_statement (Reserved word.Pushout ∷ ts) = true
begins_statement (Reserved word.Sheafify ∷ ts) = true
begins_statement (Reserved word.Sheaf ∷ ts) = true
begins_statement (Reserved word.Hom ∷ ts) = true
begins_statement (Reserved word.Build ∷ ts) = true
begins_statement (Reserved word.Sub ∷ ts) = true
begins_statement (Reserved word.Let ∷ ts) = true
begins_statement (Reserved word.Show ∷ ts) = true
begins_statement (Reserved word.Classify ∷ ts) = true
begins_statement (Reserved word.Valid ∷ ts) = true
begins_statement (Reserved word.Why ∷ ts) = true
begins_statement (Reserved word.Derive ∷ ts) = true
begins_statement (Reserved word.Local ∷ ts) = true
begins_statement (Reserved word.Category ∷ ts) = true
begins_statement (Reserved word.Functor ∷ ts) = true
begins_statement (Reserved word.Lan ∷ ts) = true
begins_statement (Reserved word.Ran ∷ ts) = true
begins_statement _ = false

abbrev pub BeginsTerm : List Token → Type 0
BeginsTerm ts = Is (the word.Not) ts ⊎ (Is binders ts ⊎ (begins_atom ts ≡ true))

-- the tokens may begin a phrase of the kind
abbrev pub Heads : {s : Sort} → Kind s → List Token → Type 0
Heads AnyType ts = begins_type ts ≡ true
Heads ProductType ts = begins_type ts ≡ true
Heads (MoreFactors R) ts = Is (sign symbol.Star) ts
Heads PrefixType ts = begins_type ts ≡ true
Heads AnyTerm ts = BeginsTerm ts
Heads Disjunction ts = BeginsTerm ts
Heads (MoreDisjuncts r) ts = (ends_with_body r ≡ false) × Is (the word.Or) ts
Heads Conjunction ts = BeginsTerm ts
Heads (MoreConjuncts r) ts = (ends_with_body r ≡ false) × Is (the word.And) ts
Heads Negation ts = BeginsTerm ts
Heads BinderTerm ts = Is binders ts
Heads Comparison ts = begins_atom ts ≡ true
Heads Application ts = begins_atom ts ≡ true
Heads (MoreArguments r) ts = Is (sign symbol.OpenParenthesis) ts
Heads Atom ts = begins_atom ts ≡ true
Heads Parentheses ts = Is (sign symbol.OpenParenthesis) ts
Heads Context ts = Is AnyName ts
Heads ArrowName ts = Is (the word.Id) ts ⊎ Is AnyName ts
Heads SiteStatement ts = Is (the word.Object) ts ⊎ (Is (the word.Arrow) ts ⊎ Is (the word.Compose) ts)
Heads Cover ts = Is (the word.Cover) ts
Heads Covers ts = Is (the word.Topology) ts ⊎ Is (the word.Cover) ts
Heads Topology ts = Is (the word.Topology) ts
Heads Section ts = Is (the word.At) ts ⊎ Is (the word.Along) ts
Heads Element ts = Is AnyName ts ⊎ Is AnyPlace ts
Heads MapAt ts = Is (the word.At) ts
Heads Sent ts = Is (the word.At) ts ⊎ Is (the word.Along) ts
Heads (Under v) ts = Is (the word.Under) ts
Heads Step ts = Is AnyName ts
Heads (Statement v) ts = begins_statement ts ≡ true

-- the phrase of the kind with the tree may have no token
abbrev pub Empty : {s : Sort} → Kind s → Tree s → Type 0
Empty (MoreFactors R) t = t ≡ R
Empty (MoreDisjuncts r) t = t ≡ r
Empty (MoreConjuncts r) t = t ≡ r
Empty (MoreArguments r) t = t ≡ r
Empty Context t = t ≡ []
Empty Covers t = t ≡ tree.Listed []
Empty (Under v) t = t ≡ None
Empty _ t = ⊥

-- What the code reads begins with tokens that pass P, or it has no token and the tree passes E.
abbrev pub Leads : {s : Sort} → Code s → (List Token → Type 0) → (Tree s → Type 0) → Type 0
Leads (give v) P E = E v
Leads (eat u k) P E = (ts : List Token) → P (u ∷ ts)
Leads (name k) P E = (x : Written) (ts : List Token) → P (Name x ∷ ts)
Leads (place k) P E = (n : ℕ) (x : Written) (ts : List Token) → P (Place n x ∷ ts)
Leads (numbered n k) P E = (x : Written) (ts : List Token) → P (Place n x ∷ ts)
Leads (call {u = u} K k) P E = ((ts : List Token) → Heads K ts → P ts) × ((v : Tree u) → Empty K v → Leads (k v) P E)
Leads (peek C a b) P E = Leads a P E × Leads b P E
Leads (loop C item k) P E = Leads item P (λ v. ⊥) × Leads (k []) P E

abbrev pub Led : List Token → (List Token → Type 0) → Type 0 → Type 0
Led xs P E = ((zs : List Token) → P (xs ++ zs)) ⊎ ((xs ≡ []) × E)

-- ---- each code leads so

disjuncts_lead : (b : Bool) (r : TermTree) → ends_with_body r ≡ b → Leads (more_disjuncts b r) (λ ts. (ends_with_body r ≡ false) × Is (the word.Or) ts) (λ t. t ≡ r)
disjuncts_lead true r is = refl
disjuncts_lead false r is = (λ ts. (is, (ts, refl)), refl)

conjuncts_lead : (b : Bool) (r : TermTree) → ends_with_body r ≡ b → Leads (more_conjuncts b r) (λ ts. (ends_with_body r ≡ false) × Is (the word.And) ts) (λ t. t ≡ r)
conjuncts_lead true r is = refl
conjuncts_lead false r is = (λ ts. (is, (ts, refl)), refl)

pub choose_leads : {s : Sort} (b : Branch s) (bs : List (Branch s)) (P : List Token → Type 0) (E : Tree s → Type 0) → Each (λ c. (ts : List Token) → P (Reserved c.0 ∷ ts)) (b ∷ bs) → Leads (choose b bs) P E
unfolding choose
choose_leads b [] P E h = h.0
choose_leads b (c ∷ cs) P E h = (h.0, choose_leads c cs P E h.1)

statements_begin : (v : Version) → Each (λ c. (ts : List Token) → begins_statement (Reserved c.0 ∷ ts) ≡ true) (first_branch ∷ other_branches v)
statements_begin v = (λ ts. refl, (λ ts. refl, (λ ts. refl, (λ ts. refl, (λ ts. refl, (λ ts. refl, (λ ts. refl, (λ ts. refl, (λ ts. refl, (λ ts. refl, (λ ts. refl, (λ ts. refl, (λ ts. refl, (λ ts. refl, (λ ts. refl, (λ ts. refl, (λ ts. refl, (λ ts. refl, (λ ts. refl, (λ ts. refl, (λ ts. refl, (λ ts. refl, (λ ts. refl, (λ ts. refl, (λ ts. refl, (λ ts. refl, tt))))))))))))))))))))))))))

leads_of : {s : Sort} (K : Kind s) → Leads (code K) (Heads K) (Empty K)
unfolding code
leads_of AnyType = (λ ts h. h, λ v e. absurd e)
leads_of ProductType = (λ ts h. h, λ v e. absurd e)
leads_of (MoreFactors R) = (λ ts. (ts, refl), refl)
leads_of PrefixType = (λ ts. refl, (λ x ts. refl, (λ ts. refl, (λ ts. refl, λ ts. refl))))
leads_of AnyTerm = (λ ts h. h, λ v e. absurd e)
leads_of Disjunction = (λ ts h. h, λ v e. absurd e)
leads_of (MoreDisjuncts r) = disjuncts_lead (ends_with_body r) r refl
leads_of Conjunction = (λ ts h. h, λ v e. absurd e)
leads_of (MoreConjuncts r) = conjuncts_lead (ends_with_body r) r refl
leads_of Negation = (λ ts. inl (ts, refl), ((λ ts h. inr (inl h), λ v e. absurd e), (λ ts h. inr (inr h), λ v e. absurd e)))
leads_of BinderTerm = (λ ts. inl (ts, refl), (λ ts. inr (inl (ts, refl)), (λ ts. inr (inr (inl (ts, refl))), λ ts. inr (inr (inr (ts, refl))))))
leads_of Comparison = (λ ts h. h, λ v e. absurd e)
leads_of Application = (λ ts h. h, λ v e. absurd e)
leads_of (MoreArguments r) = ((λ ts h. h, λ v e. absurd e), refl)
leads_of Atom = (λ x ts. refl, (λ ts. refl, (λ ts. refl, (λ ts. refl, (λ ts. refl, (λ ts. refl, (λ ts h. subst (λ z. begins_atom z ≡ true) (sym h.1) refl, λ v e. absurd e)))))))
leads_of Parentheses = λ ts. (ts, refl)
leads_of Context = (λ x ts. (x, ts, refl), refl)
leads_of ArrowName = (λ ts. inl (ts, refl), λ x ts. inr (x, ts, refl))
leads_of SiteStatement = (λ ts. inl (ts, refl), (λ ts. inr (inl (ts, refl)), λ ts. inr (inr (ts, refl))))
leads_of Cover = λ ts. (ts, refl)
leads_of Covers = (λ ts. inl (ts, refl), ((λ ts h. inr h, λ v e. absurd e), refl))
leads_of Topology = λ ts. (ts, refl)
leads_of Section = (λ ts. inl (ts, refl), λ ts. inr (ts, refl))
leads_of Element = (λ x ts. inl (x, ts, refl), λ n x ts. inr (n, x, ts, refl))
leads_of MapAt = λ ts. (ts, refl)
leads_of Sent = (λ ts. inl (ts, refl), λ ts. inr (ts, refl))
leads_of (Under First) = refl
leads_of (Under Second) = (λ ts. (ts, refl), refl)
leads_of Step = λ r ts. (r, ts, refl)
leads_of (Statement v) = choose_leads first_branch (other_branches v) (λ ts. begins_statement ts ≡ true) (λ t. ⊥) (statements_begin v)

abbrev LeadsAll : ℕ → Type 1
LeadsAll n = (s : Sort) (c : Code s) (P : List Token → Type 0) (E : Tree s → Type 0) (v : Tree s) (side : List Part) (xs : List Token) → Leads c P E → Accepts c v side → Sized n side xs → Led xs P (E v)

pub sized_by : (n : ℕ) (side rest : List Part) (xs : List Token) → side ≡ rest → Sized n side xs → Sized n rest xs
sized_by n side rest xs e w = subst (λ z. Sized n z xs) e w

led_behind : (P : List Token → Type 0) (E : Type 0) (xs front rest : List Token) → xs ≡ front ++ rest → front ≡ [] → Led rest P E → Led xs P E
led_behind P E xs front rest parts e led = subst (λ z. Led z P E) (sym (parts ∙ ap (λ z. z ++ rest) e)) led

led_first : (P Q : List Token → Type 0) (E : Type 0) (xs front rest : List Token) → xs ≡ front ++ rest → ((ts : List Token) → Q ts → P ts) → ((zs : List Token) → Q (front ++ zs)) → Led xs P E
led_first P Q E xs front rest parts to h = inl (λ zs. subst P (sym (append_assoc front rest zs) ∙ ap (λ z. z ++ zs) (sym parts)) (to (front ++ (rest ++ zs)) (h (rest ++ zs))))

at_code : (n : ℕ) → ((m : ℕ) → suc m ≡ n → LeadsAll m) → {s : Sort} (c : Code s) (P : List Token → Type 0) (E : Tree s → Type 0) (v : Tree s) (side : List Part) (xs : List Token) → Leads c P E → Accepts c v side → Sized n side xs → Led xs P (E v)
at_code n ih (give t) P E v side xs lead (e, e1) w = inr (none n xs (sized_by n side [] xs e1 w), subst E (sym e) lead)
at_code n ih (eat u k) P E v side xs lead (rest, e, acc) w =
    let t = taken n u rest xs (sized_by n side (token u ∷ rest) xs e w) in
    inl (λ zs. subst P (ap (λ z. z ++ zs) (sym t.parts)) (lead (t.rest ++ zs)))
at_code n ih (name k) P E v side xs lead (x, rest, e, acc) w =
    let t = taken n (Name x) rest xs (sized_by n side (token (Name x) ∷ rest) xs e w) in
    inl (λ zs. subst P (ap (λ z. z ++ zs) (sym t.parts)) (lead x (t.rest ++ zs)))
at_code n ih (place k) P E v side xs lead (i, x, rest, e, acc) w =
    let t = taken n (Place i x) rest xs (sized_by n side (token (Place i x) ∷ rest) xs e w) in
    inl (λ zs. subst P (ap (λ z. z ++ zs) (sym t.parts)) (lead i x (t.rest ++ zs)))
at_code n ih (numbered i k) P E v side xs lead (x, rest, e, acc) w =
    let t = taken n (Place i x) rest xs (sized_by n side (token (Place i x) ∷ rest) xs e w) in
    inl (λ zs. subst P (ap (λ z. z ++ zs) (sym t.parts)) (lead x (t.rest ++ zs)))
at_code n ih {s = s} (call {u = r} K k) P E v side xs lead (a, rest, e, acc) w =
    let u = undone n K a rest xs (sized_by n side (part K a ∷ rest) xs e w) in
    elim (ih u.less u.is_less r (code K) (Heads K) (Empty K) a u.side u.front (leads_of K) (accepts_side K a u.side u.right_side) u.first) [
      | inl h ↦ led_first P (Heads K) (E v) xs u.front u.rest u.parts lead.0 h
      | inr (e0, emp) ↦ led_behind P (E v) xs u.front u.rest u.parts e0 (ih u.less u.is_less s (k a) P E v rest u.rest (lead.1 a emp) acc u.others)
    ]
at_code n ih (peek C a b) P E v side xs lead (inl acc) w = at_code n ih a P E v side xs lead.0 acc w
at_code n ih (peek C a b) P E v side xs lead (inr acc) w = at_code n ih b P E v side xs lead.1 acc w
at_code n ih (loop C item k) P E v side xs lead ([], front, rest, e, all, acc) w =
    let s = sized_by n side (front ++ rest) xs e w in
    let c = cut_at front rest xs s.0 n s.1 in
    led_behind P (E v) xs c.front c.rest c.parts (none n c.front (sized_by n front [] c.front all c.first)) (at_code n ih (k []) P E v rest c.rest lead.1 acc c.others)
at_code n ih (loop C item k) P E v side xs lead (a ∷ as', front, rest, e, (f1, f2, e1, acc1, all), acc) w =
    let s = sized_by n side (front ++ rest) xs e w in
    let c = cut_at front rest xs s.0 n s.1 in
    let s1 = sized_by n front (f1 ++ f2) c.front e1 c.first in
    let d = cut_at f1 f2 c.front s1.0 n s1.1 in
    elim (at_code n ih item P (λ x. ⊥) a f1 d.front lead.0 acc1 d.first) [
      | inl h ↦ led_first P P (E v) xs d.front (d.rest ++ c.rest) (c.parts ∙ ap (λ z. z ++ c.rest) d.parts ∙ append_assoc d.front d.rest c.rest) (λ ts z. z) h
      | inr (e0, emp) ↦ absurd emp
    ]

leads_all : (n : ℕ) → LeadsAll n
leads_all zero s c P E v side xs lead acc w = at_code zero (λ m e. absurd (omega (arith, e))) c P E v side xs lead acc w
leads_all (suc n) s c P E v side xs lead acc w = at_code (suc n) (λ m e. subst LeadsAll (same m e) (leads_all n)) c P E v side xs lead acc w
  where
    same : (m : ℕ) → suc m ≡ suc n → n ≡ m
    same m e = omega (arith, e)

-- what stands in front of what follows
pub leads_to : {s : Sort} (c : Code s) (P : List Token → Type 0) (F : Tree s → List Token → Type 0) (v : Tree s) (side : List Part) (n : ℕ) (xs zs : List Token) → Leads c P (λ t. (ys : List Token) → F t ys → P ys) → Accepts c v side → Sized n side xs → F v zs → P (xs ++ zs)
leads_to {s} c P F v side n xs zs lead acc w follows =
    elim (leads_all n s c P (λ t. (ys : List Token) → F t ys → P ys) v side xs lead acc w) [
      | inl h ↦ h zs
      | inr (e, h) ↦ subst (λ z. P (z ++ zs)) (sym e) (h zs follows)
    ]

-- what cannot be empty stands in front
pub leads_always : {s : Sort} (c : Code s) (P : List Token → Type 0) (v : Tree s) (side : List Part) (n : ℕ) (xs zs : List Token) → Leads c P (λ t. ⊥) → Accepts c v side → Sized n side xs → P (xs ++ zs)
leads_always {s} c P v side n xs zs lead acc w =
    elim (leads_all n s c P (λ t. ⊥) v side xs lead acc w) [
      | inl h ↦ h zs
      | inr (e, h) ↦ absurd h
    ]
