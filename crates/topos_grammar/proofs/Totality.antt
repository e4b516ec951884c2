-- Reading comes to an end on every list of tokens.
use Rattle.std.proofs.Common.{◌≡◌, ◌⊎◌, inl, inr, ◌≤◌, ◌<◌, ℕ, zero, suc, Bool, true, false, not, ◌||◌, eqb, ltb, List, [], ◌∷◌, length, refl, sym, ap, subst, arith, rules}
use Rattle.std.proofs.lemmas.Bool.{cases_Bool, cases_lt, eqb-true, eq-eqb, ltb-true}
use denote.Enum.Bare.{sameb, same_true, same_false}
use Rattle.topos_text.specs.contracts.word.Word.{the_type as word_type}
use Rattle.topos_text.specs.contracts.symbol.Symbol.{the_type as symbol_type}
use Rattle.topos_text.specs.declared.word.Word.{Word}
use Rattle.topos_text.specs.declared.symbol.Symbol.{Symbol}
use Rattle.topos_text.specs.Tokens.{Token, Written, Name, Place, Reserved, Sign}
use Rattle.topos_text.specs.Trees.{DocumentTree}
use Rattle.topos_text.specs.Terms.{ends_with_body}
use Rattle.topos_grammar.specs.Kinds.{Sort, Tree, Kind, AnyType, ProductType, MoreFactors, PrefixType, AnyTerm, Disjunction, MoreDisjuncts, Conjunction, MoreConjuncts, Negation, BinderTerm, Comparison, Application, MoreArguments, Atom, Parentheses, Context, ArrowName, SiteStatement, Cover, Covers, Topology, Section, Element, MapAt, Sent, Under, Step, Statement, Version, First, Second}
use Rattle.topos_grammar.specs.Codes.{Class, This, AnyName, AnyPlace, Numbered, Any, Either, Is, Code, give, eat, name, place, numbered, call, peek, loop, unless, Branch, choose, first_branch, other_branches, code, document}
use Rattle.topos_grammar.specs.Reading.{Read, Whole, Stops, Reading, Reads, gives, eats, eats_not, names, names_not, places, places_not, numbers, numbers_not, calls, calls_not, peeks, peeks_not, loops, loops_not, loops_end}

-- ---- whether a token of a class stands in front

abbrev Decided : Type 0 → Type 0
Decided P = P ⊎ (P → ⊥)

same_number : (m n : ℕ) → Decided (m ≡ n)
same_number m n = elim (cases_Bool (eqb m n)) [ inl e ↦ inl (eqb-true m n e) | inr e ↦ inr (λ is. let t = eq-eqb m n is in cc) ]

same_numbers : (xs ys : List ℕ) → Decided (xs ≡ ys)
same_numbers [] [] = inl refl
same_numbers [] (y ∷ ys) = inr (λ e. cc)
same_numbers (x ∷ xs) [] = inr (λ e. cc)
same_numbers (x ∷ xs) (y ∷ ys) =
    elim (same_number x y) [
      | inl e ↦ elim (same_numbers xs ys) [ inl f ↦ inl (cc) | inr other ↦ inr (λ g. other (cc)) ]
      | inr other ↦ inr (λ g. other (cc))
    ]

same_written : (x y : Written) → Decided (x ≡ y)
same_written x y =
    elim (same_numbers x.text y.text) [
      | inl e ↦ elim (same_number x.token y.token) [ inl f ↦ inl (both x.text y.text x.token y.token e f) | inr other ↦ inr (λ g. other (ap (λ z. z.token) g)) ]
      | inr other ↦ inr (λ g. other (ap (λ z. z.text) g))
    ]
  where
    both : (t u : List ℕ) (m n : ℕ) → t ≡ u → m ≡ n → ◌≡◌ {A = Written} (record { text = t; token = m }) (record { text = u; token = n })
    both t u m n e f = rw (e, f) refl

same_word : (w v : Word) → Decided (w ≡ v)
same_word w v = elim (cases_Bool (sameb word_type w v)) [ inl e ↦ inl (same_true word_type (search rules) w v e) | inr e ↦ inr (same_false word_type w v e) ]

same_symbol : (a b : Symbol) → Decided (a ≡ b)
same_symbol a b = elim (cases_Bool (sameb symbol_type a b)) [ inl e ↦ inl (same_true symbol_type (search rules) a b e) | inr e ↦ inr (same_false symbol_type a b e) ]

same_token : (t u : Token) → Decided (t ≡ u)
same_token (Name x) (Name y) = elim (same_written x y) [ inl e ↦ inl (ap Name e) | inr other ↦ inr (λ g. other (cc)) ]
same_token (Name x) (Place n y) = inr (λ e. cc)
same_token (Name x) (Reserved w) = inr (λ e. cc)
same_token (Name x) (Sign s) = inr (λ e. cc)
same_token (Place m x) (Name y) = inr (λ e. cc)
same_token (Place m x) (Place n y) =
    elim (same_number m n) [
      | inl e ↦ elim (same_written x y) [ inl f ↦ inl (rw (e, f) refl) | inr other ↦ inr (λ g. other (cc)) ]
      | inr other ↦ inr (λ g. other (cc))
    ]
same_token (Place m x) (Reserved w) = inr (λ e. cc)
same_token (Place m x) (Sign s) = inr (λ e. cc)
same_token (Reserved w) (Name y) = inr (λ e. cc)
same_token (Reserved w) (Place n y) = inr (λ e. cc)
same_token (Reserved w) (Reserved v) = elim (same_word w v) [ inl e ↦ inl (ap Reserved e) | inr other ↦ inr (λ g. other (cc)) ]
same_token (Reserved w) (Sign s) = inr (λ e. cc)
same_token (Sign a) (Name y) = inr (λ e. cc)
same_token (Sign a) (Place n y) = inr (λ e. cc)
same_token (Sign a) (Reserved v) = inr (λ e. cc)
same_token (Sign a) (Sign b) = elim (same_symbol a b) [ inl e ↦ inl (ap Sign e) | inr other ↦ inr (λ g. other (cc)) ]

front_same : (t u : Token) (ts us : List Token) → t ∷ ts ≡ u ∷ us → t ≡ u
front_same t u ts us e = cc

stands : (C : Class) (toks : List Token) → Decided (Is C toks)
stands (This u) [] = inr (λ (ts, e). absurd (cc))
stands (This u) (t ∷ ts) = elim (same_token t u) [ inl e ↦ inl (ts, ap (λ z. z ∷ ts) e) | inr other ↦ inr (λ p. other (front_same t u ts p.0 p.1)) ]
stands AnyName [] = inr (λ (x, ts, e). absurd (cc))
stands AnyName (Name x ∷ ts) = inl (x, ts, refl)
stands AnyName (Place n x ∷ ts) = inr (λ (y, us, e). absurd (cc))
stands AnyName (Reserved w ∷ ts) = inr (λ (y, us, e). absurd (cc))
stands AnyName (Sign s ∷ ts) = inr (λ (y, us, e). absurd (cc))
stands AnyPlace [] = inr (λ (n, x, ts, e). absurd (cc))
stands AnyPlace (Name x ∷ ts) = inr (λ (n, y, us, e). absurd (cc))
stands AnyPlace (Place n x ∷ ts) = inl (n, x, ts, refl)
stands AnyPlace (Reserved w ∷ ts) = inr (λ (n, y, us, e). absurd (cc))
stands AnyPlace (Sign s ∷ ts) = inr (λ (n, y, us, e). absurd (cc))
stands (Numbered m) [] = inr (λ (x, ts, e). absurd (cc))
stands (Numbered m) (Name x ∷ ts) = inr (λ (y, us, e). absurd (cc))
stands (Numbered m) (Place n x ∷ ts) = elim (same_number n m) [ inl e ↦ inl (x, ts, ap (λ k. Place k x ∷ ts) e) | inr other ↦ inr (λ (y, us, e). other (cc)) ]
stands (Numbered m) (Reserved w ∷ ts) = inr (λ (y, us, e). absurd (cc))
stands (Numbered m) (Sign s ∷ ts) = inr (λ (y, us, e). absurd (cc))
stands Any [] = inr (λ (t, ts, e). absurd (cc))
stands Any (t ∷ ts) = inl (t, ts, refl)
stands (Either C D) toks =
    elim (stands C toks) [
      | inl is ↦ inl (inl is)
      | inr other ↦ elim (stands D toks) [ inl is ↦ inl (inr is) | inr other_too ↦ inr (λ p. elim p [ inl is ↦ other is | inr is ↦ other_too is ]) ]
    ]

-- ---- what a code reads before it eats

-- whether a phrase of the kind has a token at least
abbrev eats_some : {s : Sort} → Kind s → Bool
eats_some (MoreFactors R) = false
eats_some (MoreDisjuncts r) = false
eats_some (MoreConjuncts r) = false
eats_some (MoreArguments r) = false
eats_some Context = false
eats_some Covers = false
eats_some (Under v) = false
eats_some _ = true

-- how many kinds are called one within the other before a token is eaten
abbrev rank : {s : Sort} → Kind s → ℕ
rank AnyType = 2
rank ProductType = 1
rank AnyTerm = 7
rank Disjunction = 6
rank Conjunction = 5
rank Negation = 4
rank Comparison = 3
rank Application = 2
rank (MoreArguments r) = 1
rank Atom = 1
rank Covers = 1
rank _ = 0

-- Calls are free, or of kinds of lower rank; a token is eaten in the end if it must be; and each item of a loop eats one.
abbrev Shrinks : (free eaten must : Bool) (r : ℕ) {s : Sort} → Code s → Type 0
Shrinks free eaten must r (give v) = (not must || eaten) ≡ true
Shrinks free eaten must r (eat u k) = Shrinks true true must r k
Shrinks free eaten must r (name k) = (x : Written) → Shrinks true true must r (k x)
Shrinks free eaten must r (place k) = (n : ℕ) (x : Written) → Shrinks true true must r (k n x)
Shrinks free eaten must r (numbered n k) = (x : Written) → Shrinks true true must r (k x)
Shrinks free eaten must r (call {u = u} K k) = ((free || ltb (rank K) r) ≡ true) × ((v : Tree u) → Shrinks (free || eats_some K) (eaten || eats_some K) must r (k v))
Shrinks free eaten must r (peek C a b) = Shrinks free eaten must r a × Shrinks free eaten must r b
Shrinks free eaten must r (loop {u = u} C item k) = Shrinks free false true r item × ((vs : List (Tree u)) → Shrinks free eaten must r (k vs))

-- what is read leaves no more than n tokens, and fewer where a token must be eaten and reading does not stop
abbrev Leaves : {s : Sort} → Read s → ℕ → Bool → Type 0
Leaves (Whole v rest) n must = (length rest ≤ n) × (must ≡ true → length rest < n)
Leaves (Stops rest) n must = length rest ≤ n

abbrev Ends : {s : Sort} → Code s → List Token → ℕ → Bool → Type 0
Ends {s} c toks n must = (r : Read s) × Reading s c toks r × Leaves r n must

either_true : (a b : Bool) → (a || b) ≡ true → (a ≡ true) ⊎ (b ≡ true)
either_true true b e = inl refl
either_true false b e = inr e

given : (must eaten : Bool) → (not must || eaten) ≡ true → must ≡ true → eaten ≡ true
given true eaten e m = e
given false eaten e m = absurd (cc)

loop_ends : {s u : Sort} (C : Class) (item : Code u) (start : ℕ) (must : Bool) (most : ℕ) → most ≤ start → ((toks : List Token) → length toks ≤ most → Ends item toks (length toks) true) →
    (fuel : ℕ) (k : List (Tree u) → Code s) → ((vs : List (Tree u)) (toks : List Token) → length toks ≤ most → Ends (k vs) toks start must) →
    (toks : List Token) → length toks ≤ most → length toks ≤ fuel → Ends (loop C item k) toks start must
loop_ends {s} {u} C item start must most below item_ends zero k ends toks low few =
    elim (stands C toks) [
      | inr other ↦ let e = ends [] toks low in (e.0, loops_end other e.1, e.2)
      | inl is ↦ stopped (item_ends toks low) is
    ]
  where
    stopped : Ends item toks (length toks) true → Is C toks → Ends (loop C item k) toks start must
    stopped (Stops rest, d, b) is = (Stops rest, loops_not is d, omega arith)
    stopped (Whole v rest, d, b) is = absurd (let l = b.1 refl in omega arith)
loop_ends {s} {u} C item start must most below item_ends (suc fuel) k ends toks low few =
    elim (stands C toks) [
      | inr other ↦ let e = ends [] toks low in (e.0, loops_end other e.1, e.2)
      | inl is ↦ gone_on (item_ends toks low) is (λ v rest shorter. loop_ends C item start must most below item_ends fuel (λ vs. k (v ∷ vs)) (λ vs. ends (v ∷ vs)) rest (omega arith) (omega arith))
    ]
  where
    gone_on : Ends item toks (length toks) true → Is C toks → ((v : Tree u) (rest : List Token) → length rest < length toks → Ends (loop C item (λ vs. k (v ∷ vs))) rest start must) → Ends (loop C item k) toks start must
    gone_on (Stops rest, d, b) is more = (Stops rest, loops_not is d, omega arith)
    gone_on (Whole v rest, d, b) is more = let e = more v rest (b.1 refl) in (e.0, loops is d e.1, e.2)

-- every phrase ends on fewer than n tokens, and those of rank below r on n
abbrev Known : ℕ → ℕ → Type 0
Known n r = (s : Sort) (K : Kind s) (toks : List Token) → (length toks < n) ⊎ ((length toks ≤ n) × (rank K < r)) → Ends (code K) toks (length toks) (eats_some K)

module _ (n r : ℕ) (known : Known n r) where
  callable : {s : Sort} (K : Kind s) (free : Bool) (toks : List Token) → (free || ltb (rank K) r) ≡ true → (free ≡ true → length toks < n) → length toks ≤ n → (length toks < n) ⊎ ((length toks ≤ n) × (rank K < r))
  callable K free toks e low few = elim (either_true free (ltb (rank K) r) e) [ inl f ↦ inl (low f) | inr l ↦ inr (few, ltb-true (rank K) r l) ]

  code_ends : {s : Sort} (free eaten must : Bool) (start : ℕ) (c : Code s) → Shrinks free eaten must r c → (toks : List Token) → (free ≡ true → length toks < n) → length toks ≤ n →
      (eaten ≡ true → length toks < start) → length toks ≤ start → Ends c toks start must
  code_ends free eaten must start (give v) h toks low few ate within = (Whole v toks, gives, (within, λ m. ate (given must eaten h m)))
  code_ends free eaten must start (eat u k) h [] low few ate within = (Stops [], eats_not (λ (ts, e). absurd (cc)), within)
  code_ends {s} free eaten must start (eat u k) h (t ∷ ts) low few ate within =
      elim (same_token t u) [
        | inl e ↦
            let d = code_ends true true must start k h ts (λ _. omega arith) (omega arith) (λ _. omega arith) (omega arith) in
            (d.0, subst (λ z. Reading s (eat u k) (z ∷ ts) d.0) (sym e) (eats d.1), d.2)
        | inr other ↦ (Stops (t ∷ ts), eats_not (λ p. other (front_same t u ts p.0 p.1)), within)
      ]
  code_ends free eaten must start (name k) h [] low few ate within = (Stops [], names_not (λ (y, us, e). absurd (cc)), within)
  code_ends free eaten must start (name k) h (Name x ∷ ts) low few ate within =
      let d = code_ends true true must start (k x) (h x) ts (λ _. omega arith) (omega arith) (λ _. omega arith) (omega arith) in
      (d.0, names d.1, d.2)
  code_ends free eaten must start (name k) h (Place m x ∷ ts) low few ate within = (Stops (Place m x ∷ ts), names_not (λ (y, us, e). absurd (cc)), within)
  code_ends free eaten must start (name k) h (Reserved w ∷ ts) low few ate within = (Stops (Reserved w ∷ ts), names_not (λ (y, us, e). absurd (cc)), within)
  code_ends free eaten must start (name k) h (Sign a ∷ ts) low few ate within = (Stops (Sign a ∷ ts), names_not (λ (y, us, e). absurd (cc)), within)
  code_ends free eaten must start (place k) h [] low few ate within = (Stops [], places_not (λ (l, y, us, e). absurd (cc)), within)
  code_ends free eaten must start (place k) h (Name x ∷ ts) low few ate within = (Stops (Name x ∷ ts), places_not (λ (l, y, us, e). absurd (cc)), within)
  code_ends free eaten must start (place k) h (Place m x ∷ ts) low few ate within =
      let d = code_ends true true must start (k m x) (h m x) ts (λ _. omega arith) (omega arith) (λ _. omega arith) (omega arith) in
      (d.0, places d.1, d.2)
  code_ends free eaten must start (place k) h (Reserved w ∷ ts) low few ate within = (Stops (Reserved w ∷ ts), places_not (λ (l, y, us, e). absurd (cc)), within)
  code_ends free eaten must start (place k) h (Sign a ∷ ts) low few ate within = (Stops (Sign a ∷ ts), places_not (λ (l, y, us, e). absurd (cc)), within)
  code_ends free eaten must start (numbered i k) h [] low few ate within = (Stops [], numbers_not (λ (y, us, e). absurd (cc)), within)
  code_ends free eaten must start (numbered i k) h (Name x ∷ ts) low few ate within = (Stops (Name x ∷ ts), numbers_not (λ (y, us, e). absurd (cc)), within)
  code_ends {s} free eaten must start (numbered i k) h (Place m x ∷ ts) low few ate within =
      elim (same_number m i) [
        | inl e ↦
            let d = code_ends true true must start (k x) (h x) ts (λ _. omega arith) (omega arith) (λ _. omega arith) (omega arith) in
            (d.0, subst (λ j. Reading s (numbered i k) (Place j x ∷ ts) d.0) (sym e) (numbers d.1), d.2)
        | inr other ↦ (Stops (Place m x ∷ ts), numbers_not (λ (y, us, e). other (cc)), within)
      ]
  code_ends free eaten must start (numbered i k) h (Reserved w ∷ ts) low few ate within = (Stops (Reserved w ∷ ts), numbers_not (λ (y, us, e). absurd (cc)), within)
  code_ends free eaten must start (numbered i k) h (Sign a ∷ ts) low few ate within = (Stops (Sign a ∷ ts), numbers_not (λ (y, us, e). absurd (cc)), within)
  code_ends {s} free eaten must start (call {u = u} K k) h toks low few ate within =
      behind (known u K toks (callable K free toks h.0 low few)) (λ v rest m shorter.
      code_ends (free || eats_some K) (eaten || eats_some K) must start (k v) (h.1 v) rest
      (λ f. elim (either_true free (eats_some K) f) [ inl g ↦ let l = low g in omega arith | inr g ↦ let l = shorter g in omega arith ])
      (omega arith)
      (λ f. elim (either_true eaten (eats_some K) f) [ inl g ↦ let l = ate g in omega arith | inr g ↦ let l = shorter g in omega arith ])
      (omega arith))
    where
      behind : Ends (code K) toks (length toks) (eats_some K) → ((v : Tree u) (rest : List Token) → length rest ≤ length toks → (eats_some K ≡ true → length rest < length toks) → Ends (k v) rest start must) → Ends (call K k) toks start must
      behind (Stops rest, d, b) more = (Stops rest, calls_not d, omega arith)
      behind (Whole v rest, d, b) more = let e = more v rest b.0 b.1 in (e.0, calls d e.1, e.2)
  code_ends free eaten must start (peek C a b) h toks low few ate within =
      elim (stands C toks) [
        | inl is ↦ let d = code_ends free eaten must start a h.0 toks low few ate within in (d.0, peeks is d.1, d.2)
        | inr other ↦ let d = code_ends free eaten must start b h.1 toks low few ate within in (d.0, peeks_not other d.1, d.2)
      ]
  code_ends free eaten must start (loop C item k) h toks low few ate within =
      loop_ends C item start must (length toks) within
      (λ ts l. code_ends free false true (length ts) item h.0 ts (λ f. let m = low f in omega arith) (omega arith) (λ e. absurd (cc)) (omega arith))
      (length toks) k
      (λ vs ts l. code_ends free eaten must start (k vs) (h.1 vs) ts (λ f. let m = low f in omega arith) (omega arith) (λ e. let m = ate e in omega arith) (omega arith))
      toks (omega arith) (omega arith)

-- ---- the codes of the grammar

of_unless : {s : Sort} (free eaten must : Bool) (r : ℕ) (b : Bool) (c d : Code s) → Shrinks free eaten must r c → Shrinks free eaten must r d → Shrinks free eaten must r (unless b c d)
of_unless free eaten must r true c d h j = j
of_unless free eaten must r false c d h j = h

abbrev AllShrink : {s : Sort} → List (Branch s) → Type 0
AllShrink [] = Unit {0}
AllShrink (b ∷ bs) = Shrinks true true true 0 b.1 × AllShrink bs

choose_shrinks : {s : Sort} (b : Branch s) (bs : List (Branch s)) → Shrinks true true true 0 b.1 → AllShrink bs → Shrinks false false true 0 (choose b bs)
unfolding choose
choose_shrinks b [] h j = h
choose_shrinks b (c ∷ cs) h j = (h, choose_shrinks c cs j.0 j.1)

branches_shrink : (v : Version) → AllShrink (other_branches v)
branches_shrink v = (
  λ m x y. ((refl, λ p. refl), λ ps. refl),
  (
    λ x y z p q. refl,
    (
      λ m n z i. refl,
      (
        λ x y z p q. refl,
        (
          λ m z e i. refl,
          (
            λ z. refl,
            (
              λ x y z p q. refl,
              (
                λ m n z i. refl,
                (
                  λ x y z p q. refl,
                  (
                    (refl, λ j x a e. refl),
                    (
                      (refl, λ j x. refl),
                      (
                        λ x y. refl,
                        (
                          (refl, λ j e. (refl, λ T x y. refl)),
                          (
                            (refl, λ j x y. (refl, λ T. (refl, λ t i. refl))),
                            (
                              (refl, λ j m y. (refl, λ T. (refl, λ t. refl))),
                              (
                                (refl, λ j. (refl, λ g. (refl, λ t. refl))),
                                (
                                  (refl, λ j. (refl, λ g. (refl, λ t. refl))),
                                  (
                                    (refl, λ j. (refl, λ g. (refl, λ t. refl))),
                                    (
                                      (refl, λ j u n x. (refl, λ g. (refl, λ t. refl))),
                                      (
                                        (refl, λ j. ((refl, λ s. refl), λ ss. refl)),
                                        (
                                          λ m. (λ n. refl, refl),
                                          (
                                            λ d. ((refl, λ s. refl), λ ss. refl),
                                            (
                                              λ f. (λ d. ((refl, λ s. refl), λ ss. refl), λ x y. refl),
                                              (
                                                λ f p l e. refl,
                                                (
                                                  λ f p l e. refl,
                                                  tt,
                                                ),
                                              ),
                                            ),
                                          ),
                                        ),
                                      ),
                                    ),
                                  ),
                                ),
                              ),
                            ),
                          ),
                        ),
                      ),
                    ),
                  ),
                ),
              ),
            ),
          ),
        ),
      ),
    ),
  ),
)

shrinks : {s : Sort} (K : Kind s) → Shrinks false false (eats_some K) (rank K) (code K)
unfolding code
shrinks AnyType = (refl, λ S. ((refl, λ T. refl), refl))
shrinks ProductType = (refl, λ S. (refl, λ T. refl))
shrinks (MoreFactors R) = ((refl, λ S. (refl, λ T. refl)), refl)
shrinks PrefixType = ((refl, λ T. refl), (λ x. refl, (refl, (refl, (refl, λ T. refl)))))
shrinks AnyTerm = (refl, λ s. of_unless true true true 7 (ends_with_body s) _ _ ((refl, λ t. refl), refl) refl)
shrinks Disjunction = (refl, λ s. (refl, λ t. refl))
shrinks (MoreDisjuncts r) = of_unless false false false 0 (ends_with_body r) _ _ ((refl, λ s. (refl, λ t. refl)), refl) refl
shrinks Conjunction = (refl, λ s. (refl, λ t. refl))
shrinks (MoreConjuncts r) = of_unless false false false 0 (ends_with_body r) _ _ ((refl, λ s. (refl, λ t. refl)), refl) refl
shrinks Negation = ((refl, λ t. refl), ((refl, λ t. refl), (refl, λ t. refl)))
shrinks BinderTerm = (λ x. (refl, λ T. (refl, λ t. refl)), (λ x. (refl, λ T. (refl, λ t. refl)), (λ x. (refl, λ T. (refl, λ t. refl)), λ x. (refl, λ T. (refl, λ t. refl)))))
shrinks Comparison = (refl, λ s. ((refl, λ t. refl), ((refl, λ t. refl), refl)))
shrinks Application = (refl, λ s. (refl, λ t. refl))
shrinks (MoreArguments r) = ((refl, λ s. (refl, λ t. refl)), refl)
shrinks Atom = (λ x. refl, (refl, (refl, (λ x. (refl, λ T. (refl, λ t. refl)), ((refl, λ t. refl), ((refl, λ t. refl), (refl, λ t. refl)))))))
shrinks Parentheses = (refl, (refl, λ s. ((refl, λ t. refl), refl)))
shrinks Context = (λ x. (refl, λ T. (λ y. (refl, λ U. refl), λ bs. refl)), refl)
shrinks ArrowName = (λ x. refl, λ f. refl)
shrinks SiteStatement = (λ x. (λ y. refl, λ xs. refl), (λ x. (λ y. refl, λ fs d c. refl), λ g f. (refl, λ h. refl)))
shrinks Cover = λ x. (refl, (refl, λ f. ((refl, λ g. refl), λ fs. refl)))
shrinks Covers = (refl, ((refl, λ x. refl), λ cs. refl))
shrinks Topology = λ j. (refl, ((refl, λ x. refl), λ cs. refl))
shrinks Section = (λ u x. (λ y. refl, λ xs. refl), λ f x y. (λ p q. refl, λ es. refl))
shrinks Element = (λ x. refl, λ n x. refl)
shrinks MapAt = λ u. (refl, λ x. (refl, λ y. ((refl, λ p. (refl, λ q. refl)), λ es. refl)))
shrinks Sent = (λ d c. refl, λ u. (refl, λ f. refl))
shrinks (Under First) = refl
shrinks (Under Second) = (λ j. refl, refl)
shrinks Step = λ r. (λ n x. (λ m y. refl, λ ps. (refl, λ g. ((refl, λ t. ((refl, λ w. refl), refl)), (refl, λ t. ((refl, λ q. refl), λ ts. (refl, λ t. ((refl, λ w. refl), refl))))))), (refl, λ g. ((refl, λ t. ((refl, λ w. refl), refl)), (refl, λ t. ((refl, λ q. refl), λ ts. (refl, λ t. ((refl, λ w. refl), refl)))))))
shrinks (Statement v) = choose_shrinks first_branch (other_branches v) (λ x. (λ d. ((refl, λ y. refl), λ ss. refl), ((refl, λ y. refl), λ ss. refl))) (branches_shrink v)

document_shrinks : Shrinks false false false 2 document
unfolding document
document_shrinks = (
  λ x. ((refl, λ s. refl), λ ss. ((refl, λ t. refl), λ ts. ((refl, λ u. refl), λ rest. refl))),
  ((refl, λ s. refl), λ ss. (refl, λ c. ((refl, λ u. refl), λ rest. refl))),
)

-- ---- so reading ends

more_rank : (n : ℕ) → Known n 0 → (r : ℕ) → Known n r
more_rank n known zero s K toks h = known s K toks h
more_rank n known (suc r) s K toks h =
    elim (cases_lt (rank K) r) [
      | inl low ↦ more_rank n known r s K toks (elim h [ inl l ↦ inl l | inr p ↦ inr (p.0, low) ])
      | inr high ↦ elim h [
        | inl l ↦ more_rank n known r s K toks (inl l)
        | inr p ↦
            let is : rank K ≡ r = omega arith in
            code_ends n r (more_rank n known r) false false (eats_some K) (length toks) (code K) (subst (λ q. Shrinks false false (eats_some K) q (code K)) is (shrinks K)) toks
            (λ e. absurd (cc)) p.0 (λ e. absurd (cc)) (omega arith)
      ]
    ]

no_rank : (n : ℕ) → Known n 0
no_rank zero s K toks h = elim h [ inl l ↦ absurd (omega arith) | inr p ↦ absurd (let l = p.1 in omega arith) ]
no_rank (suc n) s K toks h =
    elim h [
      | inl l ↦ more_rank n (no_rank n) (suc (rank K)) s K toks (inr (omega arith, omega arith))
      | inr p ↦ absurd (let l = p.1 in omega arith)
    ]

pub phrase_ends : (s : Sort) (K : Kind s) (toks : List Token) → (r : Read s) × Reads (code K) toks r
phrase_ends s K toks = let e = no_rank (suc (length toks)) s K toks (inl (omega arith)) in (e.0, e.1)

pub document_ends : (toks : List Token) → ((t : DocumentTree) × (rest : List Token) × Reads document toks (Whole t rest)) ⊎ ((rest : List Token) × Reads document toks (Stops rest) × (length rest ≤ length toks))
document_ends toks = by_result (code_ends n 2 (more_rank n (no_rank n) 2) false false false n document document_shrinks toks (λ e. absurd (cc)) (omega arith) (λ e. absurd (cc)) (omega arith))
  where
    n : ℕ
    n = length toks

    by_result : Ends document toks n false → ((t : DocumentTree) × (rest : List Token) × Reads document toks (Whole t rest)) ⊎ ((rest : List Token) × Reads document toks (Stops rest) × (length rest ≤ length toks))
    by_result (Whole t rest, d, b) = inl (t, rest, d)
    by_result (Stops rest, d, b) = inr (rest, d, b)
