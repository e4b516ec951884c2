-- The codes of statements read the right sides of the grammar, and nothing else.
use Rattle.std.proofs.Common.{◌≡◌, inl, inr, ℕ, zero, suc, List, [], ◌∷◌, ◌++◌, refl, sym, ap, subst, ◌∙◌, Option}
use Rattle.std.proofs.lemmas.List.{append-nil}
use Rattle.topos_text.specs.declared.word.Word.TheVariants as word
use Rattle.topos_text.specs.declared.symbol.Symbol.TheVariants as symbol
use Rattle.topos_text.specs.Tokens.{Written, Reserved, Sign}
use Rattle.topos_text.specs.Trees.{TermTree, Binding, PlaceTree, StepTree, StatementTree, Construction, Fork, Extension}
use Rattle.topos_text.specs.Trees as tree
use Rattle.topos_text.specs.Phrases.{Part, token, term, statement, each}
use Rattle.topos_text.specs.Phrases as phrase
use Rattle.topos_text.specs.Statements.{StatementSide, construction_word, fork_word, extension_word}
use Rattle.topos_text.specs.Statements as statements
use Rattle.topos_grammar.specs.Kinds.{Sort, OfStep, OfStatement, Tree, Kind, Context, SiteStatement, Section, MapAt, Sent, AnyTerm, Step, Version, part, version_number}
use Rattle.topos_grammar.specs.Codes.{Class, Code, give, call, eat_sign, braced, Branch, choose, the, AnyName, section_words, site_words, code, terms, with_term, presheaf, map_of, construct, forked, image, empty, sheafify, sheaf, hom, build, subobject, let_be, asked, valid, why, derive, local, category, category_functor, extended, first_branch, other_branches}
use Rattle.topos_grammar.proofs.Accepting.{Accepts}
use Rattle.topos_grammar.proofs.ItemLists.{braced_side, braced_accepts, places_side, places_accept, terms_side, terms_accept, with_side, with_accepts}

-- ---- branches

-- each branch passes P
abbrev pub Each : {s : Sort} → (Branch s → Type 0) → List (Branch s) → Type 0
Each P [] = Unit {0}
Each P (b ∷ bs) = P b × Each P bs

-- the branch stands at this place
abbrev pub IsAt : {s : Sort} → ℕ → List (Branch s) → Branch s → Type 0
IsAt n [] c = ⊥
IsAt zero (b ∷ bs) c = b ≡ c
IsAt (suc n) (b ∷ bs) c = IsAt n bs c

chosen_side : {s : Sort} (b : Branch s) (bs : List (Branch s)) (t : Tree s) (side : List Part) (P : List Part → Type 0) → Each (λ c. (rest : List Part) → Accepts c.1 t rest → P (token (Reserved c.0) ∷ rest)) (b ∷ bs) → Accepts (choose b bs) t side → P side
unfolding choose
chosen_side b [] t side P h (rest, e, acc) = subst P (sym e) (h.0 rest acc)
chosen_side b (c ∷ cs) t side P h (inl (rest, e, acc)) = subst P (sym e) (h.0 rest acc)
chosen_side b (c ∷ cs) t side P h (inr acc) = chosen_side c cs t side P h.1 acc

chosen_accepts : {s : Sort} (b : Branch s) (bs : List (Branch s)) (n : ℕ) (c : Branch s) (t : Tree s) (rest : List Part) → IsAt n (b ∷ bs) c → Accepts c.1 t rest → Accepts (choose b bs) t (token (Reserved c.0) ∷ rest)
unfolding choose
chosen_accepts b [] zero c t rest is acc = (rest, ap (λ z. token (Reserved z.0) ∷ rest) (sym is), subst (λ z. Accepts z.1 t rest) (sym is) acc)
chosen_accepts b [] (suc n) c t rest is acc = absurd is
chosen_accepts b (d ∷ ds) zero c t rest is acc = inl (rest, ap (λ z. token (Reserved z.0) ∷ rest) (sym is), subst (λ z. Accepts z.1 t rest) (sym is) acc)
chosen_accepts b (d ∷ ds) (suc n) c t rest is acc = inr (chosen_accepts d ds n c t rest is acc)

-- ---- a step

abbrev step_end : Written → List PlaceTree → List Binding → List TermTree → TermTree → Option TermTree → Code OfStep
step_end r ps g hs t w = give (record { rule = r; from = ps; context = g; hypotheses = hs; conclusion = t; with_term = w })

abbrev pub after_terms : Written → List PlaceTree → List Binding → List TermTree → Code OfStep
after_terms r ps g hs = eat_sign symbol.Arrow (call AnyTerm (λ t. with_term (step_end r ps g hs t)))

abbrev pub after_places : Written → List PlaceTree → Code OfStep
after_places r ps = eat_sign symbol.Colon (call Context (λ g. eat_sign symbol.Bar (terms (after_terms r ps g))))

abbrev step_parts : Written → List PlaceTree → List Binding → List TermTree → TermTree → List Part → List Part
step_parts r ps g hs t end = phrase.name r ∷ statements.places ps ++ (phrase.sign symbol.Colon ∷ term (phrase.Context g) ∷ phrase.sign symbol.Bar ∷ statements.terms hs ++ (phrase.sign symbol.Arrow ∷ term (phrase.AnyTerm t) ∷ end))

step_whole : (r : Written) (ps : List PlaceTree) (g : List Binding) (hs : List TermTree) (u : TermTree) (end : List Part) (side r1 r2 r3 r4 r5 r6 r7 r8 : List Part) → side ≡ phrase.name r ∷ r1 → r1 ≡ statements.places ps ++ r2 → r2 ≡ phrase.sign symbol.Colon ∷ r3 → r3 ≡ term (phrase.Context g) ∷ r4
    → r4 ≡ phrase.sign symbol.Bar ∷ r5 → r5 ≡ statements.terms hs ++ r6 → r6 ≡ phrase.sign symbol.Arrow ∷ r7 → r7 ≡ term (phrase.AnyTerm u) ∷ r8 → r8 ≡ end → side ≡ step_parts r ps g hs u end
step_whole r ps g hs u end side r1 r2 r3 r4 r5 r6 r7 r8 e1 e2 e3 e4 e5 e6 e7 e8 e9 = rw (e1, e2, e3, e4, e5, e6, e7, e8, e9) refl

pub step_side : (t : StepTree) (side : List Part) → Accepts (code Step) t side → StatementSide (phrase.Step t) side
unfolding code
step_side t side (r, r1, e1, a) =
    let (ps, r2, p, (r3, e3, (g, r4, e4, (r5, e5, b)))) = places_side (after_places r) t r1 a in
    let (hs, r6, h, (r7, e7, (u, r8, e8, c))) = terms_side (after_terms r ps g) t r5 b in
    let (w, r9, q, (e, e9)) = with_side (step_end r ps g hs u) t r8 c in
    let end : r8 ≡ statements.with_term w = q ∙ ap (λ z. statements.with_term w ++ z) e9 ∙ append-nil (statements.with_term w) in
    let whole : side ≡ step_parts r ps g hs u (statements.with_term w) = step_whole r ps g hs u (statements.with_term w) side r1 r2 r3 r4 r5 r6 r7 r8 e1 p e3 e4 e5 h e7 e8 end in
    subst (λ z. StatementSide (phrase.Step t) z) (sym whole) (subst (λ z. StatementSide (phrase.Step z) (step_parts r ps g hs u (statements.with_term w))) (sym e) statements.step)

pub step_accepts : (t : StepTree) → Accepts (code Step) t (step_parts t.rule t.from t.context t.hypotheses t.conclusion (statements.with_term t.with_term))
unfolding code
step_accepts t = (
  t.rule,
  _,
  refl,
  places_accept (after_places t.rule) t t.from (phrase.sign symbol.Colon ∷ term (phrase.Context t.context) ∷ phrase.sign symbol.Bar ∷ statements.terms t.hypotheses ++ (phrase.sign symbol.Arrow ∷ term (phrase.AnyTerm t.conclusion) ∷ statements.with_term t.with_term)) (
    _,
    refl,
    (
      t.context,
      _,
      refl,
      (
        _,
        refl,
        terms_accept (after_terms t.rule t.from t.context) t t.hypotheses (phrase.sign symbol.Arrow ∷ term (phrase.AnyTerm t.conclusion) ∷ statements.with_term t.with_term) (
          _,
          refl,
          (t.conclusion, _, refl, subst (λ z. Accepts (with_term (step_end t.rule t.from t.context t.hypotheses t.conclusion)) t z) (append-nil (statements.with_term t.with_term)) (with_accepts (step_end t.rule t.from t.context t.hypotheses t.conclusion) t t.with_term [] (refl, refl))),
        ),
      ),
    ),
  ),
)

-- ---- statements by their first words

by_braced : {u : Sort} (C : Class) (K : Kind u) (k : List (Tree u) → Code OfStatement) (t : StatementTree) (side : List Part) (P : List Part → Type 0) → Accepts (braced C K k) t side
    → ((vs : List (Tree u)) (rest : List Part) → Accepts (k vs) t rest → P (token (Sign symbol.OpenBrace) ∷ each (part K) vs ++ token (Sign symbol.CloseBrace) ∷ rest)) → P side
by_braced C K k t side P a step = let b = braced_side C K k t side a in subst P (sym b.2) (step b.0 b.1 b.3)

abbrev Begun : Version → StatementTree → List Part → Type 0
Begun v t side = StatementSide (phrase.Statement (version_number v) t) side

presheaf_side : (v : Version) (t : StatementTree) (side : List Part) → Accepts presheaf t side → Begun v t (phrase.the word.Presheaf ∷ side)
presheaf_side v t side (x, r1, e1, inl (r2, e2, (d, r3, e3, a))) = rw (e1, e2, e3) (by_braced section_words Section (λ ss. give (tree.PresheafOn x d ss)) t r3 (λ z. Begun v t (phrase.the word.Presheaf ∷ phrase.name x ∷ phrase.the word.Of ∷ phrase.name d ∷ z)) a (λ ss rest acc. rw (acc.1, acc.0) statements.presheaf_on))
presheaf_side v t side (x, r1, e1, inr a) = rw e1 (by_braced section_words Section (λ ss. give (tree.Presheaf x ss)) t r1 (λ z. Begun v t (phrase.the word.Presheaf ∷ phrase.name x ∷ z)) a (λ ss rest acc. rw (acc.1, acc.0) statements.presheaf))

map_side : (v : Version) (t : StatementTree) (side : List Part) → Accepts map_of t side → Begun v t (phrase.the word.Map ∷ side)
map_side v t side (m, r1, e1, (r2, e2, (x, r3, e3, (r4, e4, (y, r5, e5, a))))) = rw (e1, e2, e3, e4, e5) (by_braced (the word.At) MapAt (λ ps. give (tree.Map m x y ps)) t r5 (λ z. Begun v t (phrase.the word.Map ∷ phrase.name m ∷ phrase.sign symbol.Colon ∷ phrase.name x ∷ phrase.sign symbol.Arrow ∷ phrase.name y ∷ z)) a (λ ss rest acc. rw (acc.1, acc.0) statements.map))

construct_side : (c : Construction) (v : Version) (t : StatementTree) (side : List Part) → Accepts (construct c) t side → Begun v t (phrase.the (construction_word c) ∷ side)
construct_side c v t side (x, r1, e1, (y, r2, e2, (r3, e3, (z, r4, e4, (r5, e5, (p, r6, e6, (r7, e7, (q, r8, e8, (e, e9))))))))) = rw (e1, e2, e3, e4, e5, e6, e7, e8, e9, e) statements.construct

forked_side : (f : Fork) (v : Version) (t : StatementTree) (side : List Part) → Accepts (forked f) t side → Begun v t (phrase.the (fork_word f) ∷ side)
forked_side f v t side (m, r1, e1, (n, r2, e2, (r3, e3, (z, r4, e4, (r5, e5, (i, r6, e6, (e, e7))))))) = rw (e1, e2, e3, e4, e5, e6, e7, e) statements.forked

image_side : (v : Version) (t : StatementTree) (side : List Part) → Accepts image t side → Begun v t (phrase.the word.Image ∷ side)
image_side v t side (m, r1, e1, (r2, e2, (z, r3, e3, (r4, e4, (p, r5, e5, (r6, e6, (i, r7, e7, (e, e8)))))))) = rw (e1, e2, e3, e4, e5, e6, e7, e8, e) statements.image

empty_side : (v : Version) (t : StatementTree) (side : List Part) → Accepts empty t side → Begun v t (phrase.the word.Empty ∷ side)
empty_side v t side (r1, e1, (z, r2, e2, (e, e3))) = rw (e1, e2, e3, e) statements.empty

sheafify_side : (v : Version) (t : StatementTree) (side : List Part) → Accepts (sheafify v) t side → Begun v t (phrase.the word.Sheafify ∷ side)
sheafify_side v t side (j, r1, e1, (x, r2, e2, (r3, e3, (a, r4, e4, (r5, e5, (i, r6, e6, (e, e7))))))) = rw (e1, e2, e3, e4, e5, e6, e7, e) statements.sheafify

sheaf_side : (v : Version) (t : StatementTree) (side : List Part) → Accepts (sheaf v) t side → Begun v t (phrase.the word.Sheaf ∷ side)
sheaf_side v t side (j, r1, e1, (x, r2, e2, (e, e3))) = rw (e1, e2, e3, e) statements.sheaf

hom_side : (v : Version) (t : StatementTree) (side : List Part) → Accepts hom t side → Begun v t (phrase.the word.Hom ∷ side)
hom_side v t side (x, r1, e1, (y, r2, e2, (e, e3))) = rw (e1, e2, e3, e) statements.hom

build_side : (v : Version) (t : StatementTree) (side : List Part) → Accepts (build v) t side → Begun v t (phrase.the word.Build ∷ side)
build_side v t side (j, r1, e1, (x, r2, e2, (r3, e3, (T, r4, e4, (r5, e5, (p, r6, e6, (r7, e7, (q, r8, e8, (e, e9))))))))) = rw (e1, e2, e3, e4, e5, e6, e7, e8, e9, e) statements.build

sub_side : (v : Version) (t : StatementTree) (side : List Part) → Accepts (subobject v) t side → Begun v t (phrase.the word.Sub ∷ side)
sub_side v t side (j, r1, e1, (x, r2, e2, (r3, e3, (r4, e4, (y, r5, e5, (r6, e6, (T, r7, e7, (r8, e8, (u, r9, e9, (r10, e10, (r11, e11, (i, r12, e12, (e, e13))))))))))))) =
    rw (e1, e2, e3, e4, e5, e6, e7, e8, e9, e10, e11, e12, e13, e) statements.sub

let_side : (v : Version) (t : StatementTree) (side : List Part) → Accepts (let_be v) t side → Begun v t (phrase.the word.Let ∷ side)
let_side v t side (j, r1, e1, (x, r2, e2, (r3, e3, (y, r4, e4, (r5, e5, (T, r6, e6, (r7, e7, (u, r8, e8, (e, e9))))))))) = rw (e1, e2, e3, e4, e5, e6, e7, e8, e9, e) statements.let_be

show_side : (v : Version) (t : StatementTree) (side : List Part) → Accepts (asked tree.Show v) t side → Begun v t (phrase.the word.Show ∷ side)
show_side v t side (j, r1, e1, (r2, e2, (g, r3, e3, (r4, e4, (u, r5, e5, (r6, e6, (e, e7))))))) = rw (e1, e2, e3, e4, e5, e6, e7, e) statements.show

classify_side : (v : Version) (t : StatementTree) (side : List Part) → Accepts (asked tree.Classify v) t side → Begun v t (phrase.the word.Classify ∷ side)
classify_side v t side (j, r1, e1, (r2, e2, (g, r3, e3, (r4, e4, (u, r5, e5, (r6, e6, (e, e7))))))) = rw (e1, e2, e3, e4, e5, e6, e7, e) statements.classify

valid_side : (v : Version) (t : StatementTree) (side : List Part) → Accepts (valid v) t side → Begun v t (phrase.the word.Valid ∷ side)
valid_side v t side (j, r1, e1, (g, r2, e2, (r3, e3, (u, r4, e4, (e, e5))))) = rw (e1, e2, e3, e4, e5, e) statements.valid

why_side : (v : Version) (t : StatementTree) (side : List Part) → Accepts (why v) t side → Begun v t (phrase.the word.Why ∷ side)
why_side v t side (j, r1, e1, (x, r2, e2, (n, y, r3, e3, (r4, e4, (r5, e5, (g, r6, e6, (r7, e7, (u, r8, e8, (r9, e9, (e, e10)))))))))) = rw (e1, e2, e3, e4, e5, e6, e7, e8, e9, e10, e) statements.why

derive_side : (v : Version) (t : StatementTree) (side : List Part) → Accepts (derive v) t side → Begun v t (phrase.the word.Derive ∷ side)
derive_side v t side (j, r1, e1, a) = rw e1 (by_braced AnyName Step (λ ss. give (tree.Derive j ss)) t r1 (λ z. Begun v t (phrase.the word.Derive ∷ statement (phrase.Under (version_number v) j) ∷ z)) a (λ ss rest acc. rw (acc.1, acc.0) statements.derive))

local_side : (v : Version) (t : StatementTree) (side : List Part) → Accepts local t side → Begun v t (phrase.the word.Local ∷ side)
local_side v t side (m, r1, e1, inl (r2, e2, (n, r3, e3, (e, e4)))) = rw (e1, e2, e3, e4, e) statements.local_as
local_side v t side (m, r1, e1, inr (e, e2)) = rw (e1, e2, e) statements.local

category_side : (v : Version) (t : StatementTree) (side : List Part) → Accepts category t side → Begun v t (phrase.the word.Category ∷ side)
category_side v t side (d, r1, e1, a) = rw e1 (by_braced site_words SiteStatement (λ ss. give (tree.Category d ss)) t r1 (λ z. Begun v t (phrase.the word.Category ∷ phrase.name d ∷ z)) a (λ ss rest acc. rw (acc.1, acc.0) statements.category))

functor_side : (v : Version) (t : StatementTree) (side : List Part) → Accepts category_functor t side → Begun v t (phrase.the word.Functor ∷ side)
functor_side v t side (f, r1, e1, inl (r2, e2, (d, r3, e3, a))) = rw (e1, e2, e3) (by_braced section_words Sent (λ ss. give (tree.CategoryFunctor f d ss)) t r3 (λ z. Begun v t (phrase.the word.Functor ∷ phrase.name f ∷ phrase.sign symbol.Colon ∷ phrase.name d ∷ z)) a (λ ss rest acc. rw (acc.1, acc.0) statements.category_functor))
functor_side v t side (f, r1, e1, inr (x, r2, e2, (r3, e3, (y, r4, e4, (e, e5))))) = rw (e1, e2, e3, e4, e5, e) statements.restricted

extended_side : (x : Extension) (v : Version) (t : StatementTree) (side : List Part) → Accepts (extended x) t side → Begun v t (phrase.the (extension_word x) ∷ side)
extended_side x v t side (f, r1, e1, (p, r2, e2, (r3, e3, (l, r4, e4, (r5, e5, (i, r6, e6, (e, e7))))))) = rw (e1, e2, e3, e4, e5, e6, e7, e) statements.extended

pub statement_side : (v : Version) (t : StatementTree) (side : List Part) → Accepts (choose first_branch (other_branches v)) t side → Begun v t side
statement_side v t side a = chosen_side first_branch (other_branches v) t side (Begun v t) (presheaf_side v t, (map_side v t, (construct_side tree.ProductOf v t, (forked_side tree.EqualizerOf v t, (construct_side tree.PullbackOf v t, (image_side v t, (empty_side v t, (construct_side tree.CoproductOf v t, (forked_side tree.CoequalizerOf v t, (construct_side tree.PushoutOf v t, (sheafify_side v t, (sheaf_side v t, (hom_side v t, (build_side v t, (sub_side v t, (let_side v t, (show_side v t, (classify_side v t, (valid_side v t, (why_side v t, (derive_side v t, (local_side v t, (category_side v t, (functor_side v t, (extended_side tree.Lan v t, (extended_side tree.Ran v t, tt)))))))))))))))))))))))))) a

pub statement_accepts : (v : Version) (t : StatementTree) (side : List Part) → Begun v t side → Accepts (choose first_branch (other_branches v)) t side
statement_accepts v t side (statements.presheaf {x = x} {sections = ss}) = chosen_accepts first_branch (other_branches v) 0 (word.Presheaf, presheaf) t _ refl (x, _, refl, inr (braced_accepts {s = OfStatement} section_words Section (λ ss. give (tree.Presheaf x ss)) t ss [] (refl, refl)))
statement_accepts v t side (statements.presheaf_on {p = x} {d = d} {sections = ss}) = chosen_accepts first_branch (other_branches v) 0 (word.Presheaf, presheaf) t _ refl (x, _, refl, inl (_, refl, (d, _, refl, braced_accepts {s = OfStatement} section_words Section (λ ss. give (tree.PresheafOn x d ss)) t ss [] (refl, refl))))
statement_accepts v t side (statements.map {m = m} {x = x} {y = y} {parts = ps}) = chosen_accepts first_branch (other_branches v) 1 (word.Map, map_of) t _ refl (m, _, refl, (_, refl, (x, _, refl, (_, refl, (y, _, refl, braced_accepts {s = OfStatement} (the word.At) MapAt (λ ps. give (tree.Map m x y ps)) t ps [] (refl, refl))))))
statement_accepts v t side (statements.construct {of = tree.ProductOf} {x = x} {y = y} {z = z} {p = p} {q = q}) = chosen_accepts first_branch (other_branches v) 2 (word.Product, construct tree.ProductOf) t _ refl (x, _, refl, (y, _, refl, (_, refl, (z, _, refl, (_, refl, (p, _, refl, (_, refl, (q, _, refl, (refl, refl)))))))))
statement_accepts v t side (statements.construct {of = tree.CoproductOf} {x = x} {y = y} {z = z} {p = p} {q = q}) = chosen_accepts first_branch (other_branches v) 7 (word.Coproduct, construct tree.CoproductOf) t _ refl (x, _, refl, (y, _, refl, (_, refl, (z, _, refl, (_, refl, (p, _, refl, (_, refl, (q, _, refl, (refl, refl)))))))))
statement_accepts v t side (statements.construct {of = tree.PullbackOf} {x = x} {y = y} {z = z} {p = p} {q = q}) = chosen_accepts first_branch (other_branches v) 4 (word.Pullback, construct tree.PullbackOf) t _ refl (x, _, refl, (y, _, refl, (_, refl, (z, _, refl, (_, refl, (p, _, refl, (_, refl, (q, _, refl, (refl, refl)))))))))
statement_accepts v t side (statements.construct {of = tree.PushoutOf} {x = x} {y = y} {z = z} {p = p} {q = q}) = chosen_accepts first_branch (other_branches v) 9 (word.Pushout, construct tree.PushoutOf) t _ refl (x, _, refl, (y, _, refl, (_, refl, (z, _, refl, (_, refl, (p, _, refl, (_, refl, (q, _, refl, (refl, refl)))))))))
statement_accepts v t side (statements.forked {of = tree.EqualizerOf} {m = m} {n = n} {z = z} {i = i}) = chosen_accepts first_branch (other_branches v) 3 (word.Equalizer, forked tree.EqualizerOf) t _ refl (m, _, refl, (n, _, refl, (_, refl, (z, _, refl, (_, refl, (i, _, refl, (refl, refl)))))))
statement_accepts v t side (statements.forked {of = tree.CoequalizerOf} {m = m} {n = n} {z = z} {i = i}) = chosen_accepts first_branch (other_branches v) 8 (word.Coequalizer, forked tree.CoequalizerOf) t _ refl (m, _, refl, (n, _, refl, (_, refl, (z, _, refl, (_, refl, (i, _, refl, (refl, refl)))))))
statement_accepts v t side (statements.image {m = m} {z = z} {e = e} {i = i}) = chosen_accepts first_branch (other_branches v) 5 (word.Image, image) t _ refl (m, _, refl, (_, refl, (z, _, refl, (_, refl, (e, _, refl, (_, refl, (i, _, refl, (refl, refl))))))))
statement_accepts v t side (statements.empty {z = z}) = chosen_accepts first_branch (other_branches v) 6 (word.Empty, empty) t _ refl (_, refl, (z, _, refl, (refl, refl)))
statement_accepts v t side (statements.sheafify {j = j} {x = x} {a = a} {e = e}) = chosen_accepts first_branch (other_branches v) 10 (word.Sheafify, sheafify v) t _ refl (j, _, refl, (x, _, refl, (_, refl, (a, _, refl, (_, refl, (e, _, refl, (refl, refl)))))))
statement_accepts v t side (statements.sheaf {j = j} {x = x}) = chosen_accepts first_branch (other_branches v) 11 (word.Sheaf, sheaf v) t _ refl (j, _, refl, (x, _, refl, (refl, refl)))
statement_accepts v t side (statements.hom {x = x} {y = y}) = chosen_accepts first_branch (other_branches v) 12 (word.Hom, hom) t _ refl (x, _, refl, (y, _, refl, (refl, refl)))
statement_accepts v t side (statements.build {j = j} {e = e} {T = T} {u = u} {v = w}) = chosen_accepts first_branch (other_branches v) 13 (word.Build, build v) t _ refl (j, _, refl, (e, _, refl, (_, refl, (T, _, refl, (_, refl, (u, _, refl, (_, refl, (w, _, refl, (refl, refl)))))))))
statement_accepts v t side (statements.sub {j = j} {s = s} {b = b} {t = u} {i = i}) = chosen_accepts first_branch (other_branches v) 14 (word.Sub, subobject v) t _ refl (j, _, refl, (s, _, refl, (_, refl, (_, refl, (b.variable, _, refl, (_, refl, (b.type, _, refl, (_, refl, (u, _, refl, (_, refl, (_, refl, (i, _, refl, (refl, refl)))))))))))))
statement_accepts v t side (statements.let_be {j = j} {m = m} {b = b} {t = u}) = chosen_accepts first_branch (other_branches v) 15 (word.Let, let_be v) t _ refl (j, _, refl, (m, _, refl, (_, refl, (b.variable, _, refl, (_, refl, (b.type, _, refl, (_, refl, (u, _, refl, (refl, refl)))))))))
statement_accepts v t side (statements.show {j = j} {Γ = g} {t = u}) = chosen_accepts first_branch (other_branches v) 16 (word.Show, asked tree.Show v) t _ refl (j, _, refl, (_, refl, (g, _, refl, (_, refl, (u, _, refl, (_, refl, (refl, refl)))))))
statement_accepts v t side (statements.classify {j = j} {Γ = g} {t = u}) = chosen_accepts first_branch (other_branches v) 17 (word.Classify, asked tree.Classify v) t _ refl (j, _, refl, (_, refl, (g, _, refl, (_, refl, (u, _, refl, (_, refl, (refl, refl)))))))
statement_accepts v t side (statements.valid {j = j} {Γ = g} {t = u}) = chosen_accepts first_branch (other_branches v) 18 (word.Valid, valid v) t _ refl (j, _, refl, (g, _, refl, (_, refl, (u, _, refl, (refl, refl)))))
statement_accepts v t side (statements.why {j = j} {u = x} {k = k} {Γ = g} {t = u}) = chosen_accepts first_branch (other_branches v) 19 (word.Why, why v) t _ refl (j, _, refl, (x, _, refl, (k.number, k.written, _, refl, (_, refl, (_, refl, (g, _, refl, (_, refl, (u, _, refl, (_, refl, (refl, refl))))))))))
statement_accepts v t side (statements.derive {j = j} {steps = ss}) = chosen_accepts first_branch (other_branches v) 20 (word.Derive, derive v) t _ refl (j, _, refl, braced_accepts {s = OfStatement} AnyName Step (λ ss. give (tree.Derive j ss)) t ss [] (refl, refl))
statement_accepts v t side (statements.local {m = m}) = chosen_accepts first_branch (other_branches v) 21 (word.Local, local) t _ refl (m, _, refl, inr (refl, refl))
statement_accepts v t side (statements.local_as {j = j} {m = m}) = chosen_accepts first_branch (other_branches v) 21 (word.Local, local) t _ refl (j, _, refl, inl (_, refl, (m, _, refl, (refl, refl))))
statement_accepts v t side (statements.category {d = d} {statements = ss}) = chosen_accepts first_branch (other_branches v) 22 (word.Category, category) t _ refl (d, _, refl, braced_accepts {s = OfStatement} site_words SiteStatement (λ ss. give (tree.Category d ss)) t ss [] (refl, refl))
statement_accepts v t side (statements.category_functor {f = f} {d = d} {sent = ss}) = chosen_accepts first_branch (other_branches v) 23 (word.Functor, category_functor) t _ refl (f, _, refl, inl (_, refl, (d, _, refl, braced_accepts {s = OfStatement} section_words Sent (λ ss. give (tree.CategoryFunctor f d ss)) t ss [] (refl, refl))))
statement_accepts v t side (statements.restricted {f = f} {x = x} {y = y}) = chosen_accepts first_branch (other_branches v) 23 (word.Functor, category_functor) t _ refl (f, _, refl, inr (x, _, refl, (_, refl, (y, _, refl, (refl, refl)))))
statement_accepts v t side (statements.extended {of = tree.Lan} {f = f} {p = p} {l = l} {e = e}) = chosen_accepts first_branch (other_branches v) 24 (word.Lan, extended tree.Lan) t _ refl (f, _, refl, (p, _, refl, (_, refl, (l, _, refl, (_, refl, (e, _, refl, (refl, refl)))))))
statement_accepts v t side (statements.extended {of = tree.Ran} {f = f} {p = p} {l = l} {e = e}) = chosen_accepts first_branch (other_branches v) 25 (word.Ran, extended tree.Ran) t _ refl (f, _, refl, (p, _, refl, (_, refl, (l, _, refl, (_, refl, (e, _, refl, (refl, refl)))))))
