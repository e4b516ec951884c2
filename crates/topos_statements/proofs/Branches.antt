-- How a statement is read by its first word.
use Rattle.std.proofs.Common.{◌≡◌, ℕ, zero, suc, List, [], ◌∷◌, Result, Ok, Err, refl, sym, subst}
use Rattle.topos_text.specs.declared.word.Word.{Word}
use Rattle.topos_text.specs.Tokens.{Token, Reserved}
use Rattle.topos_grammar.specs.Kinds.{Sort, Tree, OfStatement, Statement, Version}
use Rattle.topos_grammar.specs.Codes.{Branch, Any, Is, the, choose, code, first_branch, other_branches}
use Rattle.topos_grammar.specs.Reading.{Read, Whole, Stops, Reads, eats, eats_not, peeks, peeks_not}
use Rattle.topos_grammar.specs.declared.stop.Stop.{Stop}
use Rattle.topos_grammar.proofs.StatementSides.{Each, IsAt}
use Rattle.topos_grammar.proofs.Fronts.{choose_leads}
use Rattle.topos_grammar.proofs.Completeness.{Differ, statements_differ}
use Rattle.topos_statements.specs.Passages.{GivesBy}
use Rattle.topos_statements.proofs.Exits.{Starts, stop_in_code}

each_at : {s : Sort} (P : Branch s → Type 0) (bs : List (Branch s)) (n : ℕ) (c : Branch s) → Each P bs → IsAt n bs c → P c
each_at P [] n c h is = absurd is
each_at P (b ∷ bs) zero c h is = subst P is h.0
each_at P (b ∷ bs) (suc n) c h is = each_at P bs n c h.1 is

chosen_reads : {s : Sort} (b : Branch s) (bs : List (Branch s)) (n : ℕ) (c : Branch s) (toks : List Token) (x : Read s) → Differ (b ∷ bs) → IsAt n (b ∷ bs) c → Reads c.1 toks x → Reads (choose b bs) (Reserved c.0 ∷ toks) x
unfolding choose
chosen_reads {s} b [] zero c toks x differ is d = subst (λ z. Reads {s = s} z.1 toks x → Reads {s = s} (choose b []) (Reserved z.0 ∷ toks) x) is (λ e. eats e) d
chosen_reads b [] (suc n) c toks x differ is d = absurd is
chosen_reads {s} b (o ∷ os) zero c toks x differ is d = subst (λ z. Reads {s = s} z.1 toks x → Reads {s = s} (choose b (o ∷ os)) (Reserved z.0 ∷ toks) x) is (λ e. peeks (toks, refl) (eats e)) d
chosen_reads b (o ∷ os) (suc n) c toks x differ is d = peeks_not (λ w. each_at (λ z. z.0 ≡ b.0 → ⊥) (o ∷ os) n c differ.0 is (same c.0 b.0 toks w.0 w.1)) (chosen_reads o os n c toks x differ.1 is d)
  where
    same : (w u : Word) (xs ys : List Token) → Reserved w ∷ xs ≡ Reserved u ∷ ys → w ≡ u
    same w u xs ys e = cc

none_reads : {s : Sort} (b : Branch s) (bs : List (Branch s)) (toks : List Token) → Each (λ c. Is (the c.0) toks → ⊥) (b ∷ bs) → Reads (choose b bs) toks (Stops toks)
unfolding choose
none_reads b [] toks h = eats_not h.0
none_reads b (o ∷ os) toks h = peeks_not h.0 (none_reads o os toks h.1)

branch_read : (v : Version) (n : ℕ) (c : Branch OfStatement) (w : Word) (before toks : List Token) (x : Read OfStatement) → IsAt n (first_branch ∷ other_branches v) c → w ≡ c.0 → before ≡ Reserved w ∷ toks → Reads c.1 toks x → Reads (code (Statement v)) before x
unfolding code
branch_read v n c w before toks x at is parts d = subst (λ z. Reads {s = OfStatement} (choose first_branch (other_branches v)) z x) (sym parts) (subst (λ z. Reads {s = OfStatement} (choose first_branch (other_branches v)) (Reserved z ∷ toks) x) (sym is) (chosen_reads first_branch (other_branches v) n c toks x (statements_differ v) at d))

pub branch_gives : {X : Type 0} (v : Version) (n : ℕ) (c : Branch OfStatement) (w : Word) (before toks : List Token) (tree : X → Tree OfStatement) (rest : X → List Token) (r : Result X Stop) → IsAt n (first_branch ∷ other_branches v) c → w ≡ c.0 → before ≡ Reserved w ∷ toks → GivesBy {u = OfStatement} tree rest c.1 toks r → GivesBy {u = OfStatement} tree rest (code (Statement v)) before r
branch_gives v n c w before toks tree rest (Ok x) at is parts h = branch_read v n c w before toks (Whole (tree x) (rest x)) at is parts h
branch_gives v n c w before toks tree rest (Err e) at is parts h = stop_in_code e c.1 (code (Statement v)) toks before (λ r d. branch_read v n c w before toks (Stops r) at is parts d) h

pub no_branch : (v : Version) (toks : List Token) → Each (λ c. Is (the c.0) toks → ⊥) (first_branch ∷ other_branches v) → Reads (code (Statement v)) toks (Stops toks)
unfolding code
no_branch v toks h = none_reads first_branch (other_branches v) toks h

pub no_word : (v : Version) (toks : List Token) → ((w : Word) → Is (the w) toks → ⊥) → Reads (code (Statement v)) toks (Stops toks)
no_word v toks h = no_branch v toks (h _, (h _, (h _, (h _, (h _, (h _, (h _, (h _, (h _, (h _, (h _, (h _, (h _, (h _, (h _, (h _, (h _, (h _, (h _, (h _, (h _, (h _, (h _, (h _, (h _, (h _, tt))))))))))))))))))))))))))

pub statement_starts : (v : Version) → Starts (code (Statement v))
unfolding code
statement_starts v = choose_leads first_branch (other_branches v) (Is Any) (λ t. ⊥) (λ ts. (_, ts, refl), (λ ts. (_, ts, refl), (λ ts. (_, ts, refl), (λ ts. (_, ts, refl), (λ ts. (_, ts, refl), (λ ts. (_, ts, refl), (λ ts. (_, ts, refl), (λ ts. (_, ts, refl), (λ ts. (_, ts, refl), (λ ts. (_, ts, refl), (λ ts. (_, ts, refl), (λ ts. (_, ts, refl), (λ ts. (_, ts, refl), (λ ts. (_, ts, refl), (λ ts. (_, ts, refl), (λ ts. (_, ts, refl), (λ ts. (_, ts, refl), (λ ts. (_, ts, refl), (λ ts. (_, ts, refl), (λ ts. (_, ts, refl), (λ ts. (_, ts, refl), (λ ts. (_, ts, refl), (λ ts. (_, ts, refl), (λ ts. (_, ts, refl), (λ ts. (_, ts, refl), (λ ts. (_, ts, refl), tt))))))))))))))))))))))))))

pub other_word : (toks rest : List Token) (w u : Word) → toks ≡ Reserved w ∷ rest → (w ≡ u → ⊥) → Is (the u) toks → ⊥
other_word toks rest w u parts other (ts, e) = other cc
