-- How the reading of a list follows from the reading of its items.
use Rattle.std.proofs.Common.{◌≡◌, ◌+◌, List, [], ◌∷◌, ◌++◌, length, map, sym, ap, subst, arith, append_assoc}
use Rattle.std.proofs.lemmas.List.{append-nil, length-map}
use Rattle.std.proofs.Math.Path.{fun_ext}
use Rattle.topos_text.specs.declared.symbol.Symbol.TheVariants as symbol
use Rattle.topos_text.specs.Tokens.{Token, Sign, token_of}
use Rattle.topos_text.specs.declared.token.Token as lying
use Rattle.topos_grammar.specs.Kinds.{Sort, Tree}
use Rattle.topos_grammar.specs.Codes.{Class, Is, sign, Code, give, loop, eat_sign}
use Rattle.topos_grammar.specs.Reading.{Read, Whole, Stops, Reads, gives, eats_not, loops, loops_not, loops_end}
use Rattle.topos_grammar.specs.Gives.{Misses}
use Rattle.topos_grammar.specs.declared.stop.Stop.{Stop}
use Rattle.topos_grammar.specs.declared.stop.Stop.TheVariants.{NoMemory, At}
use Rattle.topos_grammar.proofs.Steps.{eats_at}
use Rattle.topos_statements.specs.Passages.{Passage, Passes, Halts, several, each}

-- a passage stops where one of its parts does
pub halts_from : {A B : Type 0} (e : Stop) (from : Passage A) (to : Passage B) (before toks : List Token) → ((s : Sort) (k : B → Code s) → (l : A → Code s) × ((rest : List Token) → Reads (from s l) before (Stops rest) → Reads (to s k) toks (Stops rest))) → Halts from before e → Halts to toks e
halts_from NoMemory from to before toks step h = tt
halts_from (At left) from to before toks step (rest, d, is) = (rest, λ s k. (let w = step s k in w.1 rest (d s w.0)), is)

-- a passage stops at a token that is not there
pub halts_at : {B : Type 0} (e : Stop) (C : Class) (to : Passage B) (before toks : List Token) → ((s : Sort) (k : B → Code s) → (Is C before → ⊥) → Reads (to s k) toks (Stops before)) → Misses C before e → Halts to toks e
halts_at NoMemory C to before toks step h = absurd h
halts_at (At left) C to before toks step (other, is) = (before, λ s k. step s k other, is)

-- the items read so far, and the tokens behind them
pub record Grown (u : Sort) (C : Class) (item : Code u) (whole : (s : Sort) → (List (Tree u) → Code s) → Code s) (toks : List Token) (vs : List (Tree u)) (now : List Token) : Type 0 where
  pub read : (s : Sort) (k : List (Tree u) → Code s) (x : Read s) → Reads (loop {u = u} C item (λ ws. k (vs ++ ws))) now x → Reads (whole s k) toks x

pub grown_more : (u : Sort) (C : Class) (item : Code u) (whole : (s : Sort) → (List (Tree u) → Code s) → Code s) (toks now after : List Token) (vs : List (Tree u)) (v : Tree u) → Grown u C item whole toks vs now → Is C now → Reads item now (Whole v after) → Grown u C item whole toks (vs ++ v ∷ []) after
grown_more u C item whole toks now after vs v g is d = record { read = λ s k x e. g.read s k x (loops is d (subst (λ l. Reads (loop {u = u} C item l) after x) (fun_ext (λ ws. ap k (append_assoc vs (v ∷ []) ws))) e)) }

pub grown_end : (u : Sort) (C : Class) (item : Code u) (whole : (s : Sort) → (List (Tree u) → Code s) → Code s) (toks now : List Token) (vs : List (Tree u)) → Grown u C item whole toks vs now → (Is C now → ⊥) → Passes whole toks vs now
grown_end u C item whole toks now vs g other = record { read = λ s k x e. g.read s k x (loops_end other (subst (λ z. Reads (k z) now x) (sym (append-nil vs)) e)) }

pub grown_halts : {A : Type 0} (u : Sort) (C : Class) (item : Code u) (whole : (s : Sort) → (List (Tree u) → Code s) → Code s) (toks now before : List Token) (vs : List (Tree u)) (m : Passage A) (l : A → Code u) (e : Stop) → Grown u C item whole toks vs now → Is C now → ((rest : List Token) → Reads (m u l) before (Stops rest) → Reads item now (Stops rest)) → Halts m before e → Halts whole toks e
grown_halts u C item whole toks now before vs m l NoMemory g is step h = tt
grown_halts u C item whole toks now before vs m l (At left) g is step (rest, d, at) = (rest, λ s k. g.read s k (Stops rest) (loops_not is (step rest (d u l))), at)

pub grown_misses : (u : Sort) (C D : Class) (item : Code u) (whole : (s : Sort) → (List (Tree u) → Code s) → Code s) (toks now before : List Token) (vs : List (Tree u)) (e : Stop) → Grown u C item whole toks vs now → Is C now → ((Is D before → ⊥) → Reads item now (Stops before)) → Misses D before e → Halts whole toks e
grown_misses u C D item whole toks now before vs NoMemory g is step h = absurd h
grown_misses u C D item whole toks now before vs (At left) g is step (other, at) = (before, λ s k. g.read s k (Stops before) (loops_not is (step other)), at)

-- ---- items with commas

abbrev pub comma_item : (u : Sort) → Passage (Tree u) → Code u
comma_item u m = eat_sign symbol.Comma (m u (λ w. give w))

abbrev pub Several : (u : Sort) → Passage (Tree u) → List Token → List (Tree u) → List Token → Type 0
Several u m = Grown u (sign symbol.Comma) (comma_item u m) (several u m)

pub first_item : (u : Sort) (m : Passage (Tree u)) (toks rest : List Token) (v : Tree u) → Passes m toks v rest → Several u m toks (v ∷ []) rest
first_item u m toks rest v p = record { read = λ s k x d. p.read s (λ w. loop {u = u} (sign symbol.Comma) (comma_item u m) (λ ws. k (w ∷ ws))) x d }

pub no_first_item : (u : Sort) (m : Passage (Tree u)) (toks : List Token) (e : Stop) → Halts m toks e → Halts (several u m) toks e
no_first_item u m toks e h = halts_from e m (several u m) toks toks (λ s k. ((λ w. loop {u = u} (sign symbol.Comma) (comma_item u m) (λ ws. k (w ∷ ws))), λ rest d. d)) h

pub next_item : (u : Sort) (m : Passage (Tree u)) (toks now behind after : List Token) (vs : List (Tree u)) (v : Tree u) → Several u m toks vs now → now ≡ Sign symbol.Comma ∷ behind → Passes m behind v after → Several u m toks (vs ++ v ∷ []) after
next_item u m toks now behind after vs v g is p = grown_more u (sign symbol.Comma) (comma_item u m) (several u m) toks now after vs v g (behind, is) (eats_at is (p.read u (λ w. give w) (Whole v after) gives))

pub no_next_item : (u : Sort) (m : Passage (Tree u)) (toks now behind : List Token) (vs : List (Tree u)) (e : Stop) → Several u m toks vs now → now ≡ Sign symbol.Comma ∷ behind → Halts m behind e → Halts (several u m) toks e
no_next_item u m toks now behind vs e g is h = grown_halts u (sign symbol.Comma) (comma_item u m) (several u m) toks now behind vs m (λ w. give w) e g (behind, is) (λ rest d. eats_at is d) h

pub last_item : (u : Sort) (m : Passage (Tree u)) (toks now : List Token) (vs : List (Tree u)) → Several u m toks vs now → (Is (sign symbol.Comma) now → ⊥) → Passes (several u m) toks vs now
last_item u m toks now vs g other = grown_end u (sign symbol.Comma) (comma_item u m) (several u m) toks now vs g other

-- ---- items with semicolons

abbrev pub semicolon_item : (u : Sort) → Passage (Tree u) → Code u
semicolon_item u m = m u (λ w. eat_sign symbol.Semicolon (give w))

abbrev pub Each : (u : Sort) → Class → Passage (Tree u) → List Token → List (Tree u) → List Token → Type 0
Each u C m = Grown u C (semicolon_item u m) (each u C m)

pub no_item_yet : (u : Sort) (C : Class) (m : Passage (Tree u)) (toks : List Token) → Each u C m toks [] toks
no_item_yet u C m toks = record { read = λ s k x d. d }

pub item_read : (u : Sort) (C : Class) (m : Passage (Tree u)) (toks now behind after : List Token) (vs : List (Tree u)) (v : Tree u) → Each u C m toks vs now → Is C now → Passes m now v behind → behind ≡ Sign symbol.Semicolon ∷ after → Each u C m toks (vs ++ v ∷ []) after
item_read u C m toks now behind after vs v g is p closed = grown_more u C (semicolon_item u m) (each u C m) toks now after vs v g is (p.read u (λ w. eat_sign symbol.Semicolon (give w)) (Whole v after) (eats_at closed gives))

pub item_halts : (u : Sort) (C : Class) (m : Passage (Tree u)) (toks now : List Token) (vs : List (Tree u)) (e : Stop) → Each u C m toks vs now → Is C now → Halts m now e → Halts (each u C m) toks e
item_halts u C m toks now vs e g is h = grown_halts u C (semicolon_item u m) (each u C m) toks now now vs m (λ w. eat_sign symbol.Semicolon (give w)) e g is (λ rest d. d) h

pub item_unclosed : (u : Sort) (C : Class) (m : Passage (Tree u)) (toks now behind : List Token) (vs : List (Tree u)) (v : Tree u) (e : Stop) → Each u C m toks vs now → Is C now → Passes m now v behind → Misses (sign symbol.Semicolon) behind e → Halts (each u C m) toks e
item_unclosed u C m toks now behind vs v e g is p h = grown_misses u C (sign symbol.Semicolon) (semicolon_item u m) (each u C m) toks now behind vs e g is (λ other. p.read u (λ w. eat_sign symbol.Semicolon (give w)) (Stops behind) (eats_not other)) h

pub items_end : (u : Sort) (C : Class) (m : Passage (Tree u)) (toks now : List Token) (vs : List (Tree u)) → Each u C m toks vs now → (Is C now → ⊥) → Passes (each u C m) toks vs now
items_end u C m toks now vs g other = grown_end u C (semicolon_item u m) (each u C m) toks now vs g other

-- ---- lengths

pub behind_shorter : (toks behind : List lying.Token) (u : Token) → map token_of toks ≡ u ∷ map token_of behind → length behind + 1 ≡ length toks
behind_shorter toks behind u e = omega (arith, ap length e, length-map toks token_of, length-map behind token_of)
