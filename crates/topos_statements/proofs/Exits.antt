-- Where a function of the parser leaves early.
use Rattle.std.proofs.Common.{◌≡◌, ℕ, ◌<◌, List, [], ◌∷◌, ◌++◌, length, map, sym, ap, subst, arith, length-append}
use Rattle.std.proofs.lemmas.List.{length-map}
use Rattle.topos_text.specs.Tokens.{Token, Written, Place, token_of}
use Rattle.topos_text.specs.declared.token.Token as lying
use Rattle.topos_grammar.specs.Kinds.{Sort, Tree, Kind}
use Rattle.topos_grammar.specs.Codes.{Class, Any, Is, Code, call, place, numbered, code}
use Rattle.topos_grammar.specs.Reading.{Read, Whole, Stops, Reads, places, numbers, calls, calls_not}
use Rattle.topos_grammar.specs.Gives.{Fails, Misses}
use Rattle.topos_grammar.specs.declared.stop.Stop.{Stop}
use Rattle.topos_grammar.specs.declared.stop.Stop.TheVariants.{NoMemory, At}
use Rattle.topos_grammar.proofs.Accepting.{size}
use Rattle.topos_grammar.proofs.Meaning.{meaning}
use Rattle.topos_grammar.proofs.Fronts.{Leads, leads_always}
use Rattle.topos_statements.specs.Passages.{Passage, Passes, Halts, Stopped}

-- a code stops at a token that is not there
pub stop_at : {u : Sort} (e : Stop) (C : Class) (c : Code u) (before toks : List Token) → ((Is C before → ⊥) → Reads c toks (Stops before)) → Misses C before e → Stopped c toks e
stop_at NoMemory C c before toks step h = absurd h
stop_at (At left) C c before toks step (other, is) = (before, step other, is)

-- a code stops where one of its parts does
pub stop_in : {A : Type 0} {u : Sort} (e : Stop) (m : Passage A) (c : Code u) (before toks : List Token) (l : A → Code u) → ((rest : List Token) → Reads (m u l) before (Stops rest) → Reads c toks (Stops rest)) → Halts m before e → Stopped c toks e
stop_in {u = u} NoMemory m c before toks l step h = tt
stop_in {u = u} (At left) m c before toks l step (rest, d, is) = (rest, step rest (d u l), is)

pub stop_in_kind : {u o : Sort} (e : Stop) (K : Kind o) (c : Code u) (before toks : List Token) → ((rest : List Token) → Reads (code K) before (Stops rest) → Reads c toks (Stops rest)) → Fails K before e → Stopped c toks e
stop_in_kind NoMemory K c before toks step h = tt
stop_in_kind (At left) K c before toks step (rest, d, is) = (rest, step rest d, is)

pub stop_in_code : {u o : Sort} (e : Stop) (b : Code o) (c : Code u) (before toks : List Token) → ((rest : List Token) → Reads b before (Stops rest) → Reads c toks (Stops rest)) → Stopped b before e → Stopped c toks e
stop_in_code NoMemory b c before toks step h = tt
stop_in_code (At left) b c before toks step (rest, d, is) = (rest, step rest d, is)

-- so does a passage
pub halts_in_kind : {B : Type 0} {o : Sort} (e : Stop) (K : Kind o) (to : Passage B) (before toks : List Token) → ((s : Sort) (k : B → Code s) (rest : List Token) → Reads (code K) before (Stops rest) → Reads (to s k) toks (Stops rest)) → Fails K before e → Halts to toks e
halts_in_kind NoMemory K to before toks step h = tt
halts_in_kind (At left) K to before toks step (rest, d, is) = (rest, λ s k. step s k rest d, is)

pub halts_in_code : {B : Type 0} {o : Sort} (e : Stop) (b : Code o) (to : Passage B) (before toks : List Token) → ((s : Sort) (k : B → Code s) (rest : List Token) → Reads b before (Stops rest) → Reads (to s k) toks (Stops rest)) → Stopped b before e → Halts to toks e
halts_in_code NoMemory b to before toks step h = tt
halts_in_code (At left) b to before toks step (rest, d, is) = (rest, λ s k. step s k rest d, is)

-- a phrase as a passage
abbrev pub called : {o : Sort} (K : Kind o) → Passage (Tree o)
called K s k = call K k

pub passes_phrase : {o : Sort} (K : Kind o) (toks rest : List Token) (v : Tree o) → Reads (code K) toks (Whole v rest) → Passes (called K) toks v rest
passes_phrase K toks rest v d = record { read = λ s k x e. calls d e }

pub halts_phrase : {o : Sort} (K : Kind o) (toks : List Token) (e : Stop) → Stopped (code K) toks e → Halts (called K) toks e
halts_phrase K toks e h = halts_in_code e (code K) (called K) toks toks (λ s k rest d. calls_not d) h

pub halts_kind : {o : Sort} (K : Kind o) (toks : List Token) (e : Stop) → Fails K toks e → Halts (called K) toks e
halts_kind K toks e h = halts_in_kind e K (called K) toks toks (λ s k rest d. calls_not d) h

pub places_at : {s : Sort} {n : ℕ} {x : Written} {k : ℕ → Written → Code s} {toks rest : List Token} {r : Read s} → toks ≡ Place n x ∷ rest → Reads (k n x) rest r → Reads (place k) toks r
places_at {s} {n} {x} {k} {toks} {rest} {r} e d = subst (λ z. Reads {s = s} (place k) z r) (sym e) (places d)

-- ---- lengths

-- what the code reads has a token
abbrev pub Starts : {u : Sort} → Code u → Type 0
Starts c = Leads c (Is Any) (λ v. ⊥)

pub shorter_by : {u : Sort} (c : Code u) (toks rest : List lying.Token) (v : Tree u) → Starts c → Reads c (map token_of toks) (Whole v (map token_of rest)) → length rest < length toks
shorter_by c toks rest v starts d =
    let m = meaning d in
    let lead : Is Any (m.front ++ []) = leads_always c (Is Any) v m.side (size m.derives) m.front [] starts m.accepts (m.derives, omega arith) in
    shorter m.front lead m.parts
  where
    shorter : (front : List Token) → Is Any (front ++ []) → map token_of toks ≡ front ++ map token_of rest → length rest < length toks
    shorter [] (t, ts, e) is = absurd cc
    shorter (x ∷ xs) lead is = omega (arith, ap length is, length-append xs (map token_of rest), length-map toks token_of, length-map rest token_of)

pub numbered_at : {s : Sort} {n : ℕ} {k : Written → Code s} {toks rest : List Token} {r : Read s} (h : (x : Written) × (toks ≡ Place n x ∷ rest)) → Reads (k h.0) rest r → Reads (numbered n k) toks r
numbered_at {s} {n} {k} {toks} {rest} {r} h d = subst (λ z. Reads {s = s} (numbered n k) z r) (sym h.1) (numbers d)
