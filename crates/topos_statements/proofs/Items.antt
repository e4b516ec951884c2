-- Phrases as items of lists.
use Rattle.std.proofs.Common.{◌≡◌, ◌<◌, ◌⊎◌, inl, inr, List, ◌∷◌, length, map, Result, Ok, Err, MatchResult, IfOk, refl}
use Rattle.topos_text.specs.declared.token.Token as lying
use Rattle.topos_text.specs.Tokens.{Token, Written, Name, Place, token_of}
use Rattle.topos_text.specs.Trees.{Binding, PlaceTree}
use Rattle.topos_grammar.specs.Kinds.{Sort, Tree, Kind, OfEntry, OfMapping, ArrowName, SiteStatement, Cover, Topology, Section, MapAt, Sent, Step}
use Rattle.topos_grammar.specs.Codes.{Any, Is, AnyName, AnyPlace, give, name, bind, a_place, entry, mapping, code}
use Rattle.topos_grammar.specs.Reading.{Whole, gives, names_not, places_not, eats, calls}
use Rattle.topos_grammar.specs.Gives.{Gives, Misses, Binds, Unbound}
use Rattle.topos_grammar.specs.declared.stop.Stop.{Stop}
use Rattle.topos_grammar.specs.declared.stop.Stop.TheVariants.{NoMemory, At}
use Rattle.topos_grammar.proofs.Steps.{names_at}
use Rattle.topos_statements.specs.Passages.{Passage, Passes, Halts, GivesBy}
use Rattle.topos_statements.proofs.Lists.{halts_at}
use Rattle.topos_statements.proofs.Exits.{called, passes_phrase, halts_phrase, halts_kind, places_at, Starts, shorter_by}

abbrev pub Read : {X A : Type 0} → (X → A) → (X → List Token) → Passage A → List Token → Result X Stop → Type 0
Read tree rest m toks r = MatchResult r (λ x. Passes m toks (tree x) (rest x)) (λ e. Halts m toks e)

pub phrase_read : {X : Type 0} {o : Sort} (K : Kind o) (tree : X → Tree o) (rest : X → List Token) (toks : List Token) (r : Result X Stop) → GivesBy tree rest (code K) toks r → Read tree rest (called K) toks r
phrase_read K tree rest toks (Ok x) h = passes_phrase K toks (rest x) (tree x) h
phrase_read K tree rest toks (Err e) h = halts_phrase K toks e h

pub kind_read : {X : Type 0} {o : Sort} (K : Kind o) (tree : X → Tree o) (rest : X → List Token) (toks : List Token) (r : Result X Stop) → Gives tree rest K toks r → Read tree rest (called K) toks r
kind_read K tree rest toks (Ok x) h = passes_phrase K toks (rest x) (tree x) h.0
kind_read K tree rest toks (Err e) h = halts_kind K toks e h

pub phrase_shorter : {X : Type 0} {o : Sort} (K : Kind o) → Starts (code K) → (tree : X → Tree o) (rest : X → List lying.Token) (toks : List lying.Token) (r : Result X Stop) → GivesBy tree (λ x. map token_of (rest x)) (code K) (map token_of toks) r → IfOk r (λ x. length (rest x) < length toks)
phrase_shorter K starts tree rest toks (Ok x) h = shorter_by (code K) toks (rest x) (tree x) starts h
phrase_shorter K starts tree rest toks (Err e) h = tt

pub name_read : {X : Type 0} (tree : X → Written) (rest : X → List Token) (toks : List Token) (r : Result X Stop) → MatchResult r (λ x. toks ≡ Name (tree x) ∷ rest x) (λ e. Misses AnyName toks e) → Read tree rest (λ s k. name k) toks r
name_read tree rest toks (Ok x) h = record { read = λ s k y d. names_at h d }
name_read tree rest toks (Err e) h = halts_at e AnyName (λ s k. name k) toks toks (λ s k other. names_not other) h

pub place_read : {X : Type 0} (tree : X → PlaceTree) (rest : X → List Token) (toks : List Token) (r : Result X Stop) → MatchResult r (λ x. toks ≡ Place (tree x).number (tree x).written ∷ rest x) (λ e. Misses AnyPlace toks e) → Read tree rest (λ s k. a_place k) toks r
place_read tree rest toks (Ok x) h = record { read = λ s k y d. places_at h d }
place_read tree rest toks (Err e) h = halts_at e AnyPlace (λ s k. a_place k) toks toks (λ s k other. places_not other) h

unbound_halts : (toks : List Token) (e : Stop) → Unbound toks e → Halts (λ s k. bind k) toks e
unbound_halts toks NoMemory h = tt
unbound_halts toks (At left) h = h

pub binding_read : {X : Type 0} (tree : X → Binding) (rest : X → List Token) (toks : List Token) (r : Result X Stop) → MatchResult r (λ x. Binds toks (tree x) (rest x)) (λ e. Unbound toks e) → Read tree rest (λ s k. bind k) toks r
binding_read tree rest toks (Ok x) h = record { read = λ s k y d. names_at h.head (eats (calls h.type d)) }
binding_read tree rest toks (Err e) h = unbound_halts toks e h

-- ---- phrases that have a token

pub arrow_starts : Starts (code ArrowName)
unfolding code
arrow_starts = (λ ts. (_, ts, refl), λ x ts. (_, ts, refl))

pub site_starts : Starts (code SiteStatement)
unfolding code
site_starts = (λ ts. (_, ts, refl), (λ ts. (_, ts, refl), λ ts. (_, ts, refl)))

pub cover_starts : Starts (code Cover)
unfolding code
cover_starts = λ ts. (_, ts, refl)

pub topology_starts : Starts (code Topology)
unfolding code
topology_starts = λ ts. (_, ts, refl)

pub section_starts : Starts (code Section)
unfolding code
section_starts = (λ ts. (_, ts, refl), λ ts. (_, ts, refl))

pub map_at_starts : Starts (code MapAt)
unfolding code
map_at_starts = λ ts. (_, ts, refl)

pub sent_starts : Starts (code Sent)
unfolding code
sent_starts = (λ ts. (_, ts, refl), λ ts. (_, ts, refl))

pub step_starts : Starts (code Step)
unfolding code
step_starts = λ r ts. (_, ts, refl)

-- ---- parts that have a token

pub passage_shorter : {X : Type 0} (o : Sort) (m : Passage (Tree o)) → Starts (m o (λ v. give v)) → (tree : X → Tree o) (rest : X → List lying.Token) (toks : List lying.Token) (r : Result X Stop) → Read tree (λ x. map token_of (rest x)) m (map token_of toks) r → IfOk r (λ x. length (rest x) < length toks)
passage_shorter o m starts tree rest toks (Ok x) h = shorter_by (m o (λ v. give v)) toks (rest x) (tree x) starts (h.read o (λ v. give v) (Whole (tree x) (map token_of (rest x))) gives)
passage_shorter o m starts tree rest toks (Err e) h = tt

pub entry_starts : Starts {u = OfEntry} (entry (λ v. give v))
entry_starts = λ x ts. (_, ts, refl)

pub mapping_starts : Starts {u = OfMapping} (mapping (λ v. give v))
mapping_starts = (λ ts h. some_element ts h, λ v e. absurd e)
  where
    some_element : (ts : List Token) → Is AnyName ts ⊎ Is AnyPlace ts → Is Any ts
    some_element ts (inl (x, us, e)) = (_, us, e)
    some_element ts (inr (n, x, us, e)) = (_, us, e)
