-- Reading against phrases.
use Rattle.std.proofs.Common.{◌≡◌, List, [], ◌∷◌, ◌++◌, sym, ap, subst, ◌∙◌, arith}
use Rattle.std.proofs.lemmas.List.{append-nil}
use Rattle.topos_text.specs.Tokens.{Token}
use Rattle.topos_text.specs.Phrases.{Part}
use Rattle.topos_text.specs.Documents.{Derives, nothing}
use Rattle.topos_grammar.specs.Kinds.{Sort, Tree, Kind, part, Side}
use Rattle.topos_grammar.specs.Codes.{code}
use Rattle.topos_grammar.specs.Reading.{Whole, Stops, Reading, Reads}
use Rattle.topos_grammar.specs.Follows.{Follow}
use Rattle.topos_grammar.specs.Places.{IsPhrase, BeginsWith, StopsThere}
use Rattle.topos_grammar.proofs.Accepting.{derive_by, size, undone, none}
use Rattle.topos_grammar.proofs.Sides.{side_of}
use Rattle.topos_grammar.proofs.Meaning.{meaning}
use Rattle.topos_grammar.proofs.Completeness.{complete}
use Rattle.topos_grammar.proofs.Uniqueness.{unique, again, whole_not_stop}

phrase_of : {s : Sort} (K : Kind s) (v : Tree s) (side : List Part) (xs : List Token) → Side K v side → Derives side xs → IsPhrase K xs v
phrase_of K v side xs r d = subst (λ z. Derives (part K v ∷ []) z) (append-nil xs) (derive_by K v r d nothing)

pub derives : (s : Sort) (K : Kind s) (toks rest : List Token) (t : Tree s) → Reads (code K) toks (Whole t rest) → (front : List Token) × (toks ≡ front ++ rest) × IsPhrase K front t
derives s K toks rest t d = let m = meaning d in (m.front, m.parts, phrase_of K t m.side m.front (side_of K t m.side m.accepts) m.derives)

pub reads : (s : Sort) (K : Kind s) (t : Tree s) (phrase rest : List Token) → IsPhrase K phrase t → Follow K t rest → Reads (code K) (phrase ++ rest) (Whole t rest)
reads s K t phrase rest d follows =
    let u = undone (size d) K t [] phrase (d, omega arith) in
    let is : u.front ≡ phrase = sym (append-nil u.front) ∙ ap (λ z. u.front ++ z) (sym (none u.less u.rest u.others)) ∙ sym u.parts in
    subst (λ z. Reading s (code K) (z ++ rest) (Whole t rest)) is (complete K t u.side u.front rest u.right_side u.first.0 follows)

pub stops : (s : Sort) (K : Kind s) (toks rest : List Token) → Reads (code K) toks (Stops rest) → StopsThere K toks rest
stops s K toks rest d =
    let m = meaning d in
    record {
      front = m.front;
      parts = m.parts;
      is_front = record { more = m.more; tree = m.tree; is_phrase = phrase_of K m.tree m.side (m.front ++ m.more) (side_of K m.tree m.side m.accepts) m.derives };
      first = λ t behind more is b. absurd (no_more t behind more is m.front m.parts b);
      none = λ b. absurd (whole_not_stop b.tree b.rest rest (unique (subst (λ z. Reading s (code K) z (Whole b.tree b.rest)) (sym b.parts) (reads s K b.tree b.phrase b.rest b.is_phrase b.follows)) (Stops rest) d));
    }
  where
    no_more : (t : Token) (behind more : List Token) → rest ≡ t ∷ behind → (front : List Token) → toks ≡ front ++ rest → BeginsWith K (front ++ t ∷ more) → ⊥
    no_more t behind more is front parts b =
        let there : Reading s (code K) (front ++ t ∷ more) (Stops (t ∷ more)) = again t behind more front d (parts ∙ ap (λ z. front ++ z) is) is in
        let whole : Reading s (code K) (front ++ t ∷ more) (Whole b.tree b.rest) = subst (λ z. Reading s (code K) z (Whole b.tree b.rest)) (sym b.parts) (reads s K b.tree b.phrase b.rest b.is_phrase b.follows) in
        whole_not_stop b.tree b.rest (t ∷ more) (unique whole (Stops (t ∷ more)) there)
