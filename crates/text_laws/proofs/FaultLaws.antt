-- A text has one fault at most, none where it spells a document within the limits, and spells one document at most.
use Rattle.std.proofs.Common.{◌≡◌, ◌<◌, ℕ, ◌+◌, List, [], ◌∷◌, ◌++◌, length, Option, None, Some, refl, sym, ap, ◌∙◌, subst, arith}
use Rattle.std.specs.Prelude.{Ok, Err}
use Rattle.std.proofs.lemmas.Str.{utf8_valid_len-IsValidUpTo}
use Rattle.topos_model.specs.declared.doc.Doc.{Doc}
use Rattle.topos_model.specs.declared.fault.Fault.{Fault}
use Rattle.topos_model.specs.declared.fault.Fault.TheVariants.{NotText, BadToken, Syntax}
use Rattle.topos_text.specs.Tokens.{Token}
use Rattle.topos_text.specs.Names.{Checked}
use Rattle.topos_text.specs.Limits.{token_fault}
use Rattle.topos_text.specs.Documents.{IsDocument}
use Rattle.topos_text.specs.Places.{Begins, IsSyntaxPlace}
use Rattle.topos_text.specs.Resolving.{resolved}
use Rattle.topos_text.specs.Laws.{TreesAreUnique}
use Rattle.topos_text.specs.TextFaults.{too_long, not_text, bad_token, too_many_in_tokens, no_document, at_name}
use Rattle.topos_tokens.proofs.Uniqueness.{tokens_are_unique, no_bad_token, text_is_valid, bad_tokens_are_one}
use Rattle.document_limits.specs.Laws.{text_limits, LimitedDocumentsFit}
use Rattle.text_laws.specs.Laws.{FaultsAreOne, SpelledTextsAreFaultless, DocumentsAreOne}

-- the place of a syntax fault

-- a longer front goes on with the next token
longer : (xs ys vs ws : List Token) → xs ++ ys ≡ vs ++ ws → length xs < length vs → (t : Token) × (zs : List Token) × (ys ≡ t ∷ zs ++ ws) × (vs ≡ xs ++ t ∷ zs)
longer [] ys [] ws e low = absurd (omega (arith, low))
longer [] ys (v ∷ vs) ws e low = (v, vs, e, refl)
longer (x ∷ xs) ys [] ws e low = absurd (omega (arith, low))
longer (x ∷ xs) ys (v ∷ vs) ws e low =
    let more = longer xs ys vs ws (tail e) (omega (arith, low)) in
    (more.0, more.1, more.2, ap (λ z. z ∷ vs) (sym (head e)) ∙ ap (λ z. x ∷ z) more.3)
  where
    tail : x ∷ (xs ++ ys) ≡ v ∷ (vs ++ ws) → xs ++ ys ≡ vs ++ ws
    tail p = cc

    head : x ∷ (xs ++ ys) ≡ v ∷ (vs ++ ws) → x ≡ v
    head p = cc

joined : (xs : List Token) (t : Token) (zs more : List Token) → (xs ++ t ∷ zs) ++ more ≡ (xs ++ t ∷ []) ++ (zs ++ more)
joined [] t zs more = refl
joined (x ∷ xs) t zs more = ap (λ z. x ∷ z) (joined xs t zs more)

begins_shorter : (xs : List Token) (t : Token) (zs : List Token) → Begins (xs ++ t ∷ zs) → Begins (xs ++ t ∷ [])
begins_shorter xs t zs b = record { more = zs ++ b.more; tree = b.tree; is_document = subst (λ ts. IsDocument ts b.tree) (joined xs t zs b.more) b.is_document }

not_before : (toks : List Token) (m n : ℕ) → IsSyntaxPlace toks m → IsSyntaxPlace toks n → m < n → ⊥
not_before toks m n a b low =
    let next = longer a.front a.rest b.front b.rest (sym a.parts ∙ b.parts) (omega (arith, low, a.number, b.number)) in
    a.first next.0 (next.1 ++ b.rest) next.2 (begins_shorter a.front next.0 next.1 (subst Begins next.3 b.begins))

places_are_one : (toks : List Token) (m n : ℕ) → IsSyntaxPlace toks m → IsSyntaxPlace toks n → m ≡ n
places_are_one toks m n a b = omega (arith, not_before toks m n a b, not_before toks n m b a)

-- what is found is one thing

some_same : (f g : Fault) → ◌≡◌ {A = Option Fault} (Some f) (Some g) → f ≡ g
some_same f g e = cc

err_same : (f g : Fault) → ◌≡◌ {A = Checked Doc} (Err f) (Err g) → f ≡ g
err_same f g e = cc

ok_same : (a b : Doc) → ◌≡◌ {A = Checked Doc} (Ok a) (Ok b) → a ≡ b
ok_same a b e = cc

ok_or_err : (a : Doc) (f : Fault) → ◌≡◌ {A = Checked Doc} (Ok a) (Err f) → ⊥
ok_or_err a f e = cc

some_or_none : (f : Fault) → ◌≡◌ {A = Option Fault} (Some f) None → ⊥
some_or_none f e = cc

-- texts

pub faults_are_one : TreesAreUnique → FaultsAreOne
faults_are_one trees bytes f g (too_long a) (too_long b) = refl
faults_are_one trees bytes f g (too_long a) (not_text s v) = absurd (omega (arith, a, s))
faults_are_one trees bytes f g (too_long a) (bad_token s u b) = absurd (omega (arith, a, s))
faults_are_one trees bytes f g (too_long a) (too_many_in_tokens s l h) = absurd (omega (arith, a, s))
faults_are_one trees bytes f g (too_long a) (no_document s l h p) = absurd (omega (arith, a, s))
faults_are_one trees bytes f g (too_long a) (at_name s l h d r) = absurd (omega (arith, a, s))
faults_are_one trees bytes f g (not_text s v) (too_long a) = absurd (omega (arith, a, s))
faults_are_one trees bytes f g (not_text {n = m} s v) (not_text {n = n} t w) = ap NotText (sym (utf8_valid_len-IsValidUpTo bytes m v) ∙ utf8_valid_len-IsValidUpTo bytes n w)
faults_are_one trees bytes f g (not_text {n = n} s v) (bad_token t u b) = absurd (text_is_valid bytes n v u)
faults_are_one trees bytes f g (not_text {n = n} s v) (too_many_in_tokens t l h) = absurd (text_is_valid bytes n v l.0)
faults_are_one trees bytes f g (not_text {n = n} s v) (no_document t l h p) = absurd (text_is_valid bytes n v l.0)
faults_are_one trees bytes f g (not_text {n = n} s v) (at_name t l h d r) = absurd (text_is_valid bytes n v l.0)
faults_are_one trees bytes f g (bad_token s u b) (too_long a) = absurd (omega (arith, a, s))
faults_are_one trees bytes f g (bad_token s u b) (not_text {n = n} t v) = absurd (text_is_valid bytes n v u)
faults_are_one trees bytes f g (bad_token {n = m} s u b) (bad_token {n = n} t v c) = ap BadToken (bad_tokens_are_one bytes m n b c)
faults_are_one trees bytes f g (bad_token s u b) (too_many_in_tokens {toks = ts} t l h) = absurd (no_bad_token _ ts b.tokens b.rest l.1 b.before b.bad)
faults_are_one trees bytes f g (bad_token s u b) (no_document {toks = ts} t l h p) = absurd (no_bad_token _ ts b.tokens b.rest l.1 b.before b.bad)
faults_are_one trees bytes f g (bad_token s u b) (at_name {toks = ts} t l h d r) = absurd (no_bad_token _ ts b.tokens b.rest l.1 b.before b.bad)
faults_are_one trees bytes f g (too_many_in_tokens s l h) (too_long a) = absurd (omega (arith, a, s))
faults_are_one trees bytes f g (too_many_in_tokens s l h) (not_text {n = n} t v) = absurd (text_is_valid bytes n v l.0)
faults_are_one trees bytes f g (too_many_in_tokens {toks = ts} s l h) (bad_token t u b) = absurd (no_bad_token _ ts b.tokens b.rest l.1 b.before b.bad)
faults_are_one trees bytes f g (too_many_in_tokens {toks = ts} s l h) (too_many_in_tokens {toks = us} t k j) =
    some_same f g (sym h ∙ ap (token_fault []) (tokens_are_unique bytes ts us l k) ∙ j)
faults_are_one trees bytes f g (too_many_in_tokens {toks = ts} s l h) (no_document {toks = us} t k j p) = absurd (some_or_none f (sym h ∙ ap (token_fault []) (tokens_are_unique bytes ts us l k) ∙ j))
faults_are_one trees bytes f g (too_many_in_tokens {toks = ts} s l h) (at_name {toks = us} t k j d r) = absurd (some_or_none f (sym h ∙ ap (token_fault []) (tokens_are_unique bytes ts us l k) ∙ j))
faults_are_one trees bytes f g (no_document s l h p) (too_long a) = absurd (omega (arith, a, s))
faults_are_one trees bytes f g (no_document s l h p) (not_text {n = n} t v) = absurd (text_is_valid bytes n v l.0)
faults_are_one trees bytes f g (no_document {toks = ts} s l h p) (bad_token t u b) = absurd (no_bad_token _ ts b.tokens b.rest l.1 b.before b.bad)
faults_are_one trees bytes f g (no_document {toks = ts} s l h p) (too_many_in_tokens {toks = us} t k j) = absurd (some_or_none g (sym j ∙ ap (token_fault []) (tokens_are_unique bytes us ts k l) ∙ h))
faults_are_one trees bytes f g (no_document {toks = ts} {place = m} s l h p) (no_document {toks = us} {place = n} t k j q) =
    ap Syntax (places_are_one us m n (subst (λ z. IsSyntaxPlace z m) (tokens_are_unique bytes ts us l k) p) q)
faults_are_one trees bytes f g (no_document {toks = ts} s l h p) (at_name {toks = us} {tree = tree} t k j d r) = absurd (p.none tree (subst (λ z. IsDocument z tree) (tokens_are_unique bytes us ts k l) d))
faults_are_one trees bytes f g (at_name s l h d r) (too_long a) = absurd (omega (arith, a, s))
faults_are_one trees bytes f g (at_name s l h d r) (not_text {n = n} t v) = absurd (text_is_valid bytes n v l.0)
faults_are_one trees bytes f g (at_name {toks = ts} s l h d r) (bad_token t u b) = absurd (no_bad_token _ ts b.tokens b.rest l.1 b.before b.bad)
faults_are_one trees bytes f g (at_name {toks = ts} s l h d r) (too_many_in_tokens {toks = us} t k j) = absurd (some_or_none g (sym j ∙ ap (token_fault []) (tokens_are_unique bytes us ts k l) ∙ h))
faults_are_one trees bytes f g (at_name {toks = ts} {tree = tree} s l h d r) (no_document {toks = us} t k j p) = absurd (p.none tree (subst (λ z. IsDocument z tree) (tokens_are_unique bytes ts us l k) d))
faults_are_one trees bytes f g (at_name {toks = ts} {tree = one} s l h d r) (at_name {toks = us} {tree = two} t k j e q) =
    err_same f g (sym r ∙ ap (resolved text_limits) (trees us one two (subst (λ z. IsDocument z one) (tokens_are_unique bytes ts us l k) d) e) ∙ q)

pub spelled_is_faultless : TreesAreUnique → LimitedDocumentsFit → SpelledTextsAreFaultless
spelled_is_faultless trees law bytes doc f h (too_long a) = omega (arith, a, h.len)
spelled_is_faultless trees law bytes doc f h (not_text {n = n} s v) = text_is_valid bytes n v h.spells.lex.0
spelled_is_faultless trees law bytes doc f h (bad_token s u b) = no_bad_token _ h.spells.tokens b.tokens b.rest h.spells.lex.1 b.before b.bad
spelled_is_faultless trees law bytes doc f h (too_many_in_tokens {toks = ts} s l j) = some_or_none f (sym j ∙ ap (token_fault []) (tokens_are_unique bytes ts h.spells.tokens l h.spells.lex) ∙ h.tokens)
spelled_is_faultless trees law bytes doc f h (no_document {toks = ts} s l j p) = p.none h.spells.tree (subst (λ z. IsDocument z h.spells.tree) (tokens_are_unique bytes h.spells.tokens ts h.spells.lex l) h.spells.derives)
spelled_is_faultless trees law bytes doc f h (at_name {toks = ts} {tree = tree} s l j d r) =
    let same = trees ts h.spells.tree tree (subst (λ z. IsDocument z h.spells.tree) (tokens_are_unique bytes h.spells.tokens ts h.spells.lex l) h.spells.derives) d in
    ok_or_err doc f (sym ((law h.spells.tree doc).1 (h.spells.resolves, h.fits)) ∙ ap (resolved text_limits) same ∙ r)

pub documents_are_one : TreesAreUnique → DocumentsAreOne
documents_are_one trees bytes doc other a b =
    let same = trees b.tokens a.tree b.tree (subst (λ z. IsDocument z a.tree) (tokens_are_unique bytes a.tokens b.tokens a.lex b.lex) a.derives) b.derives in
    ok_same doc other (sym a.resolves ∙ ap (resolved (λ kind. None)) same ∙ b.resolves)
