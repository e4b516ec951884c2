-- The grammar of terms. `or` and `and` group to the left, `=>` to the right, and the body of a binder is the longest one possible.
use Rattle.std.specs.Prelude.{◌≡◌, Bool, true, false, List, [], ◌∷◌}
use Rattle.topos_text.specs.declared.word.Word.{Word}
use Rattle.topos_text.specs.declared.word.Word.TheVariants as word
use Rattle.topos_text.specs.declared.symbol.Symbol.TheVariants as symbol
use Rattle.topos_text.specs.Tokens.{Written}
use Rattle.topos_text.specs.Trees.{Binding, Binder, Forall, Exists, Unique, Fun, TermTree, Named, Truth, Falsity, Unit, Grouped, Paired, First, Second, Applied, Subset, Equal, Member, Not, And, Or, Implies, Bound}
use Rattle.topos_text.specs.Phrases.{Part, TermPhrase, type, term, AnyType, AnyTerm, Disjunction, MoreDisjuncts, Conjunction, MoreConjuncts, Negation, BinderTerm, Comparison, Application, MoreArguments, Atom, Parentheses, Context, the, sign, name, commas, binding}

-- Whether the term ends with the body of a binder. Then neither `or` nor `and` nor `=>` may stand behind it: it would belong to that body.
unfoldable pub ends_with_body : TermTree → Bool
ends_with_body (Bound binder b t) = true
ends_with_body (Not t) = ends_with_body t
ends_with_body (And s t) = ends_with_body t
ends_with_body (Or s t) = ends_with_body t
ends_with_body (Implies s t) = ends_with_body t
ends_with_body _ = false

abbrev pub binder_word : Binder → Word
binder_word Forall = word.Forall
binder_word Exists = word.Exists
binder_word Unique = word.Unique
binder_word Fun = word.Fun

-- A right side of a phrase of terms.
pub data TermSide : TermPhrase → List Part → Type 0 where
  -- term = disjunction [ "=>" term ]
  alone : {t : TermTree} → TermSide (AnyTerm t) (term (Disjunction t) ∷ [])
  implication : {s t : TermTree} → ends_with_body s ≡ false → TermSide (AnyTerm (Implies s t)) (term (Disjunction s) ∷ sign symbol.Implies ∷ term (AnyTerm t) ∷ [])
  -- disjunction = conjunction {{ "or" conjunction }}
  disjunction : {s t : TermTree} → TermSide (Disjunction t) (term (Conjunction s) ∷ term (MoreDisjuncts s t) ∷ [])
  disjunction_end : {t : TermTree} → TermSide (MoreDisjuncts t t) []
  disjunction_more : {r s t : TermTree} → ends_with_body r ≡ false → TermSide (MoreDisjuncts r t) (the word.Or ∷ term (Conjunction s) ∷ term (MoreDisjuncts (Or r s) t) ∷ [])
  -- conjunction = negation {{ "and" negation }}
  conjunction : {s t : TermTree} → TermSide (Conjunction t) (term (Negation s) ∷ term (MoreConjuncts s t) ∷ [])
  conjunction_end : {t : TermTree} → TermSide (MoreConjuncts t t) []
  conjunction_more : {r s t : TermTree} → ends_with_body r ≡ false → TermSide (MoreConjuncts r t) (the word.And ∷ term (Negation s) ∷ term (MoreConjuncts (And r s) t) ∷ [])
  -- negation = "not" negation | bound | comparison
  negation : {t : TermTree} → TermSide (Negation (Not t)) (the word.Not ∷ term (Negation t) ∷ [])
  quantified : {t : TermTree} → TermSide (Negation t) (term (BinderTerm t) ∷ [])
  compared : {t : TermTree} → TermSide (Negation t) (term (Comparison t) ∷ [])
  -- bound = ("forall" | "exists" | "unique" | "fun") NAME ":" type "." term
  bound : {binder : Binder} {b : Binding} {t : TermTree}
      → TermSide (BinderTerm (Bound binder b t)) (the (binder_word binder) ∷ name b.variable ∷ sign symbol.Colon ∷ type (AnyType b.type) ∷ sign symbol.Dot ∷ term (AnyTerm t) ∷ [])
  -- comparison = application [ ("=" | "in") application ]
  uncompared : {t : TermTree} → TermSide (Comparison t) (term (Application t) ∷ [])
  equal : {s t : TermTree} → TermSide (Comparison (Equal s t)) (term (Application s) ∷ sign symbol.Equals ∷ term (Application t) ∷ [])
  member : {s t : TermTree} → TermSide (Comparison (Member s t)) (term (Application s) ∷ the word.In ∷ term (Application t) ∷ [])
  -- application = atom {{ parentheses }}
  application : {s t : TermTree} → TermSide (Application t) (term (Atom s) ∷ term (MoreArguments s t) ∷ [])
  application_end : {t : TermTree} → TermSide (MoreArguments t t) []
  application_more : {r s t : TermTree} → TermSide (MoreArguments r t) (term (Parentheses s) ∷ term (MoreArguments (Applied r s) t) ∷ [])
  -- atom = NAME | "true" | "false" | parentheses | "{" NAME ":" type "|" term "}" | ("fst" | "snd") "(" term ")"
  named : {x : Written} → TermSide (Atom (Named x)) (name x ∷ [])
  truth : TermSide (Atom Truth) (the word.True ∷ [])
  falsity : TermSide (Atom Falsity) (the word.False ∷ [])
  in_parentheses : {t : TermTree} → TermSide (Atom t) (term (Parentheses t) ∷ [])
  subset : {b : Binding} {t : TermTree}
      → TermSide (Atom (Subset b t)) (sign symbol.OpenBrace ∷ name b.variable ∷ sign symbol.Colon ∷ type (AnyType b.type) ∷ sign symbol.Bar ∷ term (AnyTerm t) ∷ sign symbol.CloseBrace ∷ [])
  first : {t : TermTree} → TermSide (Atom (First t)) (the word.Fst ∷ sign symbol.OpenParenthesis ∷ term (AnyTerm t) ∷ sign symbol.CloseParenthesis ∷ [])
  second : {t : TermTree} → TermSide (Atom (Second t)) (the word.Snd ∷ sign symbol.OpenParenthesis ∷ term (AnyTerm t) ∷ sign symbol.CloseParenthesis ∷ [])
  -- parentheses = "(" ")" | "(" term ")" | "(" term "," term ")"
  unit : TermSide (Parentheses Unit) (sign symbol.OpenParenthesis ∷ sign symbol.CloseParenthesis ∷ [])
  group : {t : TermTree} → TermSide (Parentheses (Grouped t)) (sign symbol.OpenParenthesis ∷ term (AnyTerm t) ∷ sign symbol.CloseParenthesis ∷ [])
  pair : {s t : TermTree} → TermSide (Parentheses (Paired s t)) (sign symbol.OpenParenthesis ∷ term (AnyTerm s) ∷ sign symbol.Comma ∷ term (AnyTerm t) ∷ sign symbol.CloseParenthesis ∷ [])
  -- context = [ NAME ":" type {{ "," NAME ":" type }} ]
  no_variable : TermSide (Context []) []
  variables : {b : Binding} {bs : List Binding} → TermSide (Context (b ∷ bs)) (commas binding b bs)
