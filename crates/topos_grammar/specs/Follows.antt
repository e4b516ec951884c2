-- What may stand behind a phrase.
use Rattle.std.specs.Prelude.{◌<◌, ℕ, Bool, true, false, List, ◌∷◌}
use Rattle.topos_text.specs.declared.word.Word.TheVariants as word
use Rattle.topos_text.specs.declared.symbol.Symbol.TheVariants as symbol
use Rattle.topos_text.specs.Tokens.{Token, Reserved, Sign}
use Rattle.topos_text.specs.Terms.{ends_with_body}
use Rattle.topos_grammar.specs.Kinds.{Sort, Tree, Kind, AnyType, ProductType, MoreFactors, PrefixType, AnyTerm, Disjunction, MoreDisjuncts, Conjunction, MoreConjuncts, Negation, BinderTerm, Comparison, Application, MoreArguments, Atom, Parentheses, Context, ArrowName, SiteStatement, Cover, Covers, Topology, Section, Element, MapAt, Sent, Under, Step, Statement}
use Rattle.topos_grammar.specs.Codes.{Is, sign, the}

-- how loosely the token in front binds
abbrev pub type_level : List Token → ℕ
type_level (Sign symbol.Star ∷ ts) = 1
type_level (Sign symbol.Arrow ∷ ts) = 2
type_level _ = 3

abbrev pub level : List Token → ℕ
level (Sign symbol.OpenParenthesis ∷ ts) = 1
level (Sign symbol.Equals ∷ ts) = 2
level (Reserved word.In ∷ ts) = 2
level (Reserved word.And ∷ ts) = 3
level (Reserved word.Or ∷ ts) = 4
level (Sign symbol.Implies ∷ ts) = 5
level _ = 6

-- the level up to which a token behind the phrase would go on with it, also where it ends with a body
abbrev pub limit : ℕ → Bool → ℕ
limit n true = 5
limit n false = n

-- the tokens may stand behind a phrase of the kind with the tree
abbrev pub Follow : {s : Sort} → Kind s → Tree s → List Token → Type 0
Follow AnyType t ts = 2 < type_level ts
Follow ProductType t ts = 1 < type_level ts
Follow (MoreFactors R) t ts = 1 < type_level ts
Follow PrefixType t ts = Unit {0}
Follow AnyTerm t ts = 5 < level ts
Follow Disjunction t ts = limit 4 (ends_with_body t) < level ts
Follow (MoreDisjuncts r) t ts = limit 4 (ends_with_body t) < level ts
Follow Conjunction t ts = limit 3 (ends_with_body t) < level ts
Follow (MoreConjuncts r) t ts = limit 3 (ends_with_body t) < level ts
Follow Negation t ts = limit 2 (ends_with_body t) < level ts
Follow BinderTerm t ts = limit 2 (ends_with_body t) < level ts
Follow Comparison t ts = 2 < level ts
Follow Application t ts = 1 < level ts
Follow (MoreArguments r) t ts = 1 < level ts
Follow Atom t ts = Unit {0}
Follow Parentheses t ts = Unit {0}
Follow Context t ts = Is (sign symbol.Bar) ts
Follow ArrowName t ts = Unit {0}
Follow SiteStatement t ts = Is (sign symbol.Semicolon) ts
Follow Cover t ts = Is (sign symbol.Semicolon) ts
Follow Covers t ts = (Is (the word.Topology) ts → ⊥) × (Is (the word.Cover) ts → ⊥)
Follow Topology t ts = Is (sign symbol.Semicolon) ts
Follow Section t ts = Is (sign symbol.Semicolon) ts
Follow Element t ts = Unit {0}
Follow MapAt t ts = Is (sign symbol.Semicolon) ts
Follow Sent t ts = Is (sign symbol.Semicolon) ts
Follow (Under v) t ts = Is (the word.Under) ts → ⊥
Follow Step t ts = Is (sign symbol.Semicolon) ts
Follow (Statement v) t ts = Is (sign symbol.Semicolon) ts
