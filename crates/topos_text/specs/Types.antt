-- The grammar of types. `*` groups to the left, `->` to the right.
use Rattle.std.specs.Prelude.{List, [], ◌∷◌}
use Rattle.topos_text.specs.declared.word.Word.TheVariants as word
use Rattle.topos_text.specs.declared.symbol.Symbol.TheVariants as symbol
use Rattle.topos_text.specs.Tokens.{Written}
use Rattle.topos_text.specs.Trees.{TypeTree, Functor, One, Omega, Power, Product, Function}
use Rattle.topos_text.specs.Phrases.{Part, TypePhrase, type, AnyType, ProductType, MoreFactors, PrefixType, the, sign, name}

-- A right side of a phrase of types.
pub data TypeSide : TypePhrase → List Part → Type 0 where
  -- type = product [ "->" type ]
  product_alone : {T : TypeTree} → TypeSide (AnyType T) (type (ProductType T) ∷ [])
  function : {S T : TypeTree} → TypeSide (AnyType (Function S T)) (type (ProductType S) ∷ sign symbol.Arrow ∷ type (AnyType T) ∷ [])
  -- product = prefix {{ "*" prefix }}
  product : {S T : TypeTree} → TypeSide (ProductType T) (type (PrefixType S) ∷ type (MoreFactors S T) ∷ [])
  product_end : {T : TypeTree} → TypeSide (MoreFactors T T) []
  product_more : {R S T : TypeTree} → TypeSide (MoreFactors R T) (sign symbol.Star ∷ type (PrefixType S) ∷ type (MoreFactors (Product R S) T) ∷ [])
  -- prefix = "Pow" prefix | NAME | "One" | "Omega" | "(" type ")"
  power : {T : TypeTree} → TypeSide (PrefixType (Power T)) (the word.Pow ∷ type (PrefixType T) ∷ [])
  functor : {x : Written} → TypeSide (PrefixType (Functor x)) (name x ∷ [])
  one : TypeSide (PrefixType One) (the word.One ∷ [])
  omega : TypeSide (PrefixType Omega) (the word.Omega ∷ [])
  group : {T : TypeTree} → TypeSide (PrefixType T) (sign symbol.OpenParenthesis ∷ type (AnyType T) ∷ sign symbol.CloseParenthesis ∷ [])
