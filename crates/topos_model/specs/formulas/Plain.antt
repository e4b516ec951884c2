-- The formulas for which certificates are given.
use Rattle.std.specs.Prelude.{Bool, true, false, ◌&&◌}
use Rattle.topos_model.specs.declared.term.Term.{Term, Var, Star, Pair', Fst', Snd', App', Eval', Eq', Member', Truth, Falsity, And', Or', Implies', Not', Forall', Exists', Unique', more_of-Term as only, end_of-Term as end}

-- made of variables, the empty tuple, pairs, projections and applications
unfoldable pub is_simple : Term → Bool
is_simple (Var k) = true
is_simple Star = true
is_simple (Pair' _ (only t end) _ (only u end)) = is_simple t && is_simple u
is_simple (Fst' _ (only t end)) = is_simple t
is_simple (Snd' _ (only t end)) = is_simple t
is_simple (App' m _ (only t end)) = is_simple t
is_simple (Eval' _ (only t end) _ (only u end)) = is_simple t && is_simple u
is_simple _ = false

-- both sides of equations and memberships are simple, and so is each formula without connective, equation, membership or quantifier
unfoldable pub is_plain : Term → Bool
is_plain (Eq' _ (only t end) _ (only u end)) = is_simple t && is_simple u
is_plain (Member' _ (only t end) _ (only u end)) = is_simple t && is_simple u
is_plain Truth = true
is_plain Falsity = true
is_plain (And' _ (only φ end) _ (only ψ end)) = is_plain φ && is_plain ψ
is_plain (Or' _ (only φ end) _ (only ψ end)) = is_plain φ && is_plain ψ
is_plain (Implies' _ (only φ end) _ (only ψ end)) = is_plain φ && is_plain ψ
is_plain (Not' _ (only φ end)) = is_plain φ
is_plain (Forall' T _ (only φ end)) = is_plain φ
is_plain (Exists' T _ (only φ end)) = is_plain φ
is_plain (Unique' T _ (only φ end)) = is_plain φ
is_plain t = is_simple t
