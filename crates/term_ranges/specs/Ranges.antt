-- Types and terms whose numbers are in range.
use Rattle.std.specs.Prelude.{ℕ, Bool, true, ◌&&◌, ltb}
use Rattle.std.specs.List.{list_all}
use Rattle.topos_model.specs.declared.ty.Ty.{Ty, Base}
use Rattle.topos_model.specs.declared.term.Term.{Term, Pair', Fst', Snd', App', Eval', Lam', Compr', Eq', Member', And', Or', Implies', Not', Forall', Exists', Unique', more_of-Term as only, end_of-Term as end}
use Rattle.topos_model.specs.statements.Needs.{parts}

-- if it is the name of a functor, then of one of the first n
unfoldable pub is_part_in_range : ℕ → Ty → Bool
is_part_in_range n (Base m) = ltb m n
is_part_in_range n _ = true

-- each functor that a type names is one of the first n
unfoldable pub is_type_in_range : ℕ → Ty → Bool
is_type_in_range n T = list_all (is_part_in_range n) (parts T)

module _ (functors maps : ℕ) where
  -- each functor that the types of a term's binders name, and each map that it applies, is among the first ones
  unfoldable pub is_term_in_range : Term → Bool
  is_term_in_range (Pair' _ (only t end) _ (only u end)) = is_term_in_range t && is_term_in_range u
  is_term_in_range (Fst' _ (only t end)) = is_term_in_range t
  is_term_in_range (Snd' _ (only t end)) = is_term_in_range t
  is_term_in_range (App' m _ (only t end)) = ltb m maps && is_term_in_range t
  is_term_in_range (Eval' _ (only t end) _ (only u end)) = is_term_in_range t && is_term_in_range u
  is_term_in_range (Lam' T _ (only t end)) = is_type_in_range functors T && is_term_in_range t
  is_term_in_range (Compr' T _ (only t end)) = is_type_in_range functors T && is_term_in_range t
  is_term_in_range (Eq' _ (only t end) _ (only u end)) = is_term_in_range t && is_term_in_range u
  is_term_in_range (Member' _ (only t end) _ (only u end)) = is_term_in_range t && is_term_in_range u
  is_term_in_range (And' _ (only t end) _ (only u end)) = is_term_in_range t && is_term_in_range u
  is_term_in_range (Or' _ (only t end) _ (only u end)) = is_term_in_range t && is_term_in_range u
  is_term_in_range (Implies' _ (only t end) _ (only u end)) = is_term_in_range t && is_term_in_range u
  is_term_in_range (Not' _ (only t end)) = is_term_in_range t
  is_term_in_range (Forall' T _ (only t end)) = is_type_in_range functors T && is_term_in_range t
  is_term_in_range (Exists' T _ (only t end)) = is_type_in_range functors T && is_term_in_range t
  is_term_in_range (Unique' T _ (only t end)) = is_type_in_range functors T && is_term_in_range t
  is_term_in_range _ = true
