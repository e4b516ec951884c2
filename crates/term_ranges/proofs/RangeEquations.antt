-- Ranges, a form of type and of term at a time.
use Rattle.std.proofs.Common.{◌≡◌, ℕ, true, ◌&&◌, ltb, refl}
use Rattle.std.proofs.Math.Bool.{and-true}
use Rattle.std.proofs.lemmas.List.Folds.{list_all-append}
use denote.Hole.Carrier
use Rattle.topos_model.specs.declared.ty.Ty.{Ty, Base, One, Omega, Two, Pow, Fun}
use Rattle.topos_model.specs.declared.ty.Ty.TheBlock.{hidden-the_row-Ty-0}
use Rattle.topos_model.specs.declared.term.Term.{Term, Var, Star, Pair, Fst, Snd, App, Eval, Lam, Compr, Eq, Member, Truth, Falsity, And, Or, Implies, Not, Forall, Exists, Unique}
use Rattle.topos_model.specs.declared.term.Term.TheBlock.{hidden-the_row-Term-0}
use Rattle.topos_model.specs.statements.Needs.{parts}
use Rattle.term_ranges.specs.Ranges.{is_part_in_range, is_type_in_range, is_term_in_range}

pub part_name : (n m : ℕ) → is_part_in_range n (Base m) ≡ ltb m n
unfolding is_part_in_range hidden-the_row-Ty-0 Carrier.hidden
part_name n m = refl

pub is_type_in_range-Base : (n m : ℕ) → is_type_in_range n (Base m) ≡ ltb m n
unfolding is_part_in_range is_type_in_range parts hidden-the_row-Ty-0 Carrier.hidden
is_type_in_range-Base n m = and-true (ltb m n)

pub is_type_in_range-One : (n : ℕ) → is_type_in_range n One ≡ true
unfolding is_part_in_range is_type_in_range parts hidden-the_row-Ty-0 Carrier.hidden
is_type_in_range-One n = refl

pub is_type_in_range-Omega : (n : ℕ) → is_type_in_range n Omega ≡ true
unfolding is_part_in_range is_type_in_range parts hidden-the_row-Ty-0 Carrier.hidden
is_type_in_range-Omega n = refl

pub is_type_in_range-Two : (n : ℕ) (S T : Ty) → is_type_in_range n (Two S T) ≡ (is_type_in_range n S && is_type_in_range n T)
unfolding is_part_in_range is_type_in_range parts hidden-the_row-Ty-0 Carrier.hidden
is_type_in_range-Two n S T = list_all-append (is_part_in_range n) (parts S) (parts T)

pub is_type_in_range-Pow : (n : ℕ) (T : Ty) → is_type_in_range n (Pow T) ≡ is_type_in_range n T
unfolding is_part_in_range is_type_in_range parts hidden-the_row-Ty-0 Carrier.hidden
is_type_in_range-Pow n T = refl

pub is_type_in_range-Fun : (n : ℕ) (S T : Ty) → is_type_in_range n (Fun S T) ≡ (is_type_in_range n S && is_type_in_range n T)
unfolding is_part_in_range is_type_in_range parts hidden-the_row-Ty-0 Carrier.hidden
is_type_in_range-Fun n S T = list_all-append (is_part_in_range n) (parts S) (parts T)

pub ruleset type_rules = (is_type_in_range-Base, is_type_in_range-One, is_type_in_range-Omega, is_type_in_range-Two, is_type_in_range-Pow, is_type_in_range-Fun)

module _ (n l : ℕ) where
  pub term-Var : (k : ℕ) → is_term_in_range n l (Var k) ≡ true
  unfolding is_term_in_range hidden-the_row-Term-0 Carrier.hidden
  term-Var k = refl

  pub term-Star : is_term_in_range n l Star ≡ true
  unfolding is_term_in_range hidden-the_row-Term-0 Carrier.hidden
  term-Star = refl

  pub term-Pair : (t u : Term) → is_term_in_range n l (Pair t u) ≡ (is_term_in_range n l t && is_term_in_range n l u)
  unfolding is_term_in_range hidden-the_row-Term-0 Carrier.hidden
  term-Pair t u = refl

  pub term-Fst : (t : Term) → is_term_in_range n l (Fst t) ≡ is_term_in_range n l t
  unfolding is_term_in_range hidden-the_row-Term-0 Carrier.hidden
  term-Fst t = refl

  pub term-Snd : (t : Term) → is_term_in_range n l (Snd t) ≡ is_term_in_range n l t
  unfolding is_term_in_range hidden-the_row-Term-0 Carrier.hidden
  term-Snd t = refl

  pub term-App : (m : ℕ) (t : Term) → is_term_in_range n l (App m t) ≡ (ltb m l && is_term_in_range n l t)
  unfolding is_term_in_range hidden-the_row-Term-0 Carrier.hidden
  term-App m t = refl

  pub term-Eval : (t u : Term) → is_term_in_range n l (Eval t u) ≡ (is_term_in_range n l t && is_term_in_range n l u)
  unfolding is_term_in_range hidden-the_row-Term-0 Carrier.hidden
  term-Eval t u = refl

  pub term-Lam : (T : Ty) (t : Term) → is_term_in_range n l (Lam T t) ≡ (is_type_in_range n T && is_term_in_range n l t)
  unfolding is_term_in_range hidden-the_row-Term-0 Carrier.hidden
  term-Lam T t = refl

  pub term-Compr : (T : Ty) (t : Term) → is_term_in_range n l (Compr T t) ≡ (is_type_in_range n T && is_term_in_range n l t)
  unfolding is_term_in_range hidden-the_row-Term-0 Carrier.hidden
  term-Compr T t = refl

  pub term-Eq : (t u : Term) → is_term_in_range n l (Eq t u) ≡ (is_term_in_range n l t && is_term_in_range n l u)
  unfolding is_term_in_range hidden-the_row-Term-0 Carrier.hidden
  term-Eq t u = refl

  pub term-Member : (t u : Term) → is_term_in_range n l (Member t u) ≡ (is_term_in_range n l t && is_term_in_range n l u)
  unfolding is_term_in_range hidden-the_row-Term-0 Carrier.hidden
  term-Member t u = refl

  pub term-Truth : is_term_in_range n l Truth ≡ true
  unfolding is_term_in_range hidden-the_row-Term-0 Carrier.hidden
  term-Truth = refl

  pub term-Falsity : is_term_in_range n l Falsity ≡ true
  unfolding is_term_in_range hidden-the_row-Term-0 Carrier.hidden
  term-Falsity = refl

  pub term-And : (t u : Term) → is_term_in_range n l (And t u) ≡ (is_term_in_range n l t && is_term_in_range n l u)
  unfolding is_term_in_range hidden-the_row-Term-0 Carrier.hidden
  term-And t u = refl

  pub term-Or : (t u : Term) → is_term_in_range n l (Or t u) ≡ (is_term_in_range n l t && is_term_in_range n l u)
  unfolding is_term_in_range hidden-the_row-Term-0 Carrier.hidden
  term-Or t u = refl

  pub term-Implies : (t u : Term) → is_term_in_range n l (Implies t u) ≡ (is_term_in_range n l t && is_term_in_range n l u)
  unfolding is_term_in_range hidden-the_row-Term-0 Carrier.hidden
  term-Implies t u = refl

  pub term-Not : (t : Term) → is_term_in_range n l (Not t) ≡ is_term_in_range n l t
  unfolding is_term_in_range hidden-the_row-Term-0 Carrier.hidden
  term-Not t = refl

  pub term-Forall : (T : Ty) (t : Term) → is_term_in_range n l (Forall T t) ≡ (is_type_in_range n T && is_term_in_range n l t)
  unfolding is_term_in_range hidden-the_row-Term-0 Carrier.hidden
  term-Forall T t = refl

  pub term-Exists : (T : Ty) (t : Term) → is_term_in_range n l (Exists T t) ≡ (is_type_in_range n T && is_term_in_range n l t)
  unfolding is_term_in_range hidden-the_row-Term-0 Carrier.hidden
  term-Exists T t = refl

  pub term-Unique : (T : Ty) (t : Term) → is_term_in_range n l (Unique T t) ≡ (is_type_in_range n T && is_term_in_range n l t)
  unfolding is_term_in_range hidden-the_row-Term-0 Carrier.hidden
  term-Unique T t = refl

  pub ruleset term_rules = (term-Var, term-Star, term-Pair, term-Fst, term-Snd, term-App, term-Eval, term-Lam, term-Compr, term-Eq, term-Member, term-Truth, term-Falsity, term-And, term-Or, term-Implies, term-Not, term-Forall, term-Exists, term-Unique)
