-- Values and forcing, a form of term at a time.
use Rattle.std.proofs.Common.{◌≡◌, ℕ, true, [], ◌∷◌, get_or, map, filter, refl}
use denote.Hole.Carrier
use Rattle.topos_model.specs.declared.ty.Ty.{Ty, One as OneTy}
use Rattle.topos_model.specs.declared.term.Term.{Term, Var, Star as StarTerm, Pair, Fst, Snd, App, Eval, Lam, Compr, Eq, Member, Truth, Falsity, And, Or, Implies, Not, Forall, Exists, Unique}
use Rattle.topos_model.specs.declared.term.Term.TheBlock.{hidden-the_row-Term-0}
use Rattle.topos_model.specs.declared.value.Val.{Star, Two, Sv, Sub, Fn}
use Rattle.topos_model.specs.categories.Category.{has}
use Rattle.topos_model.specs.types.Values.{same, first_of, second_of, arrows_of, entries_of, assigns_of}
use Rattle.topos_model.specs.types.Types.{in_entries, at_place, places}
use Rattle.topos_model.specs.formulas.Forcing.{World, Assigned, meaning, forces, value, values, source, along, onto, image_of, falsity_forced, and_forced, or_forced, implies_forced, not_forced, exists_forced, forall_forced, unique_forced}

module _ (w : World) where
  pub value-Var : (k : ℕ) (c : ℕ) (a : Assigned) → value w (Var k) c a ≡ (get_or a k (OneTy, Star)).1
  unfolding meaning hidden-the_row-Term-0 Carrier.hidden
  value-Var k c a = refl

  pub value-Star : (c : ℕ) (a : Assigned) → value w StarTerm c a ≡ Star
  unfolding meaning hidden-the_row-Term-0 Carrier.hidden
  value-Star c a = refl

  pub value-Pair : (t u : Term) (c : ℕ) (a : Assigned) → value w (Pair t u) c a ≡ Two (value w t c a) (value w u c a)
  unfolding meaning hidden-the_row-Term-0 Carrier.hidden
  value-Pair t u c a = refl

  pub value-Fst : (t : Term) (c : ℕ) (a : Assigned) → value w (Fst t) c a ≡ first_of (value w t c a)
  unfolding meaning hidden-the_row-Term-0 Carrier.hidden
  value-Fst t c a = refl

  pub value-Snd : (t : Term) (c : ℕ) (a : Assigned) → value w (Snd t) c a ≡ second_of (value w t c a)
  unfolding meaning hidden-the_row-Term-0 Carrier.hidden
  value-Snd t c a = refl

  pub value-App : (m : ℕ) (t : Term) (c : ℕ) (a : Assigned) → value w (App m t) c a ≡ image_of (value w t c a) (get_or (get_or w.maps m []) c [])
  unfolding meaning hidden-the_row-Term-0 Carrier.hidden
  value-App m t c a = refl

  pub value-Eval : (t u : Term) (c : ℕ) (a : Assigned) → value w (Eval t u) c a ≡ at_place c (value w u c a) (assigns_of (value w t c a))
  unfolding meaning hidden-the_row-Term-0 Carrier.hidden
  value-Eval t u c a = refl

  pub value-Lam : (T : Ty) (t : Term) (c : ℕ) (a : Assigned) → value w (Lam T t) c a ≡ Fn (map (λ e. record { arrow = e.arrow; val = e.val; to = value w t (source w e.arrow) ((T, e.val) ∷ along w e.arrow a) }) (places w.site (values w T) c))
  unfolding meaning hidden-the_row-Term-0 Carrier.hidden
  value-Lam T t c a = refl

  pub value-Compr : (T : Ty) (φ : Term) (c : ℕ) (a : Assigned) → value w (Compr T φ) c a ≡ Sub (filter (λ e. forces w φ (source w e.arrow) ((T, e.val) ∷ along w e.arrow a)) (places w.site (values w T) c))
  unfolding meaning hidden-the_row-Term-0 Carrier.hidden
  value-Compr T φ c a = refl

  pub forces-Eq : (t u : Term) (c : ℕ) (a : Assigned) → forces w (Eq t u) c a ≡ same (value w t c a) (value w u c a)
  unfolding meaning hidden-the_row-Term-0 Carrier.hidden
  forces-Eq t u c a = refl

  pub forces-Member : (t u : Term) (c : ℕ) (a : Assigned) → forces w (Member t u) c a ≡ in_entries c (value w t c a) (entries_of (value w u c a))
  unfolding meaning hidden-the_row-Term-0 Carrier.hidden
  forces-Member t u c a = refl

  pub forces-Truth : (c : ℕ) (a : Assigned) → forces w Truth c a ≡ true
  unfolding meaning hidden-the_row-Term-0 Carrier.hidden
  forces-Truth c a = refl

  pub forces-Falsity : (c : ℕ) (a : Assigned) → forces w Falsity c a ≡ falsity_forced w c a
  unfolding meaning hidden-the_row-Term-0 Carrier.hidden
  forces-Falsity c a = refl

  pub forces-And : (φ ψ : Term) (c : ℕ) (a : Assigned) → forces w (And φ ψ) c a ≡ and_forced w (forces w φ) (forces w ψ) c a
  unfolding meaning hidden-the_row-Term-0 Carrier.hidden
  forces-And φ ψ c a = refl

  pub forces-Or : (φ ψ : Term) (c : ℕ) (a : Assigned) → forces w (Or φ ψ) c a ≡ or_forced w (forces w φ) (forces w ψ) c a
  unfolding meaning hidden-the_row-Term-0 Carrier.hidden
  forces-Or φ ψ c a = refl

  pub forces-Implies : (φ ψ : Term) (c : ℕ) (a : Assigned) → forces w (Implies φ ψ) c a ≡ implies_forced w (forces w φ) (forces w ψ) c a
  unfolding meaning hidden-the_row-Term-0 Carrier.hidden
  forces-Implies φ ψ c a = refl

  pub forces-Not : (φ : Term) (c : ℕ) (a : Assigned) → forces w (Not φ) c a ≡ not_forced w (forces w φ) c a
  unfolding meaning hidden-the_row-Term-0 Carrier.hidden
  forces-Not φ c a = refl

  pub forces-Forall : (T : Ty) (φ : Term) (c : ℕ) (a : Assigned) → forces w (Forall T φ) c a ≡ forall_forced w T (forces w φ) c a
  unfolding meaning hidden-the_row-Term-0 Carrier.hidden
  forces-Forall T φ c a = refl

  pub forces-Exists : (T : Ty) (φ : Term) (c : ℕ) (a : Assigned) → forces w (Exists T φ) c a ≡ exists_forced w T (forces w φ) c a
  unfolding meaning hidden-the_row-Term-0 Carrier.hidden
  forces-Exists T φ c a = refl

  pub forces-Unique : (T : Ty) (φ : Term) (c : ℕ) (a : Assigned) → forces w (Unique T φ) c a ≡ unique_forced w T (forces w φ) c a
  unfolding meaning hidden-the_row-Term-0 Carrier.hidden
  forces-Unique T φ c a = refl

  -- the value of a formula is the sieve of the arrows along which it is forced
  pub value-Eq : (t u : Term) (c : ℕ) (a : Assigned) → value w (Eq t u) c a ≡ Sv (filter (λ f. forces w (Eq t u) (source w f) (along w f a)) (onto w c))
  unfolding meaning hidden-the_row-Term-0 Carrier.hidden
  value-Eq t u c a = refl

  pub value-Member : (t u : Term) (c : ℕ) (a : Assigned) → value w (Member t u) c a ≡ Sv (filter (λ f. forces w (Member t u) (source w f) (along w f a)) (onto w c))
  unfolding meaning hidden-the_row-Term-0 Carrier.hidden
  value-Member t u c a = refl

  pub value-Truth : (c : ℕ) (a : Assigned) → value w Truth c a ≡ Sv (filter (λ f. forces w Truth (source w f) (along w f a)) (onto w c))
  unfolding meaning hidden-the_row-Term-0 Carrier.hidden
  value-Truth c a = refl

  pub value-Falsity : (c : ℕ) (a : Assigned) → value w Falsity c a ≡ Sv (filter (λ f. forces w Falsity (source w f) (along w f a)) (onto w c))
  unfolding meaning hidden-the_row-Term-0 Carrier.hidden
  value-Falsity c a = refl

  pub value-And : (φ ψ : Term) (c : ℕ) (a : Assigned) → value w (And φ ψ) c a ≡ Sv (filter (λ f. forces w (And φ ψ) (source w f) (along w f a)) (onto w c))
  unfolding meaning hidden-the_row-Term-0 Carrier.hidden
  value-And φ ψ c a = refl

  pub value-Or : (φ ψ : Term) (c : ℕ) (a : Assigned) → value w (Or φ ψ) c a ≡ Sv (filter (λ f. forces w (Or φ ψ) (source w f) (along w f a)) (onto w c))
  unfolding meaning hidden-the_row-Term-0 Carrier.hidden
  value-Or φ ψ c a = refl

  pub value-Implies : (φ ψ : Term) (c : ℕ) (a : Assigned) → value w (Implies φ ψ) c a ≡ Sv (filter (λ f. forces w (Implies φ ψ) (source w f) (along w f a)) (onto w c))
  unfolding meaning hidden-the_row-Term-0 Carrier.hidden
  value-Implies φ ψ c a = refl

  pub value-Not : (φ : Term) (c : ℕ) (a : Assigned) → value w (Not φ) c a ≡ Sv (filter (λ f. forces w (Not φ) (source w f) (along w f a)) (onto w c))
  unfolding meaning hidden-the_row-Term-0 Carrier.hidden
  value-Not φ c a = refl

  pub value-Forall : (T : Ty) (φ : Term) (c : ℕ) (a : Assigned) → value w (Forall T φ) c a ≡ Sv (filter (λ f. forces w (Forall T φ) (source w f) (along w f a)) (onto w c))
  unfolding meaning hidden-the_row-Term-0 Carrier.hidden
  value-Forall T φ c a = refl

  pub value-Exists : (T : Ty) (φ : Term) (c : ℕ) (a : Assigned) → value w (Exists T φ) c a ≡ Sv (filter (λ f. forces w (Exists T φ) (source w f) (along w f a)) (onto w c))
  unfolding meaning hidden-the_row-Term-0 Carrier.hidden
  value-Exists T φ c a = refl

  pub value-Unique : (T : Ty) (φ : Term) (c : ℕ) (a : Assigned) → value w (Unique T φ) c a ≡ Sv (filter (λ f. forces w (Unique T φ) (source w f) (along w f a)) (onto w c))
  unfolding meaning hidden-the_row-Term-0 Carrier.hidden
  value-Unique T φ c a = refl

  -- a term of another form is forced where its value holds the identity
  pub forces-Var : (k : ℕ) (c : ℕ) (a : Assigned) → forces w (Var k) c a ≡ has c (arrows_of (value w (Var k) c a))
  unfolding meaning hidden-the_row-Term-0 Carrier.hidden
  forces-Var k c a = refl

  pub forces-Star : (c : ℕ) (a : Assigned) → forces w StarTerm c a ≡ has c (arrows_of (value w StarTerm c a))
  unfolding meaning hidden-the_row-Term-0 Carrier.hidden
  forces-Star c a = refl

  pub forces-Pair : (t u : Term) (c : ℕ) (a : Assigned) → forces w (Pair t u) c a ≡ has c (arrows_of (value w (Pair t u) c a))
  unfolding meaning hidden-the_row-Term-0 Carrier.hidden
  forces-Pair t u c a = refl

  pub forces-Fst : (t : Term) (c : ℕ) (a : Assigned) → forces w (Fst t) c a ≡ has c (arrows_of (value w (Fst t) c a))
  unfolding meaning hidden-the_row-Term-0 Carrier.hidden
  forces-Fst t c a = refl

  pub forces-Snd : (t : Term) (c : ℕ) (a : Assigned) → forces w (Snd t) c a ≡ has c (arrows_of (value w (Snd t) c a))
  unfolding meaning hidden-the_row-Term-0 Carrier.hidden
  forces-Snd t c a = refl

  pub forces-App : (m : ℕ) (t : Term) (c : ℕ) (a : Assigned) → forces w (App m t) c a ≡ has c (arrows_of (value w (App m t) c a))
  unfolding meaning hidden-the_row-Term-0 Carrier.hidden
  forces-App m t c a = refl

  pub forces-Eval : (t u : Term) (c : ℕ) (a : Assigned) → forces w (Eval t u) c a ≡ has c (arrows_of (value w (Eval t u) c a))
  unfolding meaning hidden-the_row-Term-0 Carrier.hidden
  forces-Eval t u c a = refl

  pub forces-Lam : (T : Ty) (t : Term) (c : ℕ) (a : Assigned) → forces w (Lam T t) c a ≡ has c (arrows_of (value w (Lam T t) c a))
  unfolding meaning hidden-the_row-Term-0 Carrier.hidden
  forces-Lam T t c a = refl

  pub forces-Compr : (T : Ty) (φ : Term) (c : ℕ) (a : Assigned) → forces w (Compr T φ) c a ≡ has c (arrows_of (value w (Compr T φ) c a))
  unfolding meaning hidden-the_row-Term-0 Carrier.hidden
  forces-Compr T φ c a = refl

  pub ruleset value_rules = (value-Var, value-Star, value-Pair, value-Fst, value-Snd, value-App, value-Eval, value-Lam, value-Compr, value-Eq, value-Member, value-Truth, value-Falsity, value-And, value-Or, value-Implies, value-Not, value-Forall, value-Exists, value-Unique)

  pub ruleset forcing_rules = (forces-Eq, forces-Member, forces-Truth, forces-Falsity, forces-And, forces-Or, forces-Implies, forces-Not, forces-Forall, forces-Exists, forces-Unique, forces-Var, forces-Star, forces-Pair, forces-Fst, forces-Snd, forces-App, forces-Eval, forces-Lam, forces-Compr)
