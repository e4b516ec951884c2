-- A variable that nothing binds.
use Rattle.std.proofs.Common.{◌≡◌, ℕ, zero, suc, ◌≤◌, List, [], ◌∷◌, length, get_or, refl, sym, ap, subst, arith}
use Rattle.finite_lists.proofs.Lists.{In_at}
use Rattle.topos_model.specs.declared.ty.Ty.{Ty, One}
use Rattle.topos_model.specs.declared.value.Val.{Val, Star}
use Rattle.topos_model.specs.declared.term.Term.{Var, Star as StarTerm}
use Rattle.topos_model.specs.formulas.Forcing.{World, Assigned, tuples, value, meaning}
use Rattle.functor_store.specs.Faithful.{Stands}
use Rattle.forcing_laws.specs.Tuples.{AreElements}
use Rattle.forcing_laws.proofs.TupleLists.{In_tuples}
use Rattle.truth_tables.specs.Standing.{tuple_at, IsNumberTable}

tuple_long : (w : World) (Γ : List Ty) (c : ℕ) (a : Assigned) → AreElements w Γ c a → length a ≡ length Γ
tuple_long w [] c [] h = refl
tuple_long w [] c (x ∷ a) h = absurd h
tuple_long w (T ∷ Γ) c [] h = absurd h
tuple_long w (T ∷ Γ) c (x ∷ a) h = ap suc (tuple_long w Γ c a h.2)

-- what stands beyond the end
pub beyond : {A : Type 0} (xs : List A) (k : ℕ) (d : A) → length xs ≤ k → get_or xs k d ≡ d
beyond [] k d far = refl
beyond (x ∷ xs) zero d far = absurd (omega (arith, far))
beyond (x ∷ xs) (suc k) d far = beyond xs k d (omega (arith, far))

pub unbound_type : (Γ : List Ty) (k : ℕ) → length Γ ≤ k → get_or Γ k One ≡ One
unbound_type Γ k far = beyond Γ k One far

pub unbound_stands : (w : World) (Γ : List Ty) (k : ℕ) (numbers : List (List ℕ)) → length Γ ≤ k → IsNumberTable w Γ One (value w StarTerm) numbers → IsNumberTable w Γ (get_or Γ k One) (value w (Var k)) numbers
unfolding meaning
unbound_stands w Γ k numbers far h =
    subst (λ U. IsNumberTable w Γ U (value w (Var k)) numbers) (sym (unbound_type Γ k far))
    (record {
      over = h.over;
      stands = λ c i low inside.
          let a : Assigned = tuple_at w Γ c i in
          let long : length a ≡ length Γ = tuple_long w Γ c a (In_tuples w Γ c a (In_at (tuples w Γ c) i [] inside)) in
          let same : Star ≡ (get_or a k (One, Star)).1 = ap (λ (x : Ty × Val). x.1) (sym (beyond a k (One, Star) (omega (arith, far, long)))) in
          subst (Stands w.site w.functors One c (get_or (get_or numbers c []) i 0)) same (h.stands c i low inside);
    })
