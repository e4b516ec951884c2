use Rattle.std.proofs.Common.{◌≡◌, ◌<◌, ℕ, true, [], ◌∷◌, ◌++◌, List, Option, Some, None, length, inl, inr, sym, subst, ◌∙◌}
use Rattle.std.specs.Prelude.{MatchOption}
use Rattle.std.specs.Option.{is_some}
use Rattle.std.proofs.lemmas.Bool.{false≢true}
use Rattle.topos_model.specs.declared.ty.Ty.{Ty, Base, Omega}
use Rattle.finite_lists.specs.Members.{In}
use Rattle.finite_lists.proofs.Lists.{In-append_cases}
use Rattle.topos_model.specs.statements.Needs.{parts}
use Rattle.functor_store.specs.Store.{Store, functor_at, IsFreeKey}
use Rattle.functor_store.specs.Faithful.{Holds}
use Rattle.type_rows.specs.TypeRows.{HoldsNamed}
use Rattle.exponentials.specs.Needed.{HoldsOmega}
use Rattle.exponentials.proofs.PartsOf.{base_parts, one_parts, omega_parts, two_parts, fun_parts, pow_parts}
use Rattle.exponentials.proofs.tests.+is_ready.Goals as goal

abbrev Ready : Store → Ty → Type 0
Ready store T = HoldsNamed store T × HoldsOmega store T

found : (store : Store) (T : Ty) (o : Option ℕ) → MatchOption o (IsFreeKey store.sealed T) (λ id. (id < length store.sealed) × ((functor_at store.sealed id).key ≡ T)) → is_some o ≡ true → Holds store T
found store T (Some id) h e = (id, h.0, h.1)
found store T None h e = absurd (false≢true e)

-- a type that is its only part
ready_here : (store : Store) (T : Ty) → parts T ≡ (T ∷ []) → Holds store T → Ready store T
ready_here store T are h = (
  λ n i. elim (subst (λ l. In l (Base n)) are i) [ inl e ↦ subst (Holds store) e h | inr k ↦ absurd k ],
  λ i. elim (subst (λ l. In l Omega) are i) [ inl e ↦ subst (Holds store) e h | inr k ↦ absurd k ],
)

-- a type that is made of others
ready_behind : (store : Store) (T : Ty) (rest : List Ty) → parts T ≡ (T ∷ rest) → ((n : ℕ) → T ≡ Base n → ⊥) → (T ≡ Omega → ⊥) → ((n : ℕ) → In rest (Base n) → Holds store (Base n)) → (In rest Omega → Holds store Omega) → Ready store T
ready_behind store T rest are no_base no_omega named omega = (
  λ n i. elim (subst (λ l. In l (Base n)) are i) [ inl e ↦ absurd (no_base n e) | inr k ↦ named n k ],
  λ i. elim (subst (λ l. In l Omega) are i) [ inl e ↦ absurd (no_omega e) | inr k ↦ omega k ],
)

ready_both : (store : Store) (T g h : Ty) → parts T ≡ (T ∷ parts g ++ parts h) → ((n : ℕ) → T ≡ Base n → ⊥) → (T ≡ Omega → ⊥) → Ready store g → Ready store h → Ready store T
ready_both store T g h are no_base no_omega first second =
    ready_behind store T (parts g ++ parts h) are no_base no_omega
    (λ n i. elim (In-append_cases (parts g) (parts h) (Base n) i) [ inl a ↦ first.0 n a | inr b ↦ second.0 n b ])
    (λ i. elim (In-append_cases (parts g) (parts h) Omega i) [ inl a ↦ first.1 a | inr b ↦ second.1 b ])

pub returns-in-Base : goal.returns-in-Base
returns-in-Base t c = λ e.
    let store = c.args.store.now in
    let T = c.args.ty.now in
    ready_here store T (base_parts T c.in-Base.field-0 c.in-Base.is) (found store T c.find.result c.find.ensures.place (sym c.is_some.ensures ∙ e))

pub returns-in-Omega : goal.returns-in-Omega
returns-in-Omega t c = λ e.
    let store = c.args.store.now in
    let T = c.args.ty.now in
    ready_here store T (omega_parts T c.in-Omega.is) (found store T c.find-in-Omega.result c.find-in-Omega.ensures.place (sym c.is_some-in-Omega.ensures ∙ e))

pub returns-in-One : goal.returns-in-One
returns-in-One t c = λ e.
    let T = c.args.ty.now in
    ready_behind c.args.store.now T [] (one_parts T c.in-One.is) (λ n d. cc (c.in-One.is, d)) (λ d. cc (c.in-One.is, d)) (λ n i. absurd i) (λ i. absurd i)

pub returns-then-is_ready : goal.returns-then-is_ready
returns-then-is_ready t c = λ e.
    let T = c.args.ty.now in
    let g = c.get.result.now in
    let h = c.get-then-is_ready.result.now in
    ready_both c.args.store.now T g h (two_parts T c.in-Two.left c.in-Two.right g h c.in-Two.is c.get.ensures c.get-then-is_ready.ensures) (λ n d. cc (c.in-Two.is, d)) (λ d. cc (c.in-Two.is, d))
    (c.is_ready.ensures c.if-is_ready.true) (c.is_ready-then-is_ready.ensures e)

pub returns-in-Pow : goal.returns-in-Pow
returns-in-Pow t c = λ e.
    let T = c.args.ty.now in
    let g = c.get-in-Pow.result.now in
    let part = c.is_ready-in-Pow.ensures e in
    ready_behind c.args.store.now T (parts g) (pow_parts T c.in-Pow.of g c.in-Pow.is c.get-in-Pow.ensures) (λ n d. cc (c.in-Pow.is, d)) (λ d. cc (c.in-Pow.is, d)) part.0 part.1

pub returns-then-is_ready-2 : goal.returns-then-is_ready-2
returns-then-is_ready-2 t c = λ e.
    let T = c.args.ty.now in
    let g = c.get-in-Fun.result.now in
    let h = c.get-then-is_ready-2.result.now in
    ready_both c.args.store.now T g h (fun_parts T c.in-Fun.from c.in-Fun.to g h c.in-Fun.is c.get-in-Fun.ensures c.get-then-is_ready-2.ensures) (λ n d. cc (c.in-Fun.is, d)) (λ d. cc (c.in-Fun.is, d))
    (c.is_ready-in-Fun.ensures c.if-is_ready-2.true) (c.is_ready-then-is_ready-2.ensures e)
