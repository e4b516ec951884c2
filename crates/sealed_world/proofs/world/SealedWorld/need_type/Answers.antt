use Rattle.std.proofs.Common.{◌≡◌, true, inl, inr, [], ◌∷◌, refl, sym, subst, ◌∙◌, arith}
use Rattle.std.proofs.lemmas.Result.{on_ok_weaker, on_err_weaker}
use Rattle.finite_lists.specs.Members.{In}
use Rattle.topos_model.specs.declared.ty.Ty.{Ty, Omega}
use Rattle.topos_model.specs.statements.Needs.{parts}
use Rattle.sealed_world.proofs.OmegaParts.{mentions, mentioned_In, In_mentioned, omega_unnamed}
use Rattle.sealed_world.proofs.Growing.{not_grown, grown_more, grown_on, no_more, no_less, budget_kept, over_kept, over_same}
use Rattle.sealed_world.proofs.world.SealedWorld.need_type.Goals as goal

-- the type of truth values is a part
among : (T : Ty) → mentions T ≡ true → (U : Ty) → In (Omega ∷ []) U → In (parts T) U
among T e U i = elim i [ inl same ↦ subst (In (parts T)) same (mentioned_In T e) | inr n ↦ absurd n ]

pub need_parts-requires-clause-omega : goal.need_parts-requires-clause-omega
need_parts-requires-clause-omega c = λ i. absurd (In_mentioned c.args.ty.now (sym c.has_omega.ensures ∙ c.if-not-has_omega.true) i)

pub need_parts-requires-2-clause-omega : goal.need_parts-requires-2-clause-omega
need_parts-requires-2-clause-omega c = λ i. c.in_default.ensures.ok.all Omega (inl refl) omega_unnamed

pub returns-in-Err-clause-over : goal.returns-in-Err-clause-over
returns-in-Err-clause-over c =
    let now = c.args.self.now in
    let T = c.args.ty.now in
    let e = sym c.has_omega.ensures ∙ c.if-not-has_omega.false in
    over_kept (Unit {0}) (Unit {0}) c.in-Err.fault _ _ (λ over.
    let within = no_more [] (Omega ∷ []) (parts T) now now (not_grown [] now) (λ U n. absurd n) (among T e) in
    omega (arith, over, within)) c.in-Err.ensures.over

pub returns-clause-ok : goal.returns-clause-ok
returns-clause-ok c =
    let now = c.args.self.now in
    let T = c.args.ty.now in
    let e = sym c.has_omega.ensures ∙ c.if-not-has_omega.false in
    let mid = c.need_omega.new.self in
    let first = grown_more (Omega ∷ []) now (parts T) mid (among T e) c.in_default.ensures.ok.grown in
    on_ok_weaker c.need_parts-2.result (λ k. record { grown = grown_on (parts T) now mid c.need_parts-2.new.self first k.grown; all = k.all }) c.need_parts-2.ensures.ok

pub returns-clause-err : goal.returns-clause-err
returns-clause-err c =
    let now = c.args.self.now in
    let T = c.args.ty.now in
    let e = sym c.has_omega.ensures ∙ c.if-not-has_omega.false in
    let mid = c.need_omega.new.self in
    let first = grown_more (Omega ∷ []) now (parts T) mid (among T e) c.in_default.ensures.ok.grown in
    on_err_weaker c.need_parts-2.result (λ k. grown_on (parts T) now mid c.need_parts-2.new.self first k) c.need_parts-2.ensures.err

pub returns-clause-over : goal.returns-clause-over
returns-clause-over c =
    let now = c.args.self.now in
    let T = c.args.ty.now in
    let e = sym c.has_omega.ensures ∙ c.if-not-has_omega.false in
    let mid = c.need_omega.new.self in
    let h = c.in_default.ensures.ok in
    let more = no_more (Omega ∷ []) (parts T) (parts T) now mid h.grown (among T e) (λ U i. i) in
    let less = no_less (Omega ∷ []) (parts T) (parts T) now mid h.grown (λ U i u. inr i) in
    let b = budget_kept (Omega ∷ []) (parts T) (parts T) now mid h.grown in
    over_same c.need_parts-2.result _ _ (λ over. omega (arith, over, more, b)) (λ over. omega (arith, over, less, b)) c.need_parts-2.ensures.over
