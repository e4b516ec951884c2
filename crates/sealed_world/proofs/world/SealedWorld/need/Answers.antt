use Rattle.std.proofs.Common.{◌≡◌, ◌<◌, ◌++◌, length, take, inl, inr, sym, ap, subst, arith}
use Rattle.std.specs.List.{flat_map}
use Rattle.std.proofs.lemmas.List.{take_all}
use Rattle.finite_lists.proofs.Lists.{In-append_left, In-append_right, In-append_cases}
use Rattle.topos_model.specs.declared.ty.Ty.{Base}
use Rattle.topos_model.specs.statements.Needs.{parts}
use Rattle.sealed_world.specs.SealedWorlds.{CountedWorld, IsGrownBy}
use Rattle.sealed_world.proofs.Growing.{next_parts, parts_among, first_among, grown_more, grown_on, grown_keeps, no_more, no_less, budget_kept, nothing_more, over_kept}
use Rattle.sealed_world.proofs.world.SealedWorld.need.Goals as goal

pub need_type-requires : goal.need_type-requires
need_type-requires c =
    let i = c.loop-ty.ty-index in
    let same = ap (λ (w : CountedWorld). w.functors) c.loop-ty.invariant.grown.is in
    record { named = λ n j. subst (λ l. n < length l) (sym same) (c.requires.named n (parts_among c.args.types.now i c.ty-item.result c.loop-ty-test.true c.ty-item.is (Base n) j)) }

pub returns-in-Err-clause-err : goal.returns-in-Err-clause-err
returns-in-Err-clause-err c =
    let types = c.args.types.now in
    let now = c.args.self.now in
    let i = c.loop-ty.ty-index in
    let before = grown_more (flat_map parts (take i types)) now (flat_map parts types) c.loop-ty.self (first_among types i) c.loop-ty.invariant.grown in
    let here = grown_more (parts c.ty-item.result) c.loop-ty.self (flat_map parts types) c.need_type.new.self (parts_among types i c.ty-item.result c.loop-ty-test.true c.ty-item.is) c.in-Err.ensures.err in
    grown_on (flat_map parts types) now c.loop-ty.self c.need_type.new.self before here

pub returns-in-Err-clause-over : goal.returns-in-Err-clause-over
returns-in-Err-clause-over c =
    let types = c.args.types.now in
    let now = c.args.self.now in
    let i = c.loop-ty.ty-index in
    let h = c.loop-ty.invariant.grown in
    let within = no_more (flat_map parts (take i types)) (parts c.ty-item.result) (flat_map parts types) now c.loop-ty.self h (first_among types i) (parts_among types i c.ty-item.result c.loop-ty-test.true c.ty-item.is) in
    let b = budget_kept (flat_map parts (take i types)) (parts c.ty-item.result) (flat_map parts types) now c.loop-ty.self h in
    over_kept (Unit {0}) (Unit {0}) c.in-Err.fault _ _ (λ over. omega (arith, over, within, b)) c.in-Err.ensures.over

pub loop-ty-preserved : goal.loop-ty-preserved
loop-ty-preserved c =
    let types = c.args.types.now in
    let now = c.args.self.now in
    let i = c.loop-ty.ty-index in
    let T = c.ty-item.result in
    let first = flat_map parts (take i types) in
    let h = c.loop-ty.invariant in
    let k = c.in_default.ensures.ok in
    let new = c.need_type.new.self in
    let both = first ++ parts T in
    let before = grown_more first now both c.loop-ty.self (λ U j. In-append_left first (parts T) U j) h.grown in
    let here = grown_more (parts T) c.loop-ty.self both new (λ U j. In-append_right first (parts T) U j) k.grown in
    subst (λ l. IsGrownBy l now new) (sym (next_parts types i T c.loop-ty-test.true c.ty-item.is))
    (record {
      grown = grown_on both now c.loop-ty.self new before here;
      all = λ U j u. elim (In-append_cases first (parts T) U j) [ inl a ↦ grown_keeps (parts T) c.loop-ty.self new k.grown U (h.all U a u) | inr b ↦ k.all U b u ];
    })

pub returns-clause-over : goal.returns-clause-over
returns-clause-over c =
    let types = c.args.types.now in
    let now = c.args.self.now in
    let new = c.loop-ty.self in
    let all : take c.loop-ty.ty-index types ≡ types = take_all c.loop-ty.ty-index types (omega (arith, c.loop-ty-test.false)) in
    let h = subst (λ l. IsGrownBy (flat_map parts l) now new) all c.loop-ty.invariant in
    let less = no_less (flat_map parts types) (flat_map parts types) (flat_map parts types) now new h.grown (λ U i u. inr i) in
    let within = nothing_more new (flat_map parts types) h.all in
    let b = budget_kept (flat_map parts types) (flat_map parts types) (flat_map parts types) now new h.grown in
    λ over. omega (arith, over, less, within, b, c.room-room.ensures.room)
