use Rattle.std.proofs.Common.{rules, refl, sym, subst}
use Rattle.std.proofs.lemmas.Result.{err_from_is_err_and}
use Rattle.topos_model.specs.declared.ty.Ty.{the_lemmas}
use Rattle.functor_store.specs.Faithful.{Holds}
use Rattle.exponentials.proofs.Outcomes.{ready_part, ready_after, held_outcome, parts_outcome, left_part, right_part, only_part, left_fault, right_fault, two_sealed, only_fault, one_sealed}
use Rattle.exponentials.proofs.Extended.{place_after}
use Rattle.exponentials.proofs.PartsOf.{base_parts, one_parts, omega_parts, base_part, omega_part, two_parts, fun_parts, pow_parts}
use Rattle.exponentials.proofs.parts.+seal_parts.Goals as goal

pub place_of-requires : goal.place_of-requires
place_of-requires t c =
    let T = c.args.ty.now in
    record { held = subst (Holds c.args.store.now) (sym c.in-Base.is) (c.requires.ready.named c.in-Base.field-0 (base_part T c.in-Base.field-0 c.in-Base.is)) }

pub place_of-requires-in-Omega : goal.place_of-requires-in-Omega
place_of-requires-in-Omega t c =
    record { held = subst (Holds c.args.store.now) (sym c.in-Omega.is) (c.requires.ready.omega (omega_part c.args.ty.now c.in-Omega.is)) }

pub returns-in-Base : goal.returns-in-Base
returns-in-Base t c =
    let s = c.args.site.now in
    let T = c.args.ty.now in
    let store = c.args.store.now in
    record { outcome = parts_outcome s T _ store store _ (base_parts T c.in-Base.field-0 c.in-Base.is) (held_outcome s T store c.place_of.result c.place_of.ensures.place) }

pub returns-in-Omega : goal.returns-in-Omega
returns-in-Omega t c =
    let s = c.args.site.now in
    let T = c.args.ty.now in
    let store = c.args.store.now in
    record { outcome = parts_outcome s T _ store store _ (omega_parts T c.in-Omega.is) (held_outcome s T store c.place_of-in-Omega.result c.place_of-in-Omega.ensures.place) }

pub returns-in-One : goal.returns-in-One
returns-in-One t c =
    record { outcome = parts_outcome c.args.site.now c.args.ty.now _ c.args.store.now c.one.new.store c.one.result (one_parts c.args.ty.now c.in-One.is) c.one.ensures.outcome }

pub seal_parts-requires : goal.seal_parts-requires
seal_parts-requires t c =
    let s = c.args.site.now in
    let T = c.args.ty.now in (
      search (rules, the_lemmas),
      ready_part s T c.get.result.now c.args.store.now (left_part s c.get.result.now c.in-Two.right T (two_parts T c.in-Two.left c.in-Two.right c.get.result.now c.in-Two.right c.in-Two.is c.get.ensures refl)) c.requires.ready,
    )

pub returns-in_err-s-in-Two : goal.returns-in_err-s-in-Two
returns-in_err-s-in-Two t c =
    let s = c.args.site.now in
    let T = c.args.ty.now in
    let p = err_from_is_err_and c.from_residual.result c.from_residual.ensures.1 in
    record {
      outcome = rw (p.1, p.2)
          (left_fault s c.get.result.now c.in-Two.right T (two_parts T c.in-Two.left c.in-Two.right c.get.result.now c.in-Two.right c.in-Two.is c.get.ensures refl)
          c.args.store.now c.seal_parts.new.store c.in_err-s-in-Two.field-0.0 c.in_err-s-in-Two.ensures.outcome);
    }

pub seal_parts-requires-in-Two : goal.seal_parts-requires-in-Two
seal_parts-requires-in-Two t c =
    let s = c.args.site.now in
    let T = c.args.ty.now in (
      search (rules, the_lemmas),
      ready_part s T c.get-in-Two.result.now c.seal_parts.new.store
          (right_part s c.get.result.now c.get-in-Two.result.now T (two_parts T c.in-Two.left c.in-Two.right c.get.result.now c.get-in-Two.result.now c.in-Two.is c.get.ensures c.get-in-Two.ensures))
          (ready_after s T _ _ _ _ _ c.requires.ready c.in_ok-s-in-Two.ensures.outcome),
    )

pub returns-in_err-t-in-Two : goal.returns-in_err-t-in-Two
returns-in_err-t-in-Two t c =
    let s = c.args.site.now in
    let T = c.args.ty.now in
    let p = err_from_is_err_and c.from_residual-in_err-t-in-Two.result c.from_residual-in_err-t-in-Two.ensures.1 in
    record {
      outcome = rw (p.1, p.2)
          (right_fault s c.get.result.now c.get-in-Two.result.now T (two_parts T c.in-Two.left c.in-Two.right c.get.result.now c.get-in-Two.result.now c.in-Two.is c.get.ensures c.get-in-Two.ensures)
          c.args.store.now c.seal_parts.new.store c.seal_parts-in-Two.new.store c.in_ok-s-in-Two.s c.in_err-t-in-Two.field-0.0 c.in_ok-s-in-Two.ensures.outcome c.in_err-t-in-Two.ensures.outcome);
    }

pub product-requires-clause-faithful : goal.product-requires-clause-faithful
product-requires-clause-faithful t c =
    let (functors, faithful) = c.requires.ready.faithful in
    (functors, c.in_ok-t-in-Two.ensures.outcome.faithful functors (c.in_ok-s-in-Two.ensures.outcome.faithful functors faithful))

pub product-requires-clause-key : goal.product-requires-clause-key
product-requires-clause-key t c =
    let first = place_after _ _ _ c.in_ok-t-in-Two.ensures.outcome.extended c.in_ok-s-in-Two.s _ c.in_ok-s-in-Two.ensures.outcome.place in
    let second = c.in_ok-t-in-Two.ensures.outcome.place in
    cc (c.in-Two.is, c.get.ensures, c.get-in-Two.ensures, first.1, second.1)

pub returns-in_ok-t-in-Two : goal.returns-in_ok-t-in-Two
returns-in_ok-t-in-Two t c =
    let s = c.args.site.now in
    let T = c.args.ty.now in
    record {
      outcome = two_sealed s c.get.result.now c.get-in-Two.result.now T (two_parts T c.in-Two.left c.in-Two.right c.get.result.now c.get-in-Two.result.now c.in-Two.is c.get.ensures c.get-in-Two.ensures)
          c.args.store.now c.seal_parts.new.store c.seal_parts-in-Two.new.store c.product.new.store c.in_ok-s-in-Two.s c.in_ok-t-in-Two.t c.product.result
          c.in_ok-s-in-Two.ensures.outcome c.in_ok-t-in-Two.ensures.outcome c.product.ensures.outcome;
    }

pub seal_parts-requires-in-Pow : goal.seal_parts-requires-in-Pow
seal_parts-requires-in-Pow t c =
    let s = c.args.site.now in
    let T = c.args.ty.now in (
      search (rules, the_lemmas),
      ready_part s T c.get-in-Pow.result.now c.args.store.now (only_part s c.get-in-Pow.result.now T (pow_parts T c.in-Pow.of c.get-in-Pow.result.now c.in-Pow.is c.get-in-Pow.ensures)) c.requires.ready,
    )

pub returns-in_err-t-in-Pow : goal.returns-in_err-t-in-Pow
returns-in_err-t-in-Pow t c =
    let s = c.args.site.now in
    let T = c.args.ty.now in
    let p = err_from_is_err_and c.from_residual-in_err-t-in-Pow.result c.from_residual-in_err-t-in-Pow.ensures.1 in
    record {
      outcome = rw (p.1, p.2)
          (only_fault s c.get-in-Pow.result.now T (pow_parts T c.in-Pow.of c.get-in-Pow.result.now c.in-Pow.is c.get-in-Pow.ensures)
          c.args.store.now c.seal_parts-in-Pow.new.store c.in_err-t-in-Pow.field-0.0 c.in_err-t-in-Pow.ensures.outcome);
    }

pub power-requires-clause-faithful : goal.power-requires-clause-faithful
power-requires-clause-faithful t c = let (functors, faithful) = c.requires.ready.faithful in (functors, c.in_ok-t-in-Pow.ensures.outcome.faithful functors faithful)

pub returns-in_ok-t-in-Pow : goal.returns-in_ok-t-in-Pow
returns-in_ok-t-in-Pow t c =
    let s = c.args.site.now in
    let T = c.args.ty.now in
    record {
      outcome = one_sealed s c.get-in-Pow.result.now T (pow_parts T c.in-Pow.of c.get-in-Pow.result.now c.in-Pow.is c.get-in-Pow.ensures)
          c.args.store.now c.seal_parts-in-Pow.new.store c.power.new.store c.in_ok-t-in-Pow.t c.power.result c.in_ok-t-in-Pow.ensures.outcome c.power.ensures.outcome;
    }

pub seal_parts-requires-in-Fun : goal.seal_parts-requires-in-Fun
seal_parts-requires-in-Fun t c =
    let s = c.args.site.now in
    let T = c.args.ty.now in (
      search (rules, the_lemmas),
      ready_part s T c.get-in-Fun.result.now c.args.store.now (left_part s c.get-in-Fun.result.now c.in-Fun.to T (fun_parts T c.in-Fun.from c.in-Fun.to c.get-in-Fun.result.now c.in-Fun.to c.in-Fun.is c.get-in-Fun.ensures refl)) c.requires.ready,
    )

pub returns-in_err-s-in-Fun : goal.returns-in_err-s-in-Fun
returns-in_err-s-in-Fun t c =
    let s = c.args.site.now in
    let T = c.args.ty.now in
    let p = err_from_is_err_and c.from_residual-in_err-s-in-Fun.result c.from_residual-in_err-s-in-Fun.ensures.1 in
    record {
      outcome = rw (p.1, p.2)
          (left_fault s c.get-in-Fun.result.now c.in-Fun.to T (fun_parts T c.in-Fun.from c.in-Fun.to c.get-in-Fun.result.now c.in-Fun.to c.in-Fun.is c.get-in-Fun.ensures refl)
          c.args.store.now c.seal_parts-in-Fun.new.store c.in_err-s-in-Fun.field-0.0 c.in_err-s-in-Fun.ensures.outcome);
    }

pub seal_parts-requires-in-Fun-2 : goal.seal_parts-requires-in-Fun-2
seal_parts-requires-in-Fun-2 t c =
    let s = c.args.site.now in
    let T = c.args.ty.now in (
      search (rules, the_lemmas),
      ready_part s T c.get-in-Fun-2.result.now c.seal_parts-in-Fun.new.store
          (right_part s c.get-in-Fun.result.now c.get-in-Fun-2.result.now T (fun_parts T c.in-Fun.from c.in-Fun.to c.get-in-Fun.result.now c.get-in-Fun-2.result.now c.in-Fun.is c.get-in-Fun.ensures c.get-in-Fun-2.ensures))
          (ready_after s T _ _ _ _ _ c.requires.ready c.in_ok-s-in-Fun.ensures.outcome),
    )

pub returns-in_err-t-in-Fun : goal.returns-in_err-t-in-Fun
returns-in_err-t-in-Fun t c =
    let s = c.args.site.now in
    let T = c.args.ty.now in
    let p = err_from_is_err_and c.from_residual-in_err-t-in-Fun.result c.from_residual-in_err-t-in-Fun.ensures.1 in
    record {
      outcome = rw (p.1, p.2)
          (right_fault s c.get-in-Fun.result.now c.get-in-Fun-2.result.now T (fun_parts T c.in-Fun.from c.in-Fun.to c.get-in-Fun.result.now c.get-in-Fun-2.result.now c.in-Fun.is c.get-in-Fun.ensures c.get-in-Fun-2.ensures)
          c.args.store.now c.seal_parts-in-Fun.new.store c.seal_parts-in-Fun-2.new.store c.in_ok-s-in-Fun.s c.in_err-t-in-Fun.field-0.0 c.in_ok-s-in-Fun.ensures.outcome c.in_err-t-in-Fun.ensures.outcome);
    }

pub function-requires-clause-faithful : goal.function-requires-clause-faithful
function-requires-clause-faithful t c =
    let (functors, faithful) = c.requires.ready.faithful in
    (functors, c.in_ok-t-in-Fun.ensures.outcome.faithful functors (c.in_ok-s-in-Fun.ensures.outcome.faithful functors faithful))

pub function-requires-clause-key : goal.function-requires-clause-key
function-requires-clause-key t c =
    let first = place_after _ _ _ c.in_ok-t-in-Fun.ensures.outcome.extended c.in_ok-s-in-Fun.s _ c.in_ok-s-in-Fun.ensures.outcome.place in
    let second = c.in_ok-t-in-Fun.ensures.outcome.place in
    cc (c.in-Fun.is, c.get-in-Fun.ensures, c.get-in-Fun-2.ensures, first.1, second.1)

pub returns-in_ok-t-in-Fun : goal.returns-in_ok-t-in-Fun
returns-in_ok-t-in-Fun t c =
    let s = c.args.site.now in
    let T = c.args.ty.now in
    record {
      outcome = two_sealed s c.get-in-Fun.result.now c.get-in-Fun-2.result.now T (fun_parts T c.in-Fun.from c.in-Fun.to c.get-in-Fun.result.now c.get-in-Fun-2.result.now c.in-Fun.is c.get-in-Fun.ensures c.get-in-Fun-2.ensures)
          c.args.store.now c.seal_parts-in-Fun.new.store c.seal_parts-in-Fun-2.new.store c.function.new.store c.in_ok-s-in-Fun.s c.in_ok-t-in-Fun.t c.function.result
          c.in_ok-s-in-Fun.ensures.outcome c.in_ok-t-in-Fun.ensures.outcome c.function.ensures.outcome;
    }
