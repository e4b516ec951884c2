use Rattle.std.proofs.Common.{sym, subst, ◌∙◌, arith}
use Rattle.topos_model.specs.declared.ty.Ty.{Omega}
use Rattle.topos_model.specs.declared.value.Val.{Sv}
use Rattle.functor_store.specs.Faithful.{Stands}
use Rattle.element_values.proofs.FormValues.{sieve_stands, sieve_within, sieve_is}
use Rattle.element_values.proofs.Parts.{omega_is, has_omega, element_under}
use Rattle.element_values.proofs.truth_values.truth_value.Goals as goal

pub sieve-requires-clause-object : goal.sieve-requires-clause-object
sieve-requires-clause-object c =
    let (functors, h) = c.requires.element in
    let on = omega_is c.args.elements.now c.in-Some.omega h.readable c.in-Some.is in
    omega (arith, h.object, on.objects)

pub sieve-requires-clause-number : goal.sieve-requires-clause-number
sieve-requires-clause-number c =
    let (functors, h) = c.requires.element in
    let on = omega_is c.args.elements.now c.in-Some.omega h.readable c.in-Some.is in
    sieve_within c.args.elements.now.site.now functors c.args.c c.args.k c.in-Some.omega.now on h.object h.within

pub unreachable-requires : goal.unreachable-requires
unreachable-requires c = let (functors, h) = c.requires.element in has_omega c.args.elements.now h.readable c.in-None.is

pub returns : goal.returns
returns c =
    let (functors, h) = c.requires.element in
    let s = c.args.elements.now.site.now in
    let on = omega_is c.args.elements.now c.in-Some.omega h.readable c.in-Some.is in
    record {
      value = λ functors' know.
          subst (λ l. Stands s functors' Omega c.args.c c.args.k (Sv l))
          (sym (c.in_ok-arrows_of-in-Some.ensures ∙ c.sieve.ensures ∙ sieve_is s functors c.args.c c.args.k c.in-Some.omega.now on h.object h.within))
          (sieve_stands s functors' c.args.c c.args.k (element_under c.args.elements.now functors functors' Omega c.args.c c.args.k h know).within);
    }
