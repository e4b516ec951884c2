use Rattle.std.proofs.Common.{ap, sym, subst, ◌∙◌}
use Rattle.topos_model.specs.declared.ty.Ty.{Two}
use Rattle.functor_store.specs.Faithful.{Holds}
use Rattle.internal_interp.specs.Contexts.{widths_of}
use Rattle.internal_interp.proofs.TermFacts.{second_part, same_first, same_second, type_served, pair_table_of}
use Rattle.internal_interp.proofs.products.first.Goals as goal

pub widths-requires-clause-held : goal.widths-requires-clause-held
widths-requires-clause-held c =
    let (w, maps, Γ, S, T, t, known, h) = c.requires.known in
    subst (Holds c.args.interpreter.now.store.now) (sym (c.get.ensures ∙ same_second c.in-Two.left c.in-Two.right S T (sym c.in-Two.is ∙ h.type_is)))
    ((type_served w maps c.args.interpreter.now Γ (Two S T) c.args.context.now t known).1 T (second_part S T))

pub first_table-requires-clause-part : goal.first_table-requires-clause-part
first_table-requires-clause-part c =
    let (w, maps, Γ, S, T, t, known, h) = c.requires.known in (
      w,
      Γ,
      S,
      T,
      t,
      pair_table_of w maps c.args.interpreter.now Γ c.args.context.now S T t c.args.pair known h _ _ c.tuples.ensures
          (c.as_slice.ensures ∙ c.in_ok-widths-in-Two.ensures w maps known.knows ∙ ap (widths_of w) (c.get.ensures ∙ same_second c.in-Two.left c.in-Two.right S T (sym c.in-Two.is ∙ h.type_is))),
    )

pub returns : goal.returns
returns c = λ w maps Γ S T t known h. record {
  type_is = c.in_ok-copy-in-Two.ensures ∙ c.get-in-Two.ensures ∙ same_first c.in-Two.left c.in-Two.right S T (sym c.in-Two.is ∙ h.type_is);
  stands = c.in_ok-numbers-in-Two.ensures.stands w Γ S T t
      (pair_table_of w maps c.args.interpreter.now Γ c.args.context.now S T t c.args.pair known h _ _ c.tuples.ensures
      (c.as_slice.ensures ∙ c.in_ok-widths-in-Two.ensures w maps known.knows ∙ ap (widths_of w) (c.get.ensures ∙ same_second c.in-Two.left c.in-Two.right S T (sym c.in-Two.is ∙ h.type_is))));
}
