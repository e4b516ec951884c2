use Rattle.std.proofs.lemmas.Result.{IfOk-weaker}
use Rattle.topos_model.specs.declared.term.Term.{Member}
use Rattle.topos_model.specs.formulas.Forcing.{forces}
use Rattle.truth_tables.proofs.Standing.{truth_table}
use Rattle.term_tables.proofs.Contexts.{over_sizes}
use Rattle.term_tables.proofs.ReadingParts.{member_entries, power_site, member_truths}
use Rattle.term_tables.proofs.readings.membership_table.Goals as goal

pub members-requires : goal.members-requires
members-requires c =
    let (w, Γ, T, t, u, h) = c.requires.parts in
    record {
      objects = c.requires.objects;
      sealed = h.type.low;
      site = power_site w Γ T t u c.args.store.now c.args.id c.args.sizes.now c.args.elements.now c.args.subsets.now h;
      subsets = over_sizes w Γ c.args.sizes.now h.context.counted c.args.subsets.now h.subsets_stand.over;
      elements = over_sizes w Γ c.args.sizes.now h.context.counted c.args.elements.now h.elements_stand.over;
      entries = member_entries w Γ T t u c.args.store.now c.args.id c.args.sizes.now c.args.elements.now c.args.subsets.now h;
    }

pub returns : goal.returns
returns c = record {
  stands = IfOk-weaker c.members.result _ _ (λ rows made w Γ T t u h.
      truth_table w Γ c.args.sizes.now h.context.counted (forces w (Member t u)) _ rows made
      (member_truths w Γ T t u c.args.store.now c.args.id c.args.sizes.now c.args.elements.now c.args.subsets.now h)) c.members.ensures;
}
