use Rattle.std.proofs.Common.{◌≡◌, ◌<◌, ℕ, List, length, get_or, subst, sym, ap, ◌∙◌}
use Rattle.std.specs.List.{range_with_len}
use Rattle.std.proofs.lemmas.List.FromFn.{length-range_with_len}
use Rattle.finite_colimits.specs.Labels.{HaveClasses}
use Rattle.finite_colimits.proofs.LabelSteps.{written_back}
use Rattle.finite_colimits.proofs.labels.labels_of.Goals as goal

pub join_all-requires-clause-first : goal.join_all-requires-clause-first
join_all-requires-clause-first c = λ x h.
    let e : length c.deref_mut.result.now ≡ c.args.count = ap length (c.deref_mut.ensures.value ∙ c.in_ok-labels.ensures) ∙ length-range_with_len 0 c.args.count in
    subst (λ (t : ℕ). get_or c.args.m.now x 0 < t) (sym e) (c.requires.first x h)

pub join_all-requires-clause-second : goal.join_all-requires-clause-second
join_all-requires-clause-second c = λ x h.
    let e : length c.deref_mut.result.now ≡ c.args.count = ap length (c.deref_mut.ensures.value ∙ c.in_ok-labels.ensures) ∙ length-range_with_len 0 c.args.count in
    subst (λ (t : ℕ). get_or c.args.n.now x 0 < t) (sym e) (c.requires.second x h)

pub join_all-requires-clause-own : goal.join_all-requires-clause-own
join_all-requires-clause-own c =
    let own : c.deref_mut.result.now ≡ range_with_len 0 c.args.count = c.deref_mut.ensures.value ∙ c.in_ok-labels.ensures in
    let e : length c.deref_mut.result.now ≡ c.args.count = ap length own ∙ length-range_with_len 0 c.args.count in
    own ∙ ap (range_with_len 0) (sym e)

pub returns : goal.returns
returns c =
    let own : c.deref_mut.result.now ≡ range_with_len 0 c.args.count = c.deref_mut.ensures.value ∙ c.in_ok-labels.ensures in
    let e : length c.deref_mut.result.now ≡ c.args.count = ap length own ∙ length-range_with_len 0 c.args.count in
    let n : length c.in_ok-labels.labels.items ≡ c.args.count = ap length c.in_ok-labels.ensures ∙ length-range_with_len 0 c.args.count in
    let l : length c.in_ok-labels.labels.items ≡ c.in_ok-labels.labels.len = ap length (sym c.deref_mut.ensures.value) ∙ c.deref_mut.ensures.len in
    let have = subst (λ (t : ℕ). HaveClasses (length c.args.m.now) c.args.m.now c.args.n.now t c.join_all.new.labels) e c.join_all.ensures in
    subst (λ (t : List ℕ). HaveClasses (length c.args.m.now) c.args.m.now c.args.n.now c.args.count t)
    (sym (written_back c.in_ok-labels.labels.len c.join_all.new.labels c.in_ok-labels.labels.items (have.places ∙ sym n ∙ l) l)) have
