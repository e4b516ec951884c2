use Rattle.std.proofs.Common.{◌∙◌, [], unwrap_or}
use Rattle.std.specs.Option.{option_copied}
use Rattle.std.proofs.lemmas.Result.{err_from_is_err_and}
use Rattle.topos_text.specs.StatementNames as names
use Rattle.topos_text.specs.Views.{entry_of}
use Rattle.topos_names.specs.Spaces.{limits}
use Rattle.topos_names.proofs.Changes.{left-goes_on, left-stops, left-ends}
use Rattle.topos_names.proofs.sections.entries_of.Goals as goal

pub loop-e-preserved : goal.loop-e-preserved
loop-e-preserved c = record {
  left = λ s. c.loop-e.invariant.left s ∙ left-goes_on (names.with_entry limits s (unwrap_or (option_copied c.args.cod) []) (unwrap_or (option_copied c.args.dom) [])) entry_of c.loop-e.entries c.args.es.now c.loop-e.e-index _ c.loop-e-test.true c.add_entry.new.entries (c.in_ok-add_entry.ensures.ok s);
  seen = c.in_ok-add_entry.ensures.seen;
}

pub returns-in_err-add_entry-clause-fault : goal.returns-in_err-add_entry-clause-fault
returns-in_err-add_entry-clause-fault c =
    let p = err_from_is_err_and c.from_residual.result c.from_residual.ensures.1 in
    λ s. rw (p.1, p.2) (λ fault e. c.loop-e.invariant.left s ∙ left-stops (names.with_entry limits s (unwrap_or (option_copied c.args.cod) []) (unwrap_or (option_copied c.args.dom) [])) entry_of c.loop-e.entries c.args.es.now c.loop-e.e-index _ c.loop-e-test.true fault (c.in_err-add_entry.ensures.fault s fault e))

pub returns-clause-ok : goal.returns-clause-ok
returns-clause-ok c = λ s. c.loop-e.invariant.left s ∙ left-ends (names.with_entry limits s (unwrap_or (option_copied c.args.cod) []) (unwrap_or (option_copied c.args.dom) [])) entry_of c.loop-e.entries c.args.es.now c.loop-e.e-index c.loop-e-test.false
