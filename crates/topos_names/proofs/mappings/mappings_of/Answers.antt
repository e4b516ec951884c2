use Rattle.std.proofs.Common.{◌∙◌, [], unwrap_or}
use Rattle.std.specs.Option.{option_copied}
use Rattle.std.proofs.lemmas.Result.{err_from_is_err_and}
use Rattle.topos_text.specs.StatementNames as spec
use Rattle.topos_text.specs.Views.{mapping_of}
use Rattle.topos_names.proofs.Changes.{left-goes_on, left-stops, left-ends}
use Rattle.topos_names.proofs.mappings.mappings_of.Goals as goal

pub loop-e-preserved : goal.loop-e-preserved
loop-e-preserved c = record {
  left = λ s. c.loop-e.invariant.left s ∙ left-goes_on (spec.with_mapping s c.args.at (unwrap_or (option_copied c.args.dom) []) (unwrap_or (option_copied c.args.cod) [])) mapping_of c.loop-e.entries c.args.es.now c.loop-e.e-index _ c.loop-e-test.true c.add_mapping.new.entries (c.in_ok-add_mapping.ensures.ok s);
  seen = c.in_ok-add_mapping.ensures.seen;
}

pub returns-in_err-add_mapping-clause-fault : goal.returns-in_err-add_mapping-clause-fault
returns-in_err-add_mapping-clause-fault c =
    let p = err_from_is_err_and c.from_residual.result c.from_residual.ensures.1 in
    λ s. rw (p.1, p.2) (λ fault e. c.loop-e.invariant.left s ∙ left-stops (spec.with_mapping s c.args.at (unwrap_or (option_copied c.args.dom) []) (unwrap_or (option_copied c.args.cod) [])) mapping_of c.loop-e.entries c.args.es.now c.loop-e.e-index _ c.loop-e-test.true fault (c.in_err-add_mapping.ensures.fault s fault e))

pub returns-clause-ok : goal.returns-clause-ok
returns-clause-ok c = λ s. c.loop-e.invariant.left s ∙ left-ends (spec.with_mapping s c.args.at (unwrap_or (option_copied c.args.dom) []) (unwrap_or (option_copied c.args.cod) [])) mapping_of c.loop-e.entries c.args.es.now c.loop-e.e-index c.loop-e-test.false
