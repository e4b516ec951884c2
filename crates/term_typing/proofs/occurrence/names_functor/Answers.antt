use Rattle.std.proofs.Common.{sym, ◌∙◌}
use Rattle.term_typing.proofs.Occurrences.{occurs_among}
use Rattle.term_typing.proofs.occurrence.names_functor.Goals as goal

pub returns : goal.returns
returns c = c.any_names.ensures ∙ sym (occurs_among c.args.functor c.args.types.now)
