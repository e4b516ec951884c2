use Rattle.std.proofs.Common.{map, length, ap, arith}
use Rattle.topos_text.specs.Tokens.{token_of, written}
use Rattle.topos_grammar.proofs.TermSteps.{named_read, truth_read, falsity_read}
use Rattle.topos_grammar.proofs.terms.leaf.Goals as goal

pub returns-in-Some : goal.returns-in-Some
returns-in-Some c = record { term = named_read (map token_of c.args.tokens.now) (map token_of c.in-Some.rest.now) (written c.in-Some.variable) c.in-Some.ensures; shorter = omega (arith, ap length c.in-Some.ensures) }

pub returns-in-Some-after_word : goal.returns-in-Some-after_word
returns-in-Some-after_word c = record { term = truth_read (map token_of c.args.tokens.now) (map token_of c.in-Some-after_word.rest.now) c.in_default.ensures c.in-Some-after_word.ensures; shorter = omega (arith, ap length c.in-Some-after_word.ensures) }

pub returns-in-Some-after_word-2 : goal.returns-in-Some-after_word-2
returns-in-Some-after_word-2 c = record { term = falsity_read (map token_of c.args.tokens.now) (map token_of c.in-Some-after_word-2.rest.now) c.in_default.ensures c.in_default-after_word.ensures c.in-Some-after_word-2.ensures; shorter = omega (arith, ap length c.in-Some-after_word-2.ensures) }

pub returns : goal.returns
returns c = record { no_name = c.in_default.ensures; no_true = c.in_default-after_word.ensures; no_false = c.in_default-after_word-2.ensures }
