use Rattle.std.proofs.Common.{◌≤◌, map, drop}
use Rattle.topos_text.specs.Tokens.{token_of}
use Rattle.topos_tokens.proofs.Runs.{InRun}
use Rattle.topos_tokens.proofs.limit.passed_limit.Given as goal

abbrev pub invariant-loop-token : goal.invariant-loop-token
invariant-loop-token l = record { run : InRun (map token_of l.tokens) (map token_of (drop l.token-index l.tokens)) l.limited l.len; within : l.len ≤ l.token-index }
