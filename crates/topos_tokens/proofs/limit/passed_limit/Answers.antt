use Rattle.std.proofs.Common.{◌≡◌, true, false, sym, arith, ◌∙◌}
use Rattle.topos_tokens.proofs.Runs.{run_start, long_name_at, semicolon_at, long_run_at, more_at, run_over}
use Rattle.topos_tokens.proofs.limit.passed_limit.Goals as goal
use Rattle.topos_tokens.proofs.limit.passed_limit.Goals.{else-limited-via-then-limited+else-len-eq-TERM_TOKENS, else-limited-via-else-limited, then-len-eq0, else-len-eq0}

pub loop-token-init : goal.loop-token-init
loop-token-init c = record { run = run_start _; within = omega arith }

pub returns-then-is_long_name : goal.returns-then-is_long_name
returns-then-is_long_name c = long_name_at _ c.args.tokens.now c.loop-token.token-index c.loop-token.limited c.loop-token.len c.loop-token-test.true c.loop-token.invariant.run c.is_long_name.ensures c.if-is_long_name.true

pub loop-token-preserved-then-is_semicolon : goal.loop-token-preserved-then-is_semicolon
loop-token-preserved-then-is_semicolon c = record {
  run = semicolon_at _ c.args.tokens.now c.loop-token.token-index c.loop-token.limited c.loop-token.len c.loop-token-test.true c.loop-token.invariant.run c.is_long_name.ensures c.if-is_long_name.false c.if-is_semicolon.ensures;
  within = omega arith;
}

pub returns-then-len-eq-TERM_TOKENS : goal.returns-then-len-eq-TERM_TOKENS
returns-then-len-eq-TERM_TOKENS c = long_run_at _ c.args.tokens.now c.loop-token.token-index c.loop-token.limited c.loop-token.len c.loop-token-test.true c.loop-token.invariant.run c.is_long_name.ensures c.if-is_long_name.false c.if-is_semicolon.ensures c.if-limited.true c.if-len-eq-TERM_TOKENS.true

pub loop-token-preserved : goal.loop-token-preserved
loop-token-preserved c =
    let fits : c.loop-token.limited ≡ true → c.loop-token.len ≡ 256 → ⊥ = elim c.else-limited.branch [
      | else-limited-via-then-limited+else-len-eq-TERM_TOKENS w ↦ λ h k. w.if-len-eq-TERM_TOKENS.false k
      | else-limited-via-else-limited w ↦ λ h k. (let bad : true ≡ false = sym h ∙ w.if-limited.false in absurd cc)
    ] in
    record {
      run = elim c.if-len-eq0.branch [
        | then-len-eq0 w ↦ more_at _ c.args.tokens.now c.loop-token.token-index c.loop-token.limited c.if-len-eq0.limited c.loop-token.len c.loop-token-test.true c.loop-token.invariant.run c.is_long_name.ensures c.if-is_long_name.false c.if-is_semicolon.ensures fits (λ h. w.limited-is ∙ w.begins_run-limited.ensures) (λ h. absurd (h w.if-len-eq0.true))
        | else-len-eq0 w ↦ more_at _ c.args.tokens.now c.loop-token.token-index c.loop-token.limited c.if-len-eq0.limited c.loop-token.len c.loop-token-test.true c.loop-token.invariant.run c.is_long_name.ensures c.if-is_long_name.false c.if-is_semicolon.ensures fits (λ h. absurd (w.if-len-eq0.false h)) (λ h. w.limited-is)
      ];
      within = omega (arith, c.loop-token.invariant.within);
    }

pub returns : goal.returns
returns c = run_over c.args.tokens.now c.loop-token.token-index c.loop-token.limited c.loop-token.len c.loop-token-test.false c.loop-token.invariant.run
