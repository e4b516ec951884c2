use Rattle.std.proofs.Common.{◌≡◌, map, drop}
use Rattle.topos_text.specs.Spelling.{entry_of}
use Rattle.topos_tokens.proofs.word.among.Given as goal

abbrev pub invariant-loop-spelling : goal.invariant-loop-spelling
invariant-loop-spelling l = entry_of (map (λ row. (row.0.now, row.1)) l.rows) l.name ≡ entry_of (map (λ row. (row.0.now, row.1)) (drop l.spelling-index l.rows)) l.name
