use Rattle.std.proofs.Common.{◌≡◌, take, true}
use Rattle.std.specs.List.{list_all}
use Rattle.topos_tokens.specs.Fronts.{is_plain}
use Rattle.topos_tokens.proofs.word.plain_len.Given as goal

abbrev pub invariant-loop-byte : goal.invariant-loop-byte
invariant-loop-byte l = record { count : l.len ≡ l.byte-index; plain : list_all is_plain (take l.len l.bytes) ≡ true }
