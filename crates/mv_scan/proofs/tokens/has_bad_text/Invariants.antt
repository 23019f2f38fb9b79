use Rattle.std.proofs.Common.{◌≡◌, drop}
use Rattle.std.specs.List.{list_any}
use Rattle.mv_scan.specs.Words.{is_bad_text}
use Rattle.mv_scan.proofs.tokens.has_bad_text.Given as goal

abbrev pub invariant-loop-token : goal.invariant-loop-token
invariant-loop-token l = list_any is_bad_text (drop l.token-index l.tokens) ≡ list_any is_bad_text l.tokens
