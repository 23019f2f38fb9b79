use Rattle.std.proofs.Common.{◌≡◌, ◌+◌, drop}
use Rattle.mv_statements.specs.Words.{before_arrow}
use Rattle.mv_statements.proofs.words.count_to_arrow.Given as goal

abbrev pub invariant-loop-index : goal.invariant-loop-index
invariant-loop-index l = l.index + before_arrow (drop l.index l.tokens) ≡ before_arrow l.tokens
