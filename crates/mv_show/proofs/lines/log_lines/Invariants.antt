use Rattle.std.proofs.Common.{◌≡◌, ◌++◌, drop}
use Rattle.mv_show.specs.Lines.{lines_from, log_text}
use Rattle.mv_show.proofs.lines.log_lines.Given as goal

-- the lines so far, and those of the rest, are the log's
abbrev pub invariant-loop-number : goal.invariant-loop-number
invariant-loop-number l = l.lines.items ++ lines_from l.number (drop l.number l.entries) ≡ log_text l.entries
