use Rattle.std.proofs.Common.{◌≡◌, ◌+◌, drop}
use Rattle.mv_scan.specs.Lines.{line_len}
use Rattle.mv_scan.proofs.lines.count_to_feed.Given as goal

abbrev pub invariant-loop-index : goal.invariant-loop-index
invariant-loop-index l = line_len l.bytes ≡ l.index + line_len (drop l.index l.bytes)
