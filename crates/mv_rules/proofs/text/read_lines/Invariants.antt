use Rattle.std.proofs.Common.{◌≡◌, ◌+◌, ◌≤◌, length}
use Rattle.mv_rules.specs.Drafts.{IsDraft}
use Rattle.mv_rules.specs.RulesText.{read_lines, unread}
use Rattle.mv_scan.specs.Lines.{lines_of}
use Rattle.mv_rules.proofs.text.read_lines.Given as goal

-- what is read of the lines that are left is what is read of all
abbrev pub invariant-loop-rest : goal.invariant-loop-rest
invariant-loop-rest l = record {
  draft : IsDraft l.reading.phase;
  within : l.at + length l.rest ≤ 65538;
  rest : read_lines l.version l.reading l.at (lines_of l.rest) ≡ read_lines l.version unread 2 (lines_of l.text);
}

abbrev pub decreases-loop-rest : goal.decreases-loop-rest
decreases-loop-rest l = length l.rest
