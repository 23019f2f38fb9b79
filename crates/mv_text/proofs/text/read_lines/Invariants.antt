use Rattle.std.proofs.Common.{◌≡◌, ◌+◌, ◌≤◌, length}
use Rattle.mv_scan.specs.Lines.{lines_of}
use Rattle.mv_text.specs.Assembly.{assembled_from, nothing}
use Rattle.mv_text.proofs.text.read_lines.Given as goal

-- what is read of the lines that are left is what is read of all
abbrev pub invariant-loop-rest : goal.invariant-loop-rest
invariant-loop-rest l = record {
  within : l.at + length l.rest ≤ 16777217;
  rest : assembled_from l.state l.at (lines_of l.rest) ≡ assembled_from nothing 1 (lines_of l.text);
}

abbrev pub decreases-loop-rest : goal.decreases-loop-rest
decreases-loop-rest l = length l.rest
