use Rattle.std.proofs.Common.{◌≡◌, ◌≤◌, [], map, drop, length}
use Rattle.mv_policy.specs.Reading.{read_lines}
use Rattle.mv_policy.proofs.reading.read_lines.Given as goal

-- what is read behind these lines of those that are left is what is read of all
abbrev pub invariant-loop-line : goal.invariant-loop-line
invariant-loop-line l = record {
  few : length l.policy.items ≤ 999;
  rest : read_lines l.policy.items (map (λ w. w.now) (drop l.line-index l.lines)) ≡ read_lines [] (map (λ w. w.now) l.lines);
}
