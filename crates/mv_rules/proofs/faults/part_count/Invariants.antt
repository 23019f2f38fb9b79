use Rattle.std.proofs.Common.{◌≡◌, ◌+◌, ◌≤◌, drop}
use Rattle.mv_rules.specs.RulesText.{part_count}
use Rattle.mv_rules.proofs.faults.part_count.Given as goal

abbrev pub invariant-loop-token : goal.invariant-loop-token
invariant-loop-token l = record {
  within : l.count ≤ l.token-index;
  rest : l.count + part_count l.lengths (drop l.token-index l.tokens) ≡ part_count l.lengths l.tokens;
}
