use Rattle.std.proofs.Common.{◌≡◌, ◌≤◌, drop, length}
use Rattle.mv_rewrite.specs.Matching.{fit_of, rule_fit}
use Rattle.mv_rewrite.proofs.matching.match_rule.Given as goal

-- the patterns that are left stand to the items that are left as all of them to all
abbrev pub invariant-loop-pattern : goal.invariant-loop-pattern
invariant-loop-pattern l = record {
  place : l.index ≡ l.pattern-index;
  within : l.index ≤ length l.items;
  rest : fit_of l.guards (drop l.pattern-index l.rule.left) (drop l.pattern-index l.items) l.names ≡ rule_fit l.rule l.items;
}
