use Rattle.std.proofs.Common.{sym}
use Rattle.mv_policy.proofs.DecisionSteps.{rule_found}
use Rattle.mv_policy.proofs.decision.by_token.Goals as goal

pub returns-then-is_known : goal.returns-then-is_known
returns-then-is_known c =
    rule_found c.args.lines.now c.args.name.now c.args.behind.now _ _ _ _ _ c.in-Some.ensures (sym c.if-is_known.ensures) c.first_word.ensures c.rule_in.ensures.place c.by_rule.ensures
