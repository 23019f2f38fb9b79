use Rattle.mv_policy.proofs.DecisionSteps.{space_found}
use Rattle.mv_policy.proofs.decision.at_space.Goals as goal

pub returns-in-Some : goal.returns-in-Some
returns-in-Some c =
    space_found c.args.bytes.now _ _ _ c.in-Some.place c.in-Some.ensures.place c.split_at.ensures.front c.split_at.ensures.back c.behind_first.ensures
