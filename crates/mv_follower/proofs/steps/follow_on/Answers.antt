use Rattle.std.proofs.Common.{◌≡◌, ◌∙◌, sym, rules, []}
use Rattle.mv_follower.proofs.StepLaws.{waits_on}
use Rattle.mv_follower.proofs.steps.follow_on.Goals as goal

pub returns-then-is_still-clause-did : goal.returns-then-is_still-clause-did
returns-then-is_still-clause-did g c spot is =
    let s = c.args.state.now in
    let none : s.expected.items ≡ [] = search rules in
    waits_on g.V.Version.behaviour s.update s.kept s.expected.items c.args.work spot is none (sym c.is_still.ensures ∙ c.if-is_still.true)
