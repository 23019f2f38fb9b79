use Rattle.std.proofs.Common.{◌≡◌, false}
use Rattle.mv_follower.specs.Follows.{has_verdict}
use Rattle.mv_follower.proofs.tests.scarce.steps.Given as goal

abbrev pub invariant-loop : goal.invariant-loop
invariant-loop g l = has_verdict l.follower ≡ false
