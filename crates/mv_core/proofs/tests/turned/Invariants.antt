use Rattle.mv_core.specs.Sound.{PutsSent}
use Rattle.mv_feed.specs.Plain.{plain_stands}
use Rattle.mv_core.proofs.tests.turned.Given as goal

abbrev pub invariant-loop : goal.invariant-loop
invariant-loop g l = PutsSent g.V.Version.behaviour plain_stands l.core.log l.feed
