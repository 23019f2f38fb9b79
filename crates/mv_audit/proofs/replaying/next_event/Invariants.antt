use Rattle.std.proofs.Common.{◌≡◌}
use Rattle.mv_history.specs.Replay.{past, points_left}
use Rattle.mv_audit.proofs.replaying.next_event.Given as goal

-- what lies past all points stays
abbrev pub invariant-loop-event : goal.invariant-loop-event
invariant-loop-event g l = past g.V.Version.behaviour (g.V.Version.behaviour.state l.guest) ≡ past g.V.Version.behaviour (g.V.Version.behaviour.state l.initial.guest)

abbrev pub decreases-loop-event : goal.decreases-loop-event
decreases-loop-event g l = points_left g.V.Version.behaviour (g.V.Version.behaviour.state l.guest)
