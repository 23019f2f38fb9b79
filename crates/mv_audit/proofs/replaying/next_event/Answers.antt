use Rattle.std.proofs.Common.{◌≡◌, ◌∙◌, rules}
use Rattle.mv_version.specs.declared.event.Event.TheVariants as event
use Rattle.mv_audit.proofs.AuditLaws.{pass_once}
use Rattle.mv_audit.proofs.replaying.next_event.Goals as goal
use Rattle.mv_audit.proofs.replaying.next_event.Goals.{in-Point, in_default}

pub loop-event-preserved : goal.loop-event-preserved
loop-event-preserved g c =
    let b = g.V.Version.behaviour in
    let here : b.go (b.state c.loop-event.guest) ≡ event.Point = search rules in
    pass_once b g.met.V.Version.points_end g.met.V.Version.settled _ _ _ c.go.ensures.same c.pass_point.ensures.passed here
    ∙ c.loop-event.invariant
