use Rattle.std.proofs.Common.{◌∙◌, rules}
use Rattle.mv_audit.specs.Audit.{IsSuited}
use Rattle.mv_audit.proofs.AuditLaws.{met_here}
use Rattle.mv_audit.proofs.replaying.replay.Goals as goal

pub prepare-requires : goal.prepare-requires
prepare-requires g c =
    let suited : IsSuited c.in_ok-event.event c.item.inside.reply = search rules in
    record { call = met_here g.V.Version.behaviour (λ _. Unit {0}) c.in_ok-event.event _ _ c.in_ok-event.ensures.event c.in_ok-event.ensures.stands (suited.0, suited.1, tt) }

pub answer-requires-clause-suits : goal.answer-requires-clause-suits
answer-requires-clause-suits g c =
    let suited : IsSuited c.in_ok-event.event c.item.inside.reply = search rules in
    met_here g.V.Version.behaviour _ c.in_ok-event.event _ _ c.in_ok-event.ensures.event (c.in_ok-prepare.ensures.same ∙ c.in_ok-event.ensures.stands) suited
