use Rattle.mv_inspect.proofs.Audited.{inspected_later, record_before}
use Rattle.mv_inspect.proofs.auditing.audit_at.Goals as goal

pub returns-in-Log-clause-inspected : goal.returns-in-Log-clause-inspected
returns-in-Log-clause-inspected g c =
    inspected_later _ _ c.args.log.now c.args.old.now c.args.updates.now _ _ _ _ c.log_at.ensures.same c.log_at.ensures.later
    (c.audit_log.ensures.inspected c.args.log.now (record_before _ _ c.args.log.now _ _ c.log_at.ensures.same c.in-Log.ensures.listed))
