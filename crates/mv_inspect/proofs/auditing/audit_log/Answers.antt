use Rattle.mv_inspect.proofs.Audited.{answers_module, guest_before, inspected_later, record_before, refuses_module}
use Rattle.mv_inspect.proofs.auditing.audit_log.Goals as goal

pub returns-in-NoFile-clause-inspected : goal.returns-in-NoFile-clause-inspected
returns-in-NoFile-clause-inspected g c log has =
    rw c.answer_to.ensures (answers_module _ log _ _ _ _ _ _ has c.no_file.result c.no_file.ensures c.in-NoFile.ensures.begun)

pub returns-in-Refused-clause-inspected : goal.returns-in-Refused-clause-inspected
returns-in-Refused-clause-inspected g c log has = refuses_module _ log _ c.args.updates.now 0 0 _ _ has c.in-Refused.fault c.in-Refused.ensures.begun

pub returns-in-Starts-clause-inspected : goal.returns-in-Starts-clause-inspected
returns-in-Starts-clause-inspected g c log has =
    inspected_later _ _ log c.args.old.now c.args.updates.now _ _ _ _ c.guest_at.ensures.same c.guest_at.ensures.later
    (c.audit_run.ensures.inspected log c.args.old.now c.args.args.now (record_before _ _ log _ _ c.guest_at.ensures.same has) (guest_before _ _ c.args.old.now c.args.args.now _ c.guest_at.ensures.same c.in-Starts.ensures.begun))
