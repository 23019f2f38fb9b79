use Rattle.mv_inspect.proofs.Audited.{answers_updates}
use Rattle.mv_inspect.proofs.auditing.audit_run.Goals as goal

pub returns-in-Err-clause-inspected : goal.returns-in-Err-clause-inspected
returns-in-Err-clause-inspected g c log old args has starts =
    rw c.answer_to.ensures (answers_updates _ log old _ _ _ args _ has _ starts c.in-Err.why (rw c.slice.ensures at c.in-Err.ensures.unread))
