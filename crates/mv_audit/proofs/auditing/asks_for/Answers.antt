use Rattle.mv_audit.proofs.AuditLaws.{asks_exactly}
use Rattle.mv_audit.proofs.auditing.asks_for.Goals as goal

pub returns-in-Some : goal.returns-in-Some
returns-in-Some c = asks_exactly c.same_why.result c.args.status.now c.in-Some.asked c.args.why c.in-Some.is c.same_why.ensures
