use Rattle.mv_audit.proofs.AuditLaws.{traps_exactly}
use Rattle.mv_audit.proofs.auditing.asks_for_trap.Goals as goal

pub returns-in-Some : goal.returns-in-Some
returns-in-Some c = traps_exactly c.is_trap.result c.args.status.now c.in-Some.asked c.in-Some.is c.is_trap.ensures
