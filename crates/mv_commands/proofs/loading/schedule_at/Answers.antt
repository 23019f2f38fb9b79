use Rattle.mv_commands.proofs.Wholes.{planned_is}
use Rattle.mv_commands.proofs.loading.schedule_at.Goals as goal

pub returns-in-Bytes-clause-planned : goal.returns-in-Bytes-clause-planned
returns-in-Bytes-clause-planned g c =
    let finds = rw c.slice.ensures at c.in-Bytes.ensures.found in
    planned_is _ _ _ _ _ _ finds (rw c.slice-in-Bytes.ensures at c.schedule_in.ensures)
