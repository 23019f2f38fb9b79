use Rattle.mv_inspect.proofs.Wholes.{start_is}
use Rattle.mv_inspect.proofs.auditing.guest_at.Goals as goal

pub returns-in-Bytes-clause-begun : goal.returns-in-Bytes-clause-begun
returns-in-Bytes-clause-begun g c =
    let finds = rw c.slice.ensures at c.in-Bytes.ensures.found in
    start_is _ _ _ _ _ _ _ finds (rw c.slice-in-Bytes.ensures at c.guest_of.ensures)
