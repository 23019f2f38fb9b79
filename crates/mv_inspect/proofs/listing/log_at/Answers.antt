use Rattle.mv_inspect.proofs.Wholes.{log_is}
use Rattle.mv_inspect.proofs.listing.log_at.Goals as goal

pub returns-in-Bytes-clause-listed : goal.returns-in-Bytes-clause-listed
returns-in-Bytes-clause-listed g c =
    let finds = rw c.slice.ensures at c.in-Bytes.ensures.found in
    log_is _ _ _ _ _ _ finds (rw c.slice-in-Bytes.ensures at c.log_in.ensures)
