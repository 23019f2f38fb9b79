use Rattle.mv_commands.proofs.Wholes.{loaded_is}
use Rattle.mv_commands.proofs.loading.guest_at.Goals as goal

pub returns-in-Bytes-clause-loaded : goal.returns-in-Bytes-clause-loaded
returns-in-Bytes-clause-loaded g c =
    let finds = rw c.slice.ensures at c.in-Bytes.ensures.found in
    loaded_is _ _ _ _ _ _ _ finds c.guest_of.ensures
