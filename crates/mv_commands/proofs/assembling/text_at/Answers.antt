use Rattle.mv_commands.proofs.Wholes.{made_is}
use Rattle.mv_commands.proofs.assembling.text_at.Goals as goal

pub returns-in-Bytes-clause-made : goal.returns-in-Bytes-clause-made
returns-in-Bytes-clause-made g c =
    let finds = rw c.slice.ensures at c.in-Bytes.ensures.found in
    made_is _ _ _ _ _ _ finds (rw c.slice-in-Bytes.ensures at c.module_of.ensures)
