use Rattle.mv_commands.proofs.Wholes.{module_judged}
use Rattle.mv_commands.proofs.judging.module_at.Goals as goal

pub returns-in-Bytes-clause-judged : goal.returns-in-Bytes-clause-judged
returns-in-Bytes-clause-judged g c =
    let finds = rw c.slice.ensures at c.in-Bytes.ensures.found in
    module_judged _ _ _ _ _ _ finds (rw c.slice-in-Bytes.ensures at c.module_in.ensures)
