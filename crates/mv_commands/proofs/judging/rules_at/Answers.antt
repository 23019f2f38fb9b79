use Rattle.mv_commands.proofs.Wholes.{rules_judged}
use Rattle.mv_commands.proofs.judging.rules_at.Goals as goal

pub returns-in-Bytes-clause-judged : goal.returns-in-Bytes-clause-judged
returns-in-Bytes-clause-judged g c =
    let finds = rw c.slice.ensures at c.in-Bytes.ensures.found in
    rules_judged _ _ _ _ _ _ finds (rw c.slice-in-Bytes.ensures at c.rules_in_text.ensures)
