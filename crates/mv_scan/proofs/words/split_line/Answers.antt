use Rattle.mv_scan.proofs.WordLaws.{if_spelled}
use Rattle.mv_scan.proofs.words.split_line.Goals as goal

pub returns-clause-spelled : goal.returns-clause-spelled
returns-clause-spelled c = if_spelled c.args.line.now c.find_line.result c.find_line.ensures
