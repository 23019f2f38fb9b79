use Rattle.mv_scan.proofs.WordLaws.{if_all_spelled}
use Rattle.mv_scan.proofs.words.split_words.Goals as goal

pub returns-clause-spelled : goal.returns-clause-spelled
returns-clause-spelled c = if_all_spelled c.args.line.now c.find_words.result c.find_words.ensures
