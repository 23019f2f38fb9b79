use Rattle.mv_scan.proofs.WordLaws.{words_spelled}
use Rattle.mv_scan.proofs.laws.words_are_spelled.Goals as goal

pub returns : goal.returns
returns c = words_spelled
