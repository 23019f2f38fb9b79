use Rattle.mv_record.proofs.Files.{one_log}
use Rattle.mv_record.proofs.laws.a_file_has_one_log.Goals as goal

pub returns : goal.returns
returns c = one_log
