use Rattle.mv_record.proofs.Files.{can_be_written}
use Rattle.mv_record.proofs.laws.a_file_can_be_written_again.Goals as goal

pub returns : goal.returns
returns c = can_be_written
