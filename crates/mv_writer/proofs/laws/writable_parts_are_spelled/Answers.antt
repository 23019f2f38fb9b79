use Rattle.mv_writer.proofs.WritableLaws.{writable_spelled, writable_has_spelling}
use Rattle.mv_writer.proofs.laws.writable_parts_are_spelled.Goals as goal

pub returns-clause-spelled : goal.returns-clause-spelled
returns-clause-spelled c = writable_spelled

pub returns-clause-has_spelling : goal.returns-clause-has_spelling
returns-clause-has_spelling c = writable_has_spelling
