-- The body that was read is the record's.
use Rattle.std.proofs.Common.{Some, sym, ◌∙◌, ap}
use Rattle.mv_disk.proofs.ReadLaws.{read_record}
use Rattle.mv_disk.proofs.recovery.next_record.Goals as goal

pub returns-in_ok-read_body-in-Ok-Some-clause-record : goal.returns-in_ok-read_body-in-Ok-Some-clause-record
returns-in_ok-read_body-in-Ok-Some-clause-record g c = λ content told.
    let told_then = c.next_size.ensures.same.reads_same ∙ told in
    ap Some (c.in_ok-read_body-in-Ok-Some.ensures.bytes content told_then)
    ∙ read_record content c.args.at c.in-Ok-Some.size (sym c.in-Ok-Some.field-0-is ∙ c.in-Ok-Some.ensures.size content told)
