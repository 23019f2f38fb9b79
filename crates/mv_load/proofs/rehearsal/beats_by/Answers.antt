use Rattle.std.proofs.Common.{◌≡◌, ℕ, List, Err, subst, ◌∙◌}
use Rattle.mv_schedule.specs.Schedules.{schedule_of}
use Rattle.mv_load.proofs.Scheduled.{load_has_no_fault}
use Rattle.mv_load.proofs.rehearsal.beats_by.Goals as goal

pub unreachable-requires : goal.unreachable-requires
unreachable-requires c =
    let read = c.as_slice.ensures.value ∙ c.in_ok-letters.ensures.letters in
    let refused : schedule_of c.as_slice.result.now ≡ Err c.in-Err-Fault.field-0-0 = rw c.in-Err-Fault.field-0-is at c.in-Err-Fault.ensures.fault in
    load_has_no_fault c.args.n c.in-Err-Fault.field-0-0 c.requires (subst (λ (text : List ℕ). schedule_of text ≡ Err c.in-Err-Fault.field-0-0) read refused)
