use Rattle.std.proofs.Common.{◌≡◌, drop}
use Rattle.mv_schedule.specs.Schedules.{first_other}
use Rattle.mv_schedule.proofs.reading.other_byte.Given as goal

abbrev pub invariant-loop-place : goal.invariant-loop-place
invariant-loop-place l = first_other l.place (drop l.place l.text) ≡ first_other 0 l.text
