use Rattle.std.proofs.Common.{◌≡◌, ◌++◌, drop}
use Rattle.mv_schedule.specs.Schedules.{beats_in}
use Rattle.mv_schedule.proofs.reading.beats_of.Given as goal

abbrev pub invariant-loop-place : goal.invariant-loop-place
invariant-loop-place l = l.beats.items ++ beats_in (drop l.place l.text) ≡ beats_in l.text
