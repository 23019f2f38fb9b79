use Rattle.std.proofs.Common.{◌≡◌, codes}
use Rattle.mv_load.specs.Schedule.{times}
use Rattle.mv_load.proofs.script.load_beats.Given as goal

abbrev pub invariant-loop : goal.invariant-loop
invariant-loop l = l.letters.items ≡ times l.counter (codes "LCFFFJ")
