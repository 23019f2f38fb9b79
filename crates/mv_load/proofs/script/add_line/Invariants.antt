use Rattle.std.proofs.Common.{◌≡◌, ◌++◌, replicate, None}
use Rattle.mv_load.proofs.script.add_line.Given as goal

abbrev pub invariant-loop : goal.invariant-loop
invariant-loop l = l.lines.items ≡ l.initial.lines.items ++ replicate l.counter None
